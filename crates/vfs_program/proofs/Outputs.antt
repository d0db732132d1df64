-- The output of a longer journal begins with that of its past.
use Rattle.std.proofs.Common.{◌≡◌, ◌∙◌, List, [], ap}
use Rattle.std.proofs.lemmas.List.Concat.{flat_map-append}
use Rattle.link_frames.specs.Frames.{Frame, spelling, spellings}
use Rattle.link_frames.specs.Fronts.{Begins}
use Rattle.link_frames.specs.declared.kinds.Mode.{Mode}
use Rattle.vfs_journal.specs.Entries.{Journal}
use Rattle.vfs_journal.specs.Output.{frames_of, output_of}
use Rattle.vfs_journal.specs.Past.{history_of}
use Rattle.vfs_journal.specs.Session.{session}
use Rattle.vfs_journal.specs.Starts.{Start}
use Rattle.vfs_world.proofs.Growth.{Begins as FramesBegin, begins_all, begins_drained, nothing, session-append}
use Rattle.link_session.specs.Serving.{IsGrowing}
use Rattle.vfs_program.specs.TreeSession.{tree_course}

spelled : (start : Start) (journal later : Journal) → FramesBegin start journal later → Begins (output_of start journal) (output_of start later)
spelled start journal later begins = (spellings begins.0, ap spellings begins.1 ∙ flat_map-append spelling (frames_of start (history_of start journal)) begins.0)

pub tree_grows : (start : Start) (by : Mode) → IsGrowing (tree_course start by)
unfolding tree_course
tree_grows start by = record {
  none = ap spellings (nothing start);
  more = λ frames later.
      let all = spelled start (session start by frames) _ (begins_all start by (session start by frames) later) in
      (all.0, ap (output_of start) (session-append start by frames later) ∙ all.1);
  last = λ frames. spelled start (session start by frames) _ (begins_drained start (session start by frames));
}
