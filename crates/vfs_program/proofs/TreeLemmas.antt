-- The world of a session over a tree, frame by frame.
use Rattle.std.proofs.Common.{◌≡◌, List, [], ◌∷◌, ◌++◌, ℕ, IsTrue, Result, Ok, Err, OnErr, refl, sym, ap, ◌∙◌, subst, append_assoc}
use Rattle.link_frames.specs.Frames.{Frame}
use Rattle.link_frames.specs.declared.kinds.Mode.{Mode}
use Rattle.vfs_journal.specs.Entries.{Journal}
use Rattle.vfs_journal.specs.Output.{output_of}
use Rattle.vfs_journal.specs.Session.{drained, session, steps}
use Rattle.vfs_journal.specs.Starts.{Start}
use Rattle.vfs_world.specs.World.{World, StandsFor, LeadsTo}
use Rattle.link_session.specs.Serving.{HeardOne, HeardEnd}
use Rattle.vfs_program.specs.TreeSession.{tree_course, StandsBehind}
use Rattle.vfs_world.proofs.Growth.{session-append}

-- the world at the beginning
pub stands_first : (start : Start) (by : Mode) (world : World) → StandsFor start world [] → StandsBehind start by world []
unfolding StandsBehind
stands_first start by world s = s

-- memory may be wanting
pub may_starve : (start : Start) (by : Mode) → IsTrue (tree_course start by).starves
unfolding tree_course
may_starve start by = refl

-- a frame is heard
pub hears : (start : Start) (by : Mode) (old new : World) (before : List Frame) (frame : Frame) (held held' : List ℕ)
    → ((journal : Journal) → StandsFor start old journal → LeadsTo start (steps start by journal frame) new journal held held')
    → StandsBehind start by old before → HeardOne (tree_course start by) (StandsBehind start by new) before frame held held'
unfolding tree_course StandsBehind
hears start by old new before frame held held' hear s =
    let journal = session start by before in
    let one = hear journal s in
    let is = session-append start by before (frame ∷ []) in
    record {
      stands = subst (StandsFor start new) (sym is) one.stands;
      part = one.part;
      more = ap (output_of start) is ∙ one.more;
      appends = one.written;
    }

-- the last drain
pub drains_last : (start : Start) (by : Mode) (old new : World) (before : List Frame) (held held' : List ℕ)
    → ((journal : Journal) → StandsFor start old journal → LeadsTo start (drained start journal) new journal held held')
    → StandsBehind start by old before → HeardEnd (tree_course start by) before held held'
unfolding tree_course StandsBehind
drains_last start by old new before held held' drain s =
    let one = drain (session start by before) s in
    record { part = one.part; more = one.more; appends = one.written }

-- what holds anyway holds where there is an error
pub anyway_on_err : {X E : Type 0} (answer : Result X E) (P : Type 0) → P → OnErr answer P
anyway_on_err (Ok x) P p = tt
anyway_on_err (Err e) P p = p
