-- The frames that a journal stands for.
use Rattle.std.specs.Prelude.{ℕ, Bool, true, false, not, List, [], ◌∷◌, ◌++◌, map, filter}
use Rattle.std.specs.FinMap as finite
use Rattle.std.specs.Option.{option_map_or}
use Rattle.std.specs.Ordering.{nat_cmp}
use Rattle.link_frames.specs.Frames.{Frame, spellings}
pub use Rattle.link_frames.specs.Fronts.{Begins}
use Rattle.link_frames.specs.declared.kinds.FrameKind.{FrameKind}
use Rattle.link_frames.specs.declared.kinds.FrameKind.TheVariants as kind
pub use Rattle.link_frames.specs.Refusals.{refused_frame}
use Rattle.link_admission.specs.Numbering.{among}
use Rattle.node_graph.specs.Tree.{Tree}
use Rattle.vfs_journal.specs.Entries.{Entry, sends, serves, refuses, Journal}
use Rattle.vfs_journal.specs.History.{Event, History, living, trees_of, tree_at}
use Rattle.vfs_journal.specs.Outcomes.{close_frame}
use Rattle.vfs_journal.specs.Past.{history_of}
use Rattle.vfs_journal.specs.Starts.{Bound, Start}
use Rattle.vfs_journal.specs.Watching.{first_frames, told_frames}

abbrev pub is_message : FrameKind → Bool
is_message kind.Message = true
is_message _ = false

-- these numbers once each, from the least on
abbrev pub rising : List ℕ → List ℕ
rising numbers = finite.keys (finite.from_entries {R = nat_cmp} (map (λ number. (number, true)) numbers))

-- the Close frames of the endpoints that died beside those that the answer, or their client, closed
abbrev pub close_frames : Event → List Frame
close_frames event = map close_frame (rising (filter (λ endpoint. not (among endpoint event.outcome.ends)) event.deaths))

-- what is written for a serving: its answer, a new watcher's first messages (a Watch changes no tree), what those who lived until then are
-- told of the change, and Close frames
abbrev pub frames_of_serving : List Tree → List Bound → Event → List Frame
frames_of_serving trees living event =
    event.outcome.frames
    ++ option_map_or (λ bound. first_frames (tree_at trees bound.server) bound) event.outcome.bound []
    ++ told_frames living event.outcome.server event.outcome.told
    ++ close_frames event

abbrev pub frames_for : Start → History → Event → Entry → List Frame
frames_for start past event (sends sent) = []
frames_for start past event (serves sent) = frames_of_serving (trees_of start past) (living start past) event
frames_for start past event (refuses endpoint why) = refused_frame endpoint why ∷ []

-- what is written for an event behind its past, and for a whole history, in order
abbrev pub frames_of_event : Start → History → Event → List Frame
frames_of_event start past event = frames_for start past event event.entry

abbrev pub frames_of : Start → History → List Frame
frames_of start [] = []
frames_of start (event ∷ past) = frames_of start past ++ frames_of_event start past event

-- the frames that a journal stands for
abbrev pub frames_behind : Start → Journal → List Frame
frames_behind start journal = frames_of start (history_of start journal)

-- the bytes of a journal's output
abbrev pub output_of : Start → Journal → List ℕ
output_of start journal = spellings (frames_behind start journal)
