-- What a watcher is told, looking back; and what was written on an endpoint.
use Rattle.std.specs.Prelude.{◌≡◌, ℕ, ◌==◌, ◌&&◌, Bool, if◌then◌else◌, List, [], ◌∷◌, ◌++◌, filter, map}
use Rattle.link_frames.specs.Frames.{Frame}
use Rattle.conn_rules.specs.Answers.{Happening}
use Rattle.watch_events.specs.Events.{AreEvents, Event, bytes_of}
use Rattle.watch_events.specs.Messages.{asks_for}
use Rattle.vfs_journal.specs.History.{History, binds_endpoint, is_dead, tree_at, trees_of, watches_node}
use Rattle.vfs_journal.specs.Outcomes.{Outcome}
use Rattle.vfs_journal.specs.Output.{frames_of, is_message}
use Rattle.vfs_journal.specs.Starts.{Bound, Start}
use Rattle.vfs_journal.specs.Watching.{first_messages, place_of, told_as}

-- ---- what one serving tells a watcher

-- it happens at the server and in the directory of a watcher, whose mask has the bit of the event
abbrev pub is_told : ℕ → Bound → Happening → Bool
is_told server watcher happening = watches_node server (place_of happening) watcher && asks_for watcher.mask (told_as happening).event

-- one event for each that is told, in the order of what happened
abbrev pub events_for : Bound → Outcome → List Event
events_for watcher outcome = map told_as (filter (is_told outcome.server watcher) outcome.told)

-- ---- what all servings tell it

-- first the names of its directory in the tree behind the serving that bound it, and that these are all, as its mask has them; and then one
-- message for each event of the servings since, while it lives
abbrev pub sight : Start → Bound → History → List (List ℕ)
sight start watcher [] = []
sight start watcher (event ∷ past) =
    if binds_endpoint watcher.endpoint event then first_messages (tree_at (trees_of start (event ∷ past)) watcher.server) watcher
    else if is_dead past watcher.endpoint then sight start watcher past
    else sight start watcher past ++ map bytes_of (events_for watcher event.outcome)

-- ---- what was written

abbrev pub is_message_on : ℕ → Frame → Bool
is_message_on endpoint frame = is_message frame.kind && (frame.endpoint == endpoint)

-- the messages that were written on an endpoint: those among all the frames of the output, in order
abbrev pub messages_on : Start → History → ℕ → List Frame
messages_on start history endpoint = filter (is_message_on endpoint) (frames_of start history)

-- each message is whole events, and these are they, one message after the other
abbrev pub AreWritten : List Frame → List Event → Type 0
AreWritten [] events = events ≡ []
AreWritten (message ∷ later) events =
    (here : List Event) × (others : List Event) × AreEvents message.bytes here [] × AreWritten later others × (events ≡ here ++ others)
