-- The one recursion: each entry of a journal as it is seen from its past.
use Rattle.std.specs.Prelude.{[], ◌∷◌}
use Rattle.vfs_journal.specs.Entries.{Entry, sends, serves, refuses, Journal}
use Rattle.vfs_journal.specs.Deaths.{deaths_of}
use Rattle.vfs_journal.specs.History.{Event, History}
use Rattle.vfs_journal.specs.Outcomes.{no_outcome}
use Rattle.vfs_journal.specs.Serving.{outcome_of}
use Rattle.vfs_journal.specs.Starts.{Start}

-- an entry behind a past
unfoldable pub event_of : Start → History → Entry → Event
event_of start past (serves sent) =
    record { entry = serves sent; outcome = outcome_of start past sent; deaths = deaths_of past sent (outcome_of start past sent) }
event_of start past (sends sent) = record { entry = sends sent; outcome = no_outcome; deaths = [] }
event_of start past (refuses endpoint why) = record { entry = refuses endpoint why; outcome = no_outcome; deaths = [] }

abbrev pub behind : Start → Entry → History → History
behind start entry past = event_of start past entry ∷ past

unfoldable pub history_of : Start → Journal → History
history_of start [] = []
history_of start (entry ∷ earlier) = behind start entry (history_of start earlier)
