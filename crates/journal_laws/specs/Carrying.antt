-- What a serving binds.
use Rattle.std.specs.Prelude.{◌≡◌, Some}
use Rattle.vfs_journal.specs.Entries.{Journal, Sent}
use Rattle.vfs_journal.specs.Lawful.{Lawful}
use Rattle.vfs_journal.specs.Past.{history_of}
use Rattle.vfs_journal.specs.Serving.{outcome_of}
use Rattle.vfs_journal.specs.Session.{head}
use Rattle.journal_laws.specs.Soundness.{Carries, IsStart}
use Rattle.vfs_journal.specs.Starts.{Bound, Start}

-- what a serving binds is an endpoint that the served entry carries
abbrev pub ServingsBindWhatTheyCarry : Type 0
ServingsBindWhatTheyCarry =
    (start : Start) (journal : Journal) (sent : Sent) (bound : Bound) → IsStart start → Lawful start journal → head start (history_of start journal) sent.endpoint ≡ Some sent →
    (outcome_of start (history_of start journal) sent).bound ≡ Some bound → Carries (history_of start journal) sent bound.endpoint
