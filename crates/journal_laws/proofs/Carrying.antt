-- What a serving binds was carried.
use Rattle.std.proofs.Common.{◌≡◌, Some}
use Rattle.vfs_journal.specs.Entries.{Journal, Sent}
use Rattle.vfs_journal.specs.Lawful.{Lawful}
use Rattle.vfs_journal.specs.Past.{history_of}
use Rattle.vfs_journal.specs.Serving.{outcome_of}
use Rattle.vfs_journal.specs.Session.{head}
use Rattle.journal_laws.specs.Soundness.{Carries, IsStart}
use Rattle.vfs_journal.specs.Starts.{Bound, Start}
use Rattle.journal_laws.proofs.Below.{Below}
use Rattle.journal_laws.proofs.Kept.{is_serving, lawful_kept}
use Rattle.journal_laws.proofs.Stepping.{stepped}

pub bind_what_they_carry : Below → (start : Start) (journal : Journal) (sent : Sent) (bound : Bound) → IsStart start → Lawful start journal → head start (history_of start journal) sent.endpoint ≡ Some sent →
    (outcome_of start (history_of start journal) sent).bound ≡ Some bound → Carries (history_of start journal) sent bound.endpoint
bind_what_they_carry below start journal sent bound s h first e =
    let steps = stepped start journal h in
    let kept = lawful_kept below start s journal h in
    let answered = (is_serving below start journal sent s steps kept.sound first).answered in
    (answered.waits, answered.bound_in bound e)
