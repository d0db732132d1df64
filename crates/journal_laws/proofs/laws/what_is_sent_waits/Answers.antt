use Rattle.journal_laws.proofs.Queues.{what_is_sent_waits}
use Rattle.journal_laws.proofs.laws.what_is_sent_waits.Goals as goal

pub returns : goal.returns
returns c = what_is_sent_waits
