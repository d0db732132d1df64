use Rattle.journal_laws.proofs.Steps.{sendings_wait_last}
use Rattle.journal_laws.proofs.laws.sendings_wait_last.Goals as goal

pub returns : goal.returns
returns c = sendings_wait_last
