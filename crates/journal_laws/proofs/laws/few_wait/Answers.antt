use Rattle.journal_laws.proofs.Waits.{lawful_wait}
use Rattle.journal_laws.proofs.laws.few_wait.Goals as goal

pub returns : goal.returns
returns c = lawful_wait
