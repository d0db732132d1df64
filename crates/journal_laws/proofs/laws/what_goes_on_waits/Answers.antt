use Rattle.journal_laws.proofs.Below.{below}
use Rattle.journal_laws.proofs.Queues.{what_goes_on_waits}
use Rattle.journal_laws.proofs.laws.what_goes_on_waits.Goals as goal

pub returns : goal.returns
returns c = λ apart. what_goes_on_waits (below apart)
