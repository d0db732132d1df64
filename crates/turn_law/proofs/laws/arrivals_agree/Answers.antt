use Rattle.journal_laws.proofs.Below.{below}
use Rattle.turn_law.proofs.Arrivals.{arrivals}
use Rattle.turn_law.proofs.laws.arrivals_agree.Goals as goal

pub returns : goal.returns
returns c = λ apart. arrivals (below apart)
