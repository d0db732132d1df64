use Rattle.journal_laws.proofs.Below.{below}
use Rattle.turn_law.proofs.AllSteps.{sessions_told}
use Rattle.turn_law.proofs.laws.sessions_are_told.Goals as goal

pub returns : goal.returns
returns c = λ apart. sessions_told (below apart)
