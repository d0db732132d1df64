use Rattle.journal_laws.proofs.Below.{below}
use Rattle.turn_law.proofs.AllSteps.{answers_told}
use Rattle.turn_law.proofs.laws.answers_are_told.Goals as goal

pub returns : goal.returns
returns c = λ apart. answers_told (below apart)
