use Rattle.journal_laws.proofs.Below.{below}
use Rattle.turn_law.proofs.AllSteps.{steps_agree}
use Rattle.turn_law.proofs.laws.steps_agree.Goals as goal

pub returns : goal.returns
returns c = λ apart. steps_agree (below apart)
