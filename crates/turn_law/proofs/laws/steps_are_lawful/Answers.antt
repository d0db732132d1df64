use Rattle.turn_law.proofs.StepsMade.{steps_lawful}
use Rattle.turn_law.proofs.laws.steps_are_lawful.Goals as goal

pub returns : goal.returns
returns c = steps_lawful
