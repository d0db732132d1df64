use Rattle.turn_law.proofs.StepsMade.{sessions_made}
use Rattle.turn_law.proofs.laws.sessions_are_steps.Goals as goal

pub returns : goal.returns
returns c = sessions_made
