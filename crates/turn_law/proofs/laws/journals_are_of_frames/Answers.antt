use Rattle.turn_law.proofs.AllSteps.{journals_made}
use Rattle.turn_law.proofs.laws.journals_are_of_frames.Goals as goal

pub returns : goal.returns
returns c = journals_made
