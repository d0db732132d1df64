use Rattle.frames_program.proofs.Piped.{can_be_served}
use Rattle.frames_program.proofs.laws.scripts_can_be_served.Goals as goal

pub returns : goal.returns
returns c = can_be_served
