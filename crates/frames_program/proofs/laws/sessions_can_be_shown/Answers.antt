use Rattle.frames_program.proofs.Piped.{can_be_shown}
use Rattle.frames_program.proofs.laws.sessions_can_be_shown.Goals as goal

pub returns : goal.returns
returns c = can_be_shown
