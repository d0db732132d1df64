use Rattle.wire_laws.proofs.Bodies.{read_spelled}
use Rattle.turn_law.proofs.Touching.{frames_touch}
use Rattle.turn_law.proofs.laws.frames_touch_their_own.Goals as goal

pub returns : goal.returns
returns c = frames_touch read_spelled
