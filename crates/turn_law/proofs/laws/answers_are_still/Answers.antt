use Rattle.wire_laws.proofs.Bodies.{read_spelled}
use Rattle.turn_law.proofs.RoomSends.{answers_still}
use Rattle.turn_law.proofs.laws.answers_are_still.Goals as goal

pub returns : goal.returns
returns c = answers_still read_spelled
