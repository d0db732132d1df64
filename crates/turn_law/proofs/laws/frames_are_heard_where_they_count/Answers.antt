use Rattle.wire_laws.proofs.Bodies.{read_spelled}
use Rattle.turn_law.proofs.Hearing.{heard_where_counted}
use Rattle.turn_law.proofs.laws.frames_are_heard_where_they_count.Goals as goal

pub returns : goal.returns
returns c = heard_where_counted read_spelled
