use Rattle.wire_laws.proofs.Bodies.{spelled_once}
use Rattle.wire_laws.proofs.laws.body_is_spelled_once.Goals as goal

pub returns : goal.returns
returns c = spelled_once
