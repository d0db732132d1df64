use Rattle.wire_laws.proofs.Bodies.{spelled_read, read_spelled}
use Rattle.wire_laws.proofs.laws.body_is_read_where_spelled.Goals as goal

pub returns : goal.returns
returns c = record { reads = spelled_read; spelled = read_spelled }
