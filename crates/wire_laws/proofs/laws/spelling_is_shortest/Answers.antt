use Rattle.wire_laws.proofs.Shortest.{spelled_least, absent_zero}
use Rattle.wire_laws.proofs.laws.spelling_is_shortest.Goals as goal

pub returns : goal.returns
returns c = record { shortest = spelled_least; zero = absent_zero }
