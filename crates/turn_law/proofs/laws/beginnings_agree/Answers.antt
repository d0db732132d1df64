use Rattle.turn_law.proofs.Arrivals.{beginnings}
use Rattle.turn_law.proofs.laws.beginnings_agree.Goals as goal

pub returns : goal.returns
returns c = beginnings
