use Rattle.journal_laws.proofs.Below.{below}
use Rattle.journal_laws.proofs.TransitLaws.{deaths_reach_all}
use Rattle.journal_laws.proofs.laws.deaths_reach_all.Goals as goal

pub returns : goal.returns
returns c = λ apart. deaths_reach_all (below apart)
