use Rattle.session_laws.proofs.EachSet.{each_set}
use Rattle.session_laws.proofs.laws.lineages_name_each_set.Goals as goal

pub returns : goal.returns
returns c = each_set
