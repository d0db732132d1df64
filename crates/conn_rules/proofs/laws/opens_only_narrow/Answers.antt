use Rattle.conn_rules.proofs.Narrow.{opens_narrow}
use Rattle.conn_rules.proofs.laws.opens_only_narrow.Goals as goal

pub returns : goal.returns
returns c = opens_narrow
