use Rattle.conn_rules.proofs.Narrow.{opens_grant}
use Rattle.conn_rules.proofs.laws.opens_grant.Goals as goal

pub returns : goal.returns
returns c = opens_grant
