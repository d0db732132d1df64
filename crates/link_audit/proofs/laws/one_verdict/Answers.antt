use Rattle.link_audit.proofs.OneVerdict.{one_verdict}
use Rattle.link_audit.proofs.laws.one_verdict.Goals as goal

pub returns : goal.returns
returns c = one_verdict
