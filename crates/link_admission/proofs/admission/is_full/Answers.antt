use Rattle.std.proofs.Common.{ap, nat_le}
use Rattle.fidl_names.specs.declared.limits.TheConstants as limit
use Rattle.link_admission.proofs.admission.is_full.Goals as goal

pub returns : goal.returns
returns g c = ap (nat_le limit.MAX_WAITING) c.waiting.ensures
