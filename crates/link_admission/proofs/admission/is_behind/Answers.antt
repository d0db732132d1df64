use Rattle.std.proofs.Common.{ℕ, ap, nat_le}
use Rattle.link_admission.proofs.admission.is_behind.Goals as goal

pub returns : goal.returns
returns g c = ap (λ (count : ℕ). nat_le count c.args.server) c.servers.ensures
