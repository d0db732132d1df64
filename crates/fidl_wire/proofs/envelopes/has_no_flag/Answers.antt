use Rattle.std.proofs.Common.{◌==◌, ℕ, ap}
use Rattle.fidl_wire.proofs.envelopes.has_no_flag.Goals as goal

pub returns : goal.returns
returns c = ap (λ (flags : ℕ). flags == 0) c.flags_at.ensures
