use Rattle.std.proofs.Common.{◌-◌, ℕ, ap}
use Rattle.fidl_wire.proofs.envelopes.left_behind.Goals as goal

pub returns : goal.returns
returns c = ap (λ (count : ℕ). c.args.left - count) c.handles_at.ensures
