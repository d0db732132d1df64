use Rattle.std.proofs.Common.{◌≡◌, None, take, replicate}
use Rattle.fidl_wire.proofs.tables.forget.Given as goal

abbrev pub invariant-loop-value : goal.invariant-loop-value
invariant-loop-value l = take l.value-index l.values ≡ replicate l.value-index None
