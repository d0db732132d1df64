use Rattle.std.proofs.Common.{◌≡◌, drop}
use Rattle.fidl_wire.specs.Layout.{has_required}
use Rattle.fidl_wire.specs.Told.{all_told}
use Rattle.fidl_wire.proofs.tables.has_required.Given as goal

abbrev pub invariant-loop-i : goal.invariant-loop-i
invariant-loop-i l = has_required l.kinds (all_told l.values) ≡ has_required (drop l.i l.kinds) (all_told (drop l.i l.values))
