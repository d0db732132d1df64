use Rattle.fidl_wire.specs.Collisions.{AreApart}
use Rattle.fidl_wire.proofs.ordinals.first_equal.Given as goal

abbrev pub invariant-loop-row : goal.invariant-loop-row
invariant-loop-row l = AreApart l.numbers l.row
