use Rattle.std.proofs.Common.{arith}
use Rattle.fidl_wire.proofs.Sizes.{padding_after-head, padded-mod}
use Rattle.fidl_wire.proofs.cursor.Body.new.Goals as goal

pub invariant_of-result : goal.invariant_of-result
invariant_of-result c = record {
  place = omega arith;
  end = omega (arith, padding_after-head c.args.inline);
  out = omega arith;
  aligned = omega (arith, padded-mod c.args.inline);
}
