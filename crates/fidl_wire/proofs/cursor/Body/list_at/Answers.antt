use Rattle.std.proofs.Common.{◌+◌, arith}
use Rattle.fidl_wire.proofs.Sizes.{padding_after-none}
use Rattle.fidl_wire.proofs.cursor.Body.list_at.Goals as goal

pub invariant_of-list : goal.invariant_of-list
invariant_of-list c = record {
  place = omega arith;
  end = omega (arith, padding_after-none (c.args.at + 16) (omega arith));
  out = c.requires.room;
  aligned = omega arith;
}
