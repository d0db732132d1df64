use Rattle.std.proofs.Common.{ap, arith}
use Rattle.fidl_wire.specs.Cursor.{Cursor}
use Rattle.fidl_wire.proofs.Sizes.{padded-mod}
use Rattle.fidl_wire.proofs.cursor.Body.list.Goals as goal

pub invariant_of-self : goal.invariant_of-self
invariant_of-self c = record {
  place = omega (arith, c.in_ok-at.ensures.room, c.in_ok-at.ensures.place, ap (λ (v : Cursor). v.place) c.self.view_is, ap (λ (v : Cursor). v.end) c.self.view_is);
  end = c.self.invariant.end;
  out = omega arith;
  aligned = omega (arith, padded-mod c.in_ok-count.count);
}
