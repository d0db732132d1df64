use Rattle.std.proofs.Common.{ap, arith}
use Rattle.fidl_wire.specs.declared.reading.Outside.{Outside}
use Rattle.fidl_wire.specs.Cursor.{Cursor}
use Rattle.fidl_wire.proofs.Sizes.{padded-mod, padding_after-add}
use Rattle.fidl_wire.proofs.cursor.Body.enter_branch.Goals as goal

pub invariant_of-self : goal.invariant_of-self
invariant_of-self c =
    let here = ap (λ (o : Outside). o.out) c.outside.ensures in
    let kept = ap (λ (v : Cursor). v.out) c.self.view_is in
    record {
      place = omega arith;
      end = omega (arith, here, kept, padding_after-add c.self.inside.out c.args.size c.self.invariant.aligned, c.in_ok-enter.ensures.room);
      out = omega (arith, here, kept, c.in_ok-enter.ensures.room);
      aligned = omega (arith, padded-mod c.args.size);
    }
