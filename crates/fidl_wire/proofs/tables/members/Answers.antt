use Rattle.std.proofs.Common.{◌≡◌, ◌+◌, ◌*◌, option_map, ◌∙◌, length-set, arith}
use Rattle.fidl_wire.specs.Told.{told, all_told}
use Rattle.fidl_wire.proofs.Members.{members-more, members-all, none-more}
use Rattle.fidl_wire.proofs.tables.members.Goals as goal

pub loop-i-preserved : goal.loop-i-preserved
loop-i-preserved c = record {
  placed = c.in_ok-value.ensures.placed;
  left = omega (arith, c.in_ok-value.ensures.left);
  same = rw (c.put.ensures, length-set) c.loop-i.invariant.same;
  none = rw c.put.ensures (none-more c.loop-i.i (option_map told c.in_ok-value.value) (all_told c.loop-i.values) c.loop-i.invariant.none);
  so_far = rw c.put.ensures (c.loop-i.invariant.so_far ∙ members-more c.args.kinds.now c.args.first c.loop-i.i c.args.count c.args.message.now c.loop-i.outside c.in_ok-value.rest (option_map told c.in_ok-value.value) (all_told c.loop-i.values) (omega arith) c.loop-i.invariant.same (rw (← c.kind_at-kind.ensures) c.in_ok-value.ensures.value));
}

pub returns-clause-value : goal.returns-clause-value
returns-clause-value c =
    let last : c.args.count ≡ c.loop-i.i = omega arith in
    c.loop-i.invariant.so_far ∙ rw last (members-all c.args.kinds.now (c.args.first + 8 * c.loop-i.i) c.loop-i.i c.args.message.now c.loop-i.outside (all_told c.loop-i.values) c.loop-i.invariant.same c.loop-i.invariant.none)
