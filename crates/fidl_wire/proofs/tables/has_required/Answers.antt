use Rattle.std.proofs.Common.{◌+◌, drop, get_or, None, sym, ◌∙◌, arith}
use Rattle.fidl_wire.specs.declared.kinds.MemberKind.TheVariants as kind
use Rattle.fidl_wire.specs.Layout.{has_required}
use Rattle.fidl_wire.specs.Told.{all_told}
use Rattle.fidl_wire.proofs.Members.{required-more, needed-there, needed-not}
use Rattle.fidl_wire.proofs.tables.has_required.Goals.{else-is_none-via-then-is_none+else-is_required, else-is_none-via-else-is_none}
use Rattle.fidl_wire.proofs.tables.has_required.Goals as goal

pub loop-i-preserved : goal.loop-i-preserved
loop-i-preserved c =
    let v = get_or c.args.values.now c.loop-i.i None in
    let k = get_or c.args.kinds.now c.loop-i.i kind.Unknown in
    let rest = has_required (drop (c.loop-i.i + 1) c.args.kinds.now) (all_told (drop (c.loop-i.i + 1) c.args.values.now)) in
    c.loop-i.invariant ∙ required-more c.args.kinds.now c.args.values.now c.loop-i.i kind.Unknown (omega arith) c.requires
    ∙ sym (elim c.else-is_none.branch [
      | else-is_none-via-then-is_none+else-is_required w ↦ needed-not v k rest (sym w.if-is_required.ensures)
      | else-is_none-via-else-is_none w ↦ needed-there v k rest w.if-is_none.ensures
    ])
