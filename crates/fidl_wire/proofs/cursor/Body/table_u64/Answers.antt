use Rattle.std.proofs.Common.{◌≡◌, false, Some, None, get_or, ap, ◌∙◌}
use Rattle.fidl_wire.specs.declared.kinds.Member.{Member}
use Rattle.fidl_wire.specs.declared.kinds.Member.TheVariants as now
use Rattle.fidl_wire.proofs.OneMember.{no_bytes}
use Rattle.fidl_wire.proofs.cursor.Body.table_u64.Goals as goal

pub unreachable-requires : goal.unreachable-requires
unreachable-requires c =
    let is : get_or c.table_into.new.values 0 None ≡ Some c.in-Some-Bytes.field-0 = c.in-Some-Bytes.is in
    let part : c.in-Some-Bytes.field-0 ≡ now.Bytes c.in-Some-Bytes.field-0-0 = rw is at c.in-Some-Bytes.field-0-is in
    no_bytes false c.args.self.now c.table_into.new.self c.table_into.new.values c.in-Some-Bytes.field-0-0 (is ∙ ap (λ (m : Member). Some m) part) c.in_ok-table_into.ensures.value
