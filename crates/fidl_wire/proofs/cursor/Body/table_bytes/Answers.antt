use Rattle.std.proofs.Common.{◌≡◌, Some, None, get_or}
use Rattle.fidl_wire.specs.declared.kinds.Member.TheVariants as now
use Rattle.fidl_wire.proofs.OneMember.{is_bytes}
use Rattle.fidl_wire.proofs.cursor.Body.table_bytes.Goals as goal

pub unreachable-requires : goal.unreachable-requires
unreachable-requires c =
    let b = is_bytes c.args.self.now c.table_into.new.self c.table_into.new.values c.in_ok-table_into.ensures.value in
    let is : get_or c.table_into.new.values 0 None ≡ Some c.in-Some-Number.field-0 = c.in-Some-Number.is in
    let number : c.in-Some-Number.field-0 ≡ now.Number c.in-Some-Number.field-0-0 = rw is at c.in-Some-Number.field-0-is in
    cc (b.1)

pub unreachable-requires-in-None : goal.unreachable-requires-in-None
unreachable-requires-in-None c =
    let b = is_bytes c.args.self.now c.table_into.new.self c.table_into.new.values c.in_ok-table_into.ensures.value in
    let is : get_or c.table_into.new.values 0 None ≡ None = c.in-None.is in
    cc (b.1)
