use Rattle.std.proofs.Common.{◌≡◌, Option, Some, option_map, length, ap, ◌∙◌, arith}
use Rattle.fidl_wire.specs.declared.kinds.Member.{Member}
use Rattle.fidl_wire.specs.declared.kinds.Member.TheVariants as now
use Rattle.fidl_wire.specs.Spelling.{member_part}
use Rattle.fidl_wire.specs.Told.{told}
use Rattle.io_messages.proofs.Lengths.{length-number}
use Rattle.io_messages.proofs.fields.put_member.Goals as goal

pub put_u64-requires : goal.put_u64-requires
put_u64-requires c =
    let is : c.args.member ≡ Some c.in-Some-Number.field-0 = c.in-Some-Number.is in
    let number : c.in-Some-Number.field-0 ≡ now.Number c.in-Some-Number.number = rw is at c.in-Some-Number.field-0-is in
    omega (arith, c.requires.room, ap (λ (v : Option Member). length (member_part (option_map told v)).outside) (is ∙ ap (λ (m : Member). Some m) number), length-number 8 c.in-Some-Number.number)
