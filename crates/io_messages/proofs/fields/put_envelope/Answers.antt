use Rattle.std.proofs.Common.{◌≡◌, ℕ, ◌+◌, List, ◌++◌, Option, Some, option_map, length, ap, ◌∙◌, sym, append_assoc, arith}
use Rattle.fidl_names.specs.Numbers.{number_bytes}
use Rattle.fidl_wire.specs.declared.kinds.Member.{Member}
use Rattle.fidl_wire.specs.declared.kinds.Member.TheVariants as now
use Rattle.fidl_wire.specs.Numbers.{padded}
use Rattle.fidl_wire.specs.Spelling.{member_part}
use Rattle.fidl_wire.specs.Told.{told}
use Rattle.io_messages.proofs.Lengths.{length-slot, envelope_is, list_envelope}
use Rattle.io_messages.proofs.fields.put_envelope.Goals as goal

pub put_u64-requires : goal.put_u64-requires
put_u64-requires c = omega (arith, c.requires.room, length-slot (option_map told c.args.member))

pub put_u64-requires-in-Some-Number : goal.put_u64-requires-in-Some-Number
put_u64-requires-in-Some-Number c = omega (arith, c.requires.room, length-slot (option_map told c.args.member))

pub put_u32-requires : goal.put_u32-requires
put_u32-requires c = omega (arith, c.requires.room, length-slot (option_map told c.args.member))

pub put_u32-requires-in-Some-Bytes : goal.put_u32-requires-in-Some-Bytes
put_u32-requires-in-Some-Bytes c = omega (arith, c.requires.room, c.put_u32.ensures.len, length-slot (option_map told c.args.member))

pub returns-in-Some-Number-clause-bytes : goal.returns-in-Some-Number-clause-bytes
returns-in-Some-Number-clause-bytes c =
    let is : c.args.member ≡ Some c.in-Some-Number.field-0 = c.in-Some-Number.is in
    let number : c.in-Some-Number.field-0 ≡ now.Number c.in-Some-Number.field-0-0 = rw is at c.in-Some-Number.field-0-is in
    c.put_u64-in-Some-Number.ensures.bytes ∙ ap (λ (xs : List ℕ). c.args.out.now.bytes ++ xs) (envelope_is ∙ ap (λ (v : Option Member). (member_part (option_map told v)).inline) (sym (is ∙ ap (λ (m : Member). Some m) number)))

pub returns-in-Some-Bytes-clause-bytes : goal.returns-in-Some-Bytes-clause-bytes
returns-in-Some-Bytes-clause-bytes c =
    let is : c.args.member ≡ Some c.in-Some-Bytes.field-0 = c.in-Some-Bytes.is in
    let part : c.in-Some-Bytes.field-0 ≡ now.Bytes c.in-Some-Bytes.bytes = rw is at c.in-Some-Bytes.field-0-is in
    let n = 16 + padded (length c.in-Some-Bytes.bytes.now) in
    let same : 16 + length c.in-Some-Bytes.bytes.now + c.padding_after.result ≡ n = omega (arith, c.padding_after.ensures.value) in
    c.put_u32-in-Some-Bytes.ensures.bytes
    ∙ ap (λ (xs : List ℕ). xs ++ number_bytes 4 0) (c.put_u32.ensures.bytes ∙ ap (λ (k : ℕ). c.args.out.now.bytes ++ number_bytes 4 k) same)
    ∙ append_assoc c.args.out.now.bytes (number_bytes 4 n) (number_bytes 4 0)
    ∙ ap (λ (xs : List ℕ). c.args.out.now.bytes ++ xs) (list_envelope n ∙ ap (λ (v : Option Member). (member_part (option_map told v)).inline) (sym (is ∙ ap (λ (m : Member). Some m) part)))
