use Rattle.std.proofs.Common.{ℕ, List, ◌++◌, length, ap, ◌∙◌, sym, arith}
use Rattle.fidl_wire.specs.Reading.{present_word}
use Rattle.fidl_wire.specs.Spelling.{given}
use Rattle.fidl_wire.specs.Told.{all_told}
use Rattle.io_messages.specs.declared.fields.Field.{Field}
use Rattle.io_messages.specs.Fields.{part_of}
use Rattle.io_messages.proofs.Lengths.{length-number, length-count, four_zeros}
use Rattle.io_messages.proofs.fields.put_inline.Goals as goal

pub put_u32-requires : goal.put_u32-requires
put_u32-requires c = omega (arith, c.requires, ap (λ (f : Field). length (part_of f).inline) c.in-Word.is, length-number 4 c.in-Word.x)

pub put_u64-requires : goal.put_u64-requires
put_u64-requires c = omega (arith, c.requires, ap (λ (f : Field). length (part_of f).inline) c.in-Long.is, length-number 8 c.in-Long.x)

pub put_u32-requires-in-Held : goal.put_u32-requires-in-Held
put_u32-requires-in-Held c = omega (arith, c.requires, ap (λ (f : Field). length (part_of f).inline) c.in-Held.is, length-number 4 present_word)

pub put_u32-requires-in-Absent : goal.put_u32-requires-in-Absent
put_u32-requires-in-Absent c = omega (arith, c.requires, ap (λ (f : Field). length (part_of f).inline) c.in-Absent.is, length-number 4 0)

pub put_count-requires : goal.put_count-requires
put_count-requires c = omega (arith, c.requires, ap (λ (f : Field). length (part_of f).inline) c.in-Bytes.is, length-count (length c.in-Bytes.bytes.now))

pub put_count-requires-in-Table : goal.put_count-requires-in-Table
put_count-requires-in-Table c = omega (arith, c.requires, ap (λ (f : Field). length (part_of f).inline) c.in-Table.is, length-count (length (given (all_told c.in-Table.members.now))))

pub returns-in-Blank-clause-bytes : goal.returns-in-Blank-clause-bytes
returns-in-Blank-clause-bytes c =
    c.put_u32-in-Blank.ensures.bytes ∙ ap (λ (xs : List ℕ). c.args.out.now.bytes ++ xs) (four_zeros ∙ ap (λ (f : Field). (part_of f).inline) (sym c.in-Blank.is))
