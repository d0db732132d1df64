use Rattle.std.proofs.Common.{List, length-append, refl, arith}
use Rattle.fidl_names.specs.declared.limits.TheConstants as limit
use Rattle.io_messages.specs.declared.fields.Field.{Field}
use Rattle.io_messages.specs.declared.fields.Field.TheVariants.{Word}
use Rattle.io_messages.specs.Fields.{part_of, parts_of}
use Rattle.io_messages.proofs.Lengths.{room_first}
use Rattle.io_messages.proofs.fields.put_all_handles.Goals as goal

pub put_held-requires : goal.put_held-requires
put_held-requires c =
    let all : List (Field) → List _ = λ xs. (parts_of xs).handles in
    room_first all (λ (x : Field). (part_of x).handles) (λ x xs. refl) c.loop-field.out.handles _ c.args.fields.now c.loop-field.field-index limit.MAX_HANDLES (Word 0) c.loop-field-test.true c.loop-field.invariant.all
    (omega (arith, c.requires, length-append c.args.out.now.handles (all c.args.fields.now)))
