use Rattle.std.proofs.Common.{List, length, drop, ap, length-append, refl, arith}
use Rattle.fidl_names.specs.declared.limits.TheConstants as limit
use Rattle.io_messages.specs.declared.fields.Field.{Field}
use Rattle.io_messages.specs.declared.fields.Field.TheVariants.{Word}
use Rattle.io_messages.specs.Fields.{part_of, parts_of}
use Rattle.io_messages.proofs.Lengths.{aligned_outside, room_first}
use Rattle.io_messages.proofs.fields.put_all_outside.Goals as goal

pub put_outside-requires : goal.put_outside-requires
put_outside-requires c =
    let all : List (Field) → List _ = λ xs. (parts_of xs).outside in
    let rest = drop c.loop-field.field-index c.args.fields.now in
    record {
      aligned = omega (
        arith,
        c.requires.aligned,
        ap length c.loop-field.invariant.all,
        length-append c.loop-field.out.bytes (all rest),
        length-append c.args.out.now.bytes (all c.args.fields.now),
        aligned_outside rest,
        aligned_outside c.args.fields.now,
      );
      room = room_first all (λ (x : Field). (part_of x).outside) (λ x xs. refl) c.loop-field.out.bytes _ c.args.fields.now c.loop-field.field-index limit.MAX_BYTES (Word 0) c.loop-field-test.true c.loop-field.invariant.all
          (omega (arith, c.requires.room, length-append c.args.out.now.bytes (all c.args.fields.now)));
    }
