use Rattle.std.proofs.Common.{ap, length, length-append, ◌+◌, ◌≡◌, arith}
use Rattle.fidl_wire.specs.Numbers.{padding_after}
use Rattle.fidl_wire.proofs.Sizes.{padded-mod, padding_after-add}
use Rattle.io_messages.specs.Fields.{parts_of}
use Rattle.io_messages.proofs.Lengths.{length-object, object_is}
use Rattle.io_messages.proofs.fields.put_object.Goals as goal

pub put_all_outside-requires : goal.put_all_outside-requires
put_all_outside-requires c =
    let p = parts_of c.args.fields.now in
    let size : length c.put_all_inline.new.out.bytes ≡ length c.args.out.now.bytes + length p.inline = omega (arith, ap length c.put_all_inline.ensures.bytes, length-append c.args.out.now.bytes p.inline) in
    record {
      aligned = omega (arith, c.pad.ensures.len, padded-mod (length c.put_all_inline.new.out.bytes));
      room = omega (arith, c.pad.ensures.len, size, ap padding_after size, padding_after-add (length c.args.out.now.bytes) (length p.inline) c.requires.aligned, length-object c.args.fields.now, c.requires.bytes);
    }

pub returns-clause-bytes : goal.returns-clause-bytes
returns-clause-bytes c =
    let p = parts_of c.args.fields.now in
    object_is c.args.out.now.bytes p.inline p.outside c.put_all_inline.new.out.bytes c.pad.new.self.bytes c.put_all_outside.new.out.bytes c.put_all_handles.new.out.bytes
    c.requires.aligned c.put_all_inline.ensures.bytes c.pad.ensures.bytes c.put_all_outside.ensures.bytes c.put_all_handles.ensures.bytes
