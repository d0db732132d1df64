use Rattle.std.proofs.Common.{List, ◌++◌, length, refl, ap, ◌∙◌, arith}
use Rattle.fidl_names.specs.declared.methods.Handle.{Handle}
use Rattle.fidl_wire.specs.Written.{Written}
use Rattle.io_messages.specs.Fields.{parts_of}
use Rattle.io_messages.proofs.Lengths.{message_fits, message_long, length-message, behind_nothing}
use Rattle.io_messages.proofs.request_writer.write_fields.Goals as goal

pub put_object-requires-clause-bytes : goal.put_object-requires-clause-bytes
put_object-requires-clause-bytes c =
    omega (arith, c.begin.ensures.len, ap (λ (w : Written). length w.bytes) c.requires.empty, message_fits c.args.fields.now (omega (arith, c.in-Some.ensures.0, c.in-Some.ensures.1)))

pub returns-in-None : goal.returns-in-None
returns-in-None c = (refl, omega (arith, length-message c.args.header c.args.fields.now, message_long c.args.fields.now c.in-None.ensures))

pub returns-in-Some : goal.returns-in-Some
returns-in-Some c = (
  behind_nothing c.args.out.now.bytes _ _ c.put_object.new.out.bytes c.begin.new.self.bytes (ap (λ (w : Written). w.bytes) c.requires.empty) c.begin.ensures.bytes c.put_object.ensures.bytes,
  c.put_object.ensures.handles ∙ ap (λ (hs : List Handle). hs ++ (parts_of c.args.fields.now).handles) (c.begin.ensures.handles ∙ ap (λ (w : Written). w.handles) c.requires.empty),
  omega (arith, length-message c.args.header c.args.fields.now, message_fits c.args.fields.now (omega (arith, c.in-Some.ensures.0, c.in-Some.ensures.1))),
)
