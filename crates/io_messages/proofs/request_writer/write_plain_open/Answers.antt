use Rattle.std.proofs.Common.{List, length, ◌++◌, ◌∷◌, [], refl, ap, ◌∙◌, arith}
use Rattle.fidl_names.specs.declared.methods.Handle.{Handle}
use Rattle.fidl_names.specs.declared.methods.Handle.TheVariants.{Endpoint}
use Rattle.fidl_wire.specs.Headers.{header_bytes}
use Rattle.fidl_wire.specs.Written.{Written}
use Rattle.io_messages.proofs.PutAtOnce.{length-open_head, open_fits, open_long, open_put, path_room}
use Rattle.io_messages.proofs.request_writer.write_plain_open.Goals as goal

pub put_padded-requires-clause-room : goal.put_padded-requires-clause-room
put_padded-requires-clause-room c =
    let few = c.if-path-gt-MOST_PATH.false in
    let head = ap length c.open_head.ensures ∙ length-open_head (length c.args.path.now) c.args.flags in
    omega (arith, c.begin.ensures.len, c.put_bytes.ensures.len, head, ap (λ (w : Written). length w.bytes) c.requires, path_room c.args.path.now (omega (arith, few)))

pub returns-then-path-gt-MOST_PATH : goal.returns-then-path-gt-MOST_PATH
returns-then-path-gt-MOST_PATH c =
    let many = c.if-path-gt-MOST_PATH.true in
    (refl, open_long c.args.header c.args.path.now c.args.flags c.args.object (omega (arith, many)))

pub returns : goal.returns
returns c = (
  open_put c.args.out.now.bytes (header_bytes c.args.header) c.begin.new.self.bytes c.open_head.result c.put_bytes.new.self.bytes c.put_padded.new.out.bytes c.put_handle.new.self.bytes c.args.path.now
      c.args.flags c.args.object (ap (λ (w : Written). w.bytes) c.requires) c.begin.ensures.bytes c.put_bytes.ensures.bytes c.open_head.ensures c.put_padded.ensures.bytes c.put_handle.ensures.bytes,
  c.put_handle.ensures.handles
      ∙ ap (λ (hs : List Handle). hs ++ Endpoint c.args.object ∷ [])
      (c.put_padded.ensures.handles ∙ (c.put_bytes.ensures.handles ∙ (c.begin.ensures.handles ∙ ap (λ (w : Written). w.handles) c.requires))),
  open_fits c.args.header c.args.path.now c.args.flags c.args.object (let few = c.if-path-gt-MOST_PATH.false in omega (arith, few)),
)
