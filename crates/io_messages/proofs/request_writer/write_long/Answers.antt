use Rattle.std.proofs.Common.{ap, ◌∙◌}
use Rattle.fidl_wire.specs.Headers.{header_bytes}
use Rattle.fidl_wire.specs.Written.{Written}
use Rattle.io_messages.proofs.PutAtOnce.{long_fits, long_put}
use Rattle.io_messages.proofs.request_writer.write_long.Goals as goal

pub returns : goal.returns
returns c = (
  long_put c.args.out.now.bytes (header_bytes c.args.header) c.begin.new.self.bytes c.put_u64.new.self.bytes c.args.number (ap (λ (w : Written). w.bytes) c.requires) c.begin.ensures.bytes c.put_u64.ensures.bytes,
  c.put_u64.ensures.handles ∙ (c.begin.ensures.handles ∙ ap (λ (w : Written). w.handles) c.requires),
  long_fits c.args.header c.args.number,
)
