use Rattle.std.proofs.Common.{ap, ◌∙◌, arith}
use Rattle.fidl_wire.specs.Written.{padded_bytes}
use Rattle.fidl_wire.proofs.Padded.{padded_behind}
use Rattle.io_messages.proofs.Lengths.{length-padded}
use Rattle.io_messages.proofs.fields.put_padded.Goals as goal

pub put_bytes-requires : goal.put_bytes-requires
put_bytes-requires c = omega (arith, c.requires.room, length-padded c.args.bytes.now)

pub returns-clause-bytes : goal.returns-clause-bytes
returns-clause-bytes c = c.pad.ensures.bytes ∙ ap padded_bytes c.put_bytes.ensures.bytes ∙ padded_behind c.args.out.now.bytes c.args.bytes.now c.requires.aligned
