use Rattle.std.proofs.Common.{length, length-append, arith}
use Rattle.fidl_wire.specs.Spelling.{count_bytes}
use Rattle.fidl_wire.specs.Written.{padded_bytes}
use Rattle.io_messages.proofs.Lengths.{length-count}
use Rattle.io_messages.proofs.fields.put_list.Goals as goal

pub put_count-requires : goal.put_count-requires
put_count-requires c = omega (arith, c.requires.room, length-append (count_bytes (length c.args.bytes.now)) (padded_bytes c.args.bytes.now), length-count (length c.args.bytes.now))
