use Rattle.std.proofs.Common.{length, take, ap, length-append, arith}
use Rattle.fidl_wire.specs.Spelling.{members_part}
use Rattle.fidl_wire.specs.Told.{all_told}
use Rattle.io_messages.proofs.Lengths.{members_eight}
use Rattle.io_messages.proofs.fields.put_outside.Goals as goal

pub put_members-requires-clause-aligned : goal.put_members-requires-clause-aligned
put_members-requires-clause-aligned c =
    let vs = all_told (take c.given_count.result c.in-Table.members.now) in
    omega (arith, c.requires.aligned, ap length c.put_envelopes.ensures.bytes, length-append c.args.out.now.bytes (members_part vs).inline, members_eight vs)
