use Rattle.std.proofs.Common.{arith, rules}
use Rattle.node_graph.proofs.Indexed.{all_bytes, pack_step}
use Rattle.node_graph.proofs.short.packed.Goals as goal

pub overflow_mul-number : goal.overflow_mul-number
overflow_mul-number c =
    let step = pack_step c.args.name.now c.loop-byte.byte-index c.requires (all_bytes c.args.name.now (search rules)) c.loop-byte-test.true in
    omega (arith, step.0, step.1, c.loop-byte.invariant)

pub overflow_add-number : goal.overflow_add-number
overflow_add-number c =
    let step = pack_step c.args.name.now c.loop-byte.byte-index c.requires (all_bytes c.args.name.now (search rules)) c.loop-byte-test.true in
    omega (arith, step.0, step.1, c.loop-byte.invariant)

pub loop-byte-preserved : goal.loop-byte-preserved
loop-byte-preserved c =
    let step = pack_step c.args.name.now c.loop-byte.byte-index c.requires (all_bytes c.args.name.now (search rules)) c.loop-byte-test.true in
    omega (arith, step.0, c.loop-byte.invariant)
