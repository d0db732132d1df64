use Rattle.std.proofs.Common.{length, refl, arith}
use Rattle.std.proofs.lemmas.Option.{slice_get_read}
use Rattle.vfs_world.proofs.Forgotten.{each_forgotten, none_forgotten, one_forgotten}
use Rattle.vfs_world.proofs.forgetting.forget_everywhere.Goals as goal

pub loop-at-init : goal.loop-at-init
loop-at-init c = none_forgotten c.args.servers.now.items c.args.token

pub loop-at-preserved : goal.loop-at-preserved
loop-at-preserved c =
    one_forgotten c.args.servers.now.items c.args.token c.loop-at.at c.loop-at.servers.items c.index_mut-server.result.now c.forget.new.self c.loop-at.invariant
    (slice_get_read c.loop-at.servers.items (length c.loop-at.servers.items) c.loop-at.at c.index_mut-server.result.now refl (let a = c.loop-at-test.true in let b = c.loop-at.invariant.many in let e = c.len-at-end.ensures in omega arith) c.index_mut-server.ensures.value)
    c.forget.ensures

pub returns : goal.returns
returns c =
    each_forgotten c.args.servers.now.items c.args.token c.loop-at.at c.loop-at.servers.items
    (let a = c.loop-at-test.false in let b = c.loop-at.invariant.many in let e = c.len-at-end.ensures in omega arith)
    c.loop-at.invariant
