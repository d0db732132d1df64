use Rattle.std.proofs.Common.{length, refl, arith}
use Rattle.std.proofs.lemmas.Option.{slice_get_read}
use Rattle.vfs_world.proofs.AllGone.{all_gone, none_gone, one_gone}
use Rattle.vfs_world.proofs.settling.let_all_go.Goals as goal

pub loop-at-init : goal.loop-at-init
loop-at-init c = λ view apart h. none_gone view c.args.dead.now c.args.servers.now.items h

pub loop-at-preserved : goal.loop-at-preserved
loop-at-preserved c =
    λ view apart h.
    one_gone view c.args.dead.now c.loop-at.at c.loop-at.servers.items c.index_mut-server.result.now c.let_go.new.server (c.loop-at.invariant view apart h)
    (slice_get_read c.loop-at.servers.items (length c.loop-at.servers.items) c.loop-at.at c.index_mut-server.result.now refl (let a = c.loop-at-test.true in let b = (c.loop-at.invariant view apart h).many in let d = h.many in let e = c.len-at-end.ensures in omega arith) c.index_mut-server.ensures.value)
    c.let_go.ensures.index (c.let_go.ensures.gone view apart)

pub returns : goal.returns
returns c = record {
  gone = λ view apart h.
      all_gone view c.args.dead.now c.loop-at.at c.loop-at.servers.items
      (let a = c.loop-at-test.false in let b = (c.loop-at.invariant view apart h).many in let d = h.many in let e = c.len-at-end.ensures in omega arith)
      (c.loop-at.invariant view apart h);
}
