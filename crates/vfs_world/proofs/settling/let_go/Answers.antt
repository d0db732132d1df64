use Rattle.std.proofs.Common.{◌∙◌, refl}
use Rattle.vfs_world.proofs.LettingGo.{go_first, go_last, go_on}
use Rattle.vfs_world.proofs.settling.let_go.Goals as goal

pub loop-endpoint-init : goal.loop-endpoint-init
loop-endpoint-init c = record { index = refl; gone = λ view apart h. go_first view c.args.server.now h }

pub loop-endpoint-preserved : goal.loop-endpoint-preserved
loop-endpoint-preserved c = record {
  index = c.unbind.ensures.index ∙ c.loop-endpoint.invariant.index;
  gone = λ view apart h. go_on view c.loop-endpoint.server _ c.args.dead.now c.loop-endpoint.endpoint-index c.loop-endpoint-test.true apart c.unbind.ensures (c.loop-endpoint.invariant.gone view apart h);
}

pub returns-clause-gone : goal.returns-clause-gone
returns-clause-gone c = λ view apart h. go_last view c.loop-endpoint.server c.args.dead.now c.loop-endpoint.endpoint-index c.loop-endpoint-test.false (c.loop-endpoint.invariant.gone view apart h)
