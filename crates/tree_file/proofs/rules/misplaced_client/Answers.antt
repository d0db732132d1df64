use Rattle.std.proofs.Common.{◌∙◌, sym, arith}
use Rattle.session_start.specs.RulesOnLists.{client_fits}
use Rattle.tree_file.proofs.Places.{fail-on, fail-stop, fail-end}
use Rattle.tree_file.proofs.rules.misplaced_client.Goals as goal

pub returns-then-not-client_fits : goal.returns-then-not-client_fits
returns-then-not-client_fits c listed stands =
    sym
    (c.loop-item.invariant listed stands
    ∙ fail-stop (client_fits listed) c.args.clients.now c.loop-item.item c.index-clients-item.result c.loop-item-test.true c.index-clients-item.is
    (sym (c.client_fits.ensures listed stands) ∙ c.if-not-client_fits.true))

pub loop-item-preserved : goal.loop-item-preserved
loop-item-preserved c listed stands =
    c.loop-item.invariant listed stands
    ∙ fail-on (client_fits listed) c.args.clients.now c.loop-item.item c.index-clients-item.result c.loop-item-test.true c.index-clients-item.is
    (sym (c.client_fits.ensures listed stands) ∙ c.if-not-client_fits.false)

pub returns : goal.returns
returns c listed stands = sym (c.loop-item.invariant listed stands ∙ fail-end (client_fits listed) c.args.clients.now c.loop-item.item (omega (arith, c.loop-item-test.false)))
