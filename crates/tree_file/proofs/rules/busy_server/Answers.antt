use Rattle.std.proofs.Common.{◌∙◌, sym, arith, []}
use Rattle.std.specs.Prelude.{nat_le}
use Rattle.fidl_names.specs.declared.limits.TheConstants as limit
use Rattle.session_start.specs.RulesOnLists.{connections_fit, connections_held}
use Rattle.tree_file.proofs.Places.{count-on, count-stop, fail-end}
use Rattle.tree_file.proofs.rules.busy_server.Goals as goal

pub returns-then-not-has_few_connections : goal.returns-then-not-has_few_connections
returns-then-not-has_few_connections c =
    sym
    (c.loop-server.invariant
    ∙ count-stop (λ server. nat_le (connections_held c.args.mounts.now c.args.clients.now server) limit.MAX_CONNECTIONS) c.args.names.now c.loop-server.server [] c.loop-server-test.true (sym c.has_few_connections.ensures ∙ c.if-not-has_few_connections.true))

pub loop-server-preserved : goal.loop-server-preserved
loop-server-preserved c =
    c.loop-server.invariant
    ∙ count-on (λ server. nat_le (connections_held c.args.mounts.now c.args.clients.now server) limit.MAX_CONNECTIONS) c.args.names.now c.loop-server.server [] c.loop-server-test.true (sym c.has_few_connections.ensures ∙ c.if-not-has_few_connections.false)

pub returns : goal.returns
returns c = sym (c.loop-server.invariant ∙ fail-end (connections_fit c.args.mounts.now c.args.clients.now) c.args.names.now c.loop-server.server (omega (arith, c.loop-server-test.false)))
