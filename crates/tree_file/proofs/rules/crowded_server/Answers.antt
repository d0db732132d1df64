use Rattle.std.proofs.Common.{◌∙◌, sym, arith, []}
use Rattle.std.specs.Prelude.{nat_le}
use Rattle.fidl_names.specs.declared.limits.TheConstants as limit
use Rattle.session_start.specs.RulesOnLists.{names_fit, names_held}
use Rattle.tree_file.proofs.Places.{count-on, count-stop, fail-end}
use Rattle.tree_file.proofs.rules.crowded_server.Goals as goal

pub returns-then-not-has_few_names : goal.returns-then-not-has_few_names
returns-then-not-has_few_names c =
    sym
    (c.loop-server.invariant
    ∙ count-stop (λ server. nat_le (names_held c.args.nodes.now c.args.mounts.now server) limit.MAX_NAMES) c.args.names.now c.loop-server.server [] c.loop-server-test.true (sym c.has_few_names.ensures ∙ c.if-not-has_few_names.true))

pub loop-server-preserved : goal.loop-server-preserved
loop-server-preserved c =
    c.loop-server.invariant
    ∙ count-on (λ server. nat_le (names_held c.args.nodes.now c.args.mounts.now server) limit.MAX_NAMES) c.args.names.now c.loop-server.server [] c.loop-server-test.true (sym c.has_few_names.ensures ∙ c.if-not-has_few_names.false)

pub returns : goal.returns
returns c = sym (c.loop-server.invariant ∙ fail-end (names_fit c.args.nodes.now c.args.mounts.now) c.args.names.now c.loop-server.server (omega (arith, c.loop-server-test.false)))
