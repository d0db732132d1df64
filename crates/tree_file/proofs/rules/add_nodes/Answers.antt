use Rattle.std.proofs.Common.{◌∙◌, sym, arith, map, take, []}
use Rattle.session_start.specs.RulesOnLists.{first_failing, node_place, node_fits}
use Rattle.tree_file.proofs.Places.{fail-on, fail-stop, fail-end, fail-breaks, more_mapped}
use Rattle.tree_file.proofs.rules.add_nodes.Goals as goal

pub returns-then-not-branch-clause-refused : goal.returns-then-not-branch-clause-refused
returns-then-not-branch-clause-refused c =
    let listed = map node_place (take c.loop-item.item c.args.nodes.now) in
    let misfit = sym (c.in_ok-place_node.ensures listed c.loop-item.invariant.1).0 ∙ c.if-not-branch.true in
    fail-breaks 8 (first_failing node_fits [] c.args.nodes.now) c.loop-item.item c.broken.result
    (c.loop-item.invariant.0 ∙ fail-stop node_fits c.args.nodes.now c.loop-item.item c.index-nodes-item.result c.loop-item-test.true c.index-nodes-item.is misfit) c.broken.ensures

pub loop-item-preserved : goal.loop-item-preserved
loop-item-preserved c =
    let listed = map node_place (take c.loop-item.item c.args.nodes.now) in
    let placed = c.in_ok-place_node.ensures listed c.loop-item.invariant.1 in
    let fits = sym placed.0 ∙ c.if-not-branch.false in
    let more = more_mapped node_place c.args.nodes.now c.loop-item.item c.index-nodes-item.result c.loop-item-test.true c.index-nodes-item.is in (
      c.loop-item.invariant.0 ∙ fail-on node_fits c.args.nodes.now c.loop-item.item c.index-nodes-item.result c.loop-item-test.true c.index-nodes-item.is fits,
      rw (← more) (placed.1 c.if-not-branch.false),
    )

pub returns-clause-fit : goal.returns-clause-fit
returns-clause-fit c = c.loop-item.invariant.0 ∙ fail-end node_fits c.args.nodes.now c.loop-item.item (omega (arith, c.loop-item-test.false))
