use Rattle.std.proofs.Common.{◌∙◌, sym, subst, All, length, ◌≤◌, arith}
use Rattle.std.proofs.lemmas.List.{take_all}
use Rattle.std.proofs.lemmas.List.Elements.{All-more}
use Rattle.fidl_names.specs.Numbers.{AreBytes}
use Rattle.session_start.specs.Items.{NodeItem}
use Rattle.session_start.specs.RulesOnLists.{bytes_fit}
use Rattle.tree_file.proofs.Places.{fail-on, fail-stop, fail-end}
use Rattle.tree_file.proofs.rules.large_node.Goals as goal

pub returns-then-not-is_small-clause-first : goal.returns-then-not-is_small-clause-first
returns-then-not-is_small-clause-first c =
    sym
    (c.loop-item.invariant.0
    ∙ fail-stop bytes_fit c.args.nodes.now c.loop-item.item c.index-nodes-item.result c.loop-item-test.true c.index-nodes-item.is (sym c.is_small.ensures.small ∙ c.if-not-is_small.true))

pub loop-item-preserved : goal.loop-item-preserved
loop-item-preserved c = (
  c.loop-item.invariant.0
      ∙ fail-on bytes_fit c.args.nodes.now c.loop-item.item c.index-nodes-item.result c.loop-item-test.true c.index-nodes-item.is (sym c.is_small.ensures.small ∙ c.if-not-is_small.false),
  All-more (λ (node : NodeItem). AreBytes node.bytes) c.args.nodes.now c.loop-item.item c.index-nodes-item.result c.loop-item-test.true c.loop-item.invariant.1
      (subst (λ (node : NodeItem). AreBytes node.bytes) c.index-nodes-item.is c.is_small.ensures.bytes),
)

pub returns-clause-first : goal.returns-clause-first
returns-clause-first c = sym (c.loop-item.invariant.0 ∙ fail-end bytes_fit c.args.nodes.now c.loop-item.item (omega (arith, c.loop-item-test.false)))

pub returns-clause-bytes : goal.returns-clause-bytes
returns-clause-bytes c _ =
    let past : length c.args.nodes.now ≤ c.loop-item.item = omega (arith, c.loop-item-test.false) in
    subst (All (λ (node : NodeItem). AreBytes node.bytes)) (take_all c.loop-item.item c.args.nodes.now past) c.loop-item.invariant.1
