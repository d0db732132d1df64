use Rattle.std.proofs.Common.{◌≡◌, ◌∙◌, sym, Some, subst}
use Rattle.std.proofs.lemmas.List.{map_more}
use Rattle.io_namespace.specs.Kept.{node_behind}
use Rattle.io_namespace.proofs.TreeLemmas.{Path, node_behind-append, node_behind-grows}
use Rattle.io_namespace.proofs.namespace.Namespace.node_at.Goals as goal

pub loop-i-preserved : goal.loop-i-preserved
loop-i-preserved c = record {
  node = subst (λ (path : Path). node_behind c.next_node.new.self.edges 0 path ≡ Some c.in_ok-node.node)
      (sym (map_more (λ step. step.now) c.args.steps.now c.loop-i.i _ c.loop-i-test.true))
      (node_behind-append c.next_node.new.self.edges 0 _ _ c.loop-i.node c.in_ok-node.node
      (node_behind-grows c.loop-i.self c.next_node.new.self c.next_node.ensures.grows 0 _ c.loop-i.node c.loop-i.invariant.node)
      c.in_ok-node.ensures.next);
  within = c.in_ok-node.ensures.within;
  same = λ prefix. c.next_node.ensures.same prefix ∙ c.loop-i.invariant.same prefix;
}
