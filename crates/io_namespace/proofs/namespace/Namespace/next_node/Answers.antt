use Rattle.std.proofs.Common.{◌∙◌, sym, subst, length, ◌<◌}
use Rattle.io_namespace.specs.Entries.{Same}
use Rattle.io_namespace.specs.Kept.{Kept, table_of}
use Rattle.io_namespace.specs.Steps.{Grows}
use Rattle.io_namespace.proofs.TreeLemmas.{Grown, tree_by, same_by, got_by, grows_by}
use Rattle.io_namespace.proofs.namespace.Namespace.next_node.Goals as goal

grown : (c : goal.In_ok-put) → Grown c.self.inside.edges c.put.new.self c.self.inside.ends.items c.push.new.self.items c.args.node c.len-next.result c.args.step.now
grown c = record {
  put = c.in_ok-put.ensures.put;
  is = c.len-next.ensures ∙ c.self.inside.ends.ok.0;
  pushed = c.in_ok-push.ensures.items;
  within = subst (λ (k : Kept). c.args.node < length k.ends) (sym c.self.view_is) c.requires;
  free = sym c.in_ok-next.ensures ∙ c.in_default.is;
}

pub invariant_of-self-2 : goal.invariant_of-self-2
invariant_of-self-2 c = tree_by _ _ _ _ _ _ _ (grown c) c.self.invariant

pub returns-clause-next : goal.returns-clause-next
returns-clause-next c = got_by _ _ _ _ _ _ _ (grown c)

pub returns-clause-grows : goal.returns-clause-grows
returns-clause-grows c = subst (λ (k : Kept). Grows k (record { edges = c.put.new.self; ends = c.push.new.self.items })) c.self.view_is (grows_by _ _ _ _ _ _ _ (grown c))

pub returns-clause-same : goal.returns-clause-same
returns-clause-same c = subst (λ (k : Kept). Same (table_of k) (table_of (record { edges = c.put.new.self; ends = c.push.new.self.items }))) c.self.view_is (same_by _ _ _ _ _ _ _ (grown c) c.self.invariant)
