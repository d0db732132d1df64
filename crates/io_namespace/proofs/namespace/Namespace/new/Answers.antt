use Rattle.io_namespace.proofs.TreeLemmas.{empty_tree}
use Rattle.io_namespace.proofs.namespace.Namespace.new.Goals as goal

pub invariant_of-result : goal.invariant_of-result
invariant_of-result c = empty_tree c.new.result c.new-2.result.items c.new.ensures
