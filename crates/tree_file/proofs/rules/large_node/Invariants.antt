use Rattle.std.proofs.Common.{◌≡◌, [], take, drop, All}
use Rattle.fidl_names.specs.Numbers.{AreBytes}
use Rattle.session_start.specs.RulesOnLists.{first_failing, bytes_fit}
use Rattle.tree_file.proofs.rules.large_node.Given as goal

abbrev pub invariant-loop-item : goal.invariant-loop-item
invariant-loop-item l =
    (first_failing bytes_fit [] l.nodes ≡ first_failing bytes_fit (take l.item l.nodes) (drop l.item l.nodes)) × All (λ node. AreBytes node.bytes) (take l.item l.nodes)
