use Rattle.std.proofs.Common.{◌≡◌, [], map, take, drop}
use Rattle.session_start.specs.RulesOnLists.{node_place, first_failing, node_fits}
use Rattle.tree_file.specs.Kept.{Stands}
use Rattle.tree_file.proofs.rules.add_nodes.Given as goal

abbrev pub invariant-loop-item : goal.invariant-loop-item
invariant-loop-item l =
    (first_failing node_fits [] l.nodes ≡ first_failing node_fits (take l.item l.nodes) (drop l.item l.nodes))
    × Stands l.places (map node_place (take l.item l.nodes))
