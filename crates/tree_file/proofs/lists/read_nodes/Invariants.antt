use Rattle.std.proofs.Common.{◌≡◌, [], map, drop}
use Rattle.toml.specs.View.{view}
use Rattle.tree_file.specs.Reading.{read_all, node_of}
use Rattle.tree_file.proofs.lists.read_nodes.Given as goal

abbrev pub invariant-loop-value : goal.invariant-loop-value
invariant-loop-value l = read_all (λ _. node_of l.names) [] (map view l.values) ≡ read_all (λ _. node_of l.names) l.nodes.items (map view (drop l.value-index l.values))
