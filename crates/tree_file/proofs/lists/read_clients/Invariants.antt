use Rattle.std.proofs.Common.{◌≡◌, [], map, drop}
use Rattle.toml.specs.View.{view}
use Rattle.tree_file.specs.Kept.{HasEndpoints}
use Rattle.tree_file.specs.Reading.{read_all, client_of}
use Rattle.tree_file.proofs.lists.read_clients.Given as goal

abbrev pub invariant-loop-value : goal.invariant-loop-value
invariant-loop-value l =
    (read_all (client_of l.names) [] (map view l.values) ≡ read_all (client_of l.names) l.clients.items (map view (drop l.value-index l.values)))
    × HasEndpoints l.endpoints l.clients.items
