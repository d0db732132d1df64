use Rattle.std.proofs.Common.{◌≡◌, ◌≤◌, [], map, drop, length}
use Rattle.fidl_names.specs.declared.limits.TheConstants as limit
use Rattle.toml.specs.View.{view}
use Rattle.tree_file.specs.Reading.{read_all, server_of}
use Rattle.tree_file.proofs.lists.read_servers.Given as goal

abbrev pub invariant-loop-value : goal.invariant-loop-value
invariant-loop-value l =
    (read_all server_of [] (map view l.values) ≡ read_all server_of l.names.items (map view (drop l.value-index l.values)))
    × (length l.names.items ≤ limit.MAX_SERVERS)
