use Rattle.std.proofs.Common.{◌≡◌, [], map, drop}
use Rattle.toml.specs.View.{view}
use Rattle.tree_file.specs.Reading.{read_all, mount_of}
use Rattle.tree_file.proofs.lists.read_mounts.Given as goal

abbrev pub invariant-loop-value : goal.invariant-loop-value
invariant-loop-value l = read_all (λ _. mount_of l.names) [] (map view l.values) ≡ read_all (λ _. mount_of l.names) l.mounts.items (map view (drop l.value-index l.values))
