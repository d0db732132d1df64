use Rattle.std.proofs.Common.{◌≡◌, List, [], ◌++◌, map, take, drop}
use Rattle.session_start.specs.Items.{NodeItem}
use Rattle.session_start.specs.RulesOnLists.{node_place, mount_place, first_failing, mount_fits}
use Rattle.tree_file.specs.Kept.{Stands}
use Rattle.tree_file.proofs.rules.add_mounts.Given as goal

abbrev pub invariant-loop-item : goal.invariant-loop-item
invariant-loop-item l =
    (nodes : List NodeItem) → Stands l.initial.places (map node_place nodes)
    → (first_failing (mount_fits nodes) [] l.mounts ≡ first_failing (mount_fits nodes) (take l.item l.mounts) (drop l.item l.mounts))
    × Stands l.places (map node_place nodes ++ map mount_place (take l.item l.mounts))
