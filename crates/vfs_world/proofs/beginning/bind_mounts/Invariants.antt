use Rattle.std.proofs.Common.{◌++◌, take}
use Rattle.vfs_journal.specs.Starts.{start_of}
use Rattle.vfs_world.specs.Beginning.{BindsJust}
use Rattle.vfs_world.proofs.beginning.bind_mounts.Given as goal

abbrev pub invariant-loop-item : goal.invariant-loop-item
invariant-loop-item l = BindsJust (start_of l.start) ((start_of l.start).firsts ++ take l.item (start_of l.start).mounts) l.queues
