use Rattle.std.proofs.Common.{◌≡◌, ◌++◌, take}
use Rattle.vfs_journal.specs.Handles.{numbers_of}
use Rattle.vfs_world.proofs.Carried.{carried_of}
use Rattle.vfs_world.proofs.deaths.add_carried.Given as goal

abbrev pub invariant-loop-handle : goal.invariant-loop-handle
invariant-loop-handle l = l.dying.items ≡ l.initial.dying.items ++ carried_of l.but (numbers_of (take l.handle-index l.handle-items))
