use Rattle.vfs_journal.specs.Starts.{start_of}
use Rattle.vfs_world.proofs.Begun.{AreBegun}
use Rattle.vfs_world.proofs.beginning.add_servers.Given as goal

abbrev pub invariant-loop-index : goal.invariant-loop-index
invariant-loop-index l = AreBegun (start_of l.start) l.index l.servers.items
