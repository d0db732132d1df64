use Rattle.std.proofs.Common.{drop, take}
use Rattle.vfs_world.proofs.Forgotten.{AreGoing, tokens_of}
use Rattle.vfs_world.proofs.forgetting.forget_carried.Given as goal

abbrev pub invariant-loop-handle : goal.invariant-loop-handle
invariant-loop-handle l =
    AreGoing l.initial.servers.items l.initial.endpoints (tokens_of (take l.handle-index l.handle-items)) (tokens_of (drop l.handle-index l.handle-items)) l.servers.items l.endpoints
