use Rattle.std.proofs.Common.{drop, take}
use Rattle.vfs_world.proofs.Forgotten.{AreGoing}
use Rattle.vfs_world.proofs.forgetting.forget_all.Given as goal

abbrev pub invariant-loop-token : goal.invariant-loop-token
invariant-loop-token l = AreGoing l.initial.servers.items l.initial.endpoints (take l.token-index l.tokens) (drop l.token-index l.tokens) l.servers.items l.endpoints
