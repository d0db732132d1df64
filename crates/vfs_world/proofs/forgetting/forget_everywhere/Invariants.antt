use Rattle.vfs_world.proofs.Forgotten.{AreHalfForgotten}
use Rattle.vfs_world.proofs.forgetting.forget_everywhere.Given as goal

abbrev pub invariant-loop-at : goal.invariant-loop-at
invariant-loop-at l = AreHalfForgotten l.initial.servers.items l.token l.at l.servers.items
