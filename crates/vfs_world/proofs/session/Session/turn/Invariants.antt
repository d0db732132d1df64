use Rattle.vfs_world.specs.Running.{whole}
use Rattle.vfs_world.specs.Servings.{IsOldestAt}
use Rattle.vfs_world.proofs.OneMore.{AreDone}
use Rattle.vfs_world.proofs.session.Session.turn.Given as goal

abbrev pub invariant-loop-done : goal.invariant-loop-done
invariant-loop-done l = AreDone (IsOldestAt l.server) l.done (whole l.initial.self) (whole l.self) l.initial.outbox l.outbox
