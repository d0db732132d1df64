use Rattle.std.proofs.Common.{ℕ, ◌-◌}
use Rattle.fidl_names.specs.declared.limits.TheConstants as limit
use Rattle.vfs_world.specs.Running.{whole}
use Rattle.vfs_world.specs.Servings.{IsOldestOfAll}
use Rattle.vfs_world.proofs.OneMore.{AreDone}
use Rattle.vfs_world.proofs.session.Session.drain.Given as goal

abbrev pub invariant-loop-endpoint : goal.invariant-loop-endpoint
invariant-loop-endpoint l = (done : ℕ) × AreDone IsOldestOfAll done (whole l.initial.self) (whole l.self) l.initial.outbox l.outbox

abbrev pub decreases-loop-endpoint : goal.decreases-loop-endpoint
decreases-loop-endpoint l = limit.MAX_PLACES - l.self.places
