use Rattle.std.proofs.Common.{◌≡◌, not, filter, take}
use Rattle.vfs_world.specs.ServingSteps.{is_it}
use Rattle.vfs_world.proofs.closing.deaths_but.Given as goal

abbrev pub invariant-loop-death : goal.invariant-loop-death
invariant-loop-death l = l.others.items ≡ filter (λ number. not (is_it l.one number)) (take l.death-index l.dead)
