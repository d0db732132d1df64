use Rattle.vfs_journal.specs.View.{View}
use Rattle.vfs_world.specs.Holding.{HoldsEach}
use Rattle.vfs_world.specs.ServingSteps.{AreApart}
use Rattle.vfs_world.proofs.AllGone.{AreHalfGone}
use Rattle.vfs_world.proofs.settling.let_all_go.Given as goal

abbrev pub invariant-loop-at : goal.invariant-loop-at
invariant-loop-at l = (view : View) → AreApart view.living → HoldsEach view l.initial.servers.items → AreHalfGone view l.dead l.at l.servers.items
