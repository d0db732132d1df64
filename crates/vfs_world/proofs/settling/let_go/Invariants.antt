use Rattle.std.proofs.Common.{◌≡◌, take}
use Rattle.vfs_journal.specs.View.{View}
use Rattle.vfs_server.specs.Holding.{HoldsAt}
use Rattle.vfs_world.specs.ServingSteps.{AreApart, without_in}
use Rattle.vfs_world.proofs.settling.let_go.Given as goal

abbrev pub invariant-loop-endpoint : goal.invariant-loop-endpoint
invariant-loop-endpoint l = record {
  index : l.server.index ≡ l.initial.server.index;
  gone : (view : View) → AreApart view.living → HoldsAt view l.initial.server → HoldsAt (without_in view (take l.endpoint-index l.dead)) l.server;
}
