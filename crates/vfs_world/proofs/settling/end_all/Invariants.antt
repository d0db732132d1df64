use Rattle.std.proofs.Common.{◌≡◌, fold, take}
use Rattle.link_admission.specs.Standings.{ended}
use Rattle.vfs_world.proofs.settling.end_all.Given as goal

abbrev pub invariant-loop-endpoint : goal.invariant-loop-endpoint
invariant-loop-endpoint l = l.endpoints ≡ fold ended l.initial.endpoints (take l.endpoint-index l.dead)
