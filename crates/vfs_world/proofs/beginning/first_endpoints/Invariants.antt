use Rattle.std.proofs.Common.{◌≡◌, map, take}
use Rattle.vfs_journal.specs.Starts.{Bound, start_of}
use Rattle.vfs_world.proofs.beginning.first_endpoints.Given as goal

abbrev pub invariant-loop-item : goal.invariant-loop-item
invariant-loop-item l = l.endpoints.items ≡ map (λ (bound : Bound). bound.endpoint) (take l.item (start_of l.start).firsts)
