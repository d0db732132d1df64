use Rattle.std.proofs.Common.{◌≡◌, replicate}
use Rattle.std.specs.FinMap as finite
use Rattle.message_queues.proofs.heads.Heads.of_each.Given as goal

abbrev pub invariant-loop : goal.invariant-loop
invariant-loop l = l.heads.items ≡ replicate l.counter finite.empty
