use Rattle.std.proofs.Common.{◌-◌, ◌^◌}
use Rattle.message_queues.proofs.Gathered.{IsGathered}
use Rattle.message_queues.proofs.queues.Queues.deaths.Given as goal

abbrev pub invariant-loop-endpoint : goal.invariant-loop-endpoint
invariant-loop-endpoint l = IsGathered l.self l.fn.firsts.items l.dying l.index

abbrev pub decreases-loop-endpoint : goal.decreases-loop-endpoint
decreases-loop-endpoint l = 2 ^ 32 - l.index
