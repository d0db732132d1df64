use Rattle.message_queues.proofs.Served.{IsLeastBelow}
use Rattle.message_queues.proofs.queues.Queues.next.Given as goal

abbrev pub invariant-loop-heads : goal.invariant-loop-heads
invariant-loop-heads l = IsLeastBelow l.heads-items l.heads-index l.oldest
