use Rattle.std.proofs.Common.{◌≡◌, ◌+◌, length, take}
use Rattle.std.specs.Prelude.{sum_by}
use Rattle.message_queues.specs.Queues.{count, queue_of}
use Rattle.message_queues.specs.Dying.{Buries}
use Rattle.message_queues.proofs.queues.Queues.close_all.Given as goal

abbrev pub invariant-loop-endpoint : goal.invariant-loop-endpoint
invariant-loop-endpoint l = record {
  closed : Buries l.fn.self (take l.endpoint-index l.dead) l.self;
  len : count l.self + sum_by (λ endpoint. length (queue_of l.fn.self endpoint)) (take l.endpoint-index l.dead) ≡ count l.fn.self;
}
