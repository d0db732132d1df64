use Rattle.std.proofs.Common.{◌≡◌, ◌+◌, List, ℕ, length, subst, arith}
use Rattle.std.specs.Prelude.{sum_by}
use Rattle.std.proofs.lemmas.List.{take_all}
use Rattle.message_queues.specs.Queues.{count, queue_of}
use Rattle.message_queues.specs.Dying.{Buries}
use Rattle.message_queues.proofs.Burials.{buries_none, buries_step, count_step}
use Rattle.message_queues.proofs.queues.Queues.close_all.Goals as goal

pub loop-endpoint-init : goal.loop-endpoint-init
loop-endpoint-init c = record { closed = buries_none c.args.self.now; len = omega arith }

pub loop-endpoint-preserved : goal.loop-endpoint-preserved
loop-endpoint-preserved c = record {
  closed = buries_step c.args.self.now c.loop-endpoint.self c.close.new.self c.args.dead.now c.loop-endpoint.endpoint-index c.loop-endpoint-test.true c.loop-endpoint.invariant.closed c.close.ensures.closed;
  len = count_step c.args.self.now c.loop-endpoint.self c.close.new.self c.args.dead.now c.loop-endpoint.endpoint-index c.loop-endpoint-test.true c.requires c.loop-endpoint.invariant.closed c.loop-endpoint.invariant.len c.close.ensures.len;
}

pub returns-clause-closed : goal.returns-clause-closed
returns-clause-closed c =
    subst (λ (dead : List ℕ). Buries c.args.self.now dead c.loop-endpoint.self) (take_all c.loop-endpoint.endpoint-index c.args.dead.now c.loop-endpoint-test.false) c.loop-endpoint.invariant.closed

pub returns-clause-len : goal.returns-clause-len
returns-clause-len c =
    subst (λ (dead : List ℕ). count c.loop-endpoint.self + sum_by (λ endpoint. length (queue_of c.args.self.now endpoint)) dead ≡ count c.args.self.now)
    (take_all c.loop-endpoint.endpoint-index c.args.dead.now c.loop-endpoint-test.false) c.loop-endpoint.invariant.len
