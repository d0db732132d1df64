use Rattle.std.proofs.Common.{◌≡◌, ◌+◌, refl}
use Rattle.fidl_names.specs.declared.limits.TheConstants as limit
use Rattle.vfs_world.specs.Running.{whole}
use Rattle.message_queues.specs.Oldest.{IsBound}
use Rattle.vfs_world.specs.Servings.{IsOldestOfAll}
use Rattle.vfs_world.proofs.Answered.{some_is}
use Rattle.vfs_world.proofs.Halves.{begins_on}
use Rattle.vfs_world.proofs.OneMore.{fewer_left, never_idle, none_done, one_more_done}
use Rattle.vfs_world.proofs.session.Session.drain.Goals as goal

pub loop-endpoint-smaller : goal.loop-endpoint-smaller
loop-endpoint-smaller c =
    fewer_left (λ one. one ≡ c.in-Some.endpoint) limit.MAX_PLACES (whole c.loop-endpoint.self) (whole c.serve_head.new.self) c.loop-endpoint.outbox c.serve_head.new.outbox
    c.in_ok-serve_head.ensures.served (c.in_ok-serve_head.ensures.running limit.MAX_PLACES (c.loop-endpoint.invariant.1.running limit.MAX_PLACES c.requires.running))

pub loop-endpoint-preserved : goal.loop-endpoint-preserved
loop-endpoint-preserved c = (
  c.loop-endpoint.invariant.0 + 1,
  one_more_done IsOldestOfAll c.loop-endpoint.invariant.0 c.in-Some.endpoint (whole c.args.self.now) (whole c.loop-endpoint.self) (whole c.serve_head.new.self) c.args.outbox.now c.loop-endpoint.outbox c.serve_head.new.outbox
      c.loop-endpoint.invariant.1 c.in-Some.ensures c.in_ok-serve_head.ensures.served c.in_ok-serve_head.ensures.running c.serve_head.ensures.begins,
)

pub returns-in_err-serve_head-clause-idle : goal.returns-in_err-serve_head-clause-idle
returns-in_err-serve_head-clause-idle c =
    λ none. absurd (never_idle IsBound c.loop-endpoint.invariant.0 c.in-Some.endpoint (whole c.args.self.now) (whole c.loop-endpoint.self) c.args.outbox.now c.loop-endpoint.outbox c.loop-endpoint.invariant.1.serves none c.in-Some.ensures)

pub returns-clause-drained : goal.returns-clause-drained
returns-clause-drained c = record { done = c.loop-endpoint.invariant.0; serves = c.loop-endpoint.invariant.1.serves; last = c.in_default.ensures }

pub loop-endpoint-init : goal.loop-endpoint-init
loop-endpoint-init c = (0, none_done IsOldestOfAll (whole c.args.self.now) c.args.outbox.now)

pub serve_head-requires-clause-running : goal.serve_head-requires-clause-running
serve_head-requires-clause-running c = c.loop-endpoint.invariant.1.running limit.MAX_PLACES c.requires.running

pub serve_head-requires-clause-ready : goal.serve_head-requires-clause-ready
serve_head-requires-clause-ready c = (c.in-Some.ensures.one_of, some_is _ _ c.in-Some.ensures.waits)

pub returns-in_err-serve_head-clause-begins : goal.returns-in_err-serve_head-clause-begins
returns-in_err-serve_head-clause-begins c = begins_on c.args.outbox.now c.loop-endpoint.outbox c.serve_head.new.outbox c.loop-endpoint.invariant.1.begins c.serve_head.ensures.begins

pub returns-clause-idle : goal.returns-clause-idle
returns-clause-idle c = λ none. refl

pub returns-clause-running : goal.returns-clause-running
returns-clause-running c = c.loop-endpoint.invariant.1.running

pub returns-clause-begins : goal.returns-clause-begins
returns-clause-begins c = c.loop-endpoint.invariant.1.begins
