use Rattle.std.proofs.Common.{◌≡◌, ℕ, arith, subst}
use Rattle.fidl_names.specs.declared.limits.TheConstants as limit
use Rattle.vfs_world.specs.Running.{whole}
use Rattle.message_queues.specs.Oldest.{IsBoundAt}
use Rattle.vfs_world.specs.Servings.{IsOldestAt, ServesTimes}
use Rattle.vfs_world.proofs.Halves.{begins_on}
use Rattle.vfs_world.proofs.OneMore.{never_idle, none_done, oldest_is_ready, one_more_done}
use Rattle.vfs_world.proofs.session.Session.turn.Goals as goal

pub loop-done-preserved : goal.loop-done-preserved
loop-done-preserved c =
    one_more_done (IsOldestAt c.args.server) c.loop-done.done c.in-Some.endpoint (whole c.args.self.now) (whole c.loop-done.self) (whole c.serve_head.new.self) c.args.outbox.now c.loop-done.outbox c.serve_head.new.outbox
    c.loop-done.invariant c.in-Some.ensures c.in_ok-serve_head.ensures.served c.in_ok-serve_head.ensures.running c.serve_head.ensures.begins

pub returns-in_err-serve_head-clause-idle : goal.returns-in_err-serve_head-clause-idle
returns-in_err-serve_head-clause-idle c =
    λ none. absurd (never_idle (λ queues. IsBoundAt queues c.args.server) c.loop-done.done c.in-Some.endpoint (whole c.args.self.now) (whole c.loop-done.self) c.args.outbox.now c.loop-done.outbox c.loop-done.invariant.serves none c.in-Some.ensures)

pub returns-in_default-clause-turned : goal.returns-in_default-clause-turned
returns-in_default-clause-turned c = let low = c.loop-done-test.true in record { most = omega (arith, low); serves = c.loop-done.invariant.serves; last = λ _. c.in_default.ensures }

pub loop-done-init : goal.loop-done-init
loop-done-init c = none_done (IsOldestAt c.args.server) (whole c.args.self.now) c.args.outbox.now

pub serve_head-requires-clause-running : goal.serve_head-requires-clause-running
serve_head-requires-clause-running c = c.loop-done.invariant.running limit.MAX_PLACES c.requires.running

pub serve_head-requires-clause-ready : goal.serve_head-requires-clause-ready
serve_head-requires-clause-ready c = oldest_is_ready c.loop-done.self.queues _ c.in-Some.endpoint c.in-Some.ensures

pub returns-in_err-serve_head-clause-begins : goal.returns-in_err-serve_head-clause-begins
returns-in_err-serve_head-clause-begins c = begins_on c.args.outbox.now c.loop-done.outbox c.serve_head.new.outbox c.loop-done.invariant.begins c.serve_head.ensures.begins

pub returns-in_default-clause-running : goal.returns-in_default-clause-running
returns-in_default-clause-running c = c.loop-done.invariant.running

pub returns-in_default-clause-begins : goal.returns-in_default-clause-begins
returns-in_default-clause-begins c = c.loop-done.invariant.begins

pub returns-clause-turned : goal.returns-clause-turned
returns-clause-turned c =
    let all : c.loop-done.done ≡ c.args.times = omega arith in
    record {
      most = omega arith;
      serves = subst (λ (n : ℕ). ServesTimes (IsOldestAt c.args.server) n (whole c.args.self.now) (whole c.loop-done.self) c.args.outbox.now c.loop-done.outbox) all c.loop-done.invariant.serves;
      last = λ fewer. absurd (omega (arith, fewer));
    }

pub returns-clause-running : goal.returns-clause-running
returns-clause-running c = c.loop-done.invariant.running

pub returns-clause-begins : goal.returns-clause-begins
returns-clause-begins c = c.loop-done.invariant.begins
