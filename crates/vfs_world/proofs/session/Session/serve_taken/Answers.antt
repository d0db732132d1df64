use Rattle.std.proofs.Common.{refl}
use Rattle.vfs_world.specs.Running.{whole}
use Rattle.vfs_world.proofs.Halves.{begins_on, one_served, serves_taken}
use Rattle.vfs_world.proofs.Ready.{can_settle}
use Rattle.vfs_world.proofs.session.Session.serve_taken.Goals as goal

pub settle_head-requires : goal.settle_head-requires
settle_head-requires c =
    let taken = c.requires.taken in
    record { can = can_settle taken.0 (whole c.answer_taken.new.self) taken.1.0 _ _ _ _ _ _ (c.in_ok-fate.ensures.taken taken.0 taken.1.1) }

pub returns-in_err-settle_head-clause-begins : goal.returns-in_err-settle_head-clause-begins
returns-in_err-settle_head-clause-begins c = begins_on c.args.outbox.now c.answer_taken.new.outbox c.settle_head.new.outbox c.answer_taken.ensures.begins c.settle_head.ensures.begins

pub returns-clause-served : goal.returns-clause-served
returns-clause-served c =
    serves_taken c.args.endpoint c.args.server c.args.sent.now (whole c.args.self.now) (whole c.settle_head.new.self) c.args.outbox.now c.settle_head.new.outbox (λ from run takes.
    one_served from (whole c.answer_taken.new.self) (whole c.settle_head.new.self) (whole c.settle_head.new.self) run _ _ _ _ _ _ _ (c.in_ok-fate.ensures.taken from takes)
    c.in_ok-settle_head.ensures.settled refl refl)

pub returns-clause-begins : goal.returns-clause-begins
returns-clause-begins c = begins_on c.args.outbox.now c.answer_taken.new.outbox c.settle_head.new.outbox c.answer_taken.ensures.begins c.settle_head.ensures.begins
