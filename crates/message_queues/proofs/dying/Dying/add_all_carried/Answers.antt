use Rattle.std.proofs.Common.{[], ◌∷◌, subst, List}
use Rattle.std.proofs.lemmas.List.{take_all}
use Rattle.vfs_journal.specs.Entries.{Sent}
use Rattle.message_queues.specs.Steps.{Gathers}
use Rattle.message_queues.proofs.Gathered.{gathers_none, gathers_step}
use Rattle.message_queues.proofs.dying.Dying.add_all_carried.Goals as goal

pub loop-sent-init : goal.loop-sent-init
loop-sent-init c = gathers_none c.args.self.now

pub loop-sent-preserved : goal.loop-sent-preserved
loop-sent-preserved c =
    gathers_step c.args.entries.now c.loop-sent.sent-index c.sent-item.result c.args.self.now c.loop-sent.self c.add_carried.new.self c.loop-sent-test.true c.loop-sent.invariant
    (subst (λ (sent : Sent). Gathers (sent ∷ []) c.loop-sent.self c.add_carried.new.self) c.sent-item.is c.in_ok-add_carried.ensures)

pub returns : goal.returns
returns c = subst (λ (entries : List Sent). Gathers entries c.args.self.now c.loop-sent.self) (take_all c.loop-sent.sent-index c.args.entries.now c.loop-sent-test.false) c.loop-sent.invariant
