use Rattle.std.proofs.Common.{◌≡◌, ◌∙◌, List, [], sym, ap, subst}
use Rattle.std.specs.Prelude.{OnOk}
use Rattle.vfs_journal.specs.Entries.{Sent}
use Rattle.message_queues.specs.Queues.{Queues, queue_of}
use Rattle.message_queues.specs.Steps.{Gathers}
use Rattle.message_queues.proofs.Changed.{found, queue_in}
use Rattle.message_queues.proofs.Gathered.{gathers_none}
use Rattle.message_queues.proofs.queues.Queues.add_carried.Goals as goal

pub returns-in-Some : goal.returns-in-Some
returns-in-Some c =
    let queue : c.in-Some.mailbox.now.queue ≡ queue_of c.args.self.now c.args.endpoint =
    ap queue_in (c.in-Some.ensures.value ∙ sym (found c.self.inside.boxes.entries c.args.endpoint)) ∙ ap (λ (queues : Queues). queue_of queues c.args.endpoint) c.self.view_is in
    subst (λ (entries : List Sent). OnOk c.add_carried.result (Gathers entries c.args.dying.now c.add_carried.new.dying)) queue c.add_carried.ensures

pub returns-in-None : goal.returns-in-None
returns-in-None c =
    let queue : [] ≡ queue_of c.args.self.now c.args.endpoint =
    ap queue_in (c.in-None.ensures.value ∙ sym (found c.self.inside.boxes.entries c.args.endpoint)) ∙ ap (λ (queues : Queues). queue_of queues c.args.endpoint) c.self.view_is in
    subst (λ (entries : List Sent). Gathers entries c.args.dying.now c.args.dying.now) queue (gathers_none c.args.dying.now)
