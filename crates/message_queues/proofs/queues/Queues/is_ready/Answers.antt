use Rattle.std.proofs.Common.{sym, subst}
use Rattle.std.specs.Prelude.{◌↔◌, IsTrue, false}
use Rattle.message_queues.specs.Queues.{IsReady, Queues}
use Rattle.message_queues.proofs.Sound.{ready_by, ready_none, ready_there}
use Rattle.message_queues.proofs.queues.Queues.is_ready.Goals as goal

pub returns-in-Some : goal.returns-in-Some
returns-in-Some c =
    let boxes = c.self.inside.boxes in
    let there = sym c.in-Some.ensures.value in
    subst (λ (queues : Queues). IsTrue c.is_ready.result ↔ IsReady queues c.args.endpoint) c.self.view_is (
      λ ready. ready_by boxes c.args.endpoint c.self.inside.servers c.in-Some.mailbox.now there (c.is_ready.ensures.0 ready),
      λ ready. c.is_ready.ensures.1 (ready_there boxes c.args.endpoint c.self.inside.servers c.in-Some.mailbox.now there ready),
    )

pub returns-in-None : goal.returns-in-None
returns-in-None c =
    subst (λ (queues : Queues). IsTrue false ↔ IsReady queues c.args.endpoint) c.self.view_is (
      λ wrong. absurd (cc),
      λ ready. absurd (ready_none c.self.inside.boxes c.args.endpoint c.self.inside.servers (sym c.in-None.ensures.value) ready),
    )
