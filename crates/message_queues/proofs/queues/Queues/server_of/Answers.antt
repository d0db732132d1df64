use Rattle.std.proofs.Common.{◌∙◌, ap, sym}
use Rattle.message_queues.specs.Queues.{Queues, server_of}
use Rattle.message_queues.proofs.Changed.{found, server_in}
use Rattle.message_queues.proofs.queues.Queues.server_of.Goals as goal

pub returns-in-Some : goal.returns-in-Some
returns-in-Some c =
    c.server.ensures ∙ ap server_in (c.in-Some.ensures.value ∙ sym (found c.self.inside.boxes.entries c.args.endpoint)) ∙ ap (λ (queues : Queues). server_of queues c.args.endpoint) c.self.view_is

pub returns-in-None : goal.returns-in-None
returns-in-None c =
    ap server_in (c.in-None.ensures.value ∙ sym (found c.self.inside.boxes.entries c.args.endpoint)) ∙ ap (λ (queues : Queues). server_of queues c.args.endpoint) c.self.view_is
