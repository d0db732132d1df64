use Rattle.std.proofs.Common.{◌≡◌, sym, subst, ◌∙◌}
use Rattle.link_frames.specs.Views.{frame_of}
use Rattle.fidl_wire.specs.Headers.{header_of}
use Rattle.io_client.specs.Calls.{Calls}
use Rattle.io_client.specs.Taking.{by_header, taking}
use Rattle.io_client.proofs.Passing.{by_reply}
use Rattle.io_client.proofs.client.Client.take_headed.Goals as goal

pub returns-in-Some-clause-takes : goal.returns-in-Some-clause-takes
returns-in-Some-clause-takes c =
    let header = c.in-Ok.header in
    subst (λ (v : Calls). (taking c.answer_to.result, record { waiting = c.remove.new.self; watched = c.self.inside.watched }) ≡ by_header v (frame_of c.args.frame) (header_of c.args.frame.bytes.now)) c.self.view_is
    (by_reply (record { waiting = c.self.inside.waiting; watched = c.self.inside.watched }) (frame_of c.args.frame) header c.in-Some.method (header_of c.args.frame.bytes.now) (taking c.answer_to.result) c.remove.new.self
    (sym c.read.ensures ∙ c.in-Ok.is) (λ same. c.if-header-event.false (same ∙ sym c.event.ensures.value)) (sym c.at.ensures ∙ c.in-Some.is) c.answer_to.ensures.takes c.remove.ensures)
