use Rattle.std.proofs.Common.{sym, ap, ◌∙◌}
use Rattle.link_frames.specs.Views.{frame_of}
use Rattle.fidl_wire.specs.Headers.{header_of}
use Rattle.io_client.specs.Calls.{Calls, answered_at}
use Rattle.io_client.proofs.Passing.{by_head}
use Rattle.io_client.proofs.client.Client.pass_headed.Goals as goal

pub returns-then-ordinal-event : goal.returns-then-ordinal-event
returns-then-ordinal-event c =
    let header = c.in-Ok.header in
    (λ i. record { waiting = c.remove.ensures i; watched = c.self.inside.watched })
    ∙ (ap (λ (v : Calls). answered_at v c.args.frame.endpoint header.txid) c.self.view_is
    ∙ by_head c.args.self.now (frame_of c.args.frame) header (header_of c.args.frame.bytes.now) (sym c.read.ensures ∙ c.in-Ok.is)
    (λ same. c.if-ordinal-event.true (same ∙ sym c.event.ensures.value)))
