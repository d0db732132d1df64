use Rattle.std.proofs.Common.{sym, ap, ◌∙◌}
use Rattle.link_frames.specs.Views.{frame_of}
use Rattle.io_client.specs.Calls.{Calls, is_watched}
use Rattle.io_client.proofs.Passing.{behind_epitaph, behind_other, behind_watched}
use Rattle.io_client.proofs.client.Client.pass_message.Goals as goal

pub returns-then-has : goal.returns-then-has
returns-then-has c =
    behind_watched c.args.self.now (frame_of c.args.frame)
    (sym (ap (λ (v : Calls). is_watched v c.args.frame.endpoint) c.self.view_is) ∙ (sym c.has.ensures ∙ c.if-has.true))

pub returns-in-Some : goal.returns-in-Some
returns-in-Some c = behind_epitaph c.args.self.now (frame_of c.args.frame) c.in-Some.field-0 (sym c.read_epitaph.ensures ∙ c.in-Some.is)

pub returns : goal.returns
returns c =
    behind_other c.args.self.now c.pass_headed.new.self (frame_of c.args.frame)
    (sym (ap (λ (v : Calls). is_watched v c.args.frame.endpoint) c.self.view_is) ∙ (sym c.has.ensures ∙ c.if-has.false))
    (λ status is. c.in_default.not-Some status (c.read_epitaph.ensures ∙ is)) c.pass_headed.ensures
