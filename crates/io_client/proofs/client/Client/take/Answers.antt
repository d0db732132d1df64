use Rattle.std.proofs.Common.{◌≡◌, sym, subst}
use Rattle.link_frames.specs.Views.{frame_of}
use Rattle.link_frames.specs.declared.kinds.FrameKind.{FrameKind}
use Rattle.io_client.specs.Taking.{calls_behind, taking}
use Rattle.io_client.proofs.Passing.{behind_taken}
use Rattle.io_client.proofs.client.Client.take.Goals as goal

pub returns-in-Message-clause-calls : goal.returns-in-Message-clause-calls
returns-in-Message-clause-calls c =
    subst (λ (k : FrameKind). c.take_message.new.self ≡ calls_behind k c.args.self.now (frame_of c.args.frame)) (sym c.in-Message.is)
    (behind_taken c.args.self.now c.take_message.new.self (frame_of c.args.frame) (taking c.take_message.result) c.take_message.ensures.takes)
