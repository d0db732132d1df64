use Rattle.link_frames.specs.Views.{frame_of}
use Rattle.io_client.proofs.Passing.{behind_quiet}
use Rattle.io_client.proofs.client.Client.pass.Goals as goal

pub returns-in_default : goal.returns-in_default
returns-in_default c =
    record { passes = behind_quiet c.args.frame.kind c.args.self.now (frame_of c.args.frame) c.in_default.not-Message }
