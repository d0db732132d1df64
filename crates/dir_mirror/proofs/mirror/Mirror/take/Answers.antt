use Rattle.std.proofs.Common.{rules}
use Rattle.link_frames.specs.Views.{frame_of}
use Rattle.dir_mirror.proofs.Copied.{given, takes}
use Rattle.dir_mirror.proofs.mirror.Mirror.take.Goals as goal

pub returns-in-Message-clause-taken : goal.returns-in-Message-clause-taken
returns-in-Message-clause-taken c = λ frames mirrors.
    given c.take_message.result c.take_message.ensures.good (λ good. c.take_message.ensures.taken good.0 good.1)
    (λ good taken. takes c.args.self.now c.take_message.new.self frames (frame_of c.args.frame) good.0 mirrors (search rules) (search rules) good.1 taken c.take_message.ensures.endpoint)
