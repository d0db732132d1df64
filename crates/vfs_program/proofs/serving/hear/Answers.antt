use Rattle.link_frames.specs.Views.{frame_of}
use Rattle.vfs_program.proofs.TreeLemmas.{hears}
use Rattle.vfs_program.proofs.serving.hear.Goals as goal

pub returns-clause-heard : goal.returns-clause-heard
returns-clause-heard c = λ start before behind.
    hears start c.args.mode c.args.world.now c.hear.new.self before (frame_of c.args.frame)
    c.args.outbox.now c.hear.new.outbox (c.in_ok-hear.ensures.heard start) behind
