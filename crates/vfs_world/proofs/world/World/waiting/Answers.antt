use Rattle.std.proofs.Common.{◌∙◌, ap}
use Rattle.message_queues.specs.Queues.{count}
use Rattle.vfs_world.specs.World.{World}
use Rattle.vfs_world.proofs.Worlds.{as_many_wait}
use Rattle.vfs_world.proofs.world.World.waiting.Goals as goal

pub returns : goal.returns
returns c =
    let same = c.waiting.ensures ∙ ap (λ (w : World). count w.queues) c.self.view_is in
    record { count = same; waiting = λ start journal stands. same ∙ as_many_wait start c.args.self.now journal stands }
