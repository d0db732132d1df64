use Rattle.std.proofs.Common.{◌∙◌, ap}
use Rattle.link_admission.specs.Standings.{standing_of}
use Rattle.vfs_world.specs.World.{World}
use Rattle.vfs_world.proofs.world.World.standing.Goals as goal

pub returns : goal.returns
returns c =
    let same = c.standing.ensures ∙ ap (λ (w : World). standing_of w.known c.args.endpoint) c.self.view_is in
    record { known = same; standing = λ start journal stands. same ∙ stands.knows.standing c.args.endpoint }
