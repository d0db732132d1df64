use Rattle.vfs_world.specs.Running.{whole}
use Rattle.vfs_world.proofs.Serves.{oldest_told}
use Rattle.vfs_world.proofs.Worlds.{runs_inside, stands_inside}
use Rattle.vfs_world.proofs.world.World.oldest.Goals as goal

pub returns-clause-oldest : goal.returns-clause-oldest
returns-clause-oldest c = λ start journal stands.
    oldest_told (runs_inside c.self.inside c.self.view_is c.self.invariant stands.able).apart start journal (whole c.self.inside.session) c.args.server c.oldest.result
    (stands_inside c.self.inside c.self.view_is start journal stands) c.oldest.ensures
