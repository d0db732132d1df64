use Rattle.vfs_world.specs.Running.{whole}
use Rattle.vfs_world.proofs.Serves.{next_told}
use Rattle.vfs_world.proofs.Worlds.{runs_inside, stands_inside}
use Rattle.vfs_world.proofs.world.World.next.Goals as goal

pub returns-clause-next : goal.returns-clause-next
returns-clause-next c = λ start journal stands.
    next_told (runs_inside c.self.inside c.self.view_is c.self.invariant stands.able).apart start journal (whole c.self.inside.session) c.next.result
    (stands_inside c.self.inside c.self.view_is start journal stands) c.next.ensures
