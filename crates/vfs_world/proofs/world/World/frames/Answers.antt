use Rattle.vfs_world.proofs.Worlds.{stands_for_one}
use Rattle.vfs_world.proofs.world.World.frames.Goals as goal

pub returns-clause-stands : goal.returns-clause-stands
returns-clause-stands c = stands_for_one c.self.inside c.self.view_is c.self.invariant
