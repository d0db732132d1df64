use Rattle.vfs_journal.specs.Starts.{start_of}
use Rattle.vfs_world.specs.Running.{whole}
use Rattle.vfs_world.proofs.Worlds.{begins_within}
use Rattle.vfs_world.proofs.world.World.new.Goals as goal

pub invariant_of-result : goal.invariant_of-result
invariant_of-result c = begins_within c.args.ordinals.distinct (start_of c.args.start.now) (whole c.in_ok-session.session) c.in_ok-session.ensures.stands
