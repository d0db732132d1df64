use Rattle.std.proofs.Common.{arith}
use Rattle.vfs_world.specs.Running.{whole}
use Rattle.vfs_world.proofs.KeptNodes.{count_low, counted_there, is_there}
use Rattle.vfs_world.proofs.session.Session.kept.Goals as goal

pub index-requires : goal.index-requires
index-requires c = let low = is_there (whole c.args.self.now) c.requires.running c.args.server c.requires.known in omega (arith, low)

pub overflow_cast-result : goal.overflow_cast-result
overflow_cast-result c =
    let low = count_low (whole c.args.self.now) c.requires.running c.args.server c.requires.known c.index.result.now c.kept.result c.index.ensures c.kept.ensures.few in
    omega (arith, low)

pub returns : goal.returns
returns c =
    λ start journal stands.
    counted_there (whole c.args.self.now) c.requires.running c.args.server c.requires.known start journal stands c.index.result.now c.kept.result c.index.ensures c.kept.ensures.kept
