use Rattle.std.proofs.Common.{ap, arith}
use Rattle.vfs_world.specs.World.{World}
use Rattle.vfs_world.proofs.Worlds.{able_of, stands_inside}
use Rattle.vfs_world.proofs.world.World.kept.Goals as goal

pub kept-requires : goal.kept-requires
kept-requires c =
    let able = able_of c.self.inside c.self.view_is c.if-self.false in
    record { running = (_, (c.self.invariant c.if-self.false).0); known = let known = c.requires.server able in let same = ap (λ (w : World). w.queues.servers) c.self.view_is in omega (arith, known, same) }

pub returns-clause-kept : goal.returns-clause-kept
returns-clause-kept c = λ start journal stands. c.kept.ensures start journal (stands_inside c.self.inside c.self.view_is start journal stands)
