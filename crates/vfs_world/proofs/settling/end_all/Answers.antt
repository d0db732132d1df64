use Rattle.std.proofs.Common.{◌≡◌, true, get_or, sym, subst}
use Rattle.link_admission.specs.Standings.{Known, is_live, standing_of}
use Rattle.vfs_world.proofs.Ending.{still_live}
use Rattle.vfs_world.proofs.settling.end_all.Goals as goal

pub ended-requires : goal.ended-requires
ended-requires c =
    subst (λ (k : Known). is_live (standing_of k (get_or c.args.dead.now c.loop-endpoint.endpoint-index 0)) ≡ true) (sym c.loop-endpoint.invariant)
    (still_live c.args.endpoints.now c.args.dead.now c.loop-endpoint.endpoint-index c.loop-endpoint-test.true c.requires.live c.requires.once)
