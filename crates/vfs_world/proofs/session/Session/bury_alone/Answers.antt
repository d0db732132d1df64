use Rattle.std.proofs.Common.{◌≡◌, ◌∷◌, [], true, refl}
use Rattle.std.proofs.lemmas.List.Elements.{All-head}
use Rattle.link_admission.specs.Standings.{is_live, standing_of}
use Rattle.vfs_world.proofs.session.Session.bury_alone.Goals as goal

pub ended-requires : goal.ended-requires
ended-requires c =
    All-head (λ endpoint. is_live (standing_of c.args.self.now.endpoints endpoint) ≡ true) c.args.end []
    (c.requires.live (c.args.end ∷ []) (c.if-not-bury_alone.ensures.died refl))
