use Rattle.std.proofs.Common.{◌≡◌, ◌∙◌, ◌∷◌, [], sym, true}
use Rattle.std.proofs.lemmas.List.Elements.{All-head}
use Rattle.link_admission.specs.Standings.{is_live, standing_of}
use Rattle.vfs_world.specs.Running.{whole}
use Rattle.vfs_world.proofs.Unbound.{alone, dies_unbound}
use Rattle.vfs_world.proofs.session.Session.bury_unbound.Goals as goal

pub ended-requires : goal.ended-requires
ended-requires c =
    All-head (λ endpoint. is_live (standing_of c.args.self.now.endpoints endpoint) ≡ true) c.args.object []
    (c.requires.live (c.args.object ∷ []) (alone c.args.self.now.queues c.args.object (sym c.len.ensures.len ∙ c.if-len-ne0.false)))

pub returns-clause-alone : goal.returns-clause-alone
returns-clause-alone c = λ is.
    dies_unbound (whole c.args.self.now) c.ended.new.self c.args.object (sym c.len.ensures.len ∙ c.if-len-ne0.false) c.requires.unbound c.ended.ensures
