use Rattle.std.proofs.Common.{true, refl, ap, ◌∙◌}
use Rattle.link_admission.specs.Standings.{given}
use Rattle.link_admission.proofs.Tabled.{map-insert, same_known}
use Rattle.link_admission.proofs.endpoints.Endpoints.give_token.Goals as goal

pub returns-clause-given : goal.returns-clause-given
returns-clause-given c =
    let old = c.self.inside.tokens in
    let tokens = map-insert old.entries c.give.new.self.entries old.next true c.in_ok-give.ensures.given in
    let done = same_known _ _ _ _ _ _ _ _ _ _ _ _ _ refl tokens refl c.in_ok-give.ensures.count c.in_ok-give.ensures.next refl in
    done ∙ ap given c.self.view_is
