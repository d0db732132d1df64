use Rattle.std.proofs.Common.{◌≡◌, ◌-◌, true, refl, sym, ap, ◌∙◌, subst, arith}
use Rattle.std.specs.Prelude.{unwrap_or}
use Rattle.link_admission.specs.declared.kinds.Standing.{Standing}
use Rattle.link_admission.specs.declared.kinds.Standing.TheVariants as standing
use Rattle.link_admission.specs.Standings.{Known, standing_of, is_live, ended}
use Rattle.link_admission.specs.Tables.{value_at, weight}
use Rattle.link_admission.proofs.Tabled.{known_live, map-insert, same_known}
use Rattle.link_admission.proofs.endpoints.Endpoints.ended.Goals as goal

weight_live : (s : Standing) → is_live s ≡ true → weight s ≡ 1
weight_live standing.Unused h = cc
weight_live standing.Live h = refl
weight_live standing.HungUp h = refl
weight_live standing.Dead h = cc

pub change-requires-clause-known : goal.change-requires-clause-known
change-requires-clause-known c =
    let live = subst (λ (k : Known). is_live (standing_of k c.args.endpoint) ≡ true) (sym c.self.view_is) c.requires in
    known_live (value_at c.self.inside.standings.entries c.args.endpoint) live

pub returns : goal.returns
returns c =
    let n = c.args.endpoint in
    let old = c.self.inside.standings in
    let live = subst (λ (k : Known). is_live (standing_of k n) ≡ true) (sym c.self.view_is) c.requires in
    let one = weight_live (unwrap_or (value_at old.entries n) standing.Unused) live in
    let standings = map-insert old.entries c.change.new.self.entries n standing.Dead c.change.ensures.changed in
    let less : c.change.new.self.live ≡ old.live - 1 = omega (arith, one, c.change.ensures.live) in
    let done = same_known _ _ _ _ _ _ _ _ _ _ _ _ _ standings refl less refl refl refl in
    done ∙ ap (λ (k : Known). ended k n) c.self.view_is
