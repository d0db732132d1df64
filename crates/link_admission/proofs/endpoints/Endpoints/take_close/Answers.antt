use Rattle.std.proofs.Common.{◌≡◌, refl, sym, ap, ◌∙◌, subst, arith}
use Rattle.std.specs.Prelude.{unwrap_or}
use Rattle.link_admission.specs.declared.kinds.Standing.TheVariants as standing
use Rattle.link_admission.specs.Standings.{Known, standing_of, is_live, hung_up}
use Rattle.link_admission.specs.Tables.{value_at, weight}
use Rattle.link_admission.proofs.Tabled.{known_live, map-insert, same_known}
use Rattle.link_admission.proofs.endpoints.Endpoints.take_close.Goals as goal

pub change-requires-clause-known : goal.change-requires-clause-known
change-requires-clause-known c =
    let live = subst (λ (k : Known). standing_of k c.args.endpoint ≡ standing.Live) (sym c.self.view_is) c.requires.live in
    known_live (value_at c.self.inside.standings.entries c.args.endpoint) (ap is_live live)

pub change-requires-clause-no_more : goal.change-requires-clause-no_more
change-requires-clause-no_more c =
    let live = subst (λ (k : Known). standing_of k c.args.endpoint ≡ standing.Live) (sym c.self.view_is) c.requires.live in
    omega (arith, ap weight live)

pub returns : goal.returns
returns c =
    let n = c.args.endpoint in
    let old = c.self.inside.standings in
    let live = subst (λ (k : Known). standing_of k n ≡ standing.Live) (sym c.self.view_is) c.requires.live in
    let one : weight (unwrap_or (value_at old.entries n) standing.Unused) ≡ 1 = ap weight live in
    let standings = map-insert old.entries c.change.new.self.entries n standing.HungUp c.change.ensures.changed in
    let same : c.change.new.self.live ≡ old.live = omega (arith, one, c.change.ensures.live) in
    let done = same_known _ _ _ _ _ _ _ _ _ _ _ _ _ standings refl same refl refl refl in
    done ∙ ap (λ (k : Known). hung_up k n) c.self.view_is
