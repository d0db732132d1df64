use Rattle.std.proofs.Common.{◌≡◌, ◌-◌, false, refl, sym, ap, ◌∙◌, subst, arith}
use Rattle.std.specs.Prelude.{Some, IsSome}
use Rattle.std.specs.FinMap as map
use Rattle.link_admission.specs.Standings.{Known, gone}
use Rattle.link_admission.proofs.Tabled.{map-remove, same_known}
use Rattle.link_admission.proofs.endpoints.Endpoints.token_gone.Goals as goal

pub forget-requires : goal.forget-requires
forget-requires c =
    let travels = subst (λ (k : Known). map.get k.tokens c.args.token ≡ Some false) (sym c.self.view_is) c.requires in
    subst IsSome (sym travels) refl

pub returns : goal.returns
returns c =
    let n = c.args.token in
    let old = c.self.inside.tokens in
    let tokens = map-remove old.entries c.forget.new.self.entries n c.forget.ensures.changed in
    let less : c.forget.new.self.out ≡ old.out - 1 = omega (arith, c.forget.ensures.count) in
    let done = same_known _ _ _ _ _ _ _ _ _ _ _ _ _ refl tokens refl less c.forget.ensures.next refl in
    done ∙ ap (λ (k : Known). gone k n) c.self.view_is
