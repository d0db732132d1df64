use Rattle.std.proofs.Common.{◌≡◌, ◌⊎◌, ◌∙◌, arith, inl, inr, subst, ⊎_elim}
use Rattle.std.specs.Prelude.{IsSome, Option}
use Rattle.link_admission.specs.declared.kinds.Standing.{Standing}
use Rattle.link_admission.specs.declared.kinds.Standing.TheVariants as standing
use Rattle.link_admission.proofs.Paged.{has_page, near_in_table, far_in_table, stands}
use Rattle.link_admission.proofs.pages.Pages.replace.Goals as goal

pub replace_near-requires : goal.replace_near-requires
replace_near-requires c =
    let n = c.args.number in
    let near = c.self.inside.near.items in
    let there = near_in_table near near c.self.inside.far.items n _ c.self.view_is c.ranges.number.fits (omega (arith, c.if-number-lt-NEAR.true)) in
    record {
      known =
          ⊎_elim
          (λ some. inl (has_page near n (subst (λ (o : Option Standing). IsSome o) there.known some)))
          (λ (unused : c.args.standing ≡ standing.Unused). inr unused)
          c.requires.known;
    }

pub returns-then-number-lt-NEAR-clause-was : goal.returns-then-number-lt-NEAR-clause-was
returns-then-number-lt-NEAR-clause-was c =
    let near = c.self.inside.near.items in
    c.replace_near.ensures.was ∙ stands (near_in_table near near c.self.inside.far.items c.args.number _ c.self.view_is c.ranges.number.fits (omega (arith, c.if-number-lt-NEAR.true)))

pub returns-then-number-lt-NEAR-clause-is : goal.returns-then-number-lt-NEAR-clause-is
returns-then-number-lt-NEAR-clause-is c =
    let there = near_in_table c.self.inside.near.items c.replace_near.new.near.items c.self.inside.far.items c.args.number _ c.self.view_is c.ranges.number.fits (omega (arith, c.if-number-lt-NEAR.true)) in
    there.changes c.args.standing c.replace_near.ensures.is

pub replace_far-requires : goal.replace_far-requires
replace_far-requires c =
    let far = c.self.inside.far.items in
    let there = far_in_table c.self.inside.near.items far far c.args.number _ c.self.view_is c.ranges.number.fits (omega (arith, c.if-number-lt-NEAR.false)) in
    record { known = subst (λ (o : Option Standing). IsSome o ⊎ (c.args.standing ≡ standing.Unused)) there.known c.requires.known }

pub returns-clause-was : goal.returns-clause-was
returns-clause-was c =
    let far = c.self.inside.far.items in
    c.replace_far.ensures.was ∙ stands (far_in_table c.self.inside.near.items far far c.args.number _ c.self.view_is c.ranges.number.fits (omega (arith, c.if-number-lt-NEAR.false)))

pub returns-clause-is : goal.returns-clause-is
returns-clause-is c =
    let there = far_in_table c.self.inside.near.items c.self.inside.far.items c.replace_far.new.far.items c.args.number _ c.self.view_is c.ranges.number.fits (omega (arith, c.if-number-lt-NEAR.false)) in
    there.changes c.args.standing c.replace_far.ensures.is
