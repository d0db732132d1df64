use Rattle.std.proofs.Common.{◌∙◌, arith}
use Rattle.link_admission.proofs.Paged.{near_in_table, far_in_table, stands}
use Rattle.link_admission.proofs.pages.Pages.at.Goals as goal

pub returns-then-number-lt-NEAR : goal.returns-then-number-lt-NEAR
returns-then-number-lt-NEAR c =
    let near = c.self.inside.near.items in
    c.at_near.ensures ∙ stands (near_in_table near near c.self.inside.far.items c.args.number _ c.self.view_is c.ranges.number.fits (omega (arith, c.if-number-lt-NEAR.true)))

pub returns : goal.returns
returns c =
    let far = c.self.inside.far.items in
    c.at_far.ensures ∙ stands (far_in_table c.self.inside.near.items far far c.args.number _ c.self.view_is c.ranges.number.fits (omega (arith, c.if-number-lt-NEAR.false)))
