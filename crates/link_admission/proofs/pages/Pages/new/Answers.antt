use Rattle.std.proofs.Common.{◌^◌, cond, ltb, ap, ◌∙◌}
use Rattle.std.specs.Prelude.{None}
use Rattle.link_admission.specs.declared.kinds.Standing.{Standing}
use Rattle.link_admission.specs.Pages.{in_pages, noted}
use Rattle.link_admission.proofs.Paged.{get-noted_below, nothing, nowhere}
use Rattle.link_admission.proofs.pages.Pages.new.Goals as goal

pub returns : goal.returns
returns c = λ q.
    let near = c.new.result.items in
    let far = c.new-2.result.items in
    get-noted_below (in_pages near far) (2 ^ 32) q
    ∙ (ap (λ (s : Standing). cond (ltb q (2 ^ 32)) (noted s) None) (nowhere near far q c.new.ensures.items c.new-2.ensures.items)
    ∙ nothing (ltb q (2 ^ 32)))
