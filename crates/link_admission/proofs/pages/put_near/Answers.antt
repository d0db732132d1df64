use Rattle.std.proofs.Common.{◌≡◌, ◌∙◌, ◌+◌, ℕ, Global, List, Vec, ap, arith, cond, eqb}
use Rattle.link_admission.specs.declared.page.Page.{Page}
use Rattle.link_admission.specs.Pages.{in_near}
use Rattle.link_admission.proofs.Paged.{same_more}
use Rattle.link_admission.proofs.pages.put_near.Goals as goal
use Rattle.link_admission.proofs.pages.put_near.Goals.{then-index-len+in_ok-resize, else-index-len}

pub returns-clause-put : goal.returns-clause-put
returns-clause-put c =
    let near : List Page = c.args.near.now.items in
    let same : (q : ℕ) → in_near c.if-index-len.near.items q ≡ in_near near q =
    λ q. elim c.if-index-len.branch [
      | then-index-len+in_ok-resize w ↦ ap (λ (pages : Vec Page Global). in_near pages.items q) w.near-is
          ∙ (ap (λ (pages : List Page). in_near pages q) w.in_ok-resize.ensures.items
          ∙ same_more near (c.page_of-index.result + 1) _ w.new.result (omega (arith, w.if-index-len.true, c.len.ensures, c.args.near.now.ok.0)) w.new.ensures.unused q)
      | else-index-len w ↦ ap (λ (pages : Vec Page Global). in_near pages.items q) w.near-is
    ] in
    λ q. c.replace_near.ensures.is q ∙ ap (cond (eqb q c.args.number) c.args.standing) (same q)
