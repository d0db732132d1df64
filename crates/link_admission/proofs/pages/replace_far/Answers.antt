use Rattle.std.proofs.Common.{◌≡◌, ◌%◌, ◌∙◌, ℕ, ap, cond, eqb, sym}
use Rattle.link_admission.specs.declared.page.Page.{Page}
use Rattle.link_admission.specs.declared.kinds.Standing.TheVariants as standing
use Rattle.link_admission.specs.Pages.{in_far, in_levels, in_page, unused_page}
use Rattle.link_admission.proofs.Paged.{forgets, puts_far, unused_stands}
use Rattle.link_admission.proofs.pages.replace_far.Goals as goal

-- a number of a page without used numbers wasn't used
unused : (c : goal.Then-is_unused) → in_far c.args.far.now.items c.args.number ≡ standing.Unused
unused c =
    let page : c.page_at-page.result ≡ unused_page = c.is_unused.ensures.0 c.if-is_unused.true in
    ap (λ (k : ℕ). in_page (in_levels c.args.far.now.items k) c.args.number) (sym c.page_of-index.ensures)
    ∙ (ap (λ (p : Page). in_page p c.args.number) (sym c.page_at-page.ensures ∙ page) ∙ unused_stands c.args.number)

pub returns-then-is_unused-clause-was : goal.returns-then-is_unused-clause-was
returns-then-is_unused-clause-was c = sym (unused c)

pub returns-then-is_unused-clause-is : goal.returns-then-is_unused-clause-is
returns-then-is_unused-clause-is c = forgets (in_far c.args.far.now.items) c.args.number c.args.standing (unused c) c.requires.known

pub returns-clause-was : goal.returns-clause-was
returns-clause-was c =
    c.replace-was.ensures.was ∙ (ap (λ (p : Page). in_page p c.args.number) c.page_at-page.ensures ∙ ap (λ (k : ℕ). in_page (in_levels c.args.far.now.items k) c.args.number) c.page_of-index.ensures)

pub returns-clause-is : goal.returns-clause-is
returns-clause-is c =
    let n = c.args.number in
    let s = c.args.standing in
    puts_far (in_levels c.args.far.now.items) (in_levels c.replace_at.new.levels.items) c.page_of-index.result n s c.replace-was.new.self c.page_of-index.ensures c.replace_at.ensures
    (λ q. c.replace-was.ensures.is q ∙ ap (λ (page : Page). cond (eqb (q % 32) (n % 32)) s (in_page page q)) c.page_at-page.ensures)
