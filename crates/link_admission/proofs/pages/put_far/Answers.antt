use Rattle.std.proofs.Common.{◌/◌, ◌%◌, ◌∙◌, ap, cond, eqb}
use Rattle.std.proofs.lemmas.Result.{on_err_weaker, on_ok_weaker}
use Rattle.link_admission.specs.declared.page.Page.{Page}
use Rattle.link_admission.specs.Pages.{in_levels, in_page}
use Rattle.link_admission.proofs.Paged.{puts_far}
use Rattle.link_admission.proofs.pages.put_far.Goals as goal

pub returns-clause-put : goal.returns-clause-put
returns-clause-put c =
    let n = c.args.number in
    let s = c.args.standing in
    on_ok_weaker c.put_at.result
    (λ puts. puts_far (in_levels c.args.far.now.items) (in_levels c.put_at.new.levels.items) c.page_of-index.result n s c.replace.new.self c.page_of-index.ensures puts
    (λ q. c.replace.ensures.is q ∙ ap (λ (page : Page). cond (eqb (q % 32) (n % 32)) s (in_page page q)) c.page_at-page.ensures))
    c.put_at.ensures.put

pub returns-clause-err : goal.returns-clause-err
returns-clause-err c = on_err_weaker c.put_at.result (λ same q. ap (λ (page : Page). in_page page q) (same (q / 32))) c.put_at.ensures.err
