use Rattle.std.proofs.Common.{◌≡◌, ◌<◌, ◌%◌, ap, arith, cond, eqb, length, refl, sym, ◌∙◌}
use Rattle.std.specs.Prelude.{Option, Some, slice_get, slice_set}
use Rattle.std.proofs.lemmas.Option.{slice_get_read}
use Rattle.link_admission.specs.declared.page.Page.{Page}
use Rattle.link_admission.specs.Pages.{in_kept}
use Rattle.link_admission.proofs.Paged.{get-set, puts_page}
use Rattle.link_admission.proofs.pages.replace_near.Goals as goal

pub returns-clause-is : goal.returns-clause-is
returns-clause-is c =
    let n = c.args.number in
    let s = c.args.standing in
    let ps = c.args.near.now.items in
    let k = c.page_of-index.result in
    let p = c.replace-was.new.self in
    let within : k < length ps = omega (arith, c.if-index-len.false, c.len.ensures) in
    let there : slice_get ps k ≡ Some c.index.result.now = slice_get_read ps (length ps) k c.index.result.now refl within c.index.ensures in
    puts_page (slice_get ps) (slice_get (slice_set ps k p)) k n s p c.page_of-index.ensures (λ r. get-set ps k r p within)
    (λ q. c.replace-was.ensures.is q ∙ ap (λ (o : Option Page). cond (eqb (q % 32) (n % 32)) s (in_kept o q)) (sym there))
