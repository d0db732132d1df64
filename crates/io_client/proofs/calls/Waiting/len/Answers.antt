use Rattle.std.proofs.Common.{◌+◌, sym, ap, subst, ◌∙◌}
use Rattle.std.specs.FinMap as finite
use Rattle.io_client.specs.Latest.{IsApart, with_latest}
use Rattle.io_client.proofs.Latest.{one_more}
use Rattle.io_client.proofs.Tables.{calls_total, calls_exact, len-table}
use Rattle.io_client.proofs.calls.Waiting.len.Goals as goal

pub returns-in-Some : goal.returns-in-Some
returns-in-Some c =
    let others = finite.from_entries c.self.inside.others.entries in
    ap (λ n. n + 1) (c.len.ensures.len ∙ sym (len-table calls_total calls_exact c.self.inside.others.entries c.len.ensures.ordered))
    ∙ (sym (one_more others c.in-Some.field-0 (subst (λ latest. IsApart latest others) c.in-Some.is c.self.invariant))
    ∙ (ap (λ latest. finite.len (with_latest latest others)) (sym c.in-Some.is) ∙ ap finite.len c.self.view_is))

pub returns-in-None : goal.returns-in-None
returns-in-None c =
    let others = finite.from_entries c.self.inside.others.entries in
    c.len-in-None.ensures.len
    ∙ (sym (len-table calls_total calls_exact c.self.inside.others.entries c.len-in-None.ensures.ordered)
    ∙ (ap (λ latest. finite.len (with_latest latest others)) (sym c.in-None.is) ∙ ap finite.len c.self.view_is))
