use Rattle.std.proofs.Common.{◌≡◌, Bool, false, sym, ap, ◌∙◌, subst}
use Rattle.std.specs.Prelude.{Option, unwrap_or}
use Rattle.link_admission.specs.Tables.{Numbered, value_at}
use Rattle.link_admission.proofs.Tabled.{get-ordered}
use Rattle.link_admission.proofs.tokens.Tokens.holds.Goals as goal

pub returns : goal.returns
returns c =
    let found = c.copied.ensures ∙ (c.get.ensures.value ∙ sym (get-ordered c.self.inside.table.entries c.args.number)) in
    subst (λ (v : Numbered). c.unwrap_or.result ≡ unwrap_or (value_at v.entries c.args.number) false) c.self.view_is
    (c.unwrap_or.ensures ∙ ap (λ (o : Option Bool). unwrap_or o false) found)
