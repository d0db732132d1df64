use Rattle.std.proofs.Common.{ℕ, sym, ap, ◌∙◌}
use Rattle.std.specs.FinMap as finite
use Rattle.io_client.proofs.Latest.{at_latest, at_others}
use Rattle.io_client.proofs.Tables.{calls_total, calls_exact, get-table}
use Rattle.io_client.proofs.calls.Waiting.at.Goals as goal

pub returns-in-Some : goal.returns-in-Some
returns-in-Some c =
    let key : ℕ × ℕ = (c.args.endpoint, c.args.txid) in
    sym (at_latest c.self.inside.latest (finite.from_entries c.self.inside.others.entries) key c.in-Some.method (sym c.method_there.ensures ∙ c.in-Some.is))
    ∙ ap (λ m. finite.get m key) c.self.view_is

pub returns-in-None : goal.returns-in-None
returns-in-None c =
    let key : ℕ × ℕ = (c.args.endpoint, c.args.txid) in
    let others = c.self.inside.others.entries in
    c.copied.ensures ∙ (c.get.ensures.value
    ∙ (sym (get-table calls_total calls_exact others key)
    ∙ (sym (at_others c.self.inside.latest (finite.from_entries others) key (sym c.method_there.ensures ∙ c.in-None.is))
    ∙ ap (λ m. finite.get m key) c.self.view_is)))
