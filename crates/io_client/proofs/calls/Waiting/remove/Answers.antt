use Rattle.std.proofs.Common.{ℕ, sym, ap, subst, ◌∙◌}
use Rattle.std.specs.FinMap as finite
use Rattle.io_client.specs.Latest.{IsApart, with_latest}
use Rattle.io_client.proofs.Latest.{stays_apart, without_latest, without_other}
use Rattle.io_client.proofs.Tables.{calls_total, calls_exact, remove-table}
use Rattle.io_client.proofs.calls.Waiting.remove.Goals as goal

pub returns-in-Some : goal.returns-in-Some
returns-in-Some c =
    let key : ℕ × ℕ = (c.args.endpoint, c.args.txid) in
    without_latest c.self.inside.latest (finite.from_entries c.self.inside.others.entries) key c.in-Some.field-0 c.self.invariant (sym c.method_there.ensures ∙ c.in-Some.is)
    ∙ ap (λ m. finite.remove m key) c.self.view_is

pub invariant_of-self-in-None : goal.invariant_of-self-in-None
invariant_of-self-in-None c =
    let key : ℕ × ℕ = (c.args.endpoint, c.args.txid) in
    let others = c.self.inside.others.entries in
    subst (IsApart c.self.inside.latest) (sym (remove-table calls_total calls_exact others c.remove.new.self.entries key c.remove.ensures.updates.0))
    (stays_apart c.self.inside.latest (finite.from_entries others) key c.self.invariant)

pub returns-in-None : goal.returns-in-None
returns-in-None c =
    let key : ℕ × ℕ = (c.args.endpoint, c.args.txid) in
    let others = c.self.inside.others.entries in
    ap (with_latest c.self.inside.latest) (remove-table calls_total calls_exact others c.remove.new.self.entries key c.remove.ensures.updates.0)
    ∙ (without_other c.self.inside.latest (finite.from_entries others) key (sym c.method_there.ensures ∙ c.in-None.is)
    ∙ ap (λ m. finite.remove m key) c.self.view_is)
