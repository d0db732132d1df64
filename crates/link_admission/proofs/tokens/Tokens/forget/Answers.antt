use Rattle.std.proofs.Common.{◌≡◌, ℕ, true, Bool, cond, sym, ap, ◌∙◌, subst, arith}
use Rattle.std.specs.Prelude.{None, is_some, IsSome}
use Rattle.std.specs.FinMap as map
use Rattle.link_admission.specs.Tables.{Numbered, ChangesAt, value_at}
use Rattle.link_admission.proofs.Tabled.{get-ordered, changes-ordered}
use Rattle.link_admission.proofs.Numbered.{keeps_changed}
use Rattle.link_admission.proofs.tokens.Tokens.forget.Goals as goal

pub invariant_of-self : goal.invariant_of-self
invariant_of-self c =
    let old = c.self.inside.table.entries in
    let new = c.remove.new.self.entries in
    let known = subst (λ (v : Numbered). IsSome (value_at v.entries c.args.number)) (sym c.self.view_is) c.requires in
    keeps_changed (map.from_entries old) (map.from_entries new) c.self.inside.next c.args.number None c.self.invariant known (changes-ordered old new c.args.number None c.remove.ensures.updates.0)

pub returns-clause-changed : goal.returns-clause-changed
returns-clause-changed c =
    let new = c.remove.new.self.entries in
    subst (λ (v : Numbered). ChangesAt c.args.number None v.entries (map.from_entries new)) c.self.view_is
    (changes-ordered c.self.inside.table.entries new c.args.number None c.remove.ensures.updates.0)

pub returns-clause-count : goal.returns-clause-count
returns-clause-count c =
    let known = subst (λ (v : Numbered). IsSome (value_at v.entries c.args.number)) (sym c.self.view_is) c.requires in
    let there : is_some c.remove.result ≡ true = ap is_some (c.remove.ensures.value ∙ sym (get-ordered c.self.inside.table.entries c.args.number)) ∙ known in
    omega (arith, ap {B = ℕ} (λ (b : Bool). cond b 1 0) there, c.remove.ensures.len, ap (λ (v : Numbered). v.out) c.self.view_is)
