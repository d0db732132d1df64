use Rattle.std.proofs.Common.{◌≡◌, ◌<◌, ◌^◌, ◌∙◌, ap, arith, ℕ, Bool, if◌then◌else◌, true, subst, sym}
use Rattle.std.specs.Prelude.{None, Option, Some, is_some}
use Rattle.std.specs.FinMap as map
use Rattle.link_admission.specs.Tables.{Numbered, ChangesAt}
use Rattle.link_admission.proofs.Tabled.{get-ordered, changes-ordered}
use Rattle.link_admission.proofs.Numbered.{keeps_given}
use Rattle.link_admission.proofs.tokens.Tokens.give.Goals as goal

pub invariant_of-self-2 : goal.invariant_of-self-2
invariant_of-self-2 c =
    let old = c.self.inside.table.entries in
    let new = c.insert.new.self.entries in
    let small : c.self.inside.next < 2 ^ 32 = subst (λ (v : Numbered). v.next < 2 ^ 32) (sym c.self.view_is) c.requires in
    keeps_given (map.from_entries old) (map.from_entries new) c.self.inside.next c.self.invariant small (changes-ordered old new c.self.inside.next (Some true) c.in_ok-insert.ensures.updates.0)

pub returns-clause-given : goal.returns-clause-given
returns-clause-given c =
    let new = c.insert.new.self.entries in
    subst (λ (v : Numbered). ChangesAt v.next (Some true) v.entries (map.from_entries new)) c.self.view_is
    (changes-ordered c.self.inside.table.entries new c.self.inside.next (Some true) c.in_ok-insert.ensures.updates.0)

pub returns-clause-count : goal.returns-clause-count
returns-clause-count c =
    let none : c.in_ok-insert.field-0 ≡ None = c.in_ok-insert.ensures.old ∙ (sym (get-ordered c.self.inside.table.entries c.self.inside.next) ∙ c.self.invariant.unused c.self.inside.next (omega arith)) in
    let more = ap {B = ℕ} (λ (o : Option Bool). if is_some o then 0 else 1) none in
    let was = ap (λ (v : Numbered). v.out) c.self.view_is in
    omega (arith, c.in_ok-insert.ensures.len, more, was)
