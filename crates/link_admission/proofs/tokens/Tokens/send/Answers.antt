use Rattle.std.proofs.Common.{false, refl, sym, subst}
use Rattle.std.specs.Prelude.{Some, IsSome}
use Rattle.std.specs.FinMap as map
use Rattle.std.specs.BTreeMap.{is_at}
use Rattle.std.specs.Map.{lookup}
use Rattle.std.specs.Ordering.{nat_cmp}
use Rattle.link_admission.specs.declared.tokens.Tokens.TheInside.{Inside}
use Rattle.link_admission.specs.Tables.{KeepsNumbers, Numbered, ChangesAt, value_at}
use Rattle.link_admission.proofs.Tabled.{is_found, changes-ordered}
use Rattle.link_admission.proofs.Numbered.{keeps_changed}
use Rattle.link_admission.proofs.tokens.Tokens.send.Goals as goal
use Rattle.link_admission.proofs.tokens.Tokens.send.Goals.{in-Some, in_default}

pub returns-clause-changed : goal.returns-clause-changed
returns-clause-changed c =
    let n = c.args.number in
    let old = c.self.inside.table.entries in
    elim c.match-get_mut.branch [
      | in-Some w ↦
          let new = (c.get_mut.follows.lender false).entries in
          let there : IsSome (lookup (is_at (nat_cmp n)) old) = subst IsSome w.in-Some.ensures.value refl in
          let changes = changes-ordered old new n (Some false) ((c.get_mut.follows.holds false).3 there).0 in
          subst (λ (t : Inside). ChangesAt n (Some false) c.args.self.now.entries (map.from_entries t.table.entries)) (sym w.self-inside-is)
          (subst (λ (v : Numbered). ChangesAt n (Some false) v.entries (map.from_entries new)) c.self.view_is changes)
      | in_default w ↦
          let known = subst (λ (v : Numbered). IsSome (value_at v.entries n)) (sym c.self.view_is) c.requires in
          absurd (is_found old n known w.in_default.ensures.value)
    ]

pub invariant_of-self : goal.invariant_of-self
invariant_of-self c =
    let n = c.args.number in
    let old = c.self.inside.table.entries in
    elim c.match-get_mut.branch [
      | in-Some w ↦
          let new = (c.get_mut.follows.lender false).entries in
          let there : IsSome (lookup (is_at (nat_cmp n)) old) = subst IsSome w.in-Some.ensures.value refl in
          let changes = changes-ordered old new n (Some false) ((c.get_mut.follows.holds false).3 there).0 in
          let known = subst (λ (v : Numbered). IsSome (value_at v.entries n)) (sym c.self.view_is) c.requires in
          subst (λ (t : Inside). KeepsNumbers (map.from_entries t.table.entries) t.next) (sym w.self-inside-is)
          (keeps_changed (map.from_entries old) (map.from_entries new) c.self.inside.next n (Some false) c.self.invariant known changes)
      | in_default w ↦
          let known = subst (λ (v : Numbered). IsSome (value_at v.entries n)) (sym c.self.view_is) c.requires in
          absurd (is_found old n known w.in_default.ensures.value)
    ]
