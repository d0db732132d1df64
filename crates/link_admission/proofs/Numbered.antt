-- What every table of tokens keeps.
use Rattle.std.proofs.Common.{◌≡◌, ◌≤◌, ◌<◌, ◌+◌, ◌^◌, ℕ, Bool, true, eqb, ◌∙◌, ⊎_elim, arith}
use Rattle.std.specs.Prelude.{Option, Some, None, IsSome}
use Rattle.std.proofs.lemmas.Bool.{cases_eq, cond-false, ne_eqb}
use Rattle.link_admission.specs.Tables.{Table, value_at, ChangesAt, KeepsNumbers}

-- a number that stands is below the next one
known_below : (entries : Table Bool) (next number : ℕ) → KeepsNumbers entries next → IsSome (value_at entries number) → next ≤ number → ⊥
known_below entries next number keeps known past = none (value_at entries number) known (keeps.unused number past) where
  none : (o : Option Bool) → IsSome o → o ≡ None → ⊥
  none None h is = cc
  none (Some b) h is = cc

pub keeps_changed : (old new : Table Bool) (next number : ℕ) (value : Option Bool) → KeepsNumbers old next → IsSome (value_at old number) → ChangesAt number value old new → KeepsNumbers new next
keeps_changed old new next number value keeps known changes = record {
  unused = λ q past.
      ⊎_elim
      (λ (same : q ≡ number). absurd (known_below old next number keeps known (omega (arith, same, past))))
      (λ (other : q ≡ number → ⊥). changes q ∙ (cond-false (eqb q number) value (value_at old q) (ne_eqb q number other) ∙ keeps.unused q past))
      (cases_eq q number);
  last = keeps.last;
}

pub keeps_given : (old new : Table Bool) (next : ℕ) → KeepsNumbers old next → next < 2 ^ 32 → ChangesAt next (Some true) old new → KeepsNumbers new (next + 1)
keeps_given old new next keeps small changes = record {
  unused = λ q past.
      changes q ∙ (cond-false (eqb q next) (Some true) (value_at old q) (ne_eqb q next (λ same. omega (arith, same, past)))
      ∙ keeps.unused q (omega (arith, past)));
  last = omega (arith, small);
}
