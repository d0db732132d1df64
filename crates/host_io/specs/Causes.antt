-- Counts of faults, and failures that have their cause in one.
use Rattle.std.specs.Prelude.{◌≡◌, ℕ, ◌+◌, ◌-◌, ◌^◌, ◌≤◌, min, List, OnOk, OnErr}
use Rattle.std.specs.Prelude.{Result}

-- one more; a count stands still at its last value
abbrev pub next_count : ℕ → ℕ
next_count count = min (count + 1) (2 ^ 64 - 1)

-- the count rose; one that stands at its last value counts as risen
abbrev pub Rose : ℕ → ℕ → Type 0
Rose before now = next_count before ≤ now

-- the count never falls; it stays where the call went well, and a failure comes only where it rose
pub record HasCause {T E : Type 0} (before now : ℕ) (result : Result T E) : Type 0 where
  pub later : before ≤ now
  pub stays : OnOk result (now ≡ before)
  pub failed : OnErr result (Rose before now)

-- no name's count falls
abbrev pub NeverFalls : (List ℕ → ℕ) → (List ℕ → ℕ) → Type 0
NeverFalls before now = (name : List ℕ) → before name ≤ now name
