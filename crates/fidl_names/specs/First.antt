-- Causes in their order: an answer is the first whose test holds.
use Rattle.std.specs.Prelude.{Bool, true, false, List, [], ◌∷◌, Option, Some, None}

-- a cause where a test holds
abbrev pub cause_if : {A : Type 0} → Bool → A → Option A
cause_if true cause = Some cause
cause_if false cause = None

-- the first cause of a list that holds
abbrev pub first_of : {A : Type 0} → List (Option A) → Option A
first_of [] = None
first_of (Some cause ∷ rest) = Some cause
first_of (None ∷ rest) = first_of rest
