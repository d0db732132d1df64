-- Words of steps: a stack of steps, and a tree that grows.
use Rattle.std.specs.Prelude.{◌≡◌, ◌≤◌, ◌-◌, ℕ, if◌then◌else◌, List, [], ◌∷◌, ◌++◌, length, take, Some}
use Rattle.std.specs.FinMap as finite
use Rattle.io_namespace.specs.Cleaning.{is_step, is_up}
use Rattle.io_namespace.specs.Kept.{EdgeKey, Kept}

-- a stack of steps without the last one, and what is there one step on, and one part on
abbrev pub without_last : List (List ℕ) → List (List ℕ)
without_last stack = take (length stack - 1) stack

abbrev pub climbed : List (List ℕ) → List ℕ → List (List ℕ)
climbed stack step = if is_up step then without_last stack else stack ++ step ∷ []

unfoldable pub stepped : List (List ℕ) → List ℕ → List (List ℕ)
stepped stack part = if is_step part then climbed stack part else stack

-- what is there behind all these parts
abbrev pub stepped_all : List (List ℕ) → List (List ℕ) → List (List ℕ)
stepped_all stack [] = stack
stepped_all stack (part ∷ parts) = stepped_all (stepped stack part) parts

-- no edge and no node is lost
pub record Grows (before after : Kept) : Type 0 where
  pub edges : (key : EdgeKey) (next : ℕ) → finite.get before.edges key ≡ Some next → finite.get after.edges key ≡ Some next
  pub ends : length before.ends ≤ length after.ends
