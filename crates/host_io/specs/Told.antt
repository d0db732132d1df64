-- What is told of a file.
use Rattle.std.specs.Prelude.{◌≡◌, ℕ, ◌<◌, List, length, ⊤}

-- nothing is told, there is no such file, or these are its bytes
pub data Told : Type 0 where
  Untold : Told
  Missing : Told
  Holds : List ℕ → Told

-- these are all its bytes, where they are told
abbrev pub IsAllOf : Told → List ℕ → Type 0
IsAllOf Untold bytes = ⊤
IsAllOf Missing bytes = ⊥
IsAllOf (Holds all) bytes = bytes ≡ all

-- it is longer than the limit, where its bytes are told
abbrev pub IsLongerThan : ℕ → Told → Type 0
IsLongerThan limit Untold = ⊤
IsLongerThan limit Missing = ⊥
IsLongerThan limit (Holds all) = limit < length all
