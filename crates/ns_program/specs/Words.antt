-- The words that the program is called with.
use Rattle.std.specs.Prelude.{◌≡◌, ℕ, List, [], ◌∷◌}

-- the table's file, and the script's
pub record Asks : Type 0 where
  pub table : List ℕ
  pub script : List ℕ

abbrev pub Means : List (List ℕ) → Asks → Type 0
Means words asks = words ≡ asks.table ∷ asks.script ∷ []

-- the words have another shape
abbrev pub MeanNothing : List (List ℕ) → Type 0
MeanNothing words = (asks : Asks) → Means words asks → ⊥

-- the files that are read, in this order
abbrev pub files_of : Asks → List (List ℕ)
files_of asks = asks.table ∷ asks.script ∷ []
