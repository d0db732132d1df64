-- The words that the program is called with: one, which names the script's file.
use Rattle.std.specs.Prelude.{◌≡◌, ℕ, List, [], ◌∷◌}

abbrev pub Means : List (List ℕ) → List ℕ → Type 0
Means words script = words ≡ script ∷ []

-- the words have another shape
abbrev pub MeanNothing : List (List ℕ) → Type 0
MeanNothing words = (script : List ℕ) → Means words script → ⊥
