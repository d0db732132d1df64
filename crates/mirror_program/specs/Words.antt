-- The words that the program is called with.
use Rattle.std.specs.Prelude.{◌≡◌, ℕ, ◌≤◌, ◌<◌, List, [], ◌∷◌, decimal}
use Rattle.fidl_names.specs.declared.limits.TheConstants as limit

-- a number that a client's endpoint may have
abbrev pub IsEndpoint : ℕ → Type 0
IsEndpoint number = (1 ≤ number) × (number < limit.FIRST_MOUNT_END)

-- the one word is such a number
abbrev pub Means : List (List ℕ) → ℕ → Type 0
Means words endpoint = (words ≡ decimal endpoint ∷ []) × IsEndpoint endpoint

-- the words say no endpoint
abbrev pub MeanNothing : List (List ℕ) → Type 0
MeanNothing words = (endpoint : ℕ) → Means words endpoint → ⊥
