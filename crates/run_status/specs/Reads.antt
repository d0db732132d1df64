-- Which files a command reads.
use Rattle.std.specs.Prelude.{◌≡◌, ◌⊎◌, ℕ, List, [], ◌∷◌}

-- at most the files of these names are read, each once and in this order, and nothing else is done with files. What one read does is a parameter
abbrev pub ReadsOnly : {F : Type 0} → (List ℕ → F → F → Type 0) → List (List ℕ) → F → F → Type 0
ReadsOnly reads [] before after = after ≡ before
ReadsOnly {F = F} reads (name ∷ names) before after = (after ≡ before) ⊎ ((read : F) × reads name before read × ReadsOnly reads names read after)
