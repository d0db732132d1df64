-- The pieces of a text.
use Rattle.std.specs.Prelude.{ℕ, ◌==◌, List}
use Rattle.std.specs.List.{slice_split}

-- what stands between the bytes of this number: one piece more than there are such bytes
abbrev pub pieces : ℕ → List ℕ → List (List ℕ)
pieces by text = slice_split (λ byte. byte == by) text
