-- Numbers in lists.
use Rattle.std.specs.Prelude.{◌==◌, ℕ, Bool, List}
use Rattle.std.specs.List.{list_any}

-- whether a number is among these
abbrev pub among : ℕ → List ℕ → Bool
among n ns = list_any (λ m. m == n) ns
