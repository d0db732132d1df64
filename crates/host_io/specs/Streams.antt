-- What a source tells of its reads, and a sink of its bytes.
use Rattle.std.specs.Prelude.{◌≡◌, ℕ, ◌+◌, ◌≤◌, List, ◌++◌, length, ⊤, None, Some, Ok, Err}
use Rattle.std.specs.Prelude.{Option, Result}
use Rattle.std.specs.Io.KnownBytes.{Appends}

-- how many bytes the last read gave, after one more: a read that failed leaves it
abbrev pub IsLast : {E : Type 0} → ℕ → ℕ → Result ℕ E → Type 0
IsLast before now (Ok n) = now ≡ n
IsLast before now (Err e) = now ≡ before

-- told bytes grow by a front part of these
abbrev pub AppendsPart : Option (List ℕ) → Option (List ℕ) → List ℕ → Type 0
AppendsPart old new bytes = (part rest : List ℕ) × (bytes ≡ part ++ rest) × Appends old new part

-- all the told bytes are flushed
abbrev pub IsFlushed : Option (List ℕ) → ℕ → Type 0
IsFlushed None flushed = ⊤
IsFlushed (Some bytes) flushed = flushed ≡ length bytes

-- told bytes that grew by these are flushed with them, and maybe more
abbrev pub AreFlushed : Option (List ℕ) → List ℕ → ℕ → Type 0
AreFlushed None bytes flushed = ⊤
AreFlushed (Some old) bytes flushed = length old + length bytes ≤ flushed
