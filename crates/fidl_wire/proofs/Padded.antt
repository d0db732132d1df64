-- Bytes and their padding, behind other bytes. The crates above cite it.
use Rattle.std.proofs.Common.{◌≡◌, ℕ, ◌%◌, List, ◌++◌, length, replicate, ap, ◌∙◌, append_assoc, length-append, arith}
use Rattle.std.proofs.lemmas.List.{length-replicate}
use Rattle.fidl_wire.specs.Numbers.{padding_after, padded}
use Rattle.fidl_wire.specs.Written.{padded_bytes}
use Rattle.fidl_wire.proofs.Sizes.{padding_after-add}

-- behind a multiple of eight, bytes are padded as by themselves
pub padded_behind : (a b : List ℕ) → length a % 8 ≡ 0 → padded_bytes (a ++ b) ≡ a ++ padded_bytes b
padded_behind a b aligned =
    ap (λ n. (a ++ b) ++ replicate n 0) (ap padding_after (length-append a b) ∙ padding_after-add (length a) (length b) aligned)
    ∙ append_assoc a b (replicate (padding_after (length b)) 0)

-- how many bytes they have with their padding
pub length-padded_bytes : (xs : List ℕ) → length (padded_bytes xs) ≡ padded (length xs)
length-padded_bytes xs = omega (arith, length-append xs (replicate (padding_after (length xs)) 0), length-replicate {A = ℕ} (padding_after (length xs)) 0)
