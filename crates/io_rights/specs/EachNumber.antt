-- A number below 512 is the bits of the set that it stands for.
use Rattle.std.specs.Prelude.{◌≡◌, ℕ, ◌<◌, ◌^◌, ◌==◌, true, refl}
use Rattle.std.proofs.Common.{eqb-true}
use Rattle.std.proofs.lemmas.Bool.{agree_below_at}
use Rattle.io_rights.specs.Operations.{set_of_bits, bits_of}

pub bits_of-set_of_bits : (n : ℕ) → n < 2 ^ 9 → bits_of (set_of_bits n) ≡ n
unfolding bits_of set_of_bits
bits_of-set_of_bits n small =
    eqb-true (bits_of (set_of_bits n)) n (agree_below_at (λ m. bits_of (set_of_bits m) == m) (λ _. true) 512 n refl small)
