-- Sizes in steps of eight.
use Rattle.std.proofs.Common.{◌≡◌, ℕ, ◌+◌, ◌%◌, ◌<◌, refl, arith}
use Rattle.fidl_wire.specs.Numbers.{padding_after, padded}

-- padding is fewer than eight bytes
pub padding_after-lt : (n : ℕ) → padding_after n < 8
unfolding padding_after
padding_after-lt n = omega arith

-- a size with its padding is a multiple of eight
pub padded-mod : (n : ℕ) → padded n % 8 ≡ 0
unfolding padding_after
padded-mod n = omega arith

-- behind a multiple of eight an object is padded as by itself
pub padding_after-add : (a n : ℕ) → a % 8 ≡ 0 → padding_after (a + n) ≡ padding_after n
unfolding padding_after
padding_after-add a n h = omega arith

-- behind a header too
pub padding_after-head : (n : ℕ) → padding_after (16 + n) ≡ padding_after n
padding_after-head n = padding_after-add 16 n refl

-- a multiple of eight has no padding
pub padding_after-none : (n : ℕ) → n % 8 ≡ 0 → padding_after n ≡ 0
unfolding padding_after
padding_after-none n h = omega arith

pub ruleset sizes = (padding_after-head, padding_after-lt, padded-mod)
