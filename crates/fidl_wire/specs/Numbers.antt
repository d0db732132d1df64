-- Bits of a number, and sizes in steps of eight.
use Rattle.std.specs.Prelude.{ℕ, ◌+◌, ◌-◌, ◌%◌, bit_and, Bool, not, ◌==◌}

-- one of the bits of the mask is set
abbrev pub has_bit : ℕ → ℕ → Bool
has_bit mask x = not (bit_and x mask == 0)

-- how many bytes follow size bytes up to a multiple of eight
unfoldable pub padding_after : ℕ → ℕ
padding_after size = (8 - size % 8) % 8

-- a size with its padding
abbrev pub padded : ℕ → ℕ
padded size = size + padding_after size
