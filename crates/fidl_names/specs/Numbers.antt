-- Numbers as bytes, the low byte first.
use Rattle.std.specs.Prelude.{◌<◌, ℕ, List, drop, All}
use Rattle.byteorder.specs.Endian.{little_number, little_bytes}

-- numbers that are bytes
abbrev pub AreBytes : List ℕ → Type 0
AreBytes bytes = All (λ byte. byte < 256) bytes

-- the number in the size bytes from place on
unfoldable pub number_at : ℕ → ℕ → List ℕ → ℕ
number_at size place bytes = little_number size (drop place bytes)

-- a number as that many bytes
unfoldable pub number_bytes : ℕ → ℕ → List ℕ
number_bytes size x = little_bytes size x
