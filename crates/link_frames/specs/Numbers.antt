-- Numbers of 16 and 32 bits in bytes, the low byte first, and lists of them one after another.
use Rattle.std.specs.Prelude.{ℕ, zero, suc, List, [], ◌∷◌, drop}
use Rattle.fidl_names.specs.Numbers.{number_at, number_bytes}

-- a number of 32 bits
abbrev pub word_of : ℕ → List ℕ
word_of x = number_bytes 4 x

-- the number of 16 bits in front
abbrev pub half_in : List ℕ → ℕ
half_in b = number_at 2 0 b

-- the number of 32 bits in front
abbrev pub word_in : List ℕ → ℕ
word_in b = number_at 4 0 b

-- the first so many numbers of 32 bits
abbrev pub words_in : ℕ → List ℕ → List ℕ
words_in zero b = []
words_in (suc n) b = word_in b ∷ words_in n (drop 4 b)
