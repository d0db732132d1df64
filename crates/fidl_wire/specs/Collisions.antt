-- Equal numbers in a list.
use Rattle.std.specs.Prelude.{◌≡◌, ◌≢◌, ℕ, ◌<◌, List, length, slice_index}

-- the first place of a number
pub record IsEarlier (numbers : List ℕ) (number place : ℕ) : Type 0 where
  pub within : place < length numbers
  pub equal : slice_index numbers place ≡ number
  pub first : (k : ℕ) → k < place → slice_index numbers k ≢ number

-- the first so many numbers differ from one another
abbrev pub AreApart : List ℕ → ℕ → Type 0
AreApart numbers n = (a b : ℕ) → a < b → b < n → slice_index numbers a ≢ slice_index numbers b

-- the first two places with equal numbers
pub record IsFirstEqual (numbers : List ℕ) (i j : ℕ) : Type 0 where
  pub order : i < j
  pub within : j < length numbers
  pub equal : slice_index numbers i ≡ slice_index numbers j
  pub second : AreApart numbers j
  pub first : (a : ℕ) → a < i → slice_index numbers a ≢ slice_index numbers j
