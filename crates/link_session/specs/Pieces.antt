-- One piece of the input.
use Rattle.std.specs.Prelude.{◌≡◌, ◌≢◌, ℕ, ◌+◌, ◌<◌, ◌≤◌, List, [], ◌++◌, length, Option}
use Rattle.std.specs.Io.KnownBytes.{Consumes, IsAtEnd, Keeps}
use Rattle.fidl_names.specs.declared.limits.TheConstants as limit
use Rattle.host_io.specs.Causes.{Rose}
use Rattle.link_session.specs.declared.pump.Ended.{Ended}
use Rattle.link_session.specs.declared.pump.Ended.TheVariants as ended

-- so many bytes were taken and put behind those that are kept; none only at the end
abbrev pub TakesPiece : Option (List ℕ) → Option (List ℕ) → List ℕ → List ℕ → ℕ → Type 0
TakesPiece left left' kept kept' n =
    (piece : List ℕ) × Consumes left left' piece × (kept' ≡ kept ++ piece) × (length piece ≡ n)
    × (n ≡ 0 → IsAtEnd left')

-- a piece of a byte or more was taken, behind so many bytes, and no more in all than one session takes
pub record ReadsOn (left left' : Option (List ℕ)) (last faults faults' : ℕ) (kept kept' : List ℕ) (taken taken' : ℕ) : Type 0 where
  pub size : ℕ
  pub piece : TakesPiece left left' kept kept' size
  pub some : 0 < size
  pub few : size ≤ limit.MAX_PIECE
  pub total : taken' ≡ taken + size
  pub within : taken' ≤ limit.MAX_INPUT
  pub given : last ≡ size
  pub calm : faults' ≡ faults

-- the input was read to its end
pub record IsReadOut (left left' : Option (List ℕ)) (faults faults' : ℕ) (kept kept' : List ℕ) (taken : ℕ) : Type 0 where
  pub few : taken < limit.MAX_INPUT
  pub piece : TakesPiece left left' kept kept' 0
  pub calm : faults' ≡ faults

-- how the reading ended behind so many bytes, of which these are kept
abbrev pub Ends : Option (List ℕ) → Option (List ℕ) → ℕ → ℕ → List ℕ → List ℕ → ℕ → Ended → Type 0
Ends left left' faults faults' kept kept' taken ended.Whole = IsReadOut left left' faults faults' kept kept' taken × (kept' ≡ [])
Ends left left' faults faults' kept kept' taken (ended.Inside at) =
    IsReadOut left left' faults faults' kept kept' taken × (kept' ≢ []) × (at + length kept' ≡ taken)
Ends left left' faults faults' kept kept' taken ended.TooLong = (taken ≡ limit.MAX_INPUT) × Keeps left left' × (faults' ≡ faults) × (kept' ≡ kept)
Ends left left' faults faults' kept kept' taken ended.Failed = (taken < limit.MAX_INPUT) × Keeps left left' × Rose faults faults' × (kept' ≡ kept)
