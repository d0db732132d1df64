-- The records of a recording, and how each is spelled.
use Rattle.std.specs.Prelude.{◌≡◌, ◌<◌, ◌^◌, ℕ, Bool, true, false, IsTrue, List, [], ◌∷◌, ◌++◌}
use Rattle.std.specs.List.{flat_map}
use Rattle.link_frames.specs.declared.kinds.FrameKind.{FrameKind}
use Rattle.link_frames.specs.declared.kinds.FrameKind.TheVariants as kind
use Rattle.link_frames.specs.declared.kinds.Side.TheVariants as side
use Rattle.link_frames.specs.Frames.{Frame, IsFrame, spelling}
use Rattle.link_frames.specs.Numbers.{word_of}

-- a frame came in, the first entry that waits on an endpoint was served, a frame went out; and the recording's end
pub data Record : Type 0 where
  comes_in : Frame → Record
  served : (endpoint : ℕ) → Record
  goes_out : Frame → Record
  ends : Record

-- what comes in is a message or a hang-up
abbrev pub is_sending : FrameKind → Bool
is_sending kind.Message = true
is_sending kind.Close = true
is_sending kind.Turn = false
is_sending kind.Pick = false
is_sending kind.Refused = false

-- what goes out is a message, the close of an endpoint, or the refusal of what came in
abbrev pub is_answering : FrameKind → Bool
is_answering kind.Message = true
is_answering kind.Close = true
is_answering kind.Turn = false
is_answering kind.Pick = false
is_answering kind.Refused = true

abbrev pub IsRecord : Record → Type 0
IsRecord (comes_in frame) = IsFrame side.ToServers frame × IsTrue (is_sending frame.kind)
IsRecord (served endpoint) = endpoint < 2 ^ 32
IsRecord (goes_out frame) = IsFrame side.Any frame × IsTrue (is_answering frame.kind)
IsRecord ends = Unit {0}

-- a tag, and then what the record says
abbrev pub spelling_of : Record → List ℕ
spelling_of (comes_in frame) = 0 ∷ spelling frame
spelling_of (served endpoint) = 1 ∷ word_of endpoint
spelling_of (goes_out frame) = 2 ∷ spelling frame
spelling_of ends = 3 ∷ []

-- these records, one after another
abbrev pub spellings_of : List Record → List ℕ
spellings_of records = flat_map spelling_of records

-- any but the end
abbrev pub GoesOn : Record → Type 0
GoesOn ends = ⊥
GoesOn _ = Unit {0}

-- this record stands in front of some bytes, with more of them behind it; behind the end there is none
pub record InFront (bytes : List ℕ) (one : Record) (more : List ℕ) : Type 0 where
  pub sound : IsRecord one
  pub split : bytes ≡ spelling_of one ++ more
  pub last : one ≡ ends → more ≡ []

-- no record stands in front
abbrev pub HasNoRecord : List ℕ → Type 0
HasNoRecord bytes = (one : Record) (more : List ℕ) → InFront bytes one more → ⊥
