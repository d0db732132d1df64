-- A stream that is cut into frames: what is kept of it, and what its calls do.
use Rattle.std.specs.Prelude.{◌≡◌, ◌≢◌, ◌≤◌, ◌+◌, ◌^◌, ◌⊎◌, ℕ, List, [], ◌∷◌, ◌++◌, length, take, nat_lt, is_some, if◌then◌else◌, Option, Some, None, Result, Ok, Err, MatchOption}
use Rattle.std.specs.List.{flat_map}
use Rattle.link_frames.specs.declared.fixed.TheConstants.{FIXED_LEN, MAX_FRAME_LEN}
use Rattle.link_frames.specs.declared.kinds.FrameReason.{FrameReason}
use Rattle.link_frames.specs.declared.deframer.LinkFault.{LinkFault}
use Rattle.link_frames.specs.declared.kinds.Side.{Side}
use Rattle.fidl_names.specs.Numbers.{AreBytes}
use Rattle.link_frames.specs.Frames.{Frame, Frames, Bad, IsFrame, IsPartial, spelling, first_reason, size_of}

-- the side, where in the stream the frame in hand begins, and what there is of it
pub record Deframing : Type 0 where
  pub side : Side
  pub start : ℕ
  pub kept : List ℕ

-- nothing was fed yet
abbrev pub fresh : Side → Deframing
fresh s = record { side = s; start = 0; kept = [] }

-- the number of bytes taken so far
abbrev pub taken_by : Deframing → ℕ
taken_by d = d.start + length d.kept

-- the first reason against a fixed part that is wholly there
abbrev pub flaw : Side → List ℕ → Option FrameReason
flaw s b = if nat_lt (length b) FIXED_LEN then None else first_reason s b

-- where what is taken for the frame in front ends, as far as its bytes tell: behind its fixed part, unless that is sound
abbrev pub end_of : Side → List ℕ → ℕ
end_of s b = if nat_lt (length b) FIXED_LEN then FIXED_LEN else if is_some (first_reason s b) then FIXED_LEN else size_of b

-- what is taken of these bytes for the frame in front
abbrev pub front : Side → List ℕ → List ℕ
front s b = take (end_of s b) b

-- what is kept is the spelling of this frame
pub record IsKept (d : Deframing) (f : Frame) : Type 0 where
  pub sound : IsFrame d.side f
  pub spelled : spelling f ≡ d.kept

-- no whole frame is kept
abbrev pub KeepsNone : Deframing → Type 0
KeepsNone d = (f : Frame) → IsKept d f → ⊥

-- a piece came, of which the first bytes were taken for the frame in hand and the others left
pub record Fed (old : Deframing) (taken left : List ℕ) (answer : Result ℕ LinkFault) (new : Deframing) : Type 0 where
  pub same_side : new.side ≡ old.side
  pub same_start : new.start ≡ old.start
  pub kept : new.kept ≡ old.kept ++ taken
  -- as many as the piece has, or as the frame in hand lacks
  pub as_many : new.kept ≡ front old.side (old.kept ++ taken ++ left)
  -- their number, where the fixed part isn't bad, and otherwise its place and reason
  pub answered : MatchOption (flaw new.side new.kept) (answer ≡ Ok (length taken)) (λ why. answer ≡ Err (record { at = new.start; reason = why }))

-- the frame in hand gone, the next begins where it ended
abbrev pub dropped : Deframing → Deframing
dropped d = record { side = d.side; start = taken_by d; kept = [] }

-- nothing of a further frame is kept
abbrev pub IsBetween : Deframing → Type 0
IsBetween d = (d.kept ≡ []) ⊎ ((f : Frame) × IsKept d f)

-- a part of a frame is kept, and no whole one
abbrev pub IsInside : Deframing → Type 0
IsInside d = (d.kept ≢ []) × KeepsNone d

-- what every deframer keeps: bytes of the frame in hand and no further, in the memory of one frame
pub record KeepsFrame (d : Deframing) (capacity : ℕ) : Type 0 where
  pub bytes : AreBytes d.kept
  pub no_further : length d.kept ≤ end_of d.side d.kept
  pub room : MAX_FRAME_LEN ≤ capacity
  pub countable : taken_by d ≤ 2 ^ 63

-- what one call did: a piece came, of which the first bytes were taken; it was asked for the frame in hand; that was dropped
pub data Call : Type 0 where
  Feeds : (taken left : List ℕ) (answer : Result ℕ LinkFault) → Call
  Shows : (shown : Option Frame) → Call
  Drops : (frame : Frame) → Call

-- the frame in hand is shown where it is whole
abbrev pub Shown : Deframing → Option Frame → Type 0
Shown d None = KeepsNone d
Shown d (Some f) = IsKept d f

-- one call leads from old to new
abbrev pub Step : Deframing → Call → Deframing → Type 0
Step old (Feeds taken left answer) new = Fed old taken left answer new
Step old (Shows shown) new = Shown old shown × (new ≡ old)
Step old (Drops f) new = IsKept old f × (new ≡ dropped old)

-- calls one after another lead from old to new
abbrev pub Run : Deframing → List Call → Deframing → Type 0
Run old [] new = new ≡ old
Run old (call ∷ calls) new = (mid : Deframing) × Step old call mid × Run mid calls new

-- the bytes that a call took
abbrev pub bytes_of : Call → List ℕ
bytes_of (Feeds taken left answer) = taken
bytes_of (Shows shown) = []
bytes_of (Drops f) = []

-- the frame that a call dropped
abbrev pub frames_of : Call → List Frame
frames_of (Feeds taken left answer) = []
frames_of (Shows shown) = []
frames_of (Drops f) = f ∷ []

-- the stream fed so far, in however many pieces it came
abbrev pub stream_of : List Call → List ℕ
stream_of calls = flat_map bytes_of calls

-- the frames that were dropped, in order
abbrev pub dropped_by : List Call → List Frame
dropped_by calls = flat_map frames_of calls

-- the frames that were dropped, with the one that is kept if it is whole, are those of the stream; a fault stands exactly
-- where the stream is bad
pub record Follows (s : Side) (stream : List ℕ) (frames : List Frame) (d : Deframing) : Type 0 where
  pub begun : IsPartial s d.kept → Frames s stream frames d.kept
  pub whole : (f : Frame) → IsKept d f → Frames s stream (frames ++ f ∷ []) []
  pub fault : (why : FrameReason) → flaw s d.kept ≡ Some why → Bad s stream d.start why
  pub only : (at : ℕ) (why : FrameReason) → Bad s stream at why → (at ≡ d.start) × (flaw s d.kept ≡ Some why)
  pub sound : flaw s d.kept ≡ None → IsPartial s d.kept ⊎ ((f : Frame) × IsKept d f)
  pub taken : taken_by d ≡ length stream
