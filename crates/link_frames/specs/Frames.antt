-- What a frame is, how it is spelled, and what a stream of bytes is for one side of the link.
use Rattle.std.specs.Prelude.{◌≡◌, ◌≤◌, ◌<◌, ◌^◌, ◌+◌, ◌*◌, ◌==◌, ◌&&◌, ◌⊎◌, ℕ, Bool, true, false, IsTrue, if◌then◌else◌, nat_le, List, [], ◌∷◌, ◌++◌, length, drop, slice_index, All, Option, Some, None}
use Rattle.std.specs.List.{flat_map}
use Rattle.fidl_names.specs.declared.limits.TheConstants as limit
use Rattle.link_frames.specs.declared.fixed.TheConstants.{FIXED_LEN}
use Rattle.link_frames.specs.declared.kinds.FrameKind.{FrameKind}
use Rattle.link_frames.specs.declared.kinds.FrameKind.TheVariants as kind
use Rattle.link_frames.specs.declared.kinds.FrameReason.{FrameReason}
use Rattle.link_frames.specs.declared.kinds.FrameReason.TheVariants as reason
use Rattle.link_frames.specs.declared.kinds.Side.{Side}
use Rattle.link_frames.specs.declared.kinds.Side.TheVariants as side
use Rattle.link_frames.specs.Numbers.{word_of, half_in, word_in}

-- what a frame says
pub record Frame : Type 0 where
  pub endpoint : ℕ
  pub kind : FrameKind
  pub handles : List ℕ
  pub bytes : List ℕ

-- a frame by its parts
abbrev pub frame_with : ℕ → FrameKind → List ℕ → List ℕ → Frame
frame_with e k hs b = record { endpoint = e; kind = k; handles = hs; bytes = b }

-- the number that stands for a kind
abbrev pub number_of : FrameKind → ℕ
number_of kind.Message = 1
number_of kind.Close = 2
number_of kind.Turn = 3
number_of kind.Pick = 4
number_of kind.Refused = 5

-- whether a kind goes that way: what comes from the servers alone doesn't go to them
abbrev pub goes_to : Side → FrameKind → Bool
goes_to side.ToServers kind.Refused = false
goes_to side.ToServers other = true
goes_to side.Any other = true

-- whether so many handles and bytes are the shape of a kind
abbrev pub keeps_shape : FrameKind → ℕ → ℕ → Bool
keeps_shape kind.Message handles bytes = true
keeps_shape kind.Close handles bytes = (handles == 0) && (bytes == 0)
keeps_shape kind.Turn handles bytes = (handles == 0) && (bytes == 4)
keeps_shape kind.Pick handles bytes = (handles == 0) && (bytes == 0)
keeps_shape kind.Refused handles bytes = (handles == 0) && (bytes == 4)

-- the kind, the handles and the bytes go together, and within the limits
pub record HasShape (k : FrameKind) (handles bytes : ℕ) : Type 0 where
  pub few_handles : handles ≤ limit.MAX_HANDLES
  pub few_bytes : bytes ≤ limit.MAX_BYTES
  pub shape : IsTrue (keeps_shape k handles bytes)

-- a frame that may go that way
pub record IsFrame (s : Side) (f : Frame) : Type 0 where
  pub way : IsTrue (goes_to s f.kind)
  pub shape : HasShape f.kind (length f.handles) (length f.bytes)
  pub endpoint : f.endpoint < 2 ^ 32
  pub handles : All (λ h. h < 2 ^ 32) f.handles
  pub bytes : All (λ b. b < 256) f.bytes

-- the twelve bytes that every frame begins with
abbrev pub fixed_part : ℕ → FrameKind → ℕ → ℕ → List ℕ
fixed_part endpoint k handles bytes =
    word_of endpoint ++ (number_of k ∷ handles ∷ 0 ∷ 0 ∷ []) ++ word_of bytes

-- the fixed part, the handles, the bytes
abbrev pub spelling : Frame → List ℕ
spelling f =
    fixed_part f.endpoint f.kind (length f.handles) (length f.bytes) ++ flat_map word_of f.handles ++ f.bytes

-- how many bytes that is, with so many handles and bytes
abbrev pub spelled_len : ℕ → ℕ → ℕ
spelled_len handles bytes = FIXED_LEN + 4 * handles + bytes

-- these frames, one after another
abbrev pub spellings : List Frame → List ℕ
spellings frames = flat_map spelling frames

-- the kind with this number that goes that way
abbrev pub kind_of : Side → ℕ → Option FrameKind
kind_of s n =
    if n == 1 then Some kind.Message
    else if n == 2 then Some kind.Close
    else if n == 3 then Some kind.Turn
    else if n == 4 then Some kind.Pick
    else if (n == 5) && goes_to s kind.Refused then Some kind.Refused
    else None

-- the first reason against a fixed part with this kind, zero field, handle count and byte count
abbrev pub reason_of : Option FrameKind → ℕ → ℕ → ℕ → Option FrameReason
reason_of None field handles bytes = Some reason.Kind
reason_of (Some k) field handles bytes =
    if field == 0
    then (if nat_le handles limit.MAX_HANDLES
    then (if nat_le bytes limit.MAX_BYTES
    then (if keeps_shape k handles bytes then None else Some reason.Shape)
    else Some reason.Bytes)
    else Some reason.Handles)
    else Some reason.Zero

-- the first reason for which the fixed part in front of these bytes is bad on this side
unfoldable pub first_reason : Side → List ℕ → Option FrameReason
first_reason s b =
    reason_of (kind_of s (slice_index b 4)) (half_in (drop 6 b)) (slice_index b 5) (word_in (drop 8 b))

-- how long the frame is whose fixed part stands in front of these bytes
unfoldable pub size_of : List ℕ → ℕ
size_of b = FIXED_LEN + 4 * slice_index b 5 + word_in (drop 8 b)

-- fewer bytes than a fixed part, or the beginning of a frame that may go this way
abbrev pub IsPartial : Side → List ℕ → Type 0
IsPartial s rest =
    (length rest < FIXED_LEN)
    ⊎ ((f : Frame) × (more : List ℕ) × IsFrame s f × (0 < length more) × (spelling f ≡ rest ++ more))

-- the bytes are these frames, and then the beginning of one
pub record Frames (s : Side) (b : List ℕ) (frames : List Frame) (rest : List ℕ) : Type 0 where
  pub split : b ≡ spellings frames ++ rest
  pub each : All (IsFrame s) frames
  pub partial : IsPartial s rest

-- a whole fixed part stands in front, and it is bad for this first reason
pub record IsBadFront (s : Side) (b : List ℕ) (why : FrameReason) : Type 0 where
  pub whole : FIXED_LEN ≤ length b
  pub reason : first_reason s b ≡ Some why

-- the first `at` bytes are whole frames, and the fixed part behind them is bad for this first reason
pub record Bad (s : Side) (b : List ℕ) (at : ℕ) (why : FrameReason) : Type 0 where
  pub frames : List Frame
  pub tail : List ℕ
  pub split : b ≡ spellings frames ++ tail
  pub each : All (IsFrame s) frames
  pub place : length (spellings frames) ≡ at
  pub front : IsBadFront s tail why
