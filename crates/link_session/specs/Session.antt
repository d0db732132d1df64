-- How a session may end, and what its source gave and its sink got by then.
use Rattle.std.specs.Prelude.{◌≡◌, ◌≢◌, ℕ, Bool, IsTrue, ◌+◌, ◌<◌, ◌≤◌, ◌⊎◌, min, List, [], ◌++◌, length, take, Some}
use Rattle.std.specs.Io.KnownBytes.{Appends, Consumes, IsAtEnd}
use Rattle.fidl_names.specs.declared.limits.TheConstants as limit
use Rattle.host_io.specs.Causes.{Rose}
use Rattle.host_io.specs.Streams.{AreFlushed, IsFlushed}
use Rattle.link_frames.specs.Frames.{Frame, Frames, Bad}
use Rattle.link_frames.specs.Fronts.{Begins}
use Rattle.link_frames.specs.declared.fixed.TheConstants as fixed
use Rattle.link_frames.specs.declared.kinds.FrameReason.{FrameReason}
use Rattle.link_frames.specs.declared.kinds.Side.{Side}
use Rattle.run_status.specs.declared.statuses.Status.{Status}
use Rattle.run_status.specs.declared.statuses.Status.TheVariants as status
use Rattle.run_status.specs.Outside.{Streams, sink_of}
use Rattle.run_status.specs.Texts.{GotAll}

-- what a session does with frames: the bytes that are written for its frames so far, those that are
-- written by its end, which begin with them, and whether memory may be wanting on the way
pub record Course : Type 0 where
  pub so_far : List Frame → List ℕ
  pub by_end : List Frame → List ℕ
  pub starves : Bool

-- these bytes were taken from the source
abbrev pub Took : Streams → Streams → List ℕ → Type 0
Took before after taken = Consumes before.left after.left taken

-- the sink got these bytes
abbrev pub Wrote : Streams → Streams → List ℕ → Type 0
Wrote before after bytes = Appends before.written after.written bytes

-- and all that it got is flushed
abbrev pub WroteAll : Streams → Streams → List ℕ → Type 0
WroteAll before after bytes = GotAll (sink_of before) (sink_of after) bytes

-- no call of the source or the sink failed
pub record MetNoFault (before after : Streams) : Type 0 where
  pub source : after.read_faults ≡ before.read_faults
  pub sink : after.write_faults ≡ before.write_faults

-- the input was read to its end, and is whole frames
pub record IsDone (side : Side) (course : Course) (before after : Streams) : Type 0 where
  pub taken : List ℕ
  pub frames : List Frame
  pub took : Took before after taken
  pub few : length taken < limit.MAX_INPUT
  pub read : Frames side taken frames []
  pub at_end : IsAtEnd after.left
  pub wrote : WroteAll before after (course.by_end frames)
  pub faultless : MetNoFault before after

-- the input was read to its end, which lies inside the frame that begins there
pub record IsTruncated (side : Side) (course : Course) (before after : Streams) (at : ℕ) : Type 0 where
  pub taken : List ℕ
  pub frames : List Frame
  pub rest : List ℕ
  pub took : Took before after taken
  pub few : length taken < limit.MAX_INPUT
  pub read : Frames side taken frames rest
  pub inside : rest ≢ []
  pub place : at + length rest ≡ length taken
  pub at_end : IsAtEnd after.left
  pub wrote : WroteAll before after (course.by_end frames)
  pub faultless : MetNoFault before after

-- the first bad frame stands there; nothing was read behind the piece in which its fixed part ended
pub record IsBad (side : Side) (course : Course) (before after : Streams) (at : ℕ) (why : FrameReason) : Type 0 where
  pub taken : List ℕ
  pub frames : List Frame
  pub took : Took before after taken
  pub within : length taken ≤ limit.MAX_INPUT
  pub near : length taken < at + fixed.FIXED_LEN + limit.MAX_PIECE
  pub bad : Bad side taken at why
  pub before_it : Frames side (take at taken) frames []
  pub wrote : WroteAll before after (course.by_end frames)
  pub faultless : MetNoFault before after

-- as many bytes were taken as one session takes, and no frame in them is bad
pub record IsTooLong (side : Side) (course : Course) (before after : Streams) : Type 0 where
  pub taken : List ℕ
  pub frames : List Frame
  pub rest : List ℕ
  pub took : Took before after taken
  pub many : length taken ≡ limit.MAX_INPUT
  pub read : Frames side taken frames rest
  pub wrote : WroteAll before after (course.by_end frames)
  pub faultless : MetNoFault before after

-- a read failed; the whole frames that were taken are answered, and the answers are flushed, unless
-- nothing was taken and the sink left alone
pub record IsReadFault (side : Side) (course : Course) (before after : Streams) (sink_same : Type 0) : Type 0 where
  pub taken : List ℕ
  pub frames : List Frame
  pub rest : List ℕ
  pub took : Took before after taken
  pub few : length taken < limit.MAX_INPUT
  pub read : Frames side taken frames rest
  pub wrote : Wrote before after (course.so_far frames)
  pub flushed : ((taken ≡ []) × sink_same) ⊎ IsFlushed after.written after.flushed
  pub rose : Rose before.read_faults after.read_faults
  pub sink : after.write_faults ≡ before.write_faults

-- a front of the output for some of the whole frames that were taken
pub record IsPartSoFar (side : Side) (course : Course) (taken part : List ℕ) : Type 0 where
  pub front : List ℕ
  pub frames : List Frame
  pub begins : Begins front taken
  pub read : Frames side front frames []
  pub lawful : Begins part (course.so_far frames)

-- these are the whole frames of an input that ended, or has as many bytes as one session takes, or
-- is bad behind them
abbrev pub EndsBehind : Side → List ℕ → Type 0 → List Frame → Type 0
EndsBehind side taken at_end frames =
    ((rest : List ℕ) × Frames side taken frames rest × (at_end ⊎ (length taken ≡ limit.MAX_INPUT)))
    ⊎ ((at : ℕ) × (why : FrameReason) × Bad side taken at why × Frames side (take at taken) frames [])

-- a front of the output with the end, which the input has reached
pub record IsPartByEnd (side : Side) (course : Course) (taken : List ℕ) (at_end : Type 0) (part : List ℕ) : Type 0 where
  pub frames : List Frame
  pub ends : EndsBehind side taken at_end frames
  pub lawful : Begins part (course.by_end frames)

-- the output for the frames that were whole before the last read is in the part, and flushed;
-- before the first read none were. The last read is what it gave, and no more than 65,536 bytes of
-- it
abbrev pub KeepsUp : Side → Course → Streams → Streams → List ℕ → List ℕ → Type 0
KeepsUp side course before after taken part =
    (early last : List ℕ) (frames : List Frame) (rest : List ℕ) → taken ≡ early ++ last → min after.last limit.MAX_PIECE ≤ length last → early ≢ []
    → Frames side early frames rest
    → Begins (course.so_far frames) part × AreFlushed before.written (course.so_far frames) after.flushed

-- a part of the output is written, and no read failed
pub record IsCutOff (side : Side) (course : Course) (before after : Streams) : Type 0 where
  pub taken : List ℕ
  pub part : List ℕ
  pub took : Took before after taken
  pub within : length taken ≤ limit.MAX_INPUT
  pub lawful : IsPartSoFar side course taken part ⊎ IsPartByEnd side course taken (IsAtEnd after.left) part
  pub keeps_up : KeepsUp side course before after taken part
  pub wrote : Wrote before after part
  pub source : after.read_faults ≡ before.read_faults

-- a session, by the side that its frames come to
abbrev pub SessionAnswers : Side → Course → Streams → Streams → Type 0 → Status → Type 0
SessionAnswers side course before after sink_same status.Done = IsDone side course before after
SessionAnswers side course before after sink_same (status.Truncated at) = IsTruncated side course before after at
SessionAnswers side course before after sink_same (status.BadFrame at why) = IsBad side course before after at why
SessionAnswers side course before after sink_same status.InputTooLong = IsTooLong side course before after
SessionAnswers side course before after sink_same status.ReadFault = IsReadFault side course before after sink_same
SessionAnswers side course before after sink_same status.WriteFault =
    IsCutOff side course before after × Rose before.write_faults after.write_faults
SessionAnswers side course before after sink_same status.NoMemory =
    IsTrue course.starves × IsCutOff side course before after × (after.write_faults ≡ before.write_faults)
SessionAnswers side course before after sink_same _ = ⊥

-- the input is told, has few enough bytes, and is whole frames
pub record IsWhole (side : Side) (before : Streams) : Type 0 where
  pub input : List ℕ
  pub frames : List Frame
  pub told : before.left ≡ Some input
  pub few : length input < limit.MAX_INPUT
  pub read : Frames side input frames []
