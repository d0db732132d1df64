-- What the program may answer, and what it read and wrote by then.
use Rattle.std.specs.Prelude.{◌≡◌, ◌≢◌, ℕ, ◌+◌, ◌<◌, ◌≤◌, All, List, [], ◌∷◌, ◌++◌, length, take, Option}
use Rattle.std.specs.Io.KnownBytes.{Consumes, IsAtEnd}
use Rattle.fidl_names.specs.declared.limits.TheConstants as limit
use Rattle.host_io.specs.Causes.{Rose}
use Rattle.host_io.specs.Streams.{AppendsPart}
use Rattle.link_frames.specs.Frames.{Bad, Frame, Frames, IsFrame, spelling, spellings}
use Rattle.link_frames.specs.Fronts.{Begins}
use Rattle.link_frames.specs.declared.fixed.TheConstants as fixed
use Rattle.link_frames.specs.declared.kinds.FrameReason.{FrameReason}
use Rattle.link_frames.specs.declared.kinds.Side.TheVariants.{Any}
use Rattle.run_status.specs.Outside.{Streams, sink_of}
use Rattle.run_status.specs.Texts.{GotAll}
use Rattle.link_session.specs.Session.{IsWhole}
use Rattle.dir_mirror.specs.Copies.{Copy, HasBadEvents, HasGoodEvents, Mirrors}
use Rattle.mirror_program.specs.Texts.{text_of}
use Rattle.mirror_program.specs.declared.statuses.MirrorStatus.{MirrorStatus}
use Rattle.mirror_program.specs.declared.statuses.MirrorStatus.TheVariants as status

-- the input was read to its end, it is whole frames, and the copy has what these say of the endpoint
pub record ReadsAll (endpoint : ℕ) (left left' : Option (List ℕ)) (copy : Copy) : Type 0 where
  pub taken : List ℕ
  pub frames : List Frame
  pub took : Consumes left left' taken
  pub few : length taken < limit.MAX_INPUT
  pub read : Frames Any taken frames []
  pub at_end : IsAtEnd left'
  pub of_it : copy.endpoint ≡ endpoint
  pub mirrors : Mirrors copy frames

-- these bytes were taken: whole frames, among which each message on the endpoint has good events, and a rest
pub record TookGood (endpoint : ℕ) (left left' : Option (List ℕ)) (taken : List ℕ) (frames : List Frame) (rest : List ℕ) : Type 0 where
  pub took : Consumes left left' taken
  pub read : Frames Any taken frames rest
  pub good : All (HasGoodEvents endpoint) frames

-- a read failed
pub record IsReadFault (endpoint : ℕ) (left left' : Option (List ℕ)) (faults faults' : ℕ) : Type 0 where
  pub taken : List ℕ
  pub frames : List Frame
  pub rest : List ℕ
  pub took : TookGood endpoint left left' taken frames rest
  pub few : length taken < limit.MAX_INPUT
  pub rose : Rose faults faults'

-- the input was read to its end, which lies inside the frame that begins there
pub record IsTruncated (endpoint : ℕ) (left left' : Option (List ℕ)) (faults faults' at : ℕ) : Type 0 where
  pub taken : List ℕ
  pub frames : List Frame
  pub rest : List ℕ
  pub took : TookGood endpoint left left' taken frames rest
  pub few : length taken < limit.MAX_INPUT
  pub inside : rest ≢ []
  pub place : at + length rest ≡ length taken
  pub at_end : IsAtEnd left'
  pub calm : faults' ≡ faults

-- as many bytes were taken as one session takes
pub record IsTooLong (endpoint : ℕ) (left left' : Option (List ℕ)) (faults faults' : ℕ) : Type 0 where
  pub taken : List ℕ
  pub frames : List Frame
  pub rest : List ℕ
  pub took : TookGood endpoint left left' taken frames rest
  pub many : length taken ≡ limit.MAX_INPUT
  pub calm : faults' ≡ faults

-- the first bad frame stands there, and each message on the endpoint before it has good events; nothing was read behind the piece
-- in which its fixed part ended
pub record IsBadFrame (endpoint : ℕ) (left left' : Option (List ℕ)) (faults faults' at : ℕ) (why : FrameReason) : Type 0 where
  pub taken : List ℕ
  pub frames : List Frame
  pub took : Consumes left left' taken
  pub within : length taken ≤ limit.MAX_INPUT
  pub near : length taken < at + fixed.FIXED_LEN + limit.MAX_PIECE
  pub bad : Bad Any taken at why
  pub before_it : Frames Any (take at taken) frames []
  pub good : All (HasGoodEvents endpoint) frames
  pub calm : faults' ≡ faults

-- the first message on the endpoint that has no good events is the frame that stands there, behind whole frames; nothing was read
-- behind the piece in which it ended
pub record IsBadEvents (endpoint : ℕ) (left left' : Option (List ℕ)) (faults faults' at : ℕ) : Type 0 where
  pub taken : List ℕ
  pub frames : List Frame
  pub frame : Frame
  pub took : Consumes left left' taken
  pub within : length taken ≤ limit.MAX_INPUT
  pub each : All (IsFrame Any) (frames ++ frame ∷ [])
  pub begins : Begins (spellings (frames ++ frame ∷ [])) taken
  pub place : length (spellings frames) ≡ at
  pub near : length taken < at + length (spelling frame) + limit.MAX_PIECE
  pub good : All (HasGoodEvents endpoint) frames
  pub bad : HasBadEvents endpoint frame
  pub calm : faults' ≡ faults

-- why the reading stopped before the input ended between frames; for want of memory it may stop anywhere
abbrev pub Stops : ℕ → Option (List ℕ) → Option (List ℕ) → ℕ → ℕ → MirrorStatus → Type 0
Stops endpoint left left' faults faults' status.ReadFault = IsReadFault endpoint left left' faults faults'
Stops endpoint left left' faults faults' (status.BadFrame at why) = IsBadFrame endpoint left left' faults faults' at why
Stops endpoint left left' faults faults' (status.BadEvents at) = IsBadEvents endpoint left left' faults faults' at
Stops endpoint left left' faults faults' (status.Truncated at) = IsTruncated endpoint left left' faults faults' at
Stops endpoint left left' faults faults' status.InputTooLong = IsTooLong endpoint left left' faults faults'
Stops endpoint left left' faults faults' status.NoMemory = faults' ≡ faults
Stops endpoint left left' faults faults' _ = ⊥

-- all was read, and no read failed
abbrev pub IsWholeCopy : ℕ → Streams → Streams → Copy → Type 0
IsWholeCopy endpoint before after copy = ReadsAll endpoint before.left after.left copy × (after.read_faults ≡ before.read_faults)

-- the text of the copy is all that was written, and it is flushed; where the sink failed a front of it was written; and where the
-- reading stopped nothing was
abbrev pub Answers : ℕ → Streams → Streams → Type 0 → MirrorStatus → Type 0
Answers endpoint before after sink_same status.Done =
    (copy : Copy) × IsWholeCopy endpoint before after copy × GotAll (sink_of before) (sink_of after) (text_of copy.names copy.ended)
    × (after.write_faults ≡ before.write_faults)
Answers endpoint before after sink_same status.WriteFault =
    (copy : Copy) × IsWholeCopy endpoint before after copy × AppendsPart before.written after.written (text_of copy.names copy.ended)
    × Rose before.write_faults after.write_faults
Answers endpoint before after sink_same other = sink_same × Stops endpoint before.left after.left before.read_faults after.read_faults other

-- the input is told, has few enough bytes, and is whole frames, among which each message on the endpoint has good events
pub record IsTakable (endpoint : ℕ) (before : Streams) : Type 0 where
  pub whole : IsWhole Any before
  pub good : All (HasGoodEvents endpoint) whole.frames

-- no fault came from outside
pub record MetNone (before after : Streams) : Type 0 where
  pub source : Rose before.read_faults after.read_faults → ⊥
  pub sink : Rose before.write_faults after.write_faults → ⊥

abbrev pub IsDoneOrNoMemory : MirrorStatus → Type 0
IsDoneOrNoMemory status.Done = Unit {0}
IsDoneOrNoMemory status.NoMemory = Unit {0}
IsDoneOrNoMemory _ = ⊥
