-- Words of steps: what one piece of the input led to, in a session that heard some frames before.
use Rattle.std.specs.Prelude.{◌≡◌, ℕ, ◌+◌, ◌≤◌, ◌⊎◌, IsTrue, List, [], ◌∷◌, ◌++◌, length, drop, All, Option}
use Rattle.std.specs.Io.KnownBytes.{Appends}
use Rattle.host_io.specs.Causes.{Rose}
use Rattle.host_io.specs.Streams.{AppendsPart}
use Rattle.link_frames.specs.Frames.{Frame, IsFrame, spellings, IsPartial, IsBadFront}
use Rattle.link_frames.specs.Fronts.{Begins}
use Rattle.link_frames.specs.declared.kinds.Side.{Side}
use Rattle.run_status.specs.declared.statuses.Status.{Status}
use Rattle.run_status.specs.declared.statuses.Status.TheVariants as status
use Rattle.run_status.specs.Texts.{PassedOn}
use Rattle.link_session.specs.declared.sessions.Served.{Served}
use Rattle.link_session.specs.declared.sessions.Served.TheVariants as served
use Rattle.link_session.specs.Session.{Course}

-- what is written never shrinks: more frames add to it, and so does the end
pub record IsGrowing (course : Course) : Type 0 where
  pub none : course.so_far [] ≡ []
  pub more : (frames later : List Frame) → Begins (course.so_far frames) (course.so_far (frames ++ later))
  pub last : (frames : List Frame) → Begins (course.so_far frames) (course.by_end frames)

-- what was held back is written in front, and the rest is still held
abbrev pub Passes : Option (List ℕ) → Option (List ℕ) → List ℕ → List ℕ → Type 0
Passes written written' held held' = (part : List ℕ) × Appends written written' part × (part ++ held' ≡ held)

-- one frame more: the session stands behind it, and what is written for it is held back
pub record HeardOne (course : Course) (Stands : List Frame → Type 0) (before : List Frame) (frame : Frame) (held held' : List ℕ) : Type 0 where
  pub stands : Stands (before ++ frame ∷ [])
  pub part : List ℕ
  pub more : course.so_far (before ++ frame ∷ []) ≡ course.so_far before ++ part
  pub appends : held' ≡ held ++ part

-- the end: what it adds is held back
pub record HeardEnd (course : Course) (frames : List Frame) (held held' : List ℕ) : Type 0 where
  pub part : List ℕ
  pub more : course.by_end frames ≡ course.so_far frames ++ part
  pub appends : held' ≡ held ++ part

-- the first n bytes are whole frames; what is written for them went to the sink, but for what is
-- held back
pub record Heard (side : Side) (course : Course) (Stands : List Frame → Type 0) (before : List Frame) (bytes : List ℕ)
    (written written' : Option (List ℕ)) (held : List ℕ) (n : ℕ) : Type 0 where
  pub frames : List Frame
  pub each : All (IsFrame side) frames
  pub split : bytes ≡ spellings frames ++ drop n bytes
  pub size : length (spellings frames) ≡ n
  pub stands : Stands (before ++ frames)
  pub owed : List ℕ
  pub more : course.so_far (before ++ frames) ≡ course.so_far before ++ owed
  pub passed : Passes written written' owed held

-- some frames stand in front, and a part of what is written for them was written
pub record HeardPart (side : Side) (course : Course) (before : List Frame) (bytes : List ℕ) (written written' : Option (List ℕ)) : Type 0 where
  pub frames : List Frame
  pub each : All (IsFrame side) frames
  pub begins : Begins (spellings frames) bytes
  pub part : List ℕ
  pub lawful : Begins (course.so_far before ++ part) (course.so_far (before ++ frames))
  pub got : Appends written written' part

abbrev pub IsServing : Side → Course → (List Frame → Type 0) → List Frame → List ℕ → Option (List ℕ) → Option (List ℕ) → List ℕ → Served → Type 0
IsServing side course Stands before bytes written written' held (served.Rest n) =
    Heard side course Stands before bytes written written' held n × IsPartial side (drop n bytes)
IsServing side course Stands before bytes written written' held (served.Bad n why) =
    Heard side course Stands before bytes written written' held n × IsBadFront side (drop n bytes) why
IsServing side course Stands before bytes written written' held served.Failed = HeardPart side course before bytes written written'

-- what is left behind the frames that were heard, with the number of frames before and after
abbrev pub Leaves : Side → List ℕ → ℕ → ℕ → Served → Type 0
Leaves side bytes count count' (served.Rest n) = (n ≤ length bytes) × (count' ≤ count + n) × IsPartial side (drop n bytes)
Leaves side bytes count count' (served.Bad n why) = n ≤ length bytes
Leaves side bytes count count' served.Failed = Unit {0}

-- the sink's count of faults rose where a write failed, and else stays
abbrev pub HasWriteCause : ℕ → ℕ → Served → Type 0
HasWriteCause before now served.Failed = Rose before now
HasWriteCause before now _ = now ≡ before

-- the end behind some frames: what it adds is written behind what was held back, and all is
-- flushed; or a part of that is written, since the sink failed; or it can't be had for want of
-- memory, and nothing is written
abbrev pub Finishes : Course → List Frame → Status → List ℕ → Option (List ℕ) → Option (List ℕ) → ℕ → ℕ → ℕ → Status → Type 0
Finishes course frames wanted held written written' flushed faults faults' answer =
    ((answer ≡ wanted) × (faults' ≡ faults) × ((last : List ℕ) × (course.by_end frames ≡ course.so_far frames ++ last) × PassedOn written written' (held ++ last) flushed))
    ⊎ (((answer ≡ status.WriteFault) × Rose faults faults'
    × ((last : List ℕ) × (course.by_end frames ≡ course.so_far frames ++ last) × AppendsPart written written' (held ++ last)))
    ⊎ ((answer ≡ status.NoMemory) × IsTrue course.starves × (faults' ≡ faults) × (written' ≡ written)))
