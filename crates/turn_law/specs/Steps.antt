-- The steps by which a journal is made. A journal keeps no refused frame; its steps do, so that they say which frames it was made of.
use Rattle.std.specs.Prelude.{◌≡◌, Bool, true, false, List, [], ◌∷◌, filter, reverse, Some, All, if◌then◌else◌}
use Rattle.link_admission.specs.Admission.{admission}
use Rattle.link_frames.specs.declared.kinds.FrameKind.{FrameKind}
use Rattle.link_frames.specs.declared.kinds.FrameKind.TheVariants as kind
use Rattle.link_frames.specs.declared.kinds.Mode.{Mode}
use Rattle.link_frames.specs.declared.kinds.Refusal.{Refusal}
use Rattle.link_frames.specs.declared.kinds.Side.TheVariants.{ToServers}
use Rattle.link_frames.specs.Frames.{Frame, IsFrame}
use Rattle.vfs_journal.specs.Entries.{Journal, Sent}
use Rattle.vfs_journal.specs.History.{History}
use Rattle.vfs_journal.specs.Lawful.{Lawful}
use Rattle.vfs_journal.specs.Past.{history_of}
use Rattle.vfs_journal.specs.Session.{after_serving, arrives, ended, head, look_ups, session}
use Rattle.vfs_journal.specs.Starts.{Start}

-- a frame arrives, or what waits first on an endpoint is served
pub data Step : Type 0 where
  arrival : Frame → Step
  service : Sent → Step

-- the journal behind steps, of which the newest stands first
unfoldable pub journal_of : Start → List Step → Journal
journal_of start [] = []
journal_of start (arrival frame ∷ earlier) = arrives start (journal_of start earlier) frame
journal_of start (service sent ∷ earlier) = after_serving start (journal_of start earlier) sent

-- and its past
abbrev pub past_of : Start → List Step → History
past_of start steps = history_of start (journal_of start steps)

-- a frame sends something, if it is admitted
abbrev pub is_sending : FrameKind → Bool
is_sending kind.Message = true
is_sending kind.Close = true
is_sending _ = false

-- a frame that asks for servings is a step of its own only where it is refused, and else these are
abbrev pub CanArrive : Start → Journal → Frame → FrameKind → Type 0
CanArrive start journal frame kind.Message = Unit {0}
CanArrive start journal frame kind.Close = Unit {0}
CanArrive start journal frame _ = (why : Refusal) × (admission (look_ups start (history_of start journal)) frame ≡ Some why)

abbrev pub CanStep : Start → Journal → Step → Type 0
CanStep start journal (arrival frame) = IsFrame ToServers frame × CanArrive start journal frame frame.kind
CanStep start journal (service sent) = head start (history_of start journal) sent.endpoint ≡ Some sent

-- each step can be taken behind those before it
abbrev pub AreSteps : Start → List Step → Type 0
AreSteps start [] = Unit {0}
AreSteps start (step ∷ earlier) = CanStep start (journal_of start earlier) step × AreSteps start earlier

-- the Message and Close frames among them, the newest first
abbrev pub frames_in : List Step → List Frame
frames_in [] = []
frames_in (arrival frame ∷ earlier) = if is_sending frame.kind then frame ∷ frames_in earlier else frames_in earlier
frames_in (service sent ∷ earlier) = frames_in earlier

-- ---- laws

-- steps make lawful journals
abbrev pub StepsAreLawful : Type 0
StepsAreLawful = (start : Start) (steps : List Step) → AreSteps start steps → Lawful start (journal_of start steps)

-- a journal that was made by steps of which the Message and Close frames are these, in their order
pub record IsMadeBySteps (start : Start) (journal : Journal) (frames : List Frame) : Type 0 where
  pub steps : List Step
  pub can : AreSteps start steps
  pub makes : journal_of start steps ≡ journal
  pub frames_are : frames_in steps ≡ reverse (filter (λ frame. is_sending frame.kind) frames)

-- a session in either mode is made by steps, and so is one with its last drain
abbrev pub SessionsAreSteps : Type 0
SessionsAreSteps =
    (start : Start) (by : Mode) (frames : List Frame) → All (IsFrame ToServers) frames →
    IsMadeBySteps start (session start by frames) frames × IsMadeBySteps start (ended start by frames) frames
