-- What a client may rely on where nobody changes anything: what each endpoint is told is a matter of
-- the frames that were sent, whatever was served when.
use Rattle.std.specs.Prelude.{◌≡◌, ℕ, All, List, [], filter, reverse}
use Rattle.link_frames.specs.declared.kinds.Mode.{Mode}
use Rattle.link_frames.specs.declared.kinds.Side.TheVariants.{ToServers}
use Rattle.link_frames.specs.Frames.{Frame, IsFrame}
use Rattle.vfs_journal.specs.Entries.{Journal}
use Rattle.vfs_journal.specs.History.{waiting}
use Rattle.vfs_journal.specs.Lawful.{Lawful}
use Rattle.vfs_journal.specs.Output.{frames_behind}
use Rattle.vfs_journal.specs.Past.{history_of}
use Rattle.vfs_journal.specs.Session.{ended}
use Rattle.vfs_journal.specs.Starts.{Start}
use Rattle.journal_laws.specs.Soundness.{IsStart}
use Rattle.turn_law.specs.Counting.{KeepPremises}
use Rattle.turn_law.specs.Steps.{IsMadeBySteps, is_sending}
use Rattle.turn_law.specs.Told.{messages_on, told}

-- the Message and Close frames among these
abbrev pub sending_frames : List Frame → List Frame
sending_frames frames = filter (λ frame. is_sending frame.kind) frames

-- the messages that a journal writes on each endpoint are those that it is told behind these frames
abbrev pub WritesWhatIsTold : Start → Journal → List Frame → Type 0
WritesWhatIsTold start journal frames =
    (endpoint : ℕ) →
    messages_on endpoint (frames_behind start journal) ≡ told start (sending_frames frames) endpoint

-- of each journal that frames and servings made, in whatever order, within the premises and with
-- nothing waiting at its end
abbrev pub AnswersAreTold : Type 0
AnswersAreTold =
    (start : Start) (journal : Journal) (frames : List Frame) → IsStart start →
    IsMadeBySteps start journal frames → KeepPremises start journal (sending_frames frames) →
    waiting (history_of start journal) ≡ [] → WritesWhatIsTold start journal frames

-- so of each ended session, in either mode
abbrev pub SessionsAreTold : Type 0
SessionsAreTold =
    (start : Start) (by : Mode) (frames : List Frame) → IsStart start →
    All (IsFrame ToServers) frames →
    KeepPremises start (ended start by frames) (sending_frames frames) →
    WritesWhatIsTold start (ended start by frames) frames

-- the frames that made a journal
pub record IsOfFrames (start : Start) (journal : Journal) : Type 0 where
  pub frames : List Frame
  pub made : IsMadeBySteps start journal frames

-- each lawful journal is made by frames and servings
abbrev pub JournalsAreOfFrames : Type 0
JournalsAreOfFrames =
    (start : Start) (journal : Journal) → Lawful start journal → IsOfFrames start journal
