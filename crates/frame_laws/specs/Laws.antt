-- What a session writes is frames: who reads its output has them again, each as it was written.
use Rattle.std.specs.Prelude.{◌≡◌, ℕ, All, List, [], ◌++◌}
use Rattle.link_frames.specs.Frames.{Bad, Frame, Frames, IsFrame}
use Rattle.link_frames.specs.declared.kinds.FrameReason.{FrameReason}
use Rattle.link_frames.specs.declared.kinds.Mode.{Mode}
use Rattle.link_frames.specs.declared.kinds.Side.TheVariants.{Any, ToServers}
use Rattle.session_start.specs.Accepted.{AreAccepted, HasFilesOfBytes}
use Rattle.session_start.specs.Items.{Lists}
use Rattle.vfs_journal.specs.Entries.{Journal}
use Rattle.vfs_journal.specs.Lawful.{Lawful}
use Rattle.vfs_journal.specs.Output.{frames_behind, output_of}
use Rattle.vfs_journal.specs.Session.{ended, session}
use Rattle.vfs_journal.specs.Starts.{Start, start_of}
use Rattle.journal_laws.specs.Soundness.{IsStart}

-- each is a frame of the link; the bytes are these frames, with nothing behind them; whoever reads frames in them finds these, and no bad one
pub record IsReadAs (bytes : List ℕ) (frames : List Frame) : Type 0 where
  pub each : All (IsFrame Any) frames
  pub reads : Frames Any bytes frames []
  pub once : (others : List Frame) (rest : List ℕ) → Frames Any bytes others rest → (others ≡ frames) × (rest ≡ [])
  pub sound : (at : ℕ) (why : FrameReason) → Bad Any bytes at why → ⊥

-- the output is read as the frames that the journal stands for
abbrev pub IsReadBack : Start → Journal → Type 0
IsReadBack start journal = IsReadAs (output_of start journal) (frames_behind start journal)

-- what one journal writes behind another's output is read as the frames that it has more
pub record AreMore (start : Start) (earlier later : Journal) (part : List ℕ) : Type 0 where
  pub more : List Frame
  pub grown : frames_behind start later ≡ frames_behind start earlier ++ more
  pub read : IsReadAs part more

abbrev pub PartsAreReadBack : Type 0
PartsAreReadBack =
    (start : Start) (earlier later : Journal) (part : List ℕ) → IsStart start → Lawful start earlier → Lawful start later →
    output_of start later ≡ output_of start earlier ++ part → AreMore start earlier later part

-- ---- accepted trees

-- a session over an accepted tree, in either mode, before its last drain and behind it
abbrev pub SessionsAreReadBack : Type 0
SessionsAreReadBack =
    (lists : Lists) (by : Mode) (frames : List Frame) → AreAccepted lists → HasFilesOfBytes lists → All (IsFrame ToServers) frames →
    IsReadBack (start_of lists) (session (start_of lists) by frames) × IsReadBack (start_of lists) (ended (start_of lists) by frames)
