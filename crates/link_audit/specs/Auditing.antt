-- What the auditor holds behind records.
use Rattle.std.specs.Prelude.{◌≡◌, ◌≤◌, ◌<◌, ℕ, All, List, [], ◌∷◌, ◌++◌, Option, Some, None, length}
use Rattle.link_frames.specs.declared.kinds.Side.TheVariants as side
use Rattle.link_frames.specs.Frames.{Frame, IsFrame, spellings}
use Rattle.fidl_wire.specs.Names.{AreDistinct}
use Rattle.vfs_journal.specs.Output.{frames_behind}
use Rattle.vfs_journal.specs.Starts.{Start}
use Rattle.vfs_world.specs.World.{StandsFor, World}
use Rattle.link_audit.specs.Records.{GoesOn, IsRecord, Record, spellings_of}
use Rattle.link_audit.specs.Recorded.{EachStands, MayStand, journal_of, outs}
use Rattle.link_audit.specs.Verdicts.{IsWrong, rank_of}
use Rattle.link_audit.specs.declared.verdicts.Why.{Why}

-- a world, and the bytes that it wrote and that didn't go out yet
pub record Auditing : Type 0 where
  pub world : World
  pub owed : List ℕ

-- the world stands for the journal of these records, and what is owed is the frames of it that didn't go out
pub record Audits (start : Start) (before : List Record) (now : Auditing) : Type 0 where
  pub distinct : AreDistinct
  pub stands : StandsFor start now.world (journal_of start before)
  pub owing : List Frame
  pub all : frames_behind start (journal_of start before) ≡ outs before ++ owing
  pub each : All (IsFrame side.Any) owing
  pub owed : now.owed ≡ spellings owing
  pub few : now.world.frames ≤ length before

-- the first that is wrong with a record
pub record IsFirstWrong (start : Start) (before : List Record) (one : Record) (why : Why) : Type 0 where
  pub wrong : IsWrong start before one why
  pub first : (other : Why) → rank_of other < rank_of why → IsWrong start before one other → ⊥

-- nothing is wrong with a record, and the auditor goes on behind it; or this is the first that is
abbrev pub Judges : Start → List Record → Record → Auditing → Option Why → Type 0
Judges start before one now None = MayStand start before one × Audits start (before ++ one ∷ []) now
Judges start before one now (Some why) = IsFirstWrong start before one why

-- the auditor came so far in a recording: behind so many records, each of which may stand where it does
pub record CameTo (start : Start) (recording : List ℕ) (place : ℕ) (rest : List ℕ) (now : Auditing) : Type 0 where
  pub before : List Record
  pub split : recording ≡ spellings_of before ++ rest
  pub sound : All IsRecord before
  pub going : All GoesOn before
  pub may : EachStands start before
  pub audits : Audits start before now
  pub count : length before ≡ place
