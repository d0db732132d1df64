-- What is said of a recording: that a recording is lawful, or the first record at which it isn't, with the first reason.
use Rattle.std.specs.Prelude.{◌≡◌, ◌<◌, ℕ, All, List, ◌++◌, length, codes, None}
use Rattle.vfs_journal.specs.Past.{history_of}
use Rattle.vfs_journal.specs.Session.{head}
use Rattle.vfs_journal.specs.Starts.{Start}
use Rattle.link_audit.specs.Records.{GoesOn, HasNoRecord, InFront, IsRecord, Record, comes_in, ends, goes_out, served, spellings_of}
use Rattle.link_audit.specs.Recorded.{EachStands, IsAllOut, IsLawful, IsNext, NothingWaits, journal_of}
use Rattle.link_audit.specs.declared.verdicts.Verdict.{Verdict}
use Rattle.link_audit.specs.declared.verdicts.Verdict.TheVariants as verdict
use Rattle.link_audit.specs.declared.verdicts.Why.{Why}
use Rattle.link_audit.specs.declared.verdicts.Why.TheVariants as why

-- the reasons in their order
abbrev pub rank_of : Why → ℕ
rank_of why.BadRecord = 0
rank_of why.WrongFrame = 1
rank_of why.MissingFrame = 2
rank_of why.NothingToServe = 3
rank_of why.StillWaiting = 4

abbrev pub text_of : Why → List ℕ
text_of why.BadRecord = codes "bad record"
text_of why.WrongFrame = codes "wrong frame"
text_of why.MissingFrame = codes "missing frame"
text_of why.NothingToServe = codes "nothing to serve"
text_of why.StillWaiting = codes "still waiting"

-- what is wrong with a record behind these
abbrev pub IsWrong : Start → List Record → Record → Why → Type 0
IsWrong start before (goes_out frame) why.WrongFrame = IsNext start before frame → ⊥
IsWrong start before (comes_in frame) why.MissingFrame = IsAllOut start before → ⊥
IsWrong start before (served endpoint) why.MissingFrame = IsAllOut start before → ⊥
IsWrong start before ends why.MissingFrame = IsAllOut start before → ⊥
IsWrong start before (served endpoint) why.NothingToServe = head start (history_of start (journal_of start before)) endpoint ≡ None
IsWrong start before ends why.StillWaiting = NothingWaits start before → ⊥
IsWrong _ _ _ _ = ⊥

-- what is wrong with the rest of a recording behind these records: no record stands in front of it, or one that is wrong
abbrev pub HasFault : Start → List Record → List ℕ → Why → Type 0
HasFault start before rest why.BadRecord = HasNoRecord rest
HasFault start before rest reason = (one : Record) × (more : List ℕ) × InFront rest one more × IsWrong start before one reason

-- these records, each of which may stand where it does, are in front of a recording, and this is the first fault of what follows
pub record IsFirstFault (start : Start) (recording : List ℕ) (before : List Record) (reason : Why) : Type 0 where
  pub rest : List ℕ
  pub split : recording ≡ spellings_of before ++ rest
  pub sound : All IsRecord before
  pub going : All GoesOn before
  pub stands : EachStands start before
  pub fault : HasFault start before rest reason
  pub first : (other : Why) → rank_of other < rank_of reason → HasFault start before rest other → ⊥

-- the verdict on a recording: how many records are lawful, or at which record it first isn't, counted from 0
abbrev pub IsVerdict : Start → List ℕ → Verdict → Type 0
IsVerdict start recording (verdict.Lawful records) = (all : List Record) × IsLawful start recording all × (length all ≡ records)
IsVerdict start recording (verdict.Unlawful place reason) =
    (before : List Record) × IsFirstFault start recording before reason × (length before ≡ place)
