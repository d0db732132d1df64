-- Which reason against a record is the first.
use Rattle.std.proofs.Common.{◌≡◌, ◌<◌, ℕ, List, [], ◌∷◌, arith}
use Rattle.std.specs.Prelude.{None}
use Rattle.link_frames.specs.Frames.{Frame}
use Rattle.vfs_journal.specs.Past.{history_of}
use Rattle.vfs_journal.specs.Session.{head}
use Rattle.vfs_journal.specs.Starts.{Start}
use Rattle.link_audit.specs.Auditing.{IsFirstWrong}
use Rattle.link_audit.specs.Records.{Record, comes_in, ends, goes_out, served}
use Rattle.link_audit.specs.Recorded.{IsAllOut, IsNext, NothingWaits, journal_of, out_of}
use Rattle.link_audit.specs.Verdicts.{IsWrong, rank_of}
use Rattle.link_audit.specs.declared.verdicts.Why.{Why}
use Rattle.link_audit.specs.declared.verdicts.Why.TheVariants as why
use Rattle.link_audit.proofs.OneVerdict.{never_bad}

-- a record with which no frame goes out is wrong for no earlier reason than a missing frame
none_before : (start : Start) (before : List Record) (one : Record) → out_of one ≡ [] → (other : Why) → rank_of other < 2 → IsWrong start before one other → ⊥
none_before start before one quiet why.BadRecord less wrong = never_bad start before one wrong
none_before start before (comes_in f) quiet why.WrongFrame less wrong = wrong
none_before start before (served e) quiet why.WrongFrame less wrong = wrong
none_before start before (goes_out f) quiet why.WrongFrame less wrong = let e : f ∷ [] ≡ [] = quiet in cc
none_before start before ends quiet why.WrongFrame less wrong = wrong
none_before start before one quiet why.MissingFrame less wrong = absurd (omega (arith, less))
none_before start before one quiet why.NothingToServe less wrong = absurd (omega (arith, less))
none_before start before one quiet why.StillWaiting less wrong = absurd (omega (arith, less))

missing_wrong : (start : Start) (before : List Record) (one : Record) → out_of one ≡ [] → (IsAllOut start before → ⊥) → IsWrong start before one why.MissingFrame
missing_wrong start before (comes_in f) quiet owed = owed
missing_wrong start before (served e) quiet owed = owed
missing_wrong start before (goes_out f) quiet owed = let e : f ∷ [] ≡ [] = quiet in cc
missing_wrong start before ends quiet owed = owed

pub missing_first : (start : Start) (before : List Record) (one : Record) → out_of one ≡ [] → (IsAllOut start before → ⊥) → IsFirstWrong start before one why.MissingFrame
missing_first start before one quiet owed = record { wrong = missing_wrong start before one quiet owed; first = none_before start before one quiet }

pub wrong_first : (start : Start) (before : List Record) (frame : Frame) → (IsNext start before frame → ⊥) → IsFirstWrong start before (goes_out frame) why.WrongFrame
wrong_first start before frame wrong = record { wrong = wrong; first = earlier }
  where
    earlier : (other : Why) → rank_of other < 1 → IsWrong start before (goes_out frame) other → ⊥
    earlier why.BadRecord less bad = bad
    earlier why.WrongFrame less bad = absurd (omega (arith, less))
    earlier why.MissingFrame less bad = bad
    earlier why.NothingToServe less bad = bad
    earlier why.StillWaiting less bad = bad

pub nothing_first : (start : Start) (before : List Record) (endpoint : ℕ) → IsAllOut start before
    → head start (history_of start (journal_of start before)) endpoint ≡ None → IsFirstWrong start before (served endpoint) why.NothingToServe
nothing_first start before endpoint all none = record { wrong = none; first = earlier }
  where
    earlier : (other : Why) → rank_of other < 3 → IsWrong start before (served endpoint) other → ⊥
    earlier why.BadRecord less bad = bad
    earlier why.WrongFrame less bad = bad
    earlier why.MissingFrame less bad = bad all
    earlier why.NothingToServe less bad = absurd (omega (arith, less))
    earlier why.StillWaiting less bad = bad

pub still_first : (start : Start) (before : List Record) → IsAllOut start before → (NothingWaits start before → ⊥) → IsFirstWrong start before ends why.StillWaiting
still_first start before all some = record { wrong = some; first = earlier }
  where
    earlier : (other : Why) → rank_of other < 4 → IsWrong start before ends other → ⊥
    earlier why.BadRecord less bad = bad
    earlier why.WrongFrame less bad = bad
    earlier why.MissingFrame less bad = bad all
    earlier why.NothingToServe less bad = bad
    earlier why.StillWaiting less bad = absurd (omega (arith, less))
