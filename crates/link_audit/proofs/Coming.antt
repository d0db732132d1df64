-- How far the auditor came in a recording, and what it says there.
use Rattle.std.proofs.Common.{◌≡◌, ◌+◌, ◌-◌, ℕ, List, [], ◌∷◌, ◌++◌, drop, length, take, refl, sym, ap, ◌∙◌, arith, append-nil, length-append, length-drop}
use Rattle.std.specs.Prelude.{None}
use Rattle.std.proofs.lemmas.List.{take_all}
use Rattle.std.proofs.lemmas.List.Elements.{All-nil}
use Rattle.vfs_journal.specs.Starts.{Start}
use Rattle.session_laws.proofs.Keeping.{lawful_keep}
use Rattle.link_audit.specs.Auditing.{Auditing, Audits, CameTo, IsFirstWrong, Judges}
use Rattle.link_audit.specs.Fronts.{record_of}
use Rattle.link_audit.specs.declared.records.Record.{Record as Lent}
use Rattle.link_audit.specs.declared.records.Record.TheVariants as lent
use Rattle.link_audit.specs.Records.{GoesOn, HasNoRecord, InFront, IsRecord, Record, ends, spelling_of, spellings_of}
use Rattle.link_audit.specs.Recorded.{IsLawful, journal_of}
use Rattle.link_audit.specs.Verdicts.{IsVerdict}
use Rattle.link_audit.specs.Vouching.{VouchesForLaws}
use Rattle.link_audit.specs.declared.verdicts.Verdict.{Verdict}
use Rattle.link_audit.specs.declared.verdicts.Verdict.TheVariants as verdict
use Rattle.link_audit.specs.declared.verdicts.Why.{Why}
use Rattle.link_audit.specs.declared.verdicts.Why.TheVariants as why
use Rattle.link_audit.proofs.OneVerdict.{fault_in_front, fault_of_front, one_verdict}
use Rattle.link_audit.proofs.Places.{all_more, spelled_more, stands_more, stands_none}

-- before the first record
pub came_to_first : (start : Start) (recording : List ℕ) (now : Auditing) → Audits start [] now → CameTo start recording 0 recording now
came_to_first start recording now audits = record {
  before = [];
  split = refl;
  sound = All-nil IsRecord;
  going = All-nil GoesOn;
  may = stands_none start;
  audits = audits;
  count = refl;
}

-- and behind one more
pub came_on : (start : Start) (recording : List ℕ) (place : ℕ) (rest more : List ℕ) (one : Record) (old new : Auditing) (came : CameTo start recording place rest old)
    → InFront rest one more → GoesOn one → Judges start came.before one new None → CameTo start recording (place + 1) more new
came_on start recording place rest more one old new came front goes judged = record {
  before = came.before ++ one ∷ [];
  split = came.split ∙ (ap (λ (b : List ℕ). spellings_of came.before ++ b) front.split ∙ sym (spelled_more came.before one more));
  sound = all_more IsRecord came.before one came.sound front.sound;
  going = all_more GoesOn came.before one came.going goes;
  may = stands_more start came.before one came.may judged.0;
  audits = judged.1;
  count = omega (arith, came.count, length-append came.before (one ∷ []));
}

-- the end, where nothing is wrong with it: the recording is lawful
lawful_by : (start : Start) (recording : List ℕ) (place : ℕ) (rest more : List ℕ) (old new : Auditing) (came : CameTo start recording place rest old)
    → InFront rest ends more → Judges start came.before ends new None → IsLawful start recording (came.before ++ ends ∷ [])
lawful_by start recording place rest more old new came front judged = record {
  before = came.before;
  ended = refl;
  going = came.going;
  sound = all_more IsRecord came.before ends came.sound front.sound;
  spelled =
      came.split
      ∙ (ap (λ (b : List ℕ). spellings_of came.before ++ b) (front.split ∙ ap (λ (b : List ℕ). spelling_of ends ++ b) (front.last refl))
      ∙ (sym (spelled_more came.before ends []) ∙ append-nil (spellings_of (came.before ++ ends ∷ []))));
  stands = stands_more start came.before ends came.may judged.0;
}

pub lawful_there : (start : Start) (recording : List ℕ) (place : ℕ) (rest more : List ℕ) (old new : Auditing) (came : CameTo start recording place rest old)
    → InFront rest ends more → Judges start came.before ends new None → IsVerdict start recording (verdict.Lawful (place + 1))
lawful_there start recording place rest more old new came front judged =
    (came.before ++ ends ∷ [], lawful_by start recording place rest more old new came front judged, omega (arith, came.count, length-append came.before (ends ∷ [])))

pub vouched_there : (start : Start) (recording : List ℕ) (place : ℕ) (rest more : List ℕ) (old new : Auditing) (came : CameTo start recording place rest old)
    → InFront rest ends more → Judges start came.before ends new None → VouchesForLaws start recording (verdict.Lawful (place + 1))
vouched_there start recording place rest more old new came front judged =
    let stands = judged.1.stands in (
      came.before ++ ends ∷ [],
      lawful_by start recording place rest more old new came front judged,
      lawful_keep judged.1.distinct start (journal_of start (came.before ++ ends ∷ [])) stands.sound stands.lawful,
    )

-- a record with which something is wrong
pub unlawful_there : (start : Start) (recording : List ℕ) (place : ℕ) (rest more : List ℕ) (one : Record) (reason : Why) (old : Auditing)
    (came : CameTo start recording place rest old) → InFront rest one more → IsFirstWrong start came.before one reason
    → IsVerdict start recording (verdict.Unlawful place reason)
unlawful_there start recording place rest more one reason old came front wrong = (
  came.before,
  record {
    rest = rest;
    split = came.split;
    sound = came.sound;
    going = came.going;
    stands = came.may;
    fault = fault_in_front start came.before rest one more reason front wrong.wrong;
    first = λ other less fault. wrong.first other less (fault_of_front start came.before rest one more other front fault);
  },
  came.count,
)

-- and no record
pub bad_there : (start : Start) (recording : List ℕ) (place : ℕ) (rest : List ℕ) (old : Auditing) → CameTo start recording place rest old → HasNoRecord rest
    → IsVerdict start recording (verdict.Unlawful place why.BadRecord)
bad_there start recording place rest old came none = (
  came.before,
  record {
    rest = rest;
    split = came.split;
    sound = came.sound;
    going = came.going;
    stands = came.may;
    fault = none;
    first = λ other less fault. absurd (omega (arith, less));
  },
  came.count,
)

-- another verdict is this one
pub only_one : (start : Start) (recording : List ℕ) (told : Verdict) → IsVerdict start recording told → (other : Verdict) → IsVerdict start recording other → told ≡ other
only_one start recording told is other also = one_verdict start recording told other is also

-- ---- the next record

pub goes_on_by : (one : Lent) → (one ≡ lent.End → ⊥) → GoesOn (record_of one)
goes_on_by (lent.In view) other = tt
goes_on_by (lent.Served endpoint) other = tt
goes_on_by (lent.Out view spelled) other = tt
goes_on_by lent.End other = absurd (other refl)

-- the bytes behind so many
pub rest_is : (n : ℕ) (rest : List ℕ) → take (length rest - n) (drop n rest) ≡ drop n rest
rest_is n rest = take_all (length rest - n) (drop n rest) (omega (arith, length-drop n rest))
