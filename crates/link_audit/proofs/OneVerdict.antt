-- A recording has one verdict.
use Rattle.std.proofs.Common.{◌≡◌, ℕ, List, [], ◌∷◌, ◌++◌, length, refl, sym, ap, ◌∙◌, subst, arith, append_assoc, append-nil, inl, inr}
use Rattle.std.specs.Prelude.{All}
use Rattle.std.proofs.lemmas.Bool.{cases_lt}
use Rattle.vfs_journal.specs.Starts.{Start}
use Rattle.link_audit.specs.Records.{GoesOn, InFront, IsRecord, Record, comes_in, ends, goes_out, served, spelling_of, spellings_of}
use Rattle.link_audit.specs.Recorded.{IsLawful, MayStand}
use Rattle.link_audit.specs.Verdicts.{HasFault, IsFirstFault, IsVerdict, IsWrong, rank_of}
use Rattle.link_audit.specs.declared.verdicts.Verdict.{Verdict}
use Rattle.link_audit.specs.declared.verdicts.Verdict.TheVariants as verdict
use Rattle.link_audit.specs.declared.verdicts.Why.{Why}
use Rattle.link_audit.specs.declared.verdicts.Why.TheVariants as why
use Rattle.link_audit.proofs.Tags.{one_front}
use Rattle.link_audit.proofs.Places.{all_at, cut_bytes, cut_last, none_spelled}

-- ---- one record

-- nothing is wrong with a record that may stand where it does
pub not_wrong : (start : Start) (before : List Record) (one : Record) (reason : Why) → MayStand start before one → IsWrong start before one reason → ⊥
not_wrong start before (comes_in f) why.BadRecord may wrong = wrong
not_wrong start before (comes_in f) why.WrongFrame may wrong = wrong
not_wrong start before (comes_in f) why.MissingFrame may wrong = wrong may
not_wrong start before (comes_in f) why.NothingToServe may wrong = wrong
not_wrong start before (comes_in f) why.StillWaiting may wrong = wrong
not_wrong start before (served e) why.BadRecord may wrong = wrong
not_wrong start before (served e) why.WrongFrame may wrong = wrong
not_wrong start before (served e) why.MissingFrame may wrong = wrong may.0
not_wrong start before (served e) why.NothingToServe may wrong = let some = may.1.1 in cc
not_wrong start before (served e) why.StillWaiting may wrong = wrong
not_wrong start before (goes_out f) why.BadRecord may wrong = wrong
not_wrong start before (goes_out f) why.WrongFrame may wrong = wrong may
not_wrong start before (goes_out f) why.MissingFrame may wrong = wrong
not_wrong start before (goes_out f) why.NothingToServe may wrong = wrong
not_wrong start before (goes_out f) why.StillWaiting may wrong = wrong
not_wrong start before ends why.BadRecord may wrong = wrong
not_wrong start before ends why.WrongFrame may wrong = wrong
not_wrong start before ends why.MissingFrame may wrong = wrong may.0
not_wrong start before ends why.NothingToServe may wrong = wrong
not_wrong start before ends why.StillWaiting may wrong = wrong may.1

pub never_bad : (start : Start) (before : List Record) (one : Record) → IsWrong start before one why.BadRecord → ⊥
never_bad start before (comes_in f) wrong = wrong
never_bad start before (served e) wrong = wrong
never_bad start before (goes_out f) wrong = wrong
never_bad start before ends wrong = wrong

same_front : (start : Start) (before : List Record) (rest : List ℕ) (one : Record) (more : List ℕ) (reason : Why) → InFront rest one more
    → (other : Record) (left : List ℕ) → InFront rest other left → IsWrong start before other reason → IsWrong start before one reason
same_front start before rest one more reason front other left it wrong =
    subst (λ (r : Record). IsWrong start before r reason) (one_front other one left more it.sound front.sound (sym it.split ∙ front.split)).0 wrong

-- the record in front of a rest, whichever fault is told of it
pub fault_of_front : (start : Start) (before : List Record) (rest : List ℕ) (one : Record) (more : List ℕ) (reason : Why) → InFront rest one more
    → HasFault start before rest reason → IsWrong start before one reason
fault_of_front start before rest one more why.BadRecord front none = absurd (none one more front)
fault_of_front start before rest one more why.WrongFrame front fault = same_front start before rest one more why.WrongFrame front fault.0 fault.1 fault.2 fault.3
fault_of_front start before rest one more why.MissingFrame front fault = same_front start before rest one more why.MissingFrame front fault.0 fault.1 fault.2 fault.3
fault_of_front start before rest one more why.NothingToServe front fault = same_front start before rest one more why.NothingToServe front fault.0 fault.1 fault.2 fault.3
fault_of_front start before rest one more why.StillWaiting front fault = same_front start before rest one more why.StillWaiting front fault.0 fault.1 fault.2 fault.3

pub fault_in_front : (start : Start) (before : List Record) (rest : List ℕ) (one : Record) (more : List ℕ) (reason : Why) → InFront rest one more
    → IsWrong start before one reason → HasFault start before rest reason
fault_in_front start before rest one more why.BadRecord front wrong = absurd (never_bad start before one wrong)
fault_in_front start before rest one more why.WrongFrame front wrong = (one, more, front, wrong)
fault_in_front start before rest one more why.MissingFrame front wrong = (one, more, front, wrong)
fault_in_front start before rest one more why.NothingToServe front wrong = (one, more, front, wrong)
fault_in_front start before rest one more why.StillWaiting front wrong = (one, more, front, wrong)

no_fault : (start : Start) (before : List Record) (rest : List ℕ) (one : Record) (more : List ℕ) (reason : Why) → InFront rest one more
    → MayStand start before one → HasFault start before rest reason → ⊥
no_fault start before rest one more reason front may fault = not_wrong start before one reason may (fault_of_front start before rest one more reason front fault)

-- ---- two faults

goes_on : (one : Record) → GoesOn one → one ≡ ends → ⊥
goes_on (comes_in f) on e = cc
goes_on (served a) on e = cc
goes_on (goes_out f) on e = cc
goes_on ends on e = on

-- no fault where others go on
behind_fault : (start : Start) (recording : List ℕ) (xs ys : List Record) (reason other : Why) (x : IsFirstFault start recording xs reason)
    (y : IsFirstFault start recording ys other) (zs : List Record) (z : Record) → ys ≡ xs ++ z ∷ zs → x.rest ≡ spellings_of (z ∷ zs) ++ y.rest → ⊥
behind_fault start recording xs ys reason other x y zs z more rest =
    no_fault start xs x.rest z (spellings_of zs ++ y.rest) reason
    (record {
      sound = all_at IsRecord ys xs zs z y.sound more;
      split = rest ∙ append_assoc (spelling_of z) (spellings_of zs) y.rest;
      last = λ e. absurd (goes_on z (all_at GoesOn ys xs zs z y.going more) e);
    })
    (y.stands xs zs z more) x.fault

-- so two lists before a fault are one
no_further : (start : Start) (recording : List ℕ) (xs ys : List Record) (reason other : Why) (x : IsFirstFault start recording xs reason)
    (y : IsFirstFault start recording ys other) (zs : List Record) → ys ≡ xs ++ zs → x.rest ≡ spellings_of zs ++ y.rest → (xs ≡ ys) × (x.rest ≡ y.rest)
no_further start recording xs ys reason other x y [] more rest = (sym (more ∙ append-nil xs), rest)
no_further start recording xs ys reason other x y (z ∷ zs) more rest = absurd (behind_fault start recording xs ys reason other x y zs z more rest)

same_place : (start : Start) (recording : List ℕ) (xs ys : List Record) (reason other : Why) (x : IsFirstFault start recording xs reason)
    (y : IsFirstFault start recording ys other) → (xs ≡ ys) × (x.rest ≡ y.rest)
same_place start recording xs ys reason other x y =
    elim (cut_bytes xs ys x.rest y.rest x.sound y.sound (sym x.split ∙ y.split)) [
      | inl on ↦ no_further start recording xs ys reason other x y on.0 on.1 on.2
      | inr on ↦ let same = no_further start recording ys xs other reason y x on.0 on.1 on.2 in (sym same.0, sym same.1)
    ]

same_rank : (reason other : Why) → rank_of reason ≡ rank_of other → reason ≡ other
same_rank why.BadRecord why.BadRecord e = refl
same_rank why.BadRecord why.WrongFrame e = absurd (omega (arith, e))
same_rank why.BadRecord why.MissingFrame e = absurd (omega (arith, e))
same_rank why.BadRecord why.NothingToServe e = absurd (omega (arith, e))
same_rank why.BadRecord why.StillWaiting e = absurd (omega (arith, e))
same_rank why.WrongFrame why.BadRecord e = absurd (omega (arith, e))
same_rank why.WrongFrame why.WrongFrame e = refl
same_rank why.WrongFrame why.MissingFrame e = absurd (omega (arith, e))
same_rank why.WrongFrame why.NothingToServe e = absurd (omega (arith, e))
same_rank why.WrongFrame why.StillWaiting e = absurd (omega (arith, e))
same_rank why.MissingFrame why.BadRecord e = absurd (omega (arith, e))
same_rank why.MissingFrame why.WrongFrame e = absurd (omega (arith, e))
same_rank why.MissingFrame why.MissingFrame e = refl
same_rank why.MissingFrame why.NothingToServe e = absurd (omega (arith, e))
same_rank why.MissingFrame why.StillWaiting e = absurd (omega (arith, e))
same_rank why.NothingToServe why.BadRecord e = absurd (omega (arith, e))
same_rank why.NothingToServe why.WrongFrame e = absurd (omega (arith, e))
same_rank why.NothingToServe why.MissingFrame e = absurd (omega (arith, e))
same_rank why.NothingToServe why.NothingToServe e = refl
same_rank why.NothingToServe why.StillWaiting e = absurd (omega (arith, e))
same_rank why.StillWaiting why.BadRecord e = absurd (omega (arith, e))
same_rank why.StillWaiting why.WrongFrame e = absurd (omega (arith, e))
same_rank why.StillWaiting why.MissingFrame e = absurd (omega (arith, e))
same_rank why.StillWaiting why.NothingToServe e = absurd (omega (arith, e))
same_rank why.StillWaiting why.StillWaiting e = refl

same_reason : (start : Start) (recording : List ℕ) (xs ys : List Record) (reason other : Why) (x : IsFirstFault start recording xs reason)
    (y : IsFirstFault start recording ys other) → reason ≡ other
same_reason start recording xs ys reason other x y =
    let same = same_place start recording xs ys reason other x y in
    let to_x : HasFault start xs x.rest other =
    subst (λ (r : List ℕ). HasFault start xs r other) (sym same.1) (subst (λ (l : List Record). HasFault start l y.rest other) (sym same.0) y.fault) in
    let to_y : HasFault start ys y.rest reason =
    subst (λ (r : List ℕ). HasFault start ys r reason) same.1 (subst (λ (l : List Record). HasFault start l x.rest reason) same.0 x.fault) in
    elim (cases_lt (rank_of reason) (rank_of other)) [
      | inl less ↦ absurd (y.first reason less to_y)
      | inr least ↦ elim (cases_lt (rank_of other) (rank_of reason)) [
        | inl less ↦ absurd (x.first other less to_x)
        | inr least' ↦ same_rank reason other (omega (arith, least, least'))
      ]
    ]

-- ---- lawful recordings

has_end : (before all : List Record) → all ≡ before ++ ends ∷ [] → All GoesOn all → ⊥
has_end before all e going = all_at GoesOn all before [] ends going e

-- behind the end of a lawful recording there is nothing
end_is_last : (before ys zs : List Record) (z : Record) → All GoesOn before → before ++ ends ∷ [] ≡ ys ++ z ∷ zs → z ≡ ends → zs ≡ []
end_is_last before ys zs z going e is =
    elim (cut_last before ys zs ends z e) [
      | inl same ↦ same.2
      | inr on ↦ absurd (goes_on z (all_at GoesOn before ys on.0 z going on.1) is)
    ]

no_rest : (zs : List Record) → zs ≡ [] → spellings_of zs ++ [] ≡ []
no_rest zs e = ap (λ (l : List Record). spellings_of l ++ []) e

lawful_front : (start : Start) (recording : List ℕ) (all xs : List Record) (reason : Why) (a : IsLawful start recording all)
    (x : IsFirstFault start recording xs reason) (zs : List Record) → all ≡ xs ++ zs → x.rest ≡ spellings_of zs ++ [] → ⊥
lawful_front start recording all xs reason a x [] more rest = has_end a.before xs (sym (more ∙ append-nil xs) ∙ a.ended) x.going
lawful_front start recording all xs reason a x (z ∷ zs) more rest =
    no_fault start xs x.rest z (spellings_of zs ++ []) reason
    (record {
      sound = all_at IsRecord all xs zs z a.sound more;
      split = rest ∙ append_assoc (spelling_of z) (spellings_of zs) [];
      last = λ e. no_rest zs (end_is_last a.before xs zs z a.going (sym a.ended ∙ more) e);
    })
    (a.stands xs zs z more) x.fault

-- a lawful recording has no fault
lawful_no_fault : (start : Start) (recording : List ℕ) (all xs : List Record) (reason : Why) → IsLawful start recording all → IsFirstFault start recording xs reason → ⊥
lawful_no_fault start recording all xs reason a x =
    elim (cut_bytes all xs [] x.rest a.sound x.sound (append-nil (spellings_of all) ∙ (sym a.spelled ∙ x.split))) [
      | inl on ↦ all_at GoesOn xs a.before on.0 ends x.going (on.1 ∙ (ap (λ (l : List Record). l ++ on.0) a.ended ∙ append_assoc a.before (ends ∷ []) on.0))
      | inr on ↦ lawful_front start recording all xs reason a x on.0 on.1 on.2
    ]

-- and is lawful in one way
lawful_once : (start : Start) (recording : List ℕ) (one other : List Record) → IsLawful start recording one → IsLawful start recording other → one ≡ other
lawful_once start recording one other a b =
    elim (cut_bytes one other [] [] a.sound b.sound (ap (λ (l : List ℕ). l ++ []) (sym a.spelled ∙ b.spelled))) [
      | inl on ↦ sym (on.1 ∙ (ap (λ (l : List Record). one ++ l) (none_spelled on.0 [] on.2) ∙ append-nil one))
      | inr on ↦ on.1 ∙ (ap (λ (l : List Record). other ++ l) (none_spelled on.0 [] on.2) ∙ append-nil other)
    ]

-- ---- verdicts

pub one_verdict : (start : Start) (recording : List ℕ) (one other : Verdict) → IsVerdict start recording one → IsVerdict start recording other → one ≡ other
one_verdict start recording (verdict.Lawful m) (verdict.Lawful n) a b =
    ap verdict.Lawful (sym a.2 ∙ (ap length (lawful_once start recording a.0 b.0 a.1 b.1) ∙ b.2))
one_verdict start recording (verdict.Lawful m) (verdict.Unlawful place reason) a b = absurd (lawful_no_fault start recording a.0 b.0 reason a.1 b.1)
one_verdict start recording (verdict.Unlawful place reason) (verdict.Lawful n) a b = absurd (lawful_no_fault start recording b.0 a.0 reason b.1 a.1)
one_verdict start recording (verdict.Unlawful m reason) (verdict.Unlawful n other) a b =
    let places : m ≡ n = sym a.2 ∙ (ap length (same_place start recording a.0 b.0 reason other a.1 b.1).0 ∙ b.2) in
    let reasons : reason ≡ other = same_reason start recording a.0 b.0 reason other a.1 b.1 in
    cc
