use Rattle.std.proofs.Common.{◌≡◌, ◌∙◌, ◌+◌, ◌<◌, Bool, true, false, List, ℕ, ap, arith, drop, length, sym}
use Rattle.std.specs.Prelude.{◌&&◌, not, slice_index}
use Rattle.std.proofs.lemmas.List.{at_drop_all, at_drop_more}
use Rattle.link_admission.specs.Admission.{LookUps, all_may_travel, may_travel}
use Rattle.link_admission.specs.Numbering.{among}
use Rattle.link_frames.specs.Views.{handle_numbers}
use Rattle.link_admission.proofs.admission.all_may_travel.Goals as goal

-- where one may travel and doesn't stand again, it is told by those behind it
passed : (told : LookUps) (numbers : List ℕ) (i number : ℕ) → i < length numbers → number ≡ slice_index numbers i → may_travel told number ≡ true → among number (drop (i + 1) numbers) ≡ false
    → all_may_travel told (drop (i + 1) numbers) ≡ all_may_travel told (drop i numbers)
passed told numbers i number low is travels once =
    let rest : List ℕ = drop (i + 1) numbers in
    sym (at_drop_more (all_may_travel told) numbers i 0 low
    ∙ ap (λ (n : ℕ). may_travel told n && not (among n rest) && all_may_travel told rest) (sym is)
    ∙ ap (λ (b : Bool). b && not (among number rest) && all_may_travel told rest) travels
    ∙ ap (λ (b : Bool). not b && all_may_travel told rest) once)

pub loop-i-preserved : goal.loop-i-preserved
loop-i-preserved g c =
    passed (g.L.LookUp.tells c.args.look_ups.now) (handle_numbers c.args.handles) c.loop-i.i c.at-handle.result (omega (arith, c.len-i-end.ensures, c.loop-i-test.true)) c.at-handle.ensures
    (sym c.may_travel.ensures ∙ c.if-not-may_travel.false) (sym c.stands_from.ensures ∙ c.if-stands_from.false)
    ∙ c.loop-i.invariant

pub returns : goal.returns
returns g c =
    sym (at_drop_all (all_may_travel (g.L.LookUp.tells c.args.look_ups.now)) (handle_numbers c.args.handles) c.loop-i.i (omega (arith, c.len-i-end.ensures, c.loop-i-test.false))) ∙ c.loop-i.invariant
