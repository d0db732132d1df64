-- A number that stands at a place is among those from there on.
use Rattle.std.proofs.Common.{◌≡◌, ◌∙◌, ℕ, ◌+◌, ◌<◌, ◌||◌, true, List, length, drop, ap, sym, arith}
use Rattle.std.specs.Prelude.{slice_index}
use Rattle.std.proofs.lemmas.Bool.{eq-eqb}
use Rattle.std.proofs.lemmas.List.{at_drop_all, at_drop_more}
use Rattle.link_admission.specs.Numbering.{among}
use Rattle.link_frames.specs.Views.{handle_numbers}
use Rattle.link_admission.proofs.admission.stands_from.Goals as goal

found : (numbers : List ℕ) (number i : ℕ) → i < length numbers → slice_index numbers i ≡ number → among number (drop i numbers) ≡ true
found numbers number i within is =
    at_drop_more (among number) numbers i 0 within ∙ ap (λ b. b || among number (drop (i + 1) numbers)) (eq-eqb (slice_index numbers i) number is)

pub returns-then-at-number : goal.returns-then-at-number
returns-then-at-number c =
    sym (found (handle_numbers c.args.handles) c.args.number c.loop-i.i (omega (arith, c.len-i-end.ensures, c.loop-i-test.true)) (sym c.at.ensures ∙ c.if-at-number.true)) ∙ c.loop-i.invariant

pub returns : goal.returns
returns c = sym (at_drop_all (among c.args.number) (handle_numbers c.args.handles) c.loop-i.i (omega (arith, c.len-i-end.ensures, c.loop-i-test.false))) ∙ c.loop-i.invariant
