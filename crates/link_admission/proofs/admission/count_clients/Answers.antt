use Rattle.std.proofs.Common.{◌≡◌, ◌∙◌, ◌+◌, ℕ, Bool, true, false, List, [], ◌∷◌, ap, arith, cond, refl, sym, take}
use Rattle.std.specs.Prelude.{count_by, slice_index}
use Rattle.std.proofs.lemmas.List.{take_all, take_more}
use Rattle.fidl_names.specs.HandleNumber.{is_client}
use Rattle.link_frames.specs.Views.{handle_numbers}
use Rattle.link_admission.proofs.Made.{count_by-append}
use Rattle.link_admission.proofs.admission.count_clients.Goals as goal
use Rattle.link_admission.proofs.admission.count_clients.Goals.{then-is_client, else-is_client}

counted : (number : ℕ) (is : Bool) → is_client number ≡ is → count_by is_client (number ∷ []) ≡ cond is 1 0
counted number is told = ap (λ (b : Bool). 0 + cond b 1 0) told ∙ plain is where
  plain : (b : Bool) → 0 + cond b 1 0 ≡ cond b 1 0
  plain true = refl
  plain false = refl

pub loop-i-preserved : goal.loop-i-preserved
loop-i-preserved c =
    let numbers : List ℕ = handle_numbers c.args.handles in
    let i = c.loop-i.i in
    let client : c.is_client.result ≡ is_client (slice_index numbers i) = c.is_client.ensures ∙ ap is_client c.at.ensures in
    let all : count_by is_client (take (i + 1) numbers) ≡ count_by is_client (take i numbers) + count_by is_client (slice_index numbers i ∷ []) =
    ap (count_by is_client) (take_more numbers i 0 (omega (arith, c.loop-i-test.true, c.len-i-end.ensures))) ∙ count_by-append is_client (take i numbers) (slice_index numbers i ∷ []) in
    elim c.if-is_client.branch [
      | then-is_client w ↦ omega (arith, w.count-is, c.loop-i.invariant, all, counted (slice_index numbers i) true (sym client ∙ w.if-is_client.true))
      | else-is_client w ↦ omega (arith, w.count-is, c.loop-i.invariant, all, counted (slice_index numbers i) false (sym client ∙ w.if-is_client.false))
    ]

pub returns : goal.returns
returns c = c.loop-i.invariant ∙ ap (λ (numbers : List ℕ). count_by is_client numbers) (take_all c.loop-i.i (handle_numbers c.args.handles) (omega (arith, c.loop-i-test.false, c.len-i-end.ensures)))
