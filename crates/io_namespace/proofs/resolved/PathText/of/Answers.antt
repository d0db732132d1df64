use Rattle.std.proofs.Common.{◌≡◌, ◌∙◌, ◌++◌, ◌∷◌, [], ◌<◌, sym, ap, map, length, List, ℕ, arith}
use Rattle.std.specs.List.{join_with_byte}
use Rattle.std.proofs.lemmas.Bool.{eqb-true, eqb-false}
use Rattle.std.proofs.lemmas.List.{length-map, take_all}
use Rattle.path_walk.specs.Names.{slash}
use Rattle.io_namespace.proofs.JoinLemmas.{text_of_none, text_of_some, step_on}
use Rattle.io_namespace.proofs.resolved.PathText.of.Goals as goal

pub returns-then-is_empty : goal.returns-then-is_empty
returns-then-is_empty c =
    let none : length c.args.steps.now ≡ 0 = eqb-true _ 0 (sym c.is_empty.ensures ∙ c.if-is_empty.true) in
    c.in_ok-push.ensures.items ∙ ap (λ (b : List ℕ). b ++ 46 ∷ []) c.new-bytes.ensures.items
    ∙ sym (text_of_none (map (λ step. step.now) c.args.steps.now) (length-map c.args.steps.now (λ step. step.now) ∙ none))

pub loop-i-preserved : goal.loop-i-preserved
loop-i-preserved c =
    step_on (λ step. step.now) c.args.steps.now c.loop-i.i _ c.loop-i.bytes.items c.push-in-loop-i.new.self.items c.extend_from_slice-in-loop-i.new.self.items c.loop-i.invariant
    c.in_ok-push-2.ensures.items c.in_ok-extend_from_slice-2.ensures.items c.loop-i.auto.i c.loop-i-test.true

pub returns : goal.returns
returns c =
    let other = eqb-false (length c.args.steps.now) 0 (sym c.is_empty.ensures ∙ c.if-is_empty.false) in
    let some : 0 < length c.args.steps.now = omega (arith, other) in
    let all = take_all c.loop-i.i c.args.steps.now (omega (arith, c.loop-i-test.false)) in
    c.loop-i.invariant ∙ ap (λ l. join_with_byte slash (map (λ step. step.now) l)) all
    ∙ sym (text_of_some (map (λ step. step.now) c.args.steps.now) (omega (arith, some, length-map c.args.steps.now (λ step. step.now))))
