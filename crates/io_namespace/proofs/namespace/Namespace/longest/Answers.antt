use Rattle.std.proofs.Common.{◌≡◌, ◌∙◌, ◌≤◌, ◌+◌, ap, map, length, ℕ, Option, arith, subst}
use Rattle.std.specs.Prelude.{IfSome}
use Rattle.std.specs.Option.{option_or, option_map}
use Rattle.std.proofs.lemmas.List.{length-map}
use Rattle.io_namespace.specs.Kept.{Kept}
use Rattle.io_namespace.proofs.ReachLemmas.{ahead_first, ahead_end, step_on, step_nowhere}
use Rattle.io_namespace.proofs.namespace.Namespace.longest.Goals as goal

pub loop-i-init : goal.loop-i-init
loop-i-init c =
    ahead_first c.args.self.now (map (λ step. step.now) c.args.steps.now) c.end_behind-found.result
    (c.end_behind-found.ensures ∙ ap (option_map (λ e. (e, 0))) c.end_at.ensures)

pub returns-in_default-clause-found : goal.returns-in_default-clause-found
returns-in_default-clause-found c =
    step_nowhere (λ step. step.now) c.args.steps.now c.args.self.now c.self.inside.edges c.loop-i.node c.loop-i.i _ c.in_ok-next.field-0 c.loop-i.found
    (ap (λ (k : Kept). k.edges) c.self.view_is) c.loop-i.invariant c.loop-i-test.true c.in_ok-next.ensures c.in_default.is

pub returns-in_default-clause-within : goal.returns-in_default-clause-within
returns-in_default-clause-within c =
    subst (λ (n : ℕ). IfSome {T = ℕ × ℕ} c.loop-i.found (λ f. f.1 ≤ n)) (length-map c.args.steps.now (λ step. step.now)) c.loop-i.invariant.within

pub loop-i-preserved : goal.loop-i-preserved
loop-i-preserved c =
    step_on (λ step. step.now) c.args.steps.now c.args.self.now c.self.inside.edges c.loop-i.node c.in-Some.next c.loop-i.i _ c.in_ok-next.field-0 c.loop-i.found c.or-found.result
    (ap (λ (k : Kept). k.edges) c.self.view_is) c.loop-i.invariant c.loop-i-test.true c.in_ok-next.ensures c.in-Some.is
    (c.or-found.ensures ∙ ap (λ (o : Option (ℕ × ℕ)). option_or o c.loop-i.found) (c.end_behind.ensures ∙ ap (option_map (λ e. (e, c.loop-i.i + 1))) c.end_at-in-loop-i.ensures))

pub returns : goal.returns
returns c =
    let few : length (map (λ step. step.now) c.args.steps.now) ≡ length c.args.steps.now = length-map c.args.steps.now (λ step. step.now) in
    let past = c.loop-i-test.false in
    record {
      found = ahead_end c.args.self.now (map (λ step. step.now) c.args.steps.now) c.loop-i.node c.loop-i.i c.loop-i.found c.loop-i.invariant (omega (arith, few, past));
      within = subst (λ (n : ℕ). IfSome {T = ℕ × ℕ} c.loop-i.found (λ f. f.1 ≤ n)) few c.loop-i.invariant.within;
    }
