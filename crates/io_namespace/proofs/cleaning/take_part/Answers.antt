use Rattle.std.proofs.Common.{◌∙◌, ◌-◌, sym, ap, map, take}
use Rattle.std.specs.Prelude.{vec_len}
use Rattle.std.proofs.lemmas.List.{length-map, map-append, take-map}
use Rattle.io_namespace.proofs.CleanLemmas.{stepped_skipped, stepped_up, stepped_down}
use Rattle.io_namespace.proofs.cleaning.take_part.Goals as goal

pub returns-then-not-is_step : goal.returns-then-not-is_step
returns-then-not-is_step c = sym (stepped_skipped _ _ (sym c.is_step.ensures ∙ c.if-not-is_step.true))

pub returns-then-is_up : goal.returns-then-is_up
returns-then-is_up c =
    ap (map (λ step. step.now)) c.pop.ensures.rest
    ∙ sym (take-map (λ step. step.now) (vec_len c.args.steps.now - 1) c.args.steps.now.items)
    ∙ ap (λ n. take (n - 1) (map (λ step. step.now) c.args.steps.now.items)) (c.args.steps.now.ok.0 ∙ sym (length-map c.args.steps.now.items (λ step. step.now)))
    ∙ sym (stepped_up _ _ (sym c.is_step.ensures ∙ c.if-not-is_step.false) (sym c.is_up.ensures ∙ c.if-is_up.true))

pub returns : goal.returns
returns c =
    ap (map (λ step. step.now)) c.in_ok-push.ensures.items
    ∙ map-append (λ step. step.now) c.args.steps.now.items _
    ∙ sym (stepped_down _ _ (sym c.is_step.ensures ∙ c.if-not-is_step.false) (sym c.is_up.ensures ∙ c.if-is_up.false))
