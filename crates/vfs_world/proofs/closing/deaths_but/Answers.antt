-- Each death is passed on but the one.
use Rattle.std.proofs.Common.{◌∙◌, ℕ, not, ap, filter, sym}
use Rattle.std.proofs.lemmas.List.{take_all}
use Rattle.vfs_world.specs.ServingSteps.{is_it}
use Rattle.vfs_world.proofs.Sorted.{passes_more, passes_over}
use Rattle.vfs_world.proofs.closing.deaths_but.Goals.{then-not-is_it+in_ok-push, else-not-is_it}
use Rattle.vfs_world.proofs.closing.deaths_but.Goals as goal

pub loop-death-preserved : goal.loop-death-preserved
loop-death-preserved c = elim c.if-not-is_it.branch [
  | then-not-is_it+in_ok-push w ↦
      passes_more (λ (number : ℕ). not (is_it c.args.one number)) c.args.dead.now c.loop-death.others.items c.if-not-is_it.others.items c.loop-death.death-index c.loop-death-test.true
      (ap not (sym c.is_it.ensures ∙ w.if-not-is_it.true)) c.loop-death.invariant (ap (λ others. others.items) w.others-is ∙ w.in_ok-push.ensures.items)
  | else-not-is_it w ↦
      passes_over (λ (number : ℕ). not (is_it c.args.one number)) c.args.dead.now c.loop-death.others.items c.if-not-is_it.others.items c.loop-death.death-index c.loop-death-test.true
      (ap not (sym c.is_it.ensures ∙ w.if-not-is_it.false)) c.loop-death.invariant (ap (λ others. others.items) w.others-is)
]

pub loop-death-init : goal.loop-death-init
loop-death-init c = c.new-others.ensures.items

pub returns : goal.returns
returns c = c.loop-death.invariant ∙ ap (filter (λ (number : ℕ). not (is_it c.args.one number))) (take_all c.loop-death.death-index c.args.dead.now c.loop-death-test.false)
