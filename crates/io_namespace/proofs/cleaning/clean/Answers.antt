use Rattle.std.proofs.Common.{◌∙◌, sym, ap, map}
use Rattle.io_namespace.specs.Steps.{stepped_all}
use Rattle.io_namespace.proofs.CleanLemmas.{stack_is_clean}
use Rattle.io_namespace.proofs.cleaning.clean.Goals as goal

pub returns : goal.returns
returns c =
    sym (ap (stepped_all (map (λ step. step.now) c.loop-part.steps.items)) c.in_default.ensures.none)
    ∙ c.loop-part.invariant ∙ stack_is_clean c.args.text.now
