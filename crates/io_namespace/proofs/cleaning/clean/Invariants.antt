use Rattle.std.proofs.Common.{◌≡◌, [], map, length}
use Rattle.io_namespace.specs.Cleaning.{parts}
use Rattle.io_namespace.specs.Steps.{stepped_all}
use Rattle.io_namespace.proofs.cleaning.clean.Given as goal

abbrev pub decreases-loop-part : goal.decreases-loop-part
decreases-loop-part l = length l.parts

abbrev pub invariant-loop-part : goal.invariant-loop-part
invariant-loop-part l = stepped_all (map (λ step. step.now) l.steps.items) l.parts ≡ stepped_all [] (parts l.fn.text)
