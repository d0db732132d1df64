-- The first name ends at the first slash.
use Rattle.std.proofs.Common.{ap, sym, ◌∙◌}
use Rattle.std.specs.List.{slice_get}
use Rattle.path_walk.proofs.PathLemmas.{names_of-at_dot, head_of, head_name}
use Rattle.path_walk.proofs.walk.Path.first.Goals as goal

pub returns-then-is_dot-clause-head : goal.returns-then-is_dot-clause-head
returns-then-is_dot-clause-head c =
    sym (ap (λ names. slice_get names 0) (sym c.self.view_is ∙ names_of-at_dot c.self.inside.text.now (sym c.is_dot.ensures ∙ c.if-is_dot.true)))

pub returns-clause-head : goal.returns-clause-head
returns-clause-head c =
    sym
    (ap (λ names. slice_get names 0) (sym c.self.view_is)
    ∙ head_of c.self.inside.text.now c.self.inside.end (sym c.is_dot.ensures ∙ c.if-is_dot.false) c.self.invariant.1.0 c.self.invariant.1.1)

pub returns-clause-name : goal.returns-clause-name
returns-clause-name c =
    head_name c.self.inside.text.now c.self.inside.end c.self.invariant.0 (sym c.is_dot.ensures ∙ c.if-is_dot.false) c.self.invariant.1.0 c.self.invariant.1.1
