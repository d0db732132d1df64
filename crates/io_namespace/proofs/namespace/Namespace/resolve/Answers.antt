use Rattle.std.proofs.Common.{arith}
use Rattle.std.proofs.lemmas.List.{length-drop}
use Rattle.io_namespace.specs.Kept.{table_of}
use Rattle.io_namespace.proofs.ReachLemmas.{resolved_by}
use Rattle.io_namespace.proofs.namespace.Namespace.resolve.Goals as goal

pub returns-clause-found : goal.returns-clause-found
returns-clause-found c =
    resolved_by (λ step. step.now) (table_of c.args.self.now) _ c.in_ok-steps.steps.items c.in_ok-endpoint.field-0 c.in-Some.endpoint c.in-Some.used _ c.in_ok-rest.rest
    c.in_ok-steps.ensures
    (let h = c.in_ok-endpoint.ensures.found in rw c.deref.ensures.value at h)
    c.in-Some.is
    (let h = c.in_ok-rest.ensures in rw c.deref-2.ensures.value at h)
    (let l = length-drop c.in-Some.used c.in_ok-steps.steps.items in omega (arith, l))
