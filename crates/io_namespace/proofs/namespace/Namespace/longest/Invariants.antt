use Rattle.std.proofs.Common.{map}
use Rattle.io_namespace.proofs.ReachLemmas.{Ahead}
use Rattle.io_namespace.proofs.namespace.Namespace.longest.Given as goal

abbrev pub invariant-loop-i : goal.invariant-loop-i
invariant-loop-i l = Ahead l.self (map (λ step. step.now) l.steps) l.node l.i l.found
