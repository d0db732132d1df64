use Rattle.std.proofs.Common.{◌≡◌, map, take}
use Rattle.std.specs.List.{join_with_byte}
use Rattle.path_walk.specs.Names.{slash}
use Rattle.io_namespace.proofs.resolved.PathText.of.Given as goal

abbrev pub invariant-loop-i : goal.invariant-loop-i
invariant-loop-i l = l.bytes.items ≡ join_with_byte slash (map (λ step. step.now) (take l.i l.steps))
