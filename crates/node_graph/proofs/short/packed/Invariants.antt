use Rattle.std.proofs.Common.{◌≡◌, take}
use Rattle.node_graph.specs.Short.{packed}
use Rattle.node_graph.proofs.short.packed.Given as goal

abbrev pub invariant-loop-byte : goal.invariant-loop-byte
invariant-loop-byte l = l.number ≡ packed (take l.byte-index l.name)
