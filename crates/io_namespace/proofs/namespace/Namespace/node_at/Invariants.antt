use Rattle.std.proofs.Common.{◌≡◌, ◌<◌, length, map, take, Some}
use Rattle.io_namespace.specs.Entries.{Same}
use Rattle.io_namespace.specs.Kept.{node_behind, table_of}
use Rattle.io_namespace.proofs.namespace.Namespace.node_at.Given as goal

abbrev pub invariant-loop-i : goal.invariant-loop-i
invariant-loop-i l = record {
  node : node_behind l.self.edges 0 (map (λ step. step.now) (take l.i l.steps)) ≡ Some l.node;
  within : l.node < length l.self.ends;
  same : Same (table_of l.fn.self) (table_of l.self);
}
