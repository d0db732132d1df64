use Rattle.std.proofs.Common.{◌≡◌}
use Rattle.std.specs.FinMap as finite
use Rattle.message_queues.specs.Steps.{IsRising, heads_with}
use Rattle.message_queues.proofs.heads.let_by.Given as goal

abbrev pub invariant-loop : goal.invariant-loop
invariant-loop l = record {
  same : heads_with l.line.items (finite.from_entries l.others.entries) ≡ heads_with l.fn.line.items (finite.from_entries l.fn.others.entries);
  rising : IsRising l.line.items;
}
