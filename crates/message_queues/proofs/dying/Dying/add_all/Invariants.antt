use Rattle.std.proofs.Common.{◌≡◌, take}
use Rattle.message_queues.specs.Steps.{Adds}
use Rattle.message_queues.proofs.dying.Dying.add_all.Given as goal

abbrev pub invariant-loop-endpoint : goal.invariant-loop-endpoint
invariant-loop-endpoint l = record {
  found : Adds (take l.endpoint-index l.endpoints) l.fn.self.found l.self.found;
  tokens : l.self.tokens ≡ l.fn.self.tokens;
}
