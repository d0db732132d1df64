use Rattle.std.proofs.Common.{take}
use Rattle.message_queues.specs.Steps.{Gathers}
use Rattle.message_queues.proofs.dying.Dying.add_all_carried.Given as goal

abbrev pub invariant-loop-sent : goal.invariant-loop-sent
invariant-loop-sent l = Gathers (take l.sent-index l.entries) l.fn.self l.self
