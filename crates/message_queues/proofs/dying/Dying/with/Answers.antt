use Rattle.std.proofs.Common.{arith}
use Rattle.message_queues.proofs.Listed.{listed_alone}
use Rattle.message_queues.proofs.dying.Dying.with.Goals as goal

pub invariant_of-result : goal.invariant_of-result
invariant_of-result c = listed_alone c.args.found.items c.new.result.keys (omega arith) (λ some. omega arith) c.new.ensures.empty
