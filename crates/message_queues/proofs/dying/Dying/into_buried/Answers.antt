use Rattle.message_queues.proofs.Listed.{listed_once}
use Rattle.message_queues.proofs.dying.Dying.into_buried.Goals as goal

pub returns-clause-once : goal.returns-clause-once
returns-clause-once c = listed_once c.self.inside.found.items _ c.self.invariant
