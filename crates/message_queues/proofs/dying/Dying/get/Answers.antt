use Rattle.std.proofs.Common.{◌≤◌, ◌^◌, length, subst}
use Rattle.message_queues.specs.Steps.{Doomed}
use Rattle.message_queues.proofs.Listed.{listed_few}
use Rattle.message_queues.proofs.dying.Dying.get.Goals as goal

pub returns-clause-few : goal.returns-clause-few
returns-clause-few c = subst (λ (doomed : Doomed). length doomed.found ≤ 2 ^ 32) c.self.view_is (listed_few c.self.inside.found.items _ c.self.invariant)
