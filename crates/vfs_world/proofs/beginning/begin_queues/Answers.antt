use Rattle.std.proofs.Common.{ℕ, rules, subst}
use Rattle.message_queues.specs.Queues.{IsNew}
use Rattle.vfs_journal.specs.Starts.{start_of}
use Rattle.journal_laws.proofs.Starting.{accepted_starts_are_starts}
use Rattle.vfs_world.proofs.Begun.{holds_queues, none_bound}
use Rattle.vfs_world.proofs.beginning.begin_queues.Goals as goal

pub bind_firsts-requires-clause-sound : goal.bind_firsts-requires-clause-sound
bind_firsts-requires-clause-sound c = accepted_starts_are_starts c.args.start.now (search rules) (search rules)

pub bind_firsts-requires-clause-none : goal.bind_firsts-requires-clause-none
bind_firsts-requires-clause-none c =
    none_bound c.args.start.now c.in_ok-queues.queues (subst (λ (n : ℕ). IsNew c.in_ok-queues.queues n) c.servers.ensures.count c.in_ok-queues.ensures)

pub returns-clause-holds : goal.returns-clause-holds
returns-clause-holds c = holds_queues (start_of c.args.start.now) c.bind_firsts.new.queues c.in_ok-bind_firsts.ensures
