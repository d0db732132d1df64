use Rattle.std.proofs.Common.{[], subst, sym}
use Rattle.journal_laws.proofs.Starting.{accepted_starts_are_starts}
use Rattle.vfs_journal.specs.Starts.{start_of}
use Rattle.vfs_world.specs.World.{StandsFor, World}
use Rattle.vfs_world.proofs.Begun.{stands}
use Rattle.vfs_world.proofs.beginning.begin.Goals as goal

pub returns-clause-stands : goal.returns-clause-stands
returns-clause-stands c =
    subst (λ (world : World). StandsFor (start_of c.args.start.now) world []) (sym c.new-2.ensures)
    (stands c.args.start.now c.in_ok-servers.servers.items c.in_ok-queues.queues c.in_ok-endpoints.endpoints
    (accepted_starts_are_starts c.args.start.now c.in_ok-queues.ensures.accepted c.in_ok-queues.ensures.bytes) c.in_ok-servers.ensures c.in_ok-queues.ensures.holds c.in_ok-endpoints.ensures)
