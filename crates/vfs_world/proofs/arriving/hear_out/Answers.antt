use Rattle.std.proofs.Common.{◌+◌, ◌-◌}
use Rattle.fidl_names.specs.declared.limits.TheConstants as limit
use Rattle.link_frames.specs.Views.{frame_of}
use Rattle.vfs_journal.specs.Session.{arrives}
use Rattle.vfs_world.specs.Running.{whole}
use Rattle.vfs_world.proofs.Halves.{begins_on}
use Rattle.vfs_world.proofs.CallResults.{on_ok}
use Rattle.vfs_world.proofs.AtOnce.{drained_behind}
use Rattle.vfs_world.proofs.arriving.hear_out.Goals as goal

pub drain-requires : goal.drain-requires
drain-requires c = record { running = c.in_ok-reach.ensures.running (limit.MAX_PLACES - limit.FRAME_PLACES) c.requires.running }

pub returns-clause-heard : goal.returns-clause-heard
returns-clause-heard c =
    λ start journal stands.
    on_ok c.drain.result
    (λ drain. (drained_behind c.requires.running.apart start journal (arrives start journal (frame_of c.args.frame)) (whole c.reach.new.session) (whole c.drain.new.self) c.args.outbox.now c.reach.new.outbox c.drain.new.outbox
    (c.in_ok-reach.ensures.reached start journal stands) drain).0)
    c.drain.ensures.drained

pub returns-clause-none : goal.returns-clause-none
returns-clause-none c =
    λ start journal stands.
    on_ok c.drain.result
    (λ drain. (drained_behind c.requires.running.apart start journal (arrives start journal (frame_of c.args.frame)) (whole c.reach.new.session) (whole c.drain.new.self) c.args.outbox.now c.reach.new.outbox c.drain.new.outbox
    (c.in_ok-reach.ensures.reached start journal stands) drain).1)
    c.drain.ensures.drained

pub returns-clause-running : goal.returns-clause-running
returns-clause-running c = λ most runs. c.drain.ensures.running (most + limit.FRAME_PLACES) (c.in_ok-reach.ensures.running most runs)

pub returns-clause-begins : goal.returns-clause-begins
returns-clause-begins c = begins_on c.args.outbox.now c.reach.new.outbox c.drain.new.outbox c.reach.ensures.begins c.drain.ensures.begins
