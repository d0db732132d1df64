use Rattle.std.proofs.Common.{◌-◌, arith}
use Rattle.fidl_names.specs.declared.limits.TheConstants as limit
use Rattle.link_frames.specs.Views.{frame_of}
use Rattle.vfs_journal.specs.Session.{arrives}
use Rattle.vfs_world.specs.Running.{whole}
use Rattle.vfs_world.proofs.Lasting.{lasts_more}
use Rattle.vfs_world.proofs.CallResults.{on_ok}
use Rattle.vfs_world.proofs.AtOnce.{reached_by}
use Rattle.vfs_world.proofs.arriving.reach.Goals as goal

pub arrive-requires-clause-running : goal.arrive-requires-clause-running
arrive-requires-clause-running c = lasts_more (limit.MAX_PLACES - limit.FRAME_PLACES) limit.MAX_PLACES (whole c.args.session.now) (omega arith) c.requires.running

pub returns-in-None-clause-reached : goal.returns-in-None-clause-reached
returns-in-None-clause-reached c =
    λ start journal stands.
    on_ok c.arrive.result (reached_by start journal (arrives start journal (frame_of c.args.frame)) (whole c.arrive.new.session) c.args.outbox.now c.arrive.new.outbox)
    (c.arrive.ensures.arrived start journal stands)
