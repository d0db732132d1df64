use Rattle.link_frames.specs.Views.{frame_of}
use Rattle.vfs_journal.specs.Session.{steps}
use Rattle.script_session.proofs.Metering.{metered_on}
use Rattle.script_session.proofs.meter.Meter.hear_one.Goals as goal

pub returns-clause-metered : goal.returns-clause-metered
returns-clause-metered c = λ start journal metered.
    metered_on start journal (steps start c.args.self.now.mode journal (frame_of c.args.frame)) c.args.self.now.world c.hear.new.self c.args.self.now.tally c.take.new.self
    c.clear.new.self c.hear.new.outbox c.as_bytes.result.now c.clear.ensures c.as_bytes.ensures metered (c.in_ok-hear.ensures.heard start journal metered.stands) c.take.ensures.tallied
