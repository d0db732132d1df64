use Rattle.vfs_journal.specs.Session.{drained}
use Rattle.script_session.proofs.Metering.{metered_on}
use Rattle.script_session.proofs.meter.Meter.end.Goals as goal
use Rattle.vfs_journal.specs.Output.{frames_behind}

pub returns : goal.returns
returns c = λ start journal metered.
    let later = drained start journal in
    let on = metered_on start journal later c.args.self.now.world c.drain.new.self c.args.self.now.tally c.take.new.self
    c.clear.new.self c.drain.new.outbox c.as_bytes.result.now c.clear.ensures c.as_bytes.ensures metered (c.in_ok-drain.ensures.drained start journal metered.stands) c.take.ensures.tallied in
    c.finish.ensures (frames_behind start later) on.tallies
