use Rattle.vfs_journal.specs.Session.{session}
use Rattle.vfs_script.specs.Scripts.{frames_of}
use Rattle.script_session.proofs.meter.Meter.hear_script.Goals as goal

pub returns : goal.returns
returns c = λ start text is metered.
    c.end.ensures start (session start c.args.self.now.mode (frames_of text)) (c.in_ok-hear_all.ensures.metered start text is metered)
