use Rattle.link_frames.specs.Views.{frame_of}
use Rattle.vfs_world.specs.Running.{whole}
use Rattle.vfs_world.proofs.Admitting.{lives, plain_admitted, plain_refused}
use Rattle.vfs_world.proofs.session.Session.admit_free.Goals as goal

pub admit_live-requires-clause-live : goal.admit_live-requires-clause-live
admit_live-requires-clause-live c = lives (whole c.args.self.now) (frame_of c.args.frame) c.args.server c.requires.running c.requires.free

pub returns-in-Ok-clause-admitted : goal.returns-in-Ok-clause-admitted
returns-in-Ok-clause-admitted c =
    plain_admitted (whole c.args.self.now) (frame_of c.args.frame) c.args.server c.requires.running c.requires.free c.admit_plain.new.self (c.is_plain.ensures c.if-not-is_plain.false) c.in-Ok.ensures.first c.in-Ok.ensures.admitted

pub returns-in-Err-clause-refused : goal.returns-in-Err-clause-refused
returns-in-Err-clause-refused c =
    plain_refused (whole c.args.self.now) (frame_of c.args.frame) c.args.server c.requires.running c.requires.free c.in-Err.why (c.is_plain.ensures c.if-not-is_plain.false) c.in-Err.ensures.first
