use Rattle.link_admission.specs.Admission.{admission, look_ups}
use Rattle.link_frames.specs.Views.{frame_of}
use Rattle.vfs_world.specs.Running.{whole}
use Rattle.vfs_world.proofs.Admitting.{admits_it, leaves_it, refused_why}
use Rattle.vfs_world.proofs.session.Session.admit.Goals as goal

pub returns-clause-admitted : goal.returns-clause-admitted
returns-clause-admitted c = admits_it (whole c.args.self.now) c.admit.new.self (frame_of c.args.frame) c.admit.result c.admit.ensures.first c.admit.ensures.admitted

pub returns-clause-refused : goal.returns-clause-refused
returns-clause-refused c = refused_why (admission (look_ups c.args.self.now.endpoints) (frame_of c.args.frame)) c.admit.result c.admit.ensures.first

pub returns-clause-unchanged : goal.returns-clause-unchanged
returns-clause-unchanged c = leaves_it (whole c.args.self.now) c.admit.new.self c.admit.result c.admit.ensures.unchanged
