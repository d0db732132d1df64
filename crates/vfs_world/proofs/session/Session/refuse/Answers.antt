-- What is written is the refusal.
use Rattle.vfs_world.proofs.session.Session.refuse.Goals as goal

pub returns-clause-written : goal.returns-clause-written
returns-clause-written c = c.in_ok-write_refused.ensures.written
