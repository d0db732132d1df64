use Rattle.vfs_world.proofs.world.take_back.Goals as goal

pub returns-clause-back : goal.returns-clause-back
returns-clause-back c = c.truncate.ensures
