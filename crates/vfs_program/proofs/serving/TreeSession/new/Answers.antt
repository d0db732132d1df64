use Rattle.vfs_journal.specs.Starts.{start_of}
use Rattle.vfs_program.proofs.TreeLemmas.{stands_first}
use Rattle.vfs_program.proofs.serving.TreeSession.new.Goals as goal

pub returns-clause-stands : goal.returns-clause-stands
returns-clause-stands c = stands_first (start_of c.args.start.now) c.args.mode c.in_ok-world.world c.in_ok-world.ensures.stands
