-- A name has at least one byte, and no more than a name may have.
use Rattle.path_walk.proofs.PartLemmas.{name_short}
use Rattle.dir_conn.proofs.make.bind_made.Goals as goal

pub make-requires-clause-some : goal.make-requires-clause-some
make-requires-clause-some c = (name_short c.args.name.now c.requires.missing.valid).0

pub make-requires-clause-few : goal.make-requires-clause-few
make-requires-clause-few c = (name_short c.args.name.now c.requires.missing.valid).1
