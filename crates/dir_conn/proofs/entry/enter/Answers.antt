-- A text without a fault is the path of its names.
use Rattle.std.proofs.Common.{sym}
use Rattle.path_walk.proofs.PathLemmas.{path_complete}
use Rattle.dir_conn.proofs.entry.enter.Goals as goal

pub returns-clause-path : goal.returns-clause-path
returns-clause-path c = sym (path_complete c.args.text.now c.in-Ok-check.path c.in-Ok-check.ensures.path).1
