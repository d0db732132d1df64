use Rattle.dirents.proofs.Once.{entries_once}
use Rattle.dirents.proofs.laws.entries_are_read_once.Goals as goal

pub returns : goal.returns
returns c = entries_once
