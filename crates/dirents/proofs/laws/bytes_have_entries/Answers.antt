use Rattle.dirents.proofs.Found.{bytes_have}
use Rattle.dirents.proofs.laws.bytes_have_entries.Goals as goal

pub returns : goal.returns
returns c = bytes_have
