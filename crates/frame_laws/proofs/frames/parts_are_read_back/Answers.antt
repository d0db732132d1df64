use Rattle.journal_laws.proofs.Below.{below}
use Rattle.frame_laws.proofs.Readings.{parts_are_read_back}
use Rattle.frame_laws.proofs.frames.parts_are_read_back.Goals as goal

pub returns : goal.returns
returns c = λ apart. parts_are_read_back (below apart)
