use Rattle.journal_laws.proofs.Below.{below}
use Rattle.turn_law.proofs.AllTold.{all_told}
use Rattle.turn_law.proofs.laws.where_nothing_waits_all_is_told.Goals as goal

pub returns : goal.returns
returns c = λ apart. all_told (below apart)
