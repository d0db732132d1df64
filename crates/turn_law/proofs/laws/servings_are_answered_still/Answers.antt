use Rattle.journal_laws.proofs.Below.{below}
use Rattle.turn_law.proofs.Answering.{answered_still}
use Rattle.turn_law.proofs.laws.servings_are_answered_still.Goals as goal

pub returns : goal.returns
returns c = λ apart. answered_still (below apart)
