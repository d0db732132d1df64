use Rattle.journal_laws.proofs.Below.{below}
use Rattle.turn_law.proofs.AllSteps.{servings}
use Rattle.turn_law.proofs.laws.servings_agree.Goals as goal

pub returns : goal.returns
returns c = λ apart. servings (below apart)
