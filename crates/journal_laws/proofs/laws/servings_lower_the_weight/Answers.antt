use Rattle.journal_laws.proofs.Below.{below}
use Rattle.journal_laws.proofs.Draining.{servings_lower_the_weight}
use Rattle.journal_laws.proofs.laws.servings_lower_the_weight.Goals as goal

pub returns : goal.returns
returns c = λ apart. servings_lower_the_weight (below apart)
