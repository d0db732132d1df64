use Rattle.journal_laws.proofs.Steps.{servings_take_effect}
use Rattle.journal_laws.proofs.laws.servings_take_effect.Goals as goal

pub returns : goal.returns
returns c = servings_take_effect
