use Rattle.journal_laws.proofs.Below.{below}
use Rattle.journal_laws.proofs.Carrying.{bind_what_they_carry}
use Rattle.journal_laws.proofs.laws.servings_bind_what_they_carry.Goals as goal

pub returns : goal.returns
returns c = λ apart. bind_what_they_carry (below apart)
