use Rattle.journal_laws.proofs.Below.{below}
use Rattle.turn_law.proofs.LinkedSteps.{just_there}
use Rattle.turn_law.proofs.laws.frames_that_count_are_admitted.Goals as goal

pub returns : goal.returns
returns c = λ apart. just_there (below apart)
