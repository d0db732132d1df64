use Rattle.journal_laws.proofs.Below.{below}
use Rattle.turn_law.proofs.LinkedSteps.{frames_linked}
use Rattle.turn_law.proofs.laws.frames_are_linked.Goals as goal

pub returns : goal.returns
returns c = λ apart. frames_linked (below apart)
