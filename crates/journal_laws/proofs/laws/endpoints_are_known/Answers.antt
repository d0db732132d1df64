use Rattle.journal_laws.proofs.Below.{below}
use Rattle.journal_laws.proofs.TransitLaws.{are_known}
use Rattle.journal_laws.proofs.laws.endpoints_are_known.Goals as goal

pub returns : goal.returns
returns c = λ apart. are_known (below apart)
