use Rattle.journal_laws.proofs.Below.{below}
use Rattle.journal_laws.proofs.Draining.{drains_serve_all}
use Rattle.journal_laws.proofs.laws.drains_serve_all.Goals as goal

pub returns : goal.returns
returns c = λ apart. drains_serve_all (below apart)
