use Rattle.io_namespace.proofs.LawLemmas.{longest_reached, none_reached}
use Rattle.io_namespace.proofs.laws.resolving_laws.Goals as goal

pub returns : goal.returns
returns c = record { longest = longest_reached; none = none_reached }
