use Rattle.std.proofs.Common.{refl}
use Rattle.workload.proofs.draws.Draws.next.Goals as goal

pub returns-clause-drawn : goal.returns-clause-drawn
returns-clause-drawn c = refl
