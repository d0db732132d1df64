use Rattle.std.proofs.Common.{refl}
use Rattle.node_graph.proofs.changes.is_too_long.Goals as goal

pub returns : goal.returns
returns c = refl
