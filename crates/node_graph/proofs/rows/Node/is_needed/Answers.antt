use Rattle.std.proofs.Common.{rules}
use Rattle.node_graph.proofs.rows.Node.is_needed.Goals as goal

pub returns-then-is_linked : goal.returns-then-is_linked
returns-then-is_linked c = search rules

pub returns-else-is_linked : goal.returns-else-is_linked
returns-else-is_linked c = search rules
