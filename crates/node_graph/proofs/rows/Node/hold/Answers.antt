use Rattle.std.proofs.Common.{ap, ◌+◌}
use Rattle.node_graph.specs.Cell.{Cell}
use Rattle.node_graph.proofs.rows.Node.hold.Goals as goal

pub returns : goal.returns
returns c = ap (λ (cell : Cell). record cell { holds = cell.holds + 1 }) c.self.view_is
