use Rattle.std.proofs.Common.{◌∙◌}
use Rattle.node_graph.proofs.graph.Graph.links.Goals as goal

pub returns : goal.returns
returns c = c.links.ensures ∙ c.row.ensures.links
