use Rattle.std.proofs.Common.{◌∙◌}
use Rattle.node_graph.proofs.Calls.{removed_counted}
use Rattle.node_graph.proofs.graph.Graph.removed.Goals as goal

pub returns-then-node-ne1 : goal.returns-then-node-ne1
returns-then-node-ne1 c = removed_counted c.args.self.now.edges c.args.node.number c.links.result c.if-node-ne1.true (c.links.ensures ∙ c.row.ensures.links)
