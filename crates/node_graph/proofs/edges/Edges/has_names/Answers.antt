use Rattle.std.proofs.Common.{◌∙◌, ap}
use Rattle.node_graph.proofs.Listed.{is_any, first_is_any, some_listed}
use Rattle.node_graph.proofs.edges.Edges.has_names.Goals as goal

pub returns : goal.returns
returns c = c.is_some.ensures ∙ first_is_any _ _ _ _ c.next.ensures.steps ∙ ap is_any c.after-names.ensures.names ∙ some_listed c.args.self.now c.args.node.number
