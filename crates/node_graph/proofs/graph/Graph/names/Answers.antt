use Rattle.std.proofs.Common.{ap, sym, ◌∙◌}
use Rattle.std.specs.FinMap as finite
use Rattle.node_graph.specs.Graph.{Kept}
use Rattle.node_graph.proofs.Linked.{len-edges_of}
use Rattle.node_graph.proofs.graph.Graph.names.Goals as goal

pub returns : goal.returns
returns c = c.len.ensures ∙ sym (len-edges_of c.self.inside.edges) ∙ ap (λ (g : Kept). finite.len g.edges) c.self.view_is
