use Rattle.std.proofs.Common.{sym, ap, ◌∙◌}
use Rattle.std.specs.FinMap as finite
use Rattle.node_graph.specs.Ends.{Ends}
use Rattle.node_graph.proofs.Ordered.{len-map_of}
use Rattle.node_graph.proofs.edges.Edges.len.Goals as goal

pub returns : goal.returns
returns c = c.len.ensures.len ∙ sym (len-map_of c.self.inside.names.entries c.self.invariant.0.in_order) ∙ ap (λ (m : Ends). finite.len m) c.self.view_is
