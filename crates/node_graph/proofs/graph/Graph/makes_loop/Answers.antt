use Rattle.std.proofs.Common.{◌∙◌, Bool, ap, sym, ◌&&◌}
use Rattle.std.specs.FinMap as finite
use Rattle.node_graph.specs.Refusals.{lies_within}
use Rattle.node_graph.proofs.graph.Graph.makes_loop.Goals as goal

pub returns-then-is_directory : goal.returns-then-is_directory
returns-then-is_directory c =
    c.lies_within.ensures
    ∙ ap (λ (directory : Bool). directory && lies_within (finite.len c.args.self.now.edges) c.args.self.now.edges c.args.into.number c.args.node.number) (sym (sym c.is_directory.ensures ∙ c.if-is_directory.true))
