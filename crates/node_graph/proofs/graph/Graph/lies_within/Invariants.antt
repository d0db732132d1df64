use Rattle.std.proofs.Common.{◌≡◌, ◌-◌, Some}
use Rattle.std.specs.FinMap as finite
use Rattle.node_graph.specs.declared.nodes.NodeKind.TheVariants.{Directory}
use Rattle.node_graph.specs.Refusals.{lies_within}
use Rattle.node_graph.specs.Graph.{Names, kind_at}
use Rattle.node_graph.proofs.graph.Graph.lies_within.Given as goal

abbrev pub invariant-loop : goal.invariant-loop
invariant-loop l =
    Names l.self l.at × (kind_at l.self l.at.number ≡ Some Directory)
    × (lies_within (finite.len l.self.edges) l.self.edges l.fn.dir.number l.above ≡ lies_within (l.end - l.counter) l.self.edges l.at.number l.above)
