use Rattle.std.proofs.Common.{subst}
use Rattle.node_graph.specs.Tree.{Tree}
use Rattle.node_graph.specs.Graph.{Kept, StandsFor}
use Rattle.node_graph.proofs.Begin.{root_named, root_kind}
use Rattle.node_graph.proofs.Standing.{stands_for}
use Rattle.node_graph.proofs.graph.Graph.root.Goals as goal

pub returns-clause-stands : goal.returns-clause-stands
returns-clause-stands c =
    let P : Kept → Type 0 = λ g. (tree : Tree) × StandsFor g tree in
    subst P c.self.view_is (stands_for c.self.inside.nodes c.self.inside.edges c.self.inside.made c.self.invariant)

pub returns-clause-named : goal.returns-clause-named
returns-clause-named c = root_named _ _ _ _ c.self.view_is c.self.invariant

pub returns-clause-kind : goal.returns-clause-kind
returns-clause-kind c = root_kind _ _ _ _ c.self.view_is c.self.invariant
