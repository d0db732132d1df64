use Rattle.std.proofs.Common.{ap}
use Rattle.std.specs.Prelude.{is_some}
use Rattle.node_graph.proofs.Seats.{present}
use Rattle.node_graph.proofs.Calls.{holds_here, written, rows_released, released_now, released_tree, released_names}
use Rattle.node_graph.proofs.graph.Graph.release.Goals as goal

pub index_mut-row-requires : goal.index_mut-row-requires
index_mut-row-requires c = present c.self.inside.nodes c.self.inside.edges c.self.inside.made _ c.args.node c.self.view_is c.requires.named

pub release-requires : goal.release-requires
release-requires c = rw (← holds_here _ _ _ _ c.args.node c.self.view_is c.self.invariant c.requires.named c.index_mut-row.result.now c.index_mut-row.ensures.value) c.requires.held

pub forget-requires : goal.forget-requires
forget-requires c = ap is_some ((written _ _ _ _ c.args.node c.self.view_is c.self.invariant c.requires.named c.index_mut-row.result.now c.release.new.self c.index_mut-row.ensures.value).changed)

pub invariant_of-self : goal.invariant_of-self
invariant_of-self c = rows_released _ _ _ _ c.args.node c.self.view_is c.self.invariant c.requires.named c.index_mut-row.result.now c.release.new.self c.forget.new.nodes c.index_mut-row.ensures.value c.release.ensures c.forget.ensures

pub returns-clause-released : goal.returns-clause-released
returns-clause-released c = released_now _ _ _ _ c.args.node c.self.view_is c.self.invariant c.requires.named c.index_mut-row.result.now c.release.new.self c.forget.new.nodes c.index_mut-row.ensures.value c.release.ensures c.forget.ensures

pub returns-clause-tree : goal.returns-clause-tree
returns-clause-tree c = released_tree _ _ _ _ c.args.node c.self.view_is c.self.invariant c.requires.named c.index_mut-row.result.now c.release.new.self c.forget.new.nodes c.index_mut-row.ensures.value c.release.ensures c.forget.ensures

pub returns-clause-names : goal.returns-clause-names
returns-clause-names c = released_names _ _ _ _ c.args.node c.self.view_is c.self.invariant c.requires.named c.index_mut-row.result.now c.release.new.self c.forget.new.nodes c.index_mut-row.ensures.value c.release.ensures c.forget.ensures
