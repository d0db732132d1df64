use Rattle.node_graph.specs.Ends.{name_in}
use Rattle.node_graph.proofs.Calls.{edge_found, found_named, found_kind}
use Rattle.node_graph.proofs.graph.Graph.lookup.Goals as goal

pub returns-clause-found : goal.returns-clause-found
returns-clause-found c = edge_found _ _ _ c.args.self.now c.self.view_is c.self.invariant (name_in c.args.dir.number c.args.name.now) c.find.result c.find.ensures.found

pub returns-clause-kept : goal.returns-clause-kept
returns-clause-kept c = found_named _ _ _ c.args.self.now c.self.view_is c.self.invariant (name_in c.args.dir.number c.args.name.now) c.find.result c.find.ensures.found

pub returns-clause-kind : goal.returns-clause-kind
returns-clause-kind c = found_kind _ _ _ c.args.self.now c.self.view_is c.self.invariant (name_in c.args.dir.number c.args.name.now) c.find.result c.find.ensures.found
