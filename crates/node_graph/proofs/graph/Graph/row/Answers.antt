use Rattle.std.proofs.Common.{ap, []}
use Rattle.std.specs.Option.{option_map, option_map_or}
use Rattle.node_graph.specs.Graph.{Seat}
use Rattle.node_graph.proofs.Seats.{present, seat_here}
use Rattle.node_graph.proofs.Calls.{holds_here, links_here}
use Rattle.node_graph.proofs.graph.Graph.row.Goals as goal

pub index-requires : goal.index-requires
index-requires c = present c.self.inside.nodes c.self.inside.edges c.self.inside.made _ c.args.node c.self.view_is c.requires

pub returns-clause-kind : goal.returns-clause-kind
returns-clause-kind c = ap (option_map (λ (s : Seat). s.kind)) (seat_here c.self.inside.nodes c.self.inside.edges c.self.inside.made _ c.args.node c.self.view_is c.requires c.index.result.now c.index.ensures)

pub returns-clause-bytes : goal.returns-clause-bytes
returns-clause-bytes c = ap (λ s. option_map_or (λ (s : Seat). s.bytes) s []) (seat_here c.self.inside.nodes c.self.inside.edges c.self.inside.made _ c.args.node c.self.view_is c.requires c.index.result.now c.index.ensures)

pub returns-clause-holds : goal.returns-clause-holds
returns-clause-holds c = holds_here _ _ _ _ c.args.node c.self.view_is c.self.invariant c.requires c.index.result.now c.index.ensures

pub returns-clause-links : goal.returns-clause-links
returns-clause-links c = links_here _ _ _ _ c.args.node c.self.view_is c.self.invariant c.requires c.index.result.now c.index.ensures
