-- What a graph keeps of a node is what each tree that it stands for has of it.
use Rattle.std.proofs.Common.{◌≡◌, ◌∙◌, [], Option, Some, None, refl, ap, sym}
use Rattle.std.proofs.lemmas.Option.{none-some}
use Rattle.std.specs.Option.{option_map, option_map_or}
use Rattle.node_graph.specs.declared.nodes.NodeRef.{NodeRef}
use Rattle.node_graph.specs.Graph.{Kept, Seat, StandsFor, number_of, seat_of}
use Rattle.node_graph.specs.Tree.{NodeRow, Tree}
use Rattle.conn_rules.specs.Laws.{IsRowOf, KeptNodesAreRows}

row_kept : (graph : Kept) (tree : Tree) (node : NodeRef) → StandsFor graph tree → (found : Option Seat) → seat_of graph (number_of node) ≡ found →
    option_map (λ seat. seat.node) found ≡ Some node → IsRowOf graph tree node
row_kept graph tree node stands None at names = absurd (none-some node names)
row_kept graph tree node stands (Some seat) at names =
    let row = stands.rows (number_of node) seat at in
    record {
      kind = ap (option_map (λ (r : NodeRow). r.kind)) row ∙ sym (ap (option_map (λ (s : Seat). s.kind)) at);
      bytes = ap (λ r. option_map_or (λ (r : NodeRow). r.bytes) r []) row ∙ sym (ap (λ s. option_map_or (λ (s : Seat). s.bytes) s []) at);
    }

pub kept_rows : KeptNodesAreRows
kept_rows graph tree node stands names = row_kept graph tree node stands (seat_of graph (number_of node)) refl names
