-- What the tree of a graph says of a node that the graph names.
use Rattle.std.proofs.Common.{◌≡◌, ℕ, zero, suc, ◌≤◌, Option, Some, None, refl, sym, ap, ◌∙◌, arith}
use Rattle.std.specs.Prelude.{unwrap_or}
use Rattle.std.specs.Option.{option_map}
use Rattle.node_graph.specs.declared.nodes.NodeRef.{NodeRef}
use Rattle.node_graph.specs.Graph.{Seat, Kept, seat_of, Names, number_of, kind_at, StandsFor}
use Rattle.node_graph.specs.Tree.{NodeRow, Tree, row_of, kind_of}

mapped : {A B : Type 0} (f : A → B) (o : Option A) (y : B) → option_map f o ≡ Some y → (x : A) × (o ≡ Some x) × (f x ≡ y)
mapped f None y is = absurd (cc)
mapped f (Some x) y is = (x, refl, ap (λ o. unwrap_or o y) is)

pub named_kind : (graph : Kept) (tree : Tree) (node : NodeRef) → StandsFor graph tree → Names graph node → kind_at graph (number_of node) ≡ kind_of tree (number_of node)
named_kind graph tree node stands names =
    let seat = mapped (λ (s : Seat). s.node) (seat_of graph (number_of node)) node names in
    ap (option_map (λ (s : Seat). s.kind)) seat.1 ∙ sym (ap (option_map (λ (row : NodeRow). row.kind)) (stands.rows (number_of node) seat.0 seat.1))

pub named_some : (graph : Kept) (tree : Tree) (node : NodeRef) → StandsFor graph tree → Names graph node → 1 ≤ number_of node
named_some graph tree node stands names =
    let seat = mapped (λ (s : Seat). s.node) (seat_of graph (number_of node)) node names in
    by_number (number_of node) (record { kind = seat.0.kind; bytes = seat.0.bytes }) (stands.rows (number_of node) seat.0 seat.1)
  where
    by_number : (number : ℕ) (row : NodeRow) → row_of tree.nodes number ≡ Some row → 1 ≤ number
    by_number zero row h = absurd (cc)
    by_number (suc place) row h = omega arith
