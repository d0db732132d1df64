-- The codes by which the values of a graph are told apart.
use Rattle.std.specs.Prelude.{◌≡◌, ℕ, zero, suc, Bool, List, refl}
use Rattle.std.specs.Coded.{Coded, code_by, coded×, coded_ℕ, coded_list, coded_bool}
use Rattle.std.specs.Ordering.{nat_cmp}
use Rattle.std.specs.FinMap as finite
use Rattle.io_rights.specs.Operations.{OperationSet}
use Rattle.node_graph.specs.declared.nodes.NodeKind.{NodeKind}
use Rattle.node_graph.specs.declared.nodes.NodeKind.TheVariants.{Directory, File, Service, Mount}
use Rattle.node_graph.specs.declared.nodes.NodeRef.{NodeRef}
use Rattle.node_graph.specs.Tree.{EdgeKey, EdgeTo, edge_cmp}
use Rattle.node_graph.specs.Graph.{Seat, Kept}

abbrev pub kind_pair : NodeKind → ℕ × ℕ
kind_pair Directory = (0, 0)
kind_pair File = (1, 0)
kind_pair Service = (2, 0)
kind_pair (Mount server) = (3, server)

abbrev pub kind_from : ℕ → ℕ → NodeKind
kind_from zero server = Directory
kind_from (suc zero) server = File
kind_from (suc (suc zero)) server = Service
kind_from (suc (suc (suc more))) server = Mount server

pub kind_from-kind_pair : (kind : NodeKind) → kind_from (kind_pair kind).0 (kind_pair kind).1 ≡ kind
kind_from-kind_pair Directory = refl
kind_from-kind_pair File = refl
kind_from-kind_pair Service = refl
kind_from-kind_pair (Mount server) = refl

abbrev pub kind_code : Coded NodeKind
kind_code = code_by (ℕ × ℕ) (coded× coded_ℕ coded_ℕ) kind_pair (λ p. kind_from p.0 p.1) kind_from-kind_pair

abbrev pub node_code : Coded NodeRef
node_code = code_by (ℕ × ℕ) (coded× coded_ℕ coded_ℕ) (λ node. (node.place, node.number)) (λ p. record { place = p.0; number = p.1 }) (λ _. refl)

abbrev pub mask_code : Coded OperationSet
mask_code =
    code_by (Bool × (Bool × (Bool × (Bool × (Bool × (Bool × (Bool × (Bool × Bool))))))))
    (coded× coded_bool (coded× coded_bool (coded× coded_bool (coded× coded_bool (coded× coded_bool (coded× coded_bool (coded× coded_bool (coded× coded_bool coded_bool))))))))
    (λ s. (s.connect, (s.read_bytes, (s.write_bytes, (s.execute, (s.get_attributes, (s.update_attributes, (s.enumerate, (s.traverse, s.modify_directory)))))))))
    (λ p. record {
      connect = p.0;
      read_bytes = p.1.0;
      write_bytes = p.1.1.0;
      execute = p.1.1.1.0;
      get_attributes = p.1.1.1.1.0;
      update_attributes = p.1.1.1.1.1.0;
      enumerate = p.1.1.1.1.1.1.0;
      traverse = p.1.1.1.1.1.1.1.0;
      modify_directory = p.1.1.1.1.1.1.1.1;
    })
    (λ _. refl)

abbrev pub seat_code : Coded Seat
seat_code =
    code_by (NodeRef × (NodeKind × (List ℕ × ℕ))) (coded× node_code (coded× kind_code (coded× (coded_list coded_ℕ) coded_ℕ)))
    (λ s. (s.node, (s.kind, (s.bytes, s.holds)))) (λ p. record { node = p.0; kind = p.1.0; bytes = p.1.1.0; holds = p.1.1.1 }) (λ _. refl)

abbrev pub key_code : Coded EdgeKey
key_code = code_by (ℕ × List ℕ) (coded× coded_ℕ (coded_list coded_ℕ)) (λ k. (k.directory, k.name)) (λ p. record { directory = p.0; name = p.1 }) (λ _. refl)

abbrev pub end_code : Coded EdgeTo
end_code = code_by (ℕ × OperationSet) (coded× coded_ℕ mask_code) (λ to. (to.child, to.mask)) (λ p. record { child = p.0; mask = p.1 }) (λ _. refl)

abbrev pub kept_code : Coded Kept
kept_code =
    code_by (finite.FinMap nat_cmp Seat × (finite.FinMap edge_cmp EdgeTo × ℕ)) (coded× (finite.code coded_ℕ seat_code) (coded× (finite.code key_code end_code) coded_ℕ))
    (λ g. (g.seats, (g.edges, g.made))) (λ p. record { seats = p.0; edges = p.1.0; made = p.1.1 }) (λ _. refl)
