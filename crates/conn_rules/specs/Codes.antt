-- The codes by which the values of a connection are told apart.
use Rattle.std.specs.Prelude.{◌≡◌, ℕ, zero, suc, Bool, List, [], refl}
use Rattle.std.specs.Coded.{Coded, code_by, coded×, coded_ℕ, coded_bool, coded_list}
use Rattle.io_messages.specs.declared.protocols.Protocol.{Protocol}
use Rattle.io_messages.specs.declared.protocols.Protocol.TheVariants as protocol
use Rattle.io_rights.specs.Operations.{OperationSet}
use Rattle.node_graph.specs.declared.nodes.NodeRef.{NodeRef}
use Rattle.node_graph.specs.Codes.{node_code, mask_code}
use Rattle.conn_rules.specs.declared.births.Birth as code
use Rattle.dirents.specs.declared.place.Place.{Place}
use Rattle.dirents.specs.declared.place.Place.TheVariants.{Start, AfterDot, After}
use Rattle.conn_rules.specs.Births.{Position, Connection}

abbrev pub number_of_protocol : Protocol → ℕ
number_of_protocol protocol.Directory = 0
number_of_protocol protocol.File = 1
number_of_protocol protocol.Node = 2
number_of_protocol protocol.Echo = 3
number_of_protocol protocol.Watcher = 4

abbrev pub protocol_with : ℕ → Protocol
protocol_with zero = protocol.Directory
protocol_with (suc zero) = protocol.File
protocol_with (suc (suc zero)) = protocol.Node
protocol_with (suc (suc (suc zero))) = protocol.Echo
protocol_with (suc (suc (suc (suc more)))) = protocol.Watcher

pub protocol_back : (p : Protocol) → protocol_with (number_of_protocol p) ≡ p
protocol_back protocol.Directory = refl
protocol_back protocol.File = refl
protocol_back protocol.Node = refl
protocol_back protocol.Echo = refl
protocol_back protocol.Watcher = refl

abbrev pub protocol_code : Coded Protocol
protocol_code = code_by ℕ coded_ℕ number_of_protocol protocol_with protocol_back

abbrev pub birth_code : Coded code.Birth
birth_code =
    code_by (NodeRef × (OperationSet × (Protocol × (Bool × Bool))))
    (coded× node_code (coded× mask_code (coded× protocol_code (coded× coded_bool coded_bool))))
    (λ b. (b.node, (b.rights, (b.protocol, (b.append, b.announce)))))
    (λ p. record {
      node = p.0;
      rights = p.1.0;
      protocol = p.1.1.0;
      append = p.1.1.1.0;
      announce = p.1.1.1.1;
    })
    (λ _. refl)

abbrev pub place_pair : Place → ℕ × List ℕ
place_pair Start = (0, [])
place_pair AfterDot = (1, [])
place_pair (After name) = (2, name)

abbrev pub place_from : ℕ → List ℕ → Place
place_from zero name = Start
place_from (suc zero) name = AfterDot
place_from (suc (suc more)) name = After name

pub place_back : (p : Place) → place_from (place_pair p).0 (place_pair p).1 ≡ p
place_back Start = refl
place_back AfterDot = refl
place_back (After name) = refl

abbrev pub place_code : Coded Place
place_code = code_by (ℕ × List ℕ) (coded× coded_ℕ (coded_list coded_ℕ)) place_pair
    (λ p. place_from p.0 p.1) place_back

abbrev pub position_code : Coded Position
position_code = code_by (ℕ × Place) (coded× coded_ℕ place_code) (λ p. (p.offset, p.place))
    (λ p. record { offset = p.0; place = p.1 }) (λ _. refl)

abbrev pub connection_code : Coded Connection
connection_code = code_by (code.Birth × Position) (coded× birth_code position_code)
    (λ c. (c.birth, c.position)) (λ p. record { birth = p.0; position = p.1 }) (λ _. refl)
