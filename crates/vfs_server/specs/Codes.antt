-- The codes by which servers and seats are told apart.
use Rattle.std.specs.Prelude.{ℕ, List, Bool, refl}
use Rattle.std.specs.Coded.{Coded, code_by, coded×, coded_ℕ, coded_bool, coded_list}
use Rattle.std.specs.FinMap as finite
use Rattle.std.specs.Ordering.{nat_cmp}
use Rattle.io_messages.specs.declared.protocols.Protocol.{Protocol}
use Rattle.io_rights.specs.Operations.{OperationSet}
use Rattle.node_graph.specs.declared.nodes.NodeRef.{NodeRef}
use Rattle.node_graph.specs.Codes.{kept_code, mask_code, node_code}
use Rattle.node_graph.specs.Graph.{Kept}
use Rattle.conn_rules.specs.Births.{Birth, Connection}
use Rattle.conn_rules.specs.Codes.{connection_code, protocol_code}
use Rattle.vfs_journal.specs.Starts.{Bound}
use Rattle.vfs_server.specs.declared.watching.Seat.{Seat}
use Rattle.vfs_server.specs.Seats.{Seats}
use Rattle.vfs_server.specs.Servers.{Server}

abbrev pub born_code : Coded Birth
born_code =
    code_by (ℕ × (OperationSet × (Protocol × Bool))) (coded× coded_ℕ (coded× mask_code (coded× protocol_code coded_bool)))
    (λ b. (b.node, (b.rights, (b.protocol, b.append)))) (λ p. record { node = p.0; rights = p.1.0; protocol = p.1.1.0; append = p.1.1.1 }) (λ _. refl)

abbrev pub bound_code : Coded Bound
bound_code =
    code_by (ℕ × (ℕ × (Birth × ℕ))) (coded× coded_ℕ (coded× coded_ℕ (coded× born_code coded_ℕ)))
    (λ b. (b.endpoint, (b.server, (b.birth, b.mask)))) (λ p. record { endpoint = p.0; server = p.1.0; birth = p.1.1.0; mask = p.1.1.1 }) (λ _. refl)

abbrev pub connections_code : Coded (finite.FinMap nat_cmp Connection)
connections_code = finite.code coded_ℕ connection_code

abbrev pub tokens_code : Coded (finite.FinMap nat_cmp NodeRef)
tokens_code = finite.code coded_ℕ node_code

abbrev pub seat_code : Coded Seat
seat_code = code_by (NodeRef × ℕ) (coded× node_code coded_ℕ) (λ s. (s.directory, s.mask)) (λ p. record { directory = p.0; mask = p.1 }) (λ _. refl)

abbrev pub seats_code : Coded Seats
seats_code = coded_list (coded× coded_ℕ seat_code)

abbrev pub server_code : Coded Server
server_code =
    code_by (ℕ × (Kept × (finite.FinMap nat_cmp Connection × (List Bound × finite.FinMap nat_cmp NodeRef))))
    (coded× coded_ℕ (coded× kept_code (coded× connections_code (coded× (coded_list bound_code) tokens_code))))
    (λ s. (s.index, (s.graph, (s.connections, (s.watchers, s.tokens)))))
    (λ p. record { index = p.0; graph = p.1.0; connections = p.1.1.0; watchers = p.1.1.1.0; tokens = p.1.1.1.1 })
    (λ _. refl)
