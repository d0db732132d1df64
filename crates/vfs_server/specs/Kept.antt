-- How a server keeps what is connected, and what holds of every server. No public clause needs this.
use Rattle.std.specs.Prelude.{◌≡◌, ℕ, ◌+◌, ◌≤◌, ◌==◌, All, length, count_by, Some, None, IsSome}
use Rattle.std.specs.FinMap as finite
use Rattle.std.specs.Ordering.{nat_cmp}
use Rattle.fidl_names.specs.declared.limits.TheConstants as limit
use Rattle.node_graph.specs.declared.nodes.NodeRef.{NodeRef}
use Rattle.node_graph.specs.Graph.{Kept, holds_at, number_of}
use Rattle.conn_rules.specs.Births.{Connection}
use Rattle.conn_rules.specs.Shared.{CanBeBound}
use Rattle.vfs_server.specs.Binding.{IsDirectory}
use Rattle.vfs_server.specs.Seats.{Seats, seat_at, watched_by}

abbrev pub Connections : Type 0
Connections = finite.FinMap nat_cmp Connection

-- how many connections are to a node
abbrev pub connected_to : ℕ → Connections → ℕ
connected_to number connections = count_by (λ connection. number_of connection.birth.node == number) (finite.values connections)

abbrev pub Tokens : Type 0
Tokens = finite.FinMap nat_cmp NodeRef

-- how many tokens name a node
abbrev pub naming : ℕ → Tokens → ℕ
naming number tokens = count_by (λ node. number_of node == number) (finite.values tokens)

-- each token names a directory that the graph keeps
abbrev pub NameDirectories : Kept → Tokens → Type 0
NameDirectories graph tokens = (token : ℕ) (directory : NodeRef) → finite.get tokens token ≡ Some directory → IsDirectory graph directory

-- each watcher is at a directory that the graph keeps
abbrev pub WatchDirectories : Kept → Seats → Type 0
WatchDirectories graph seats = All (λ entry. IsDirectory graph entry.1.directory) seats

-- each connection is to a node that the graph keeps, and each watcher and each token is at a directory that it keeps; a node has one
-- hold for each of them; no endpoint is bound twice; and there are no more than a server may have
pub record IsSound (graph : Kept) (connections : Connections) (seats : Seats) (tokens : Tokens) : Type 0 where
  pub each : (endpoint : ℕ) (connection : Connection) → finite.get connections endpoint ≡ Some connection → CanBeBound graph connection.birth
  pub watched : WatchDirectories graph seats
  pub named : NameDirectories graph tokens
  pub holds : (number : ℕ) → holds_at graph number ≡ connected_to number connections + watched_by number seats + naming number tokens
  pub apart : (endpoint : ℕ) → IsSome (finite.get connections endpoint) → seat_at seats endpoint ≡ None
  pub few : finite.len connections + length seats ≤ limit.MAX_CONNECTIONS
  pub rare : finite.len tokens ≤ limit.MAX_TOKENS
