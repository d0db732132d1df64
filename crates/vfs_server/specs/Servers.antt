-- One server as contracts see it: its graph, what is connected to it, who watches it, and which of its directories tokens name.
use Rattle.std.specs.Prelude.{ℕ, ◌+◌, ◌==◌, Option, Some, None, List, length, find}
use Rattle.std.specs.FinMap as finite
use Rattle.std.specs.Option.{option_map}
use Rattle.std.specs.Ordering.{nat_cmp}
use Rattle.node_graph.specs.declared.nodes.NodeRef.{NodeRef}
use Rattle.node_graph.specs.Graph.{Kept, number_of}
use Rattle.conn_rules.specs.declared.births.Birth as code
use Rattle.conn_rules.specs.Births.{Connection, Position, born, fresh}
use Rattle.vfs_journal.specs.Outcomes.{watcher_birth}
use Rattle.vfs_journal.specs.Starts.{Bound}

-- its index among the servers, what is kept of its tree, the connections by their endpoints, the watchers in order of their births, and of
-- each token that names a directory here the directory
pub record Server : Type 0 where
  pub index : ℕ
  pub graph : Kept
  pub connections : finite.FinMap nat_cmp Connection
  pub watchers : List Bound
  pub tokens : finite.FinMap nat_cmp NodeRef

-- how many connections it has, watchers included
abbrev pub in_use : Server → ℕ
in_use server = finite.len server.connections + length server.watchers

-- ---- what an endpoint is bound to, as the journal has it

-- a connection has no mask, which watchers alone have
abbrev pub bound_with : ℕ → ℕ → code.Birth → Bound
bound_with index endpoint birth = record { endpoint = endpoint; server = index; birth = born birth; mask = 0 }

-- a watcher of a directory, by its number
abbrev pub watcher_with : ℕ → ℕ → ℕ → ℕ → Bound
watcher_with index endpoint directory mask = record { endpoint = endpoint; server = index; birth = watcher_birth directory; mask = mask }

abbrev pub connected : ℕ → ℕ → Connection → Bound × Position
connected index endpoint connection = (bound_with index endpoint connection.birth, connection.position)

-- a watcher stays at its beginning
abbrev pub watching : List Bound → ℕ → Option (Bound × Position)
watching watchers endpoint = option_map (λ bound. (bound, fresh)) (find (λ bound. bound.endpoint == endpoint) watchers)

abbrev pub seen_as : ℕ → List Bound → ℕ → Option Connection → Option (Bound × Position)
seen_as index watchers endpoint (Some connection) = Some (connected index endpoint connection)
seen_as index watchers endpoint None = watching watchers endpoint

-- what an endpoint is bound to here, and where it stands
abbrev pub seen : Server → ℕ → Option (Bound × Position)
seen server endpoint = seen_as server.index server.watchers endpoint (finite.get server.connections endpoint)

-- ---- what a token names

-- the directory that a token names here
abbrev pub named : Server → ℕ → Option ℕ
named server token = option_map number_of (finite.get server.tokens token)
