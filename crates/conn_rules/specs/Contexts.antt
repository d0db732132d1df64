-- What a request is served in.
use Rattle.std.specs.Prelude.{ℕ, Option}
use Rattle.node_graph.specs.Tree.{Tree}
use Rattle.conn_rules.specs.declared.births.Room.{Room}
use Rattle.conn_rules.specs.Births.{Birth, Connection, Position, born}

-- the connection's birth and position, what is in use at its server, the tree there, and the
-- directory there that a token names
pub record Context : Type 0 where
  pub birth : Birth
  pub position : Position
  pub room : Room
  pub tree : Tree
  pub directory : ℕ → Option ℕ

abbrev pub context_with : Birth → Position → Room → Tree → (ℕ → Option ℕ) → Context
context_with birth position room tree directory =
    record { birth = birth; position = position; room = room; tree = tree; directory = directory }

-- what a request to a connection is served in
abbrev pub context_of : Connection → Room → Tree → (ℕ → Option ℕ) → Context
context_of connection room tree directory =
    context_with (born connection.birth) connection.position room tree directory
