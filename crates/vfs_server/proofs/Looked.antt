-- What a request does doesn't look at who watches, unless it is a Watch.
use Rattle.std.proofs.Common.{◌≡◌, ◌∙◌, ℕ, Option, refl, ap}
use Rattle.fidl_names.specs.declared.methods.Method.TheVariants as method
use Rattle.fidl_names.specs.First.{first_of}
use Rattle.io_messages.specs.Asked.{Asked, method_of}
use Rattle.io_messages.specs.Asked as asks
use Rattle.node_graph.specs.Tree.{Tree}
use Rattle.path_walk.specs.Paths.{names_of}
use Rattle.conn_rules.specs.declared.births.Room.{Room}
use Rattle.conn_rules.specs.Acts.{act_of, method_refusals, row_act}
use Rattle.conn_rules.specs.Births.{Birth, Connection, Position, born}
use Rattle.conn_rules.specs.Contexts.{context_of, context_with}
use Rattle.conn_rules.specs.Opens.{by_walk, entry_refusals}
use Rattle.conn_rules.specs.Refusals.{unless}
use Rattle.conn_rules.specs.Walks.{Walk, arrives, missing, crosses, stops, walk}
use Rattle.vfs_server.specs.Steps.{act_asked, looked_at, room_for}
use Rattle.vfs_server.specs.declared.asking.Asking.{Asking}
use Rattle.node_graph.specs.Graph.{number_of}

module _ (birth : Birth) (position : Position) (room : Room) (tree : Tree) (directory : ℕ → Option ℕ) where
  walk_alike : (word : ℕ) (w : Walk) → by_walk (context_with birth position (record room { watchers = 0 }) tree directory) word w ≡ by_walk (context_with birth position room tree directory) word w
  walk_alike word (arrives node masks) = refl
  walk_alike word (missing parent name masks) = refl
  walk_alike word (crosses mount rest masks) = refl
  walk_alike word (stops status) = refl

  row_alike : (request : Asked) → row_act (context_with birth position (looked_at request room) tree directory) request ≡ row_act (context_with birth position room tree directory) request
  row_alike (asks.open_path path flags attributes object) =
      ap (unless (first_of (entry_refusals birth flags path)) position method.OpenPath) (walk_alike flags (walk tree flags (names_of path) birth.node))
  row_alike _ = refl

pub act_alike : (connection : Connection) (room : Room) (tree : Tree) (directory : ℕ → Option ℕ) (request : Asked) →
    act_of (context_of connection (looked_at request room) tree directory) request ≡ act_of (context_of connection room tree directory) request
unfolding act_of
act_alike connection room tree directory request =
    ap (unless (first_of (method_refusals (born connection.birth) (method_of request))) connection.position (method_of request))
    (row_alike (born connection.birth) connection.position room tree directory request)

-- what is done with what a request looks at is what is done with all that is in use
pub asked_alike : (asking : Asking) (connection : Connection) (room : Room) (tree : Tree) (directory : ℕ → Option ℕ) (request : Asked) → room ≡ looked_at request (room_for asking (number_of connection.birth.node)) →
    act_of (context_of connection room tree directory) request ≡ act_asked asking connection tree directory request
asked_alike asking connection room tree directory request is =
    ap (λ (one : Room). act_of (context_of connection one tree directory) request) is
    ∙ act_alike connection (room_for asking (number_of connection.birth.node)) tree directory request
