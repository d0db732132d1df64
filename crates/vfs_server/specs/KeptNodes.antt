-- Which nodes of a server are kept, and how many.
use Rattle.std.specs.Prelude.{ℕ, ◌==◌, ◌||◌, Bool, length, count_by}
use Rattle.std.specs.List.{list_any}
use Rattle.node_graph.specs.Graph.{numbers_to}
use Rattle.node_graph.specs.Tree.{is_linked}
use Rattle.vfs_journal.specs.History.{tree_at}
use Rattle.vfs_journal.specs.View.{View}
use Rattle.vfs_server.specs.Holding.{living_at, names_node}

-- the birth of one who lives at the server names the node; a watcher's names its directory
abbrev pub is_bound_to : View → ℕ → ℕ → Bool
is_bound_to view index number = list_any (λ bound. bound.birth.node == number) (living_at view index)

-- a token that is held or waiting names the node
abbrev pub is_named_by : View → ℕ → ℕ → Bool
is_named_by view index number = list_any (names_node view index number) view.given

-- the root, or a node that a name leads to, or one that a birth or a token names
abbrev pub is_wanted : View → ℕ → ℕ → Bool
is_wanted view index number =
    number == 1 || (is_linked (tree_at view.trees index).edges number || (is_bound_to view index number || is_named_by view index number))

-- how many nodes of the server's tree are
abbrev pub kept_in : View → ℕ → ℕ
kept_in view index = count_by (is_wanted view index) (numbers_to (length (tree_at view.trees index).nodes))
