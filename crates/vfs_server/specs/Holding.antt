-- That a server holds what is looked up in a view, endpoint by endpoint and node by node.
use Rattle.std.specs.Prelude.{◌≡◌, ℕ, ◌+◌, ◌==◌, ◌&&◌, Bool, if◌then◌else◌, List, length, filter, count_by, Option, Some, None}
use Rattle.conn_rules.specs.Births.{Position}
use Rattle.node_graph.specs.Graph.{StandsFor, holds_at}
use Rattle.vfs_journal.specs.History.{is_watcher, tree_at}
use Rattle.vfs_journal.specs.Outcomes.{Given}
use Rattle.vfs_journal.specs.Starts.{Bound}
use Rattle.vfs_journal.specs.View.{View, at_in, bounds_in, directory_in, is_out_in}
use Rattle.vfs_server.specs.Servers.{Server, in_use, named, seen}

-- what is bound, where that is at this server
abbrev pub if_at : ℕ → Option (Bound × Position) → Option (Bound × Position)
if_at index None = None
if_at index (Some pair) = if pair.0.server == index then Some pair else None

-- those who live at a server
abbrev pub living_at : View → ℕ → List Bound
living_at view index = filter (λ bound. bound.server == index) (bounds_in view)

-- a token that was given is out, and names a node of a server
abbrev pub names_node : View → ℕ → ℕ → Given → Bool
names_node view index number given = is_out_in view given.token && (given.server == index && given.node == number)

-- how many who live at a server hold a node, and how many tokens that are out name it
abbrev pub bound_to : View → ℕ → ℕ → ℕ
bound_to view index number = count_by (λ bound. bound.birth.node == number) (living_at view index)

abbrev pub named_by : View → ℕ → ℕ → ℕ
named_by view index number = count_by (names_node view index number) view.given

-- the directory of a server that a token names, where that is out
abbrev pub named_in : View → ℕ → ℕ → Option ℕ
named_in view index token = if is_out_in view token then directory_in view index token else None

pub record HoldsAt (view : View) (server : Server) : Type 0 where
  pub bound : (endpoint : ℕ) → seen server endpoint ≡ if_at server.index (at_in view endpoint)
  pub count : in_use server ≡ length (living_at view server.index)
  -- in order of their births
  pub watchers : server.watchers ≡ filter (λ bound. is_watcher bound.birth.protocol) (living_at view server.index)
  pub tokens : (token : ℕ) → named server token ≡ named_in view server.index token
  pub tree : StandsFor server.graph (tree_at view.trees server.index)
  -- one hold for each
  pub holds : (number : ℕ) → holds_at server.graph number ≡ bound_to view server.index number + named_by view server.index number
