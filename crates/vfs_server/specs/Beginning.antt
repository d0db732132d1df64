-- What a server begins with, and what stands as one endpoint after the other is bound. No public clause needs this.
use Rattle.std.specs.Prelude.{◌≡◌, ◌<◌, ◌==◌, ℕ, List, [], ◌∷◌, ◌++◌, map, filter, take, length, find, count_by, Some}
use Rattle.std.specs.Borrow.{Bor}
use Rattle.std.specs.BTreeMap.{BTreeMap, get}
use Rattle.std.specs.FinMap as finite
use Rattle.std.specs.List.{enumerate_from}
use Rattle.std.specs.Option.{option_map}
use Rattle.conn_rules.specs.Births.{fresh}
use Rattle.io_rights.specs.Operations.{OperationSet}
use Rattle.node_graph.specs.declared.nodes.NodeRef.{NodeRef}
use Rattle.node_graph.specs.Graph.{Names, StandsFor, holds_at}
use Rattle.session_start.specs.Accepted.{AreAccepted}
use Rattle.session_start.specs.Items.{Lists}
use Rattle.session_start.specs.Numbering.{named_of, number_in, tree_of}
use Rattle.session_start.specs.Places.{IsNumbering, path_cmp}
use Rattle.vfs_journal.specs.Starts.{Bound, directory_birth, end_of, first_of_client, start_of}
use Rattle.vfs_server.specs.Servers.{Server, in_use, seen}

-- what is bound at a server at the start
abbrev pub begins_with : Lists → ℕ → List Bound
begins_with lists server = filter (λ bound. bound.server == server) ((start_of lists).firsts ++ (start_of lists).mounts)

-- of it what the first so many clients have, and then the first so many mounts
abbrev pub clients_among : Lists → ℕ → ℕ → List Bound
clients_among lists server count = filter (λ bound. bound.server == server) (map (first_of_client lists) (take count lists.clients))

abbrev pub ends_among : Lists → ℕ → ℕ → List Bound
ends_among lists server count = filter (λ bound. bound.server == server) (map (end_of lists) (take count (enumerate_from 0 lists.mounts)))

abbrev pub bound_among : Lists → ℕ → ℕ → List Bound
bound_among lists server count = clients_among lists server (length lists.clients) ++ ends_among lists server count

-- a directory connection at the path of a server
abbrev pub begun : Lists → ℕ → ℕ → List ℕ → OperationSet → Bound
begun lists server endpoint path rights =
    record { endpoint = endpoint; server = server; birth = directory_birth (number_in lists server path) rights; mask = 0 }

-- these and no others are bound, each at its beginning and with one hold on its node, and no token names one; the graph stands for the server's tree, and each path
-- leads to a node of it that is kept
pub record HoldsJust (lists : Lists) (index : ℕ) (bounds : List Bound) (server : Server) (places : BTreeMap (Bor (List ℕ)) NodeRef) : Type 0 where
  pub at : server.index ≡ index
  pub watchers : server.watchers ≡ []
  pub tokens : server.tokens ≡ finite.empty
  pub bound : (endpoint : ℕ) → seen server endpoint ≡ option_map (λ bound. (bound, fresh)) (find (λ bound. bound.endpoint == endpoint) bounds)
  pub count : in_use server ≡ length bounds
  pub holds : (number : ℕ) → holds_at server.graph number ≡ count_by (λ bound. bound.birth.node == number) bounds
  pub tree : StandsFor server.graph (tree_of lists index)
  pub numbered : IsNumbering (named_of lists index) places
  pub kept : (path : Bor (List ℕ)) (node : NodeRef) → get path_cmp places path ≡ Some node → Names server.graph node

-- behind these a server of an accepted file begins with this one, and these are bound
pub record IsNextBound (lists : Lists) (index : ℕ) (bounds : List Bound) (bound : Bound) (server : Server) (places : BTreeMap (Bor (List ℕ)) NodeRef) : Type 0 where
  pub accepted : AreAccepted lists
  pub within : index < length lists.servers
  pub later : List Bound
  pub whole : begins_with lists index ≡ bounds ++ bound ∷ later
  pub holds : HoldsJust lists index bounds server places
