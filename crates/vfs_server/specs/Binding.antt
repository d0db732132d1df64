-- What a server takes in and lets go.
use Rattle.std.specs.FinMap as finite
use Rattle.std.specs.Prelude.{◌≡◌, ℕ, ◌+◌, ◌-◌, ◌==◌, ◌<◌, not, if◌then◌else◌, List, [], ◌∷◌, ◌++◌, filter, length, Some, None}
use Rattle.fidl_names.specs.declared.limits.TheConstants as limit
use Rattle.node_graph.specs.declared.nodes.NodeKind.TheVariants.{Directory}
use Rattle.node_graph.specs.declared.nodes.NodeRef.{NodeRef}
use Rattle.node_graph.specs.Graph.{HoldsNow, KeepsNames, Kept, Leads, Names, holds_at, kind_at, number_of}
use Rattle.node_graph.specs.Tree.{stay}
use Rattle.conn_rules.specs.declared.births.Birth as code
use Rattle.conn_rules.specs.Births.{Position, fresh}
use Rattle.conn_rules.specs.Shared.{CanBeBound}
use Rattle.vfs_journal.specs.History.{is_watcher}
use Rattle.vfs_journal.specs.Starts.{Bound}
use Rattle.vfs_server.specs.Servers.{Server, in_use, named, seen}

-- the server has room, and can bind the birth
pub record HasPlace (server : Server) (birth : code.Birth) : Type 0 where
  pub node : CanBeBound server.graph birth
  pub room : in_use server < limit.MAX_CONNECTIONS

-- a watcher comes last among them
abbrev pub watching_behind : List Bound → Bound → List Bound
watching_behind watchers bound = watchers ++ (if is_watcher bound.birth.protocol then bound ∷ [] else [])

-- an endpoint is bound and no other changes; its node has one hold more
pub record Binds (old : Server) (newest : Bound) (new : Server) : Type 0 where
  pub index : new.index ≡ old.index
  pub bound : (other : ℕ) → seen new other ≡ (if other == newest.endpoint then Some (newest, fresh) else seen old other)
  pub count : in_use new ≡ in_use old + 1
  pub watchers : new.watchers ≡ watching_behind old.watchers newest
  pub tokens : new.tokens ≡ old.tokens
  pub tree : Leads old.graph new.graph stay
  pub holds : HoldsNow old.graph new.graph newest.birth.node (holds_at old.graph newest.birth.node + 1)
  pub names : KeepsNames old.graph new.graph

-- an endpoint isn't bound any more, where it was, and no other changes; the node that it was bound to has one hold less
pub record Unbinds (old : Server) (endpoint : ℕ) (new : Server) : Type 0 where
  pub index : new.index ≡ old.index
  pub bound : (other : ℕ) → seen new other ≡ (if other == endpoint then None else seen old other)
  pub count : (pair : Bound × Position) → seen old endpoint ≡ Some pair → in_use new + 1 ≡ in_use old
  pub watchers : new.watchers ≡ filter (λ bound. not (bound.endpoint == endpoint)) old.watchers
  pub tokens : new.tokens ≡ old.tokens
  pub tree : Leads old.graph new.graph stay
  pub holds : (pair : Bound × Position) → seen old endpoint ≡ Some pair →
      HoldsNow old.graph new.graph pair.0.birth.node (holds_at old.graph pair.0.birth.node - 1)
  pub names : KeepsNames old.graph new.graph
  pub idle : seen old endpoint ≡ None → new ≡ old

-- ---- directories

-- a directory that the graph keeps
pub record IsDirectory (graph : Kept) (node : NodeRef) : Type 0 where
  pub kept : Names graph node
  pub kind : kind_at graph (number_of node) ≡ Some Directory

-- the server has room for a watcher, and the directory for one more
pub record CanWatch (server : Server) (node : NodeRef) : Type 0 where
  pub directory : IsDirectory server.graph node
  pub room : in_use server < limit.MAX_CONNECTIONS
  pub few : length (filter (λ bound. bound.birth.node == number_of node) server.watchers) < limit.MAX_WATCHERS

-- ---- tokens

-- a token that names nothing at a server can name a directory there
pub record CanName (server : Server) (token : ℕ) (node : NodeRef) : Type 0 where
  pub free : named server token ≡ None
  pub directory : IsDirectory server.graph node
  pub room : finite.len server.tokens < limit.MAX_TOKENS

-- a token names a directory from now on and no other does; the directory has one hold more
pub record NamesBy (old : Server) (token : ℕ) (directory : NodeRef) (new : Server) : Type 0 where
  pub index : new.index ≡ old.index
  pub bound : new.connections ≡ old.connections
  pub watchers : new.watchers ≡ old.watchers
  pub tokens : (other : ℕ) → named new other ≡ (if other == token then Some (number_of directory) else named old other)
  pub tree : Leads old.graph new.graph stay
  pub holds : HoldsNow old.graph new.graph (number_of directory) (holds_at old.graph (number_of directory) + 1)
  pub names : KeepsNames old.graph new.graph

-- a token names nothing here and no other changes; the directory that it named has one hold less
pub record Forgets (old : Server) (token : ℕ) (new : Server) : Type 0 where
  pub index : new.index ≡ old.index
  pub bound : new.connections ≡ old.connections
  pub watchers : new.watchers ≡ old.watchers
  pub tokens : (other : ℕ) → named new other ≡ (if other == token then None else named old other)
  pub tree : Leads old.graph new.graph stay
  pub holds : (node : ℕ) → named old token ≡ Some node → HoldsNow old.graph new.graph node (holds_at old.graph node - 1)
  pub names : KeepsNames old.graph new.graph
  pub idle : named old token ≡ None → new ≡ old
