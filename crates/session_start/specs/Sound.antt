-- What holds of the lists of a tree that is accepted.
use Rattle.std.specs.Prelude.{◌≡◌, ◌≢◌, ◌≤◌, ◌<◌, ℕ, true, List, length, take, slice_get, All, AllPairs, Some}
use Rattle.std.specs.FinMap as finite
use Rattle.fidl_names.specs.HandleNumber.{is_client}
use Rattle.fidl_names.specs.declared.limits.TheConstants as limit
use Rattle.io_rights.specs.Operations.{OperationSet}
use Rattle.path_walk.specs.Parts.{parent_of}
use Rattle.node_graph.specs.declared.nodes.NodeKind.TheVariants.{Directory, Mount}
use Rattle.node_graph.specs.Tree.{EdgeKey, EdgeTo, Tree, kind_of, IsSound}
use Rattle.session_start.specs.Accepted.{AreAccepted, OtherEndpoint}
use Rattle.session_start.specs.Items.{MountItem, Lists}
use Rattle.session_start.specs.Numbering.{Named, named_of, number_at, number_in, tree_from, tree_of}
use Rattle.session_start.specs.RulesOnLists.{names_held, connections_held}

-- the one edge that leads to a mount, with the mask through which its target goes on
pub record HasOneEdge (tree : Tree) (index : ℕ) (mask : OperationSet) : Type 0 where
  pub key : EdgeKey
  pub to : EdgeTo
  pub there : finite.get tree.edges key ≡ Some to
  pub leads : kind_of tree to.child ≡ Some (Mount index)
  pub masked : to.mask ≡ mask
  pub alone : (other : EdgeKey) (end : EdgeTo) → finite.get tree.edges other ≡ Some end → kind_of tree end.child ≡ Some (Mount index) → other ≡ key

-- a path of a server leads to a directory
abbrev pub IsDirectoryAt : Lists → ℕ → List ℕ → Type 0
IsDirectoryAt lists server path = kind_of (tree_of lists server) (number_in lists server path) ≡ Some Directory

-- each stands in a directory that is the root or stands before it, and no two have one path
pub record AreInPlace (named : List Named) : Type 0 where
  pub parents : (place : ℕ) (one : Named) → slice_get named place ≡ Some one → kind_of (tree_from (take place named)) (number_at (take place named) (parent_of one.path)) ≡ Some Directory
  pub apart : AllPairs (λ one other. one.path ≢ other.path) named

-- the servers that the items name are there, and there are few of them
pub record AreInRange (lists : Lists) : Type 0 where
  pub few : length lists.servers ≤ limit.MAX_SERVERS
  pub nodes : All (λ node. node.server < length lists.servers) lists.nodes
  pub mounts : All (λ mount. mount.server < length lists.servers) lists.mounts
  pub targets : All (λ mount. mount.target < length lists.servers) lists.mounts
  pub clients : All (λ client. client.server < length lists.servers) lists.clients

pub record AreSound (lists : Lists) : Type 0 where
  pub trees : (server : ℕ) → server < length lists.servers → IsSound (tree_of lists server)
  pub places : (server : ℕ) → server < length lists.servers → AreInPlace (named_of lists server)
  -- each mount has one edge, whose mask is the rights of its end; and a mount in a tree is one of that server
  pub edges : (index : ℕ) (mount : MountItem) → slice_get lists.mounts index ≡ Some mount → HasOneEdge (tree_of lists mount.server) index mount.rights
  pub mounts : (server number index : ℕ) → kind_of (tree_of lists server) number ≡ Some (Mount index) → (mount : MountItem) × (slice_get lists.mounts index ≡ Some mount) × (mount.server ≡ server)
  -- first connections and the ends of mounts stand on directories
  pub clients : All (λ client. IsDirectoryAt lists client.server client.path) lists.clients
  pub targets : All (λ mount. IsDirectoryAt lists mount.target mount.at) lists.mounts
  pub servers : AreInRange lists
  pub names : (server : ℕ) → server < length lists.servers → names_held lists.nodes lists.mounts server ≤ limit.MAX_NAMES
  pub connections : (server : ℕ) → server < length lists.servers → connections_held lists.mounts lists.clients server ≤ limit.MAX_CONNECTIONS
  -- first connections are on clients' numbers, no two on one
  pub endpoints : All (λ client. is_client client.endpoint ≡ true) lists.clients
  pub apart : AllPairs OtherEndpoint lists.clients

-- each accepted tree
abbrev pub StartsAreSound : Type 0
StartsAreSound = (lists : Lists) → AreAccepted lists → AreSound lists
