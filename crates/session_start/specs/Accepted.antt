-- What the rules from the fourth on say of the lists of a tree: of each item by itself, and of where the items stand.
use Rattle.std.specs.Prelude.{◌≡◌, ◌≢◌, ◌≤◌, ◌<◌, ◌⊎◌, ℕ, true, false, List, [], length, All, AllPairs, None}
use Rattle.fidl_names.specs.HandleNumber.{is_client}
use Rattle.fidl_names.specs.Numbers.{AreBytes}
use Rattle.fidl_names.specs.declared.limits.TheConstants as limit
use Rattle.path_walk.specs.Names.{IsName}
use Rattle.path_walk.specs.Parts.{is_dot}
use Rattle.path_walk.specs.Paths.{path_fault}
use Rattle.node_graph.specs.declared.nodes.NodeKind.{NodeKind}
use Rattle.node_graph.specs.declared.nodes.NodeKind.TheVariants.{File, Mount}
use Rattle.session_start.specs.Items.{NodeItem, MountItem, ClientItem, Lists}
use Rattle.session_start.specs.RulesOnLists.{first_broken, rules_on_lists}

-- no mount
abbrev pub IsPlain : NodeKind → Type 0
IsPlain (Mount index) = ⊥
IsPlain _ = Unit {0}

-- a few servers with valid names, no two alike
pub record AreServers (names : List (List ℕ)) : Type 0 where
  pub few : length names ≤ limit.MAX_SERVERS
  pub valid : All IsName names
  pub apart : AllPairs (λ one other. one ≢ other) names

-- a path of one of so many servers
pub record IsAt (count host : ℕ) (text : List ℕ) : Type 0 where
  pub server : host < count
  pub path : path_fault text ≡ None

-- a directory, file or service at a path below the root; only a file has bytes
pub record IsNode (servers : ℕ) (node : NodeItem) : Type 0 where
  pub at : IsAt servers node.server node.path
  pub below : is_dot node.path ≡ false
  pub plain : IsPlain node.kind
  pub bytes : (node.kind ≡ File) ⊎ (node.bytes ≡ [])

-- a mount at a path below the root, of a path of its target
pub record IsMount (servers : ℕ) (mount : MountItem) : Type 0 where
  pub at : IsAt servers mount.server mount.path
  pub below : is_dot mount.path ≡ false
  pub target : IsAt servers mount.target mount.at

-- a client at a path, on an endpoint of the numbers that clients have
pub record IsClient (servers : ℕ) (client : ClientItem) : Type 0 where
  pub at : IsAt servers client.server client.path
  pub endpoint : is_client client.endpoint ≡ true

abbrev pub OtherEndpoint : ClientItem → ClientItem → Type 0
OtherEndpoint one other = one.endpoint ≢ other.endpoint

-- each item by itself
pub record AreItems (lists : Lists) : Type 0 where
  pub servers : AreServers lists.servers
  pub nodes : All (IsNode (length lists.servers)) lists.nodes
  pub mounts : All (IsMount (length lists.servers)) lists.mounts
  pub clients : All (IsClient (length lists.servers)) lists.clients
  pub apart : AllPairs OtherEndpoint lists.clients

-- the lists of a tree that is accepted: each item keeps its rule, and so does where they stand and how many there are
pub record AreAccepted (lists : Lists) : Type 0 where
  pub items : AreItems lists
  pub placed : first_broken 8 (rules_on_lists lists) ≡ None

-- what is in the files of nodes are bytes; names are bytes wherever lists are accepted
abbrev pub HasFilesOfBytes : Lists → Type 0
HasFilesOfBytes lists = All (λ node. AreBytes node.bytes) lists.nodes

-- what every start keeps
pub record AreOfStart (lists : Lists) : Type 0 where
  pub accepted : AreAccepted lists
  pub bytes : HasFilesOfBytes lists
