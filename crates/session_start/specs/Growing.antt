-- How the tree of a server grows, node by node. No public clause needs this.
use Rattle.std.specs.Prelude.{◌≡◌, ◌+◌, ◌<◌, ◌==◌, ℕ, List, ◌∷◌, ◌++◌, map, filter, take, length}
use Rattle.std.specs.Borrow.{Bor}
use Rattle.std.specs.BTreeMap.{BTreeMap}
use Rattle.std.specs.List.{enumerate_from}
use Rattle.io_rights.specs.Operations.{OperationSet}
use Rattle.node_graph.specs.declared.nodes.NodeKind.{NodeKind}
use Rattle.node_graph.specs.declared.nodes.NodeRef.{NodeRef}
use Rattle.node_graph.specs.Graph.{Kept, KeepsNames, Names, SameHolds, StandsFor, number_of}
use Rattle.node_graph.specs.Tree.{EdgeKey, Tree, name_in}
use Rattle.path_walk.specs.Parts.{last_name}
use Rattle.session_start.specs.Accepted.{AreAccepted}
use Rattle.session_start.specs.Items.{Lists}
use Rattle.session_start.specs.Numbering.{Named, mount_named, named_of, node_named, with_node}
use Rattle.session_start.specs.Places.{Stands}

-- what a server has among the first so many nodes of a file, and then among the first so many mounts
abbrev pub nodes_among : Lists → ℕ → ℕ → List Named
nodes_among lists server count = map node_named (filter (λ node. node.server == server) (take count lists.nodes))

abbrev pub mounts_among : Lists → ℕ → ℕ → List Named
mounts_among lists server count = map mount_named (filter (λ mount. mount.1.server == server) (take count (enumerate_from 0 lists.mounts)))

abbrev pub named_with : Lists → ℕ → ℕ → List Named
named_with lists server count = nodes_among lists server (length lists.nodes) ++ mounts_among lists server count

-- behind these nodes a server of an accepted file has this one, and these stand
pub record IsNext (lists : Lists) (server : ℕ) (named : List Named) (one : Named) (graph : Kept) (places : BTreeMap (Bor (List ℕ)) NodeRef) : Type 0 where
  pub accepted : AreAccepted lists
  pub within : server < length lists.servers
  pub later : List Named
  pub whole : named_of lists server ≡ named ++ one ∷ later
  pub stands : Stands named graph places

-- the graph has this node more, under a key, of the next number, and keeps what it kept
pub record Makes (old new : Kept) (tree : Tree) (key : EdgeKey) (kind : NodeKind) (mask : OperationSet) (bytes : List ℕ) (made : NodeRef) : Type 0 where
  pub grown : StandsFor new (with_node tree key kind mask bytes)
  pub number : number_of made ≡ old.made + 1
  pub named : Names new made
  pub holds : SameHolds old new
  pub names : KeepsNames old new

-- the key of a node's name in a directory
abbrev pub key_in : ℕ → List ℕ → EdgeKey
key_in directory path = name_in directory (last_name path)
