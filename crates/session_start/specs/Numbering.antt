-- How the nodes of a start are numbered, the tree that each server begins with, and the ends of mounts.
use Rattle.std.specs.Prelude.{ℕ, ◌+◌, ◌==◌, if◌then◌else◌, List, [], ◌∷◌, ◌++◌, map, filter, position}
use Rattle.std.specs.List.{enumerate_from}
use Rattle.std.specs.FinMap as finite
use Rattle.std.specs.Option.{option_map_or}
use Rattle.std.specs.Str.{bytes_eq}
use Rattle.io_rights.specs.Operations.{OperationSet}
use Rattle.path_walk.specs.Parts.{is_dot, last_name, parent_of}
use Rattle.node_graph.specs.declared.nodes.NodeKind.{NodeKind}
use Rattle.node_graph.specs.declared.nodes.NodeKind.TheVariants.{Directory, Mount}
use Rattle.node_graph.specs.Tree.{NodeRow, EdgeKey, EdgeTo, Tree, after, make, name_in}
use Rattle.session_start.specs.Items.{NodeItem, MountItem, Lists}

-- what a path of a server leads to: a node's kind and bytes, and the rights that pass through its name
pub record Named : Type 0 where
  pub path : List ℕ
  pub kind : NodeKind
  pub bytes : List ℕ
  pub mask : OperationSet

abbrev pub node_named : NodeItem → Named
node_named node = record { path = node.path; kind = node.kind; bytes = node.bytes; mask = node.rights }

-- a mount, with its index over the mounts of all servers
abbrev pub mount_named : ℕ × MountItem → Named
mount_named mount = record { path = mount.1.path; kind = Mount mount.0; bytes = []; mask = mount.1.rights }

-- what a server has besides its root, in the order of the numbers from 2 on: its nodes, then its mounts
abbrev pub named_of : Lists → ℕ → List Named
named_of lists server =
    map node_named (filter (λ node. node.server == server) lists.nodes)
    ++ map mount_named (filter (λ mount. mount.1.server == server) (enumerate_from 0 lists.mounts))

-- the number that a path leads to: the root has 1; 0 is no node's
unfoldable pub number_at : List Named → List ℕ → ℕ
number_at named path = if is_dot path then 1 else option_map_or (λ place. place + 2) (position (λ one. bytes_eq one.path path) named) 0

-- the edge of a path: from its parent, by its last name
abbrev pub edge_of : List Named → Named → EdgeKey × EdgeTo
edge_of named one = (
  name_in (number_at named (parent_of one.path)) (last_name one.path),
  record { child = number_at named one.path; mask = one.mask },
)

abbrev pub row_of_named : Named → NodeRow
row_of_named one = record { kind = one.kind; bytes = one.bytes }

abbrev pub tree_from : List Named → Tree
tree_from named =
    record {
      nodes = record { kind = Directory; bytes = [] } ∷ map row_of_named named;
      edges = finite.from_entries (map (edge_of named) named);
    }

-- a tree with one node more, of the next number, and its name
abbrev pub with_node : Tree → EdgeKey → NodeKind → OperationSet → List ℕ → Tree
with_node tree key kind mask bytes = after tree (make key (record { kind = kind; bytes = bytes }) mask)

-- the tree that a server begins with
abbrev pub tree_of : Lists → ℕ → Tree
tree_of lists server = tree_from (named_of lists server)

-- the number of the node at which a path of a server stands: a client's, or a mount's `at`
abbrev pub number_in : Lists → ℕ → List ℕ → ℕ
number_in lists server path = number_at (named_of lists server) path
