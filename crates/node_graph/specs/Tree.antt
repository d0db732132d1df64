-- A server's tree: a row for each node that was ever made and an edge for each name, the changes that
-- it takes, and when it is sound.
use Rattle.std.specs.Prelude.{◌≡◌, ℕ, zero, suc, ◌+◌, ◌-◌, ◌≤◌, ◌==◌, Bool, true, false, not, ◌&&◌, List, [], ◌∷◌, ◌++◌, length, map, filter, Option, Some, None, IsSome, slice_get, slice_set}
use Rattle.std.specs.List.{list_any}
use Rattle.std.specs.Option.{option_map, option_map_or}
use Rattle.std.specs.declared.cmp.Ordering.{Ordering}
use Rattle.std.specs.Ordering.{nat_cmp, ordering_then}
use Rattle.std.specs.Cmp.Lexicographic.{slice_cmp}
use Rattle.std.specs.FinMap as finite
use Rattle.fidl_names.specs.declared.limits.TheConstants as limit
use Rattle.io_rights.specs.Operations.{OperationSet}
use Rattle.node_graph.specs.declared.nodes.NodeKind.{NodeKind}
use Rattle.node_graph.specs.declared.nodes.NodeKind.TheVariants.{Directory, File, Service, Mount}

-- a node: what it is, and a file's bytes
pub record NodeRow : Type 0 where
  pub kind : NodeKind
  pub bytes : List ℕ

-- the row of a node that has no bytes yet
abbrev pub new_row : NodeKind → NodeRow
new_row kind = record { kind = kind; bytes = [] }

-- where an edge starts: the number of a directory, and a name in it
pub record EdgeKey : Type 0 where
  pub directory : ℕ
  pub name : List ℕ

-- a name in a directory
abbrev pub name_in : ℕ → List ℕ → EdgeKey
name_in directory name = record { directory = directory; name = name }

-- as long as a name may be
abbrev pub HasNameLength : List ℕ → Type 0
HasNameLength name = (1 ≤ length name) × (length name ≤ limit.MAX_NAME)

-- where an edge leads: the number of a node, and the rights that pass through the name
pub record EdgeTo : Type 0 where
  pub child : ℕ
  pub mask : OperationSet

-- by directory, then by the bytes of the name
abbrev pub edge_cmp : EdgeKey → EdgeKey → Ordering
edge_cmp a b = ordering_then (nat_cmp a.directory b.directory) (slice_cmp nat_cmp a.name b.name)

-- the edges of one server, one for each directory and name
abbrev pub Edges : Type 0
Edges = finite.FinMap edge_cmp EdgeTo

-- a node row is never taken out
pub record Tree : Type 0 where
  pub nodes : List NodeRow
  pub edges : finite.FinMap edge_cmp EdgeTo

-- the row with a number: number n is the n-th, and the root has number 1
abbrev pub row_of : {X : Type 0} → List X → ℕ → Option X
row_of rows zero = None
row_of rows (suc place) = slice_get rows place

-- what the node with a number is
abbrev pub kind_of : Tree → ℕ → Option NodeKind
kind_of tree number = option_map (λ row. row.kind) (row_of tree.nodes number)

-- how many names lead to a node, and whether any does
abbrev pub link_count : Edges → ℕ → ℕ
link_count edges number = length (filter (λ to. to.child == number) (finite.values edges))

abbrev pub is_linked : Edges → ℕ → Bool
is_linked edges number = list_any (λ to. to.child == number) (finite.values edges)

-- a directory was removed where it isn't the root and no name leads to it
abbrev pub is_removed : Edges → ℕ → Bool
is_removed edges number = not (number == 1) && not (is_linked edges number)

-- the names in a directory, in the order of their bytes
abbrev pub names_in : Edges → ℕ → List (List ℕ)
names_in edges directory = map (λ entry. entry.0.name) (filter (λ entry. entry.0.directory == directory) (finite.entries edges))

-- a node is below a directory where it is the child of an edge from that directory or from one below it
pub data Below (edges : Edges) : ℕ → ℕ → Type 0 where
  child : (from : EdgeKey) (to : EdgeTo) → finite.get edges from ≡ Some to → Below edges to.child from.directory
  deeper : (from : EdgeKey) (to : EdgeTo) (directory : ℕ) → finite.get edges from ≡ Some to → Below edges from.directory directory → Below edges to.child directory

-- what can happen to a tree: a new node, whose row is given, with its first name; a further name of a node; a name is gone;
-- a name moves, and takes the place of the one that was there; a file's bytes are set; nothing
pub data Change : Type 0 where
  make : EdgeKey → NodeRow → OperationSet → Change
  add : EdgeKey → EdgeTo → Change
  cut : EdgeKey → Change
  move : EdgeKey → EdgeKey → Change
  fill : ℕ → List ℕ → Change
  stay : Change

-- the rows with these bytes in the row of this number
abbrev pub filled : List NodeRow → ℕ → List ℕ → List NodeRow
filled rows number bytes = option_map_or (λ row. slice_set rows (number - 1) (record { kind = row.kind; bytes = bytes })) (row_of rows number) rows

-- the edges with what is at `from` taken to `to`
abbrev pub moved : Edges → EdgeKey → EdgeKey → Edges
moved edges from to = option_map_or (λ edge. finite.insert (finite.remove edges from) to edge) (finite.get edges from) edges

-- the tree with that change, and all other rows as they were
abbrev pub after : Tree → Change → Tree
after tree (make key row mask) =
    record {
      nodes = tree.nodes ++ row ∷ [];
      edges = finite.insert tree.edges key (record { child = length tree.nodes + 1; mask = mask });
    }
after tree (add key to) = record { nodes = tree.nodes; edges = finite.insert tree.edges key to }
after tree (cut key) = record { nodes = tree.nodes; edges = finite.remove tree.edges key }
after tree (move from to) = record { nodes = tree.nodes; edges = moved tree.edges from to }
after tree (fill number bytes) = record { nodes = filled tree.nodes number bytes; edges = tree.edges }
after tree stay = tree

-- the tree that a server begins with: the root, and no name
abbrev pub bare_tree : Tree
bare_tree = record { nodes = record { kind = Directory; bytes = [] } ∷ []; edges = finite.empty }

-- whether at most one name may lead to a node of this kind
abbrev pub has_one_name : NodeKind → Bool
has_one_name Directory = true
has_one_name File = false
has_one_name Service = false
has_one_name (Mount server) = true

pub record IsSound (tree : Tree) : Type 0 where
  -- node 1 is the root, a directory
  pub root : kind_of tree 1 ≡ Some Directory
  -- a name has 1 to 255 bytes; that it is there once in its directory is in the map
  pub names : (from : EdgeKey) (to : EdgeTo) → finite.get tree.edges from ≡ Some to → HasNameLength from.name
  -- only directories have names in them, and what a name leads to is a node
  pub parents : (from : EdgeKey) (to : EdgeTo) → finite.get tree.edges from ≡ Some to → kind_of tree from.directory ≡ Some Directory
  pub children : (from : EdgeKey) (to : EdgeTo) → finite.get tree.edges from ≡ Some to → IsSome (row_of tree.nodes to.child)
  -- at most one name leads to a directory or a mount
  pub one_name : (a b : EdgeKey) (x y : EdgeTo) (what : NodeKind) → finite.get tree.edges a ≡ Some x → finite.get tree.edges b ≡ Some y → x.child ≡ y.child → kind_of tree x.child ≡ Some what → has_one_name what ≡ true → a ≡ b
  -- no directory is below itself
  pub no_loop : (number : ℕ) → ¬ (Below tree.edges number number)
  -- a removed directory has no name in it
  pub removed : (from : EdgeKey) (to : EdgeTo) → finite.get tree.edges from ≡ Some to → is_removed tree.edges from.directory ≡ false
  pub few_names : finite.len tree.edges ≤ limit.MAX_NAMES
  pub short_files : (number : ℕ) (row : NodeRow) → row_of tree.nodes number ≡ Some row → length row.bytes ≤ limit.MAX_FILE
