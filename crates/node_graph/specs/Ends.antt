-- The names of a server as its graph keeps them: each leads to a place in memory, too.
use Rattle.std.specs.Prelude.{◌≡◌, ℕ, ◌==◌, ◌&&◌, true, List, map, filter, Option, Some, None, [], take, refl}
use Rattle.std.specs.Coded.{Coded, code_by, coded×}
use Rattle.std.specs.declared.ops.Bound.{Bound}
use Rattle.std.specs.declared.ops.Bound.TheVariants.{Included, Excluded}
use Rattle.std.specs.FinMap as finite
use Rattle.fidl_names.specs.declared.limits.TheConstants as limit
use Rattle.io_rights.specs.Operations.{OperationSet}
use Rattle.node_graph.specs.declared.nodes.NodeKind.{NodeKind}
use Rattle.node_graph.specs.declared.nodes.NodeRef.{NodeRef}
use Rattle.node_graph.specs.declared.nodes.Entry.{Entry}
pub use Rattle.node_graph.specs.Tree.{name_in}
use Rattle.node_graph.specs.Tree.{EdgeKey, EdgeTo, Edges, HasNameLength, edge_cmp}
use Rattle.node_graph.specs.Codes.{key_code, node_code, kind_code, mask_code}
use Rattle.node_graph.specs.Graph.{Listed, comes_after}
use Rattle.node_graph.specs.Refusals.{has_names, is_directory}

abbrev pub Ends : Type 0
Ends = finite.FinMap edge_cmp Entry

abbrev pub entry_code : Coded Entry
entry_code = code_by (NodeRef × (NodeKind × OperationSet)) (coded× node_code (coded× kind_code mask_code)) (λ entry. (entry.node, (entry.kind, entry.mask))) (λ p. record { node = p.0; kind = p.1.0; mask = p.1.1 }) (λ _. refl)

abbrev pub ends_code : Coded Ends
ends_code = finite.code key_code entry_code

-- the edge of a tree that a kept one is
abbrev pub end_of : Entry → EdgeTo
end_of entry = record { child = entry.node.number; mask = entry.mask }

abbrev pub edge_of : EdgeKey × Entry → EdgeKey × EdgeTo
edge_of entry = (entry.0, end_of entry.1)

unfoldable pub edges_of : Ends → Edges
edges_of ends = finite.from_entries (map edge_of (finite.entries ends))

-- a node of this kind has names in it only as a directory
abbrev pub HasNamesAsDirectory : Ends → NodeRef → NodeKind → Type 0
HasNamesAsDirectory ends node kind = has_names (edges_of ends) node.number ≡ true → is_directory kind ≡ true

-- the name has 1 to 255 bytes
abbrev pub HasName : EdgeKey × Entry → Type 0
HasName entry = HasNameLength entry.0.name

-- the rows stand in the order of their keys, and each name has 1 to 255 bytes
pub record IsNamed (entries : List (EdgeKey × Entry)) : Type 0 where
  pub in_order : finite.is_sorted edge_cmp entries ≡ true
  pub named : (key : EdgeKey) (to : Entry) → finite.get (finite.from_entries {R = edge_cmp} entries) key ≡ Some to → HasNameLength key.name

-- the names of a directory behind a place in its listing
abbrev pub ends_after : Ends → ℕ → Option (List ℕ) → List (EdgeKey × Entry)
ends_after ends directory place = filter (λ entry. (entry.0.directory == directory) && comes_after place entry.0.name) (finite.entries ends)

-- what a listing shows of a name
abbrev pub listed_of : EdgeKey × Entry → Listed
listed_of entry = record { name = entry.0.name; number = entry.1.node.number; kind = entry.1.kind }

-- where the names of a directory behind a place in its listing begin
abbrev pub start_of : ℕ → Option (List ℕ) → Bound EdgeKey
start_of directory None = Included (name_in directory [])
start_of directory (Some place) = Excluded (name_in directory (take limit.MAX_NAME place))
