-- What stands for the tree of a server: a graph, and the node to which each path leads.
use Rattle.std.specs.Prelude.{◌≡◌, ℕ, List, Some}
use Rattle.std.specs.Borrow.{Bor}
use Rattle.std.specs.BTreeMap.{BTreeMap, get}
use Rattle.std.specs.Cmp.Lexicographic.{slice_cmp}
use Rattle.std.specs.Option.{option_map_or}
use Rattle.std.specs.Ordering.{nat_cmp}
use Rattle.std.specs.declared.cmp.Ordering.{Ordering}
use Rattle.node_graph.specs.declared.nodes.NodeRef.{NodeRef}
use Rattle.node_graph.specs.Graph.{Kept, Names, StandsFor, holds_at, number_of}
use Rattle.session_start.specs.Numbering.{Named, number_at, tree_from}

-- paths by their bytes
abbrev pub path_cmp : Bor (List ℕ) → Bor (List ℕ) → Ordering
path_cmp a b = slice_cmp nat_cmp a.now b.now

-- each path leads where it leads in the tree of these nodes
abbrev pub IsNumbering : List Named → BTreeMap (Bor (List ℕ)) NodeRef → Type 0
IsNumbering named places = (path : Bor (List ℕ)) → option_map_or number_of (get path_cmp places path) 0 ≡ number_at named path.now

-- the graph stands for the tree of these nodes, nothing holds one, each path leads where it leads in the tree, and what a path leads to is kept
pub record Stands (named : List Named) (graph : Kept) (places : BTreeMap (Bor (List ℕ)) NodeRef) : Type 0 where
  pub tree : StandsFor graph (tree_from named)
  pub unheld : (number : ℕ) → holds_at graph number ≡ 0
  pub numbered : IsNumbering named places
  pub kept : (path : Bor (List ℕ)) (node : NodeRef) → get path_cmp places path ≡ Some node → Names graph node
