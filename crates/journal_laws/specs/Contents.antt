-- What the names and the files of a tree are.
use Rattle.std.specs.Prelude.{◌≡◌, All, Some}
use Rattle.std.specs.FinMap as finite
use Rattle.fidl_names.specs.Numbers.{AreBytes}
use Rattle.node_graph.specs.Tree.{EdgeKey, EdgeTo, Tree}
use Rattle.path_walk.specs.Names.{IsName}

-- each name in a tree breaks no rule of names, so that none is `.`
abbrev pub HasNames : Tree → Type 0
HasNames tree = (from : EdgeKey) (to : EdgeTo) → finite.get tree.edges from ≡ Some to → IsName from.name

-- the names of a tree and what is in its files are bytes
pub record HasBytes (tree : Tree) : Type 0 where
  pub names : (from : EdgeKey) (to : EdgeTo) → finite.get tree.edges from ≡ Some to → AreBytes from.name
  pub files : All (λ row. AreBytes row.bytes) tree.nodes
