-- A graph and a connection, in which the session of one file is served.
use Rattle.std.specs.Prelude.{◌≡◌, ℕ, List, Some}
use Rattle.node_graph.specs.declared.nodes.NodeKind.TheVariants.{File}
use Rattle.node_graph.specs.declared.nodes.NodeRef.{NodeRef}
use Rattle.node_graph.specs.Graph.{Kept, Names, StandsFor, holds_at, kind_at, number_of}
use Rattle.conn_rules.specs.Births.{Connection, born}
use Rattle.conn_rules.specs.Shared.{CanBeBound}
use Rattle.file_session.specs.OneFile.{birth, tree_of}

-- the graph has the tree of a file, at this node with so many holds
pub record HasFile (file : List ℕ) (holds : ℕ) (graph : Kept) (node : NodeRef) : Type 0 where
  pub tree : StandsFor graph (tree_of file)
  pub number : number_of node ≡ 2
  pub named : Names graph node
  pub kind : kind_at graph 2 ≡ Some File
  pub held : holds_at graph 2 ≡ holds

-- the graph has the tree of a file, and the connection, which holds the file, is bound to it and
-- may read
pub record IsBoundTo (file : List ℕ) (graph : Kept) (connection : Connection) : Type 0 where
  pub tree : StandsFor graph (tree_of file)
  pub bound : CanBeBound graph connection.birth
  pub birth_is : born connection.birth ≡ birth
  pub held : holds_at graph 2 ≡ 1
