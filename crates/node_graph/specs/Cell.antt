-- A node's row with its number, its holds, how many names lead to it, and the directory in which it has a name, where it is one.
use Rattle.std.specs.Prelude.{ℕ, List}
use Rattle.node_graph.specs.declared.nodes.NodeKind.{NodeKind}
use Rattle.node_graph.specs.declared.nodes.NodeRef.{NodeRef}

pub record Cell : Type 0 where
  pub number : ℕ
  pub kind : NodeKind
  pub bytes : List ℕ
  pub holds : ℕ
  pub links : ℕ
  pub parent : NodeRef
