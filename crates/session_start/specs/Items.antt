-- The start that a tree stands for.
use Rattle.std.specs.Prelude.{ℕ, List}
use Rattle.io_rights.specs.Operations.{OperationSet}
use Rattle.node_graph.specs.declared.nodes.NodeKind.{NodeKind}

-- a node of a server, by the server's index; a file's bytes
pub record NodeItem : Type 0 where
  pub server : ℕ
  pub path : List ℕ
  pub kind : NodeKind
  pub rights : OperationSet
  pub bytes : List ℕ

-- a mount at a path of a server: there the target goes on at its own node `at`
pub record MountItem : Type 0 where
  pub server : ℕ
  pub path : List ℕ
  pub target : ℕ
  pub at : List ℕ
  pub rights : OperationSet

-- a first connection
pub record ClientItem : Type 0 where
  pub endpoint : ℕ
  pub server : ℕ
  pub path : List ℕ
  pub rights : OperationSet

-- each in an order that tells its items' indexes; of the servers the names
pub record Lists : Type 0 where
  pub servers : List (List ℕ)
  pub nodes : List NodeItem
  pub mounts : List MountItem
  pub clients : List ClientItem
