-- What stands on the trees of lawful journals.
use Rattle.std.specs.Prelude.{◌≡◌, ◌<◌, ◌≤◌, ◌+◌, ℕ, Bool, true, List, length, All, Some}
use Rattle.fidl_names.specs.declared.limits.TheConstants as limit
use Rattle.io_messages.specs.declared.protocols.Protocol.{Protocol}
use Rattle.io_messages.specs.declared.protocols.Protocol.TheVariants as protocol
use Rattle.node_graph.specs.declared.nodes.NodeKind.{NodeKind}
use Rattle.node_graph.specs.declared.nodes.NodeKind.TheVariants.{Directory}
use Rattle.node_graph.specs.Tree.{Tree, kind_of}
use Rattle.conn_rules.specs.Nodes.{is_directory, is_file, is_service}
use Rattle.vfs_journal.specs.Entries.{Journal}
use Rattle.vfs_journal.specs.History.{History, births, tree_at, trees_of}
use Rattle.vfs_journal.specs.Outcomes.{Given}
use Rattle.vfs_journal.specs.Past.{history_of}
use Rattle.vfs_journal.specs.Starts.{Bound, Start}
use Rattle.vfs_journal.specs.Tokens.{all_given}
use Rattle.journal_laws.specs.Soundness.{AreMountedOnce, IsStart}

-- a protocol is spoken on a node of its kind; a node reference may be on any
abbrev pub suits : Protocol → NodeKind → Bool
suits protocol.Directory kind = is_directory kind
suits protocol.Watcher kind = is_directory kind
suits protocol.File kind = is_file kind
suits protocol.Echo kind = is_service kind
suits protocol.Node kind = true

-- a connection stands on a node of its server's tree, of a kind that its protocol is for
pub record IsOnNode (trees : List Tree) (bound : Bound) : Type 0 where
  pub server : bound.server < length trees
  pub kind : NodeKind
  pub node : kind_of (tree_at trees bound.server) bound.birth.node ≡ Some kind
  pub suited : suits bound.birth.protocol kind ≡ true

-- a token names a directory
pub record NamesDirectory (trees : List Tree) (given : Given) : Type 0 where
  pub server : given.server < length trees
  pub node : kind_of (tree_at trees given.server) given.node ≡ Some Directory

-- there are as many trees as at the start, and mounts have their one edge in them; each endpoint that was ever bound, a watcher's too, stands
-- on a node, also behind its death, and each token that was ever given names a directory
pub record StandOnTrees (start : Start) (history : History) : Type 0 where
  pub many : length (trees_of start history) ≡ length start.trees
  pub mounts : AreMountedOnce start (trees_of start history)
  pub placed : All (IsOnNode (trees_of start history)) (births start history)
  pub tokens : All (NamesDirectory (trees_of start history)) (all_given history)

-- each entry makes one node at most, so that no tree has more of them than a start's and one for each place of the journal
abbrev pub TreesGrowSlowly : Type 0
TreesGrowSlowly =
    (start : Start) (journal : Journal) (server : ℕ) → IsStart start →
    length (tree_at (trees_of start (history_of start journal)) server).nodes ≤ 1 + limit.MAX_NAMES + length journal
