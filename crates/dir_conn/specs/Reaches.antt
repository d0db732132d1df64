-- Where a walk leads, with what the masks on its way leave of some rights. These are words of
-- steps.
use Rattle.std.specs.Prelude.{◌≡◌, ℕ, ◌<◌, true, false, List, length, Some, None, IsTrue}
use Rattle.std.specs.FinMap as finite
use Rattle.io_flags.specs.Grants.{explicit_rights}
use Rattle.io_rights.specs.Operations.{OperationSet, is_within}
use Rattle.node_graph.specs.declared.nodes.Entry.{Entry}
use Rattle.node_graph.specs.declared.nodes.NodeRef.{NodeRef}
use Rattle.node_graph.specs.declared.nodes.NodeKind.{NodeKind}
use Rattle.node_graph.specs.declared.nodes.NodeKind.TheVariants.{Directory}
use Rattle.node_graph.specs.Graph.{Kept, Names, number_of, kind_at}
use Rattle.node_graph.specs.Tree.{is_linked, name_in}
use Rattle.path_walk.specs.Names.{IsName}
use Rattle.conn_rules.specs.Nodes.{is_file, is_mount}
use Rattle.conn_rules.specs.Walks.{Walk, Reach, at_node, at_nothing, at_mount, nowhere, reach}
use Rattle.dir_conn.specs.declared.steps.Spot.{Spot}
use Rattle.dir_conn.specs.declared.steps.Step.{Step}
use Rattle.dir_conn.specs.declared.steps.Step.TheVariants as step
use Rattle.dir_conn.specs.declared.steps.Walked.{Walked}
use Rattle.dir_conn.specs.declared.steps.Walked.TheVariants as walked

-- the end that one of the code stands for
abbrev pub reached : Walked → Reach
reached (walked.Arrives node kind limit) = at_node (number_of node) limit
reached (walked.Missing directory name limit) = at_nothing (number_of directory) name.now limit
reached (walked.Crosses mount rest limit) = at_mount mount rest limit
reached (walked.Stops status) = nowhere status

-- the end to which a step leads, where the names that are left are walked like this
abbrev pub leading : Step → (List (List ℕ) → ℕ → Walk) → Reach
leading (step.Enters spot rest) onward = reach spot.limit (onward rest (number_of spot.directory))
leading (step.Ends end) onward = reached end

-- the graph keeps the node, which is of this kind, and a name leads to it
pub record IsKept (graph : Kept) (found : Entry) : Type 0 where
  pub named : Names graph found.node
  pub kind : kind_at graph (number_of found.node) ≡ Some found.kind
  pub linked : is_linked graph.edges (number_of found.node) ≡ true

-- a directory that the graph keeps, and rights that have what the word names
pub record Stands (graph : Kept) (word : ℕ) (spot : Spot) : Type 0 where
  pub named : Names graph spot.directory
  pub directory : kind_at graph (number_of spot.directory) ≡ Some Directory
  pub explicit : IsTrue (is_within (explicit_rights word) spot.limit)

-- a node at which one arrived is kept and of this kind, which is no mount, a name leads to it where
-- it is a file, and the rights there have what the word names
pub record IsReached (graph : Kept) (word : ℕ) (node : NodeRef) (what : NodeKind)
    (limit : OperationSet) : Type 0 where
  pub named : Names graph node
  pub kind : kind_at graph (number_of node) ≡ Some what
  pub crossed : is_mount what ≡ false
  pub linked : is_file what ≡ true → is_linked graph.edges (number_of node) ≡ true
  pub explicit : IsTrue (is_within (explicit_rights word) limit)

-- a directory that the graph keeps, a name that isn't in it, and rights that have what the word
-- names
pub record IsMissing (graph : Kept) (word : ℕ) (directory : NodeRef) (name : List ℕ)
    (limit : OperationSet) : Type 0 where
  pub named : Names graph directory
  pub kind : kind_at graph (number_of directory) ≡ Some Directory
  pub valid : IsName name
  pub absent : finite.get graph.edges (name_in (number_of directory) name) ≡ None
  pub explicit : IsTrue (is_within (explicit_rights word) limit)

abbrev pub Arrived : Kept → ℕ → Walked → Type 0
Arrived graph word (walked.Arrives node kind limit) = IsReached graph word node kind limit
Arrived graph word (walked.Missing directory name limit) =
    IsMissing graph word directory name.now limit
Arrived graph word _ = Unit {0}

-- a step goes on with fewer names than so many, or ends
abbrev pub GoesOn : Kept → ℕ → ℕ → Step → Type 0
GoesOn graph word count (step.Enters spot rest) = Stands graph word spot × (length rest < count)
GoesOn graph word count (step.Ends end) = Arrived graph word end
