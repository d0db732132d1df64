-- The walk over the names of a path, from a directory of one server's tree.
use Rattle.std.specs.Prelude.{ℕ, List, [], ◌∷◌, fold, Option, Some, None, if◌then◌else◌}
use Rattle.fidl_names.specs.declared.statuses.Status.{Status}
use Rattle.fidl_names.specs.declared.statuses.Status.TheVariants as status
use Rattle.io_flags.specs.Grants.{explicit_rights, asked_rights}
use Rattle.io_rights.specs.declared.operations.Operation.TheVariants as op
use Rattle.io_rights.specs.Operations.{OperationSet, single, meet, join, is_within}
use Rattle.node_graph.specs.declared.nodes.NodeKind.{NodeKind}
use Rattle.node_graph.specs.declared.nodes.NodeKind.TheVariants.{Directory, File, Service, Mount}
use Rattle.node_graph.specs.Tree.{Tree, EdgeTo, name_in}
use Rattle.conn_rules.specs.Nodes.{edge_at, kind_behind}

-- where the names lead, with the masks of the names that passed, in their order
pub data Walk : Type 0 where
  -- to a node of this tree
  arrives : (node : ℕ) (masks : List OperationSet) → Walk
  -- all but the last lead on, and the last is no name of the directory that they lead to
  missing : (directory : ℕ) (name : List ℕ) (masks : List OperationSet) → Walk
  -- to a mount, with the names behind it; the mount's own mask is the last
  crosses : (mount : ℕ) (rest : List (List ℕ)) (masks : List OperationSet) → Walk
  -- nowhere: a name is the first that fails
  stops : Status → Walk

-- the walk after a name with this mask
abbrev pub behind : OperationSet → Walk → Walk
behind mask (arrives node masks) = arrives node (mask ∷ masks)
behind mask (missing directory name masks) = missing directory name (mask ∷ masks)
behind mask (crosses mount rest masks) = crosses mount rest (mask ∷ masks)
behind mask (stops status) = stops status

-- a name is passed where its mask has these rights
abbrev pub passing : OperationSet → OperationSet → Walk → Walk
passing wanted mask walk =
    if is_within wanted mask then behind mask walk else stops status.AccessDenied

-- the last name: a mount wants the rights that the word asks for, any other node those that its
-- PERM flags name
abbrev pub last_by_kind : ℕ → EdgeTo → NodeKind → Walk
last_by_kind word edge (Mount index) = passing (asked_rights word) edge.mask (crosses index [] [])
last_by_kind word edge _ = passing (explicit_rights word) edge.mask (arrives edge.child [])

abbrev pub last_step : Tree → ℕ → ℕ → List ℕ → Option EdgeTo → Walk
last_step tree word directory name None = missing directory name []
last_step tree word directory name (Some edge) = last_by_kind word edge (kind_behind tree edge)

-- a name before the last: it wants TRAVERSE and what the word asks for, and leads to a directory or
-- a mount
abbrev pub inner_rights : ℕ → OperationSet
inner_rights word = join (single op.Traverse) (asked_rights word)

abbrev pub inner_by_kind : ℕ → List (List ℕ) → EdgeTo → NodeKind → Walk → Walk
inner_by_kind word rest edge Directory onward = passing (inner_rights word) edge.mask onward
inner_by_kind word rest edge File onward = stops status.NotDir
inner_by_kind word rest edge Service onward = stops status.NotDir
inner_by_kind word rest edge (Mount index) onward =
    passing (inner_rights word) edge.mask (crosses index rest [])

abbrev pub inner_step : Tree → ℕ → List (List ℕ) → Option EdgeTo → (ℕ → Walk) → Walk
inner_step tree word rest None onward = stops status.NotFound
inner_step tree word rest (Some edge) onward =
    inner_by_kind word rest edge (kind_behind tree edge) (onward edge.child)

-- where the names lead; the empty list leads to the directory itself
unfoldable pub walk : Tree → ℕ → List (List ℕ) → ℕ → Walk
walk tree word [] directory = arrives directory []
walk tree word (name ∷ []) directory =
    last_step tree word directory name (edge_at tree (name_in directory name))
walk tree word (name ∷ next ∷ rest) directory =
    inner_step tree word (next ∷ rest) (edge_at tree (name_in directory name))
    (walk tree word (next ∷ rest))

-- the masks of the names that a walk passed
abbrev pub masks_of : Walk → List OperationSet
masks_of (arrives node masks) = masks
masks_of (missing directory name masks) = masks
masks_of (crosses mount rest masks) = masks
masks_of (stops status) = []

-- the limit: the meet of a connection's rights with the masks on the way
abbrev pub limit_of : OperationSet → List OperationSet → OperationSet
limit_of rights masks = fold meet rights masks

-- an end of a walk, with the rights that are left there
pub data Reach : Type 0 where
  at_node : (node : ℕ) (limit : OperationSet) → Reach
  at_nothing : (directory : ℕ) (name : List ℕ) (limit : OperationSet) → Reach
  at_mount : (mount : ℕ) (rest : List (List ℕ)) (limit : OperationSet) → Reach
  nowhere : Status → Reach

-- what the masks of a walk leave of these rights, where it ends
abbrev pub reach : OperationSet → Walk → Reach
reach rights (arrives node masks) = at_node node (limit_of rights masks)
reach rights (missing directory name masks) = at_nothing directory name (limit_of rights masks)
reach rights (crosses mount rest masks) = at_mount mount rest (limit_of rights masks)
reach rights (stops status) = nowhere status
