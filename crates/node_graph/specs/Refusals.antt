-- Why a name is made, taken out or moved or isn't: each refusal is the first of its causes that holds. And what a change that
-- isn't refused does.
use Rattle.std.specs.Prelude.{ℕ, zero, suc, ◌+◌, ◌==◌, ◌&&◌, ◌||◌, Bool, true, false, not, nat_lt, nat_le, is_some, is_none, if◌then◌else◌, List, [], ◌∷◌, length, map, filter, Option, None}
use Rattle.std.specs.FinMap as finite
use Rattle.std.specs.List.{list_any}
use Rattle.std.specs.Option.{option_map, option_map_or}
use Rattle.std.specs.Ordering.{is_eq}
use Rattle.fidl_names.specs.First.{cause_if, first_of}
use Rattle.fidl_names.specs.declared.limits.TheConstants as limit
use Rattle.node_graph.specs.declared.nodes.NodeKind.{NodeKind}
use Rattle.node_graph.specs.declared.nodes.NodeKind.TheVariants.{Directory, File, Mount}
use Rattle.node_graph.specs.declared.faults.GraphFault.{GraphFault}
use Rattle.node_graph.specs.declared.faults.GraphFault.TheVariants as fault
use Rattle.node_graph.specs.Tree.{Tree, Edges, EdgeKey, EdgeTo, edge_cmp, kind_of, is_removed, Change, add, move, stay}

-- ---- what a name leads to

abbrev pub is_directory : NodeKind → Bool
is_directory Directory = true
is_directory _ = false

abbrev pub is_file : NodeKind → Bool
is_file File = true
is_file _ = false

abbrev pub is_mount : NodeKind → Bool
is_mount (Mount index) = true
is_mount _ = false

abbrev pub is_no_directory : NodeKind → Bool
is_no_directory kind = not (is_directory kind)

abbrev pub edge_at : Tree → EdgeKey → Option EdgeTo
edge_at tree key = finite.get tree.edges key

-- there is such a name, and the node that it leads to is of such a kind
abbrev pub leads_to : (NodeKind → Bool) → Tree → EdgeKey → Bool
leads_to test tree key = option_map_or (λ to. option_map_or test (kind_of tree to.child) false) (edge_at tree key) false

-- the number of the directory that a name leads to, if it leads to one
abbrev pub directory_behind : Tree → EdgeKey → Option ℕ
directory_behind tree key = if leads_to is_directory tree key then option_map (λ to. to.child) (edge_at tree key) else None

-- a node has names in it
abbrev pub has_names : Edges → ℕ → Bool
has_names edges directory = list_any (λ key. key.directory == directory) (finite.keys edges)

-- there is such a name, and the node that it leads to has names in it
abbrev pub leads_to_names : Tree → EdgeKey → Bool
leads_to_names tree key = option_map_or (λ to. has_names tree.edges to.child) (edge_at tree key) false

abbrev pub is_same_name : EdgeKey → EdgeKey → Bool
is_same_name a b = is_eq (edge_cmp a b)

-- ---- below

-- the directories in which a node has a name
abbrev pub parents_of : Edges → ℕ → List ℕ
parents_of edges number = map (λ entry. entry.0.directory) (filter (λ entry. entry.1.child == number) (finite.entries edges))

-- a directory is another one or lies below it, as one finds who climbs at most so many times
abbrev pub lies_within : ℕ → Edges → ℕ → ℕ → Bool
lies_within zero edges directory above = directory == above
lies_within (suc times) edges directory above =
    (directory == above) || list_any (λ parent. lies_within times edges parent above) (parents_of edges directory)

-- a directory would come to lie in itself; no way up is longer than there are names
abbrev pub is_loop : Tree → EdgeKey → ℕ → Bool
is_loop tree from target =
    option_map_or (λ child. lies_within (finite.len tree.edges) tree.edges target child) (directory_behind tree from) false

-- ---- refusals

-- why no node is made at this name
abbrev pub create_refusal : Edges → EdgeKey → Option GraphFault
create_refusal edges key =
    first_of
    (cause_if (is_removed edges key.directory) fault.Removed
    ∷ cause_if (is_some (finite.get edges key)) fault.Exists
    ∷ cause_if (nat_le limit.MAX_NAMES (finite.len edges)) fault.NoSpace
    ∷ [])

-- why a name isn't taken out; it may be asked for a directory
abbrev pub unlink_refusal : Tree → EdgeKey → Bool → Option GraphFault
unlink_refusal tree key must_be_dir =
    first_of
    (cause_if (is_none (edge_at tree key)) fault.NotFound
    ∷ cause_if (leads_to is_mount tree key) fault.Unsupported
    ∷ cause_if (must_be_dir && leads_to is_no_directory tree key) fault.NotDir
    ∷ cause_if (leads_to_names tree key) fault.NotEmpty
    ∷ [])

-- why the node of one name gets no second one
abbrev pub link_refusal : Tree → EdgeKey → EdgeKey → Option GraphFault
link_refusal tree from to =
    first_of
    (cause_if (is_none (edge_at tree from)) fault.NotFound
    ∷ cause_if (leads_to is_mount tree from) fault.Unsupported
    ∷ cause_if (leads_to is_directory tree from) fault.NotFile
    ∷ cause_if (is_removed tree.edges to.directory) fault.Removed
    ∷ cause_if (is_some (edge_at tree to)) fault.Exists
    ∷ cause_if (nat_le limit.MAX_NAMES (finite.len tree.edges)) fault.NoSpace
    ∷ [])

-- why what a name leads to isn't replaced by what another one leads to
abbrev pub replace_refusal : Tree → EdgeKey → EdgeKey → Option GraphFault
replace_refusal tree from to =
    first_of
    (cause_if (leads_to is_mount tree to) fault.Unsupported
    ∷ cause_if (leads_to is_directory tree from && leads_to is_no_directory tree to) fault.NotDir
    ∷ cause_if (leads_to is_no_directory tree from && leads_to is_directory tree to) fault.NotFile
    ∷ cause_if (leads_to_names tree to) fault.NotEmpty
    ∷ [])

-- why a name isn't moved; what it would replace counts where that is another name
abbrev pub rename_refusal : Tree → EdgeKey → EdgeKey → Option GraphFault
rename_refusal tree from to =
    first_of
    (cause_if (is_none (edge_at tree from)) fault.NotFound
    ∷ cause_if (leads_to is_mount tree from) fault.Unsupported
    ∷ cause_if (is_removed tree.edges to.directory) fault.Removed
    ∷ cause_if (is_loop tree from to.directory) fault.Loop
    ∷ (if is_same_name from to then None else replace_refusal tree from to)
    ∷ [])

-- why a file isn't written or resized. A write of no bytes is never refused
abbrev pub resize_refusal : ℕ → Option GraphFault
resize_refusal size = cause_if (nat_lt limit.MAX_FILE size) fault.FileBig

abbrev pub write_refusal : ℕ → List ℕ → Option GraphFault
write_refusal offset [] = None
write_refusal offset (byte ∷ bytes) = resize_refusal (offset + length (byte ∷ bytes))

-- ---- what the changes do

-- the node of the first name has the second one too, with the same mask
abbrev pub link_change : Tree → EdgeKey → EdgeKey → Change
link_change tree from to = option_map_or (λ edge. add to edge) (edge_at tree from) stay

-- the name moves with its mask and takes the place of the one that was there; a name that is to be what it is stays
abbrev pub rename_change : EdgeKey → EdgeKey → Change
rename_change from to = if is_same_name from to then stay else move from to

-- the number of the directory that a move replaces
abbrev pub replaced_directory : Tree → EdgeKey → EdgeKey → Option ℕ
replaced_directory tree from to = if is_same_name from to then None else directory_behind tree to
