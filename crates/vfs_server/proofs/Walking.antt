-- A walk over names from a node that is no mount arrives at none, crosses those that are there, and misses a name.
use Rattle.std.proofs.Common.{◌≡◌, ℕ, Bool, true, false, List, [], ◌∷◌, All, Option, Some, None, refl}
use Rattle.std.specs.Prelude.{if◌then◌else◌}
use Rattle.std.proofs.lemmas.List.Elements.{All-head, All-tail}
use Rattle.fidl_names.specs.declared.statuses.Status.{Status}
use Rattle.fidl_names.specs.declared.statuses.Status.TheVariants as status
use Rattle.io_rights.specs.Operations.{OperationSet, is_within}
use Rattle.node_graph.specs.declared.nodes.NodeKind.{NodeKind}
use Rattle.node_graph.specs.declared.nodes.NodeKind.TheVariants.{Directory, File, Service, Mount}
use Rattle.node_graph.specs.Tree.{Tree, EdgeTo}
use Rattle.path_walk.specs.Names.{IsName}
use Rattle.conn_rules.specs.Nodes.{edge_at, is_mount, kind_behind, kind_here}
use Rattle.vfs_server.specs.Serving.{HasMount}
use Rattle.conn_rules.specs.Walks.{Walk, arrives, missing, crosses, stops, behind, passing, last_by_kind, last_step, inner_by_kind, inner_step, walk}

abbrev pub IsNoMount : Tree → ℕ → Type 0
IsNoMount tree node = is_mount (kind_here tree node) ≡ false

abbrev pub LeadsWell : Tree → Walk → Type 0
LeadsWell tree (arrives node masks) = IsNoMount tree node
LeadsWell tree (missing directory name masks) = IsName name
LeadsWell tree (crosses mount rest masks) = HasMount tree mount
LeadsWell tree _ = Unit {0}

of_kind : (tree : Tree) (node : ℕ) (kind : NodeKind) → kind_here tree node ≡ kind → is_mount kind ≡ false → IsNoMount tree node
of_kind tree node kind e isnt = rw e isnt

behind_none : (tree : Tree) (mask : OperationSet) (w : Walk) → LeadsWell tree w → LeadsWell tree (behind mask w)
behind_none tree mask (arrives node masks) h = h
behind_none tree mask (missing directory name masks) h = h
behind_none tree mask (crosses mount rest masks) h = h
behind_none tree mask (stops status) h = tt

either_none : (tree : Tree) (b : Bool) (w : Walk) (status : Status) → LeadsWell tree w → LeadsWell tree (if b then w else stops status)
either_none tree true w status h = h
either_none tree false w status h = tt

passing_none : (tree : Tree) (wanted mask : OperationSet) (w : Walk) → LeadsWell tree w → LeadsWell tree (passing wanted mask w)
passing_none tree wanted mask w h = either_none tree (is_within wanted mask) (behind mask w) status.AccessDenied (behind_none tree mask w h)

last_kind_none : (tree : Tree) (word : ℕ) (edge : EdgeTo) (kind : NodeKind) → kind_behind tree edge ≡ kind → LeadsWell tree (last_by_kind word edge kind)
last_kind_none tree word edge Directory e = passing_none tree _ edge.mask (arrives edge.child []) (of_kind tree edge.child Directory e refl)
last_kind_none tree word edge File e = passing_none tree _ edge.mask (arrives edge.child []) (of_kind tree edge.child File e refl)
last_kind_none tree word edge Service e = passing_none tree _ edge.mask (arrives edge.child []) (of_kind tree edge.child Service e refl)
last_kind_none tree word edge (Mount index) e = passing_none tree _ edge.mask (crosses index [] []) (edge.child, e)

last_none : (tree : Tree) (word directory : ℕ) (name : List ℕ) (edge : Option EdgeTo) → IsName name → LeadsWell tree (last_step tree word directory name edge)
last_none tree word directory name None valid = valid
last_none tree word directory name (Some edge) valid = last_kind_none tree word edge (kind_behind tree edge) refl

inner_kind_none : (tree : Tree) (word : ℕ) (rest : List (List ℕ)) (edge : EdgeTo) (kind : NodeKind) (onward : Walk) → kind_behind tree edge ≡ kind →
    (IsNoMount tree edge.child → LeadsWell tree onward) → LeadsWell tree (inner_by_kind word rest edge kind onward)
inner_kind_none tree word rest edge Directory onward e h = passing_none tree _ edge.mask onward (h (of_kind tree edge.child Directory e refl))
inner_kind_none tree word rest edge File onward e h = tt
inner_kind_none tree word rest edge Service onward e h = tt
inner_kind_none tree word rest edge (Mount index) onward e h = passing_none tree _ edge.mask (crosses index rest []) (edge.child, e)

inner_none : (tree : Tree) (word : ℕ) (rest : List (List ℕ)) (edge : Option EdgeTo) (onward : ℕ → Walk) →
    ((child : ℕ) → IsNoMount tree child → LeadsWell tree (onward child)) → LeadsWell tree (inner_step tree word rest edge onward)
inner_none tree word rest None onward h = tt
inner_none tree word rest (Some edge) onward h = inner_kind_none tree word rest edge (kind_behind tree edge) (onward edge.child) refl (h edge.child)

pub walk_none : (tree : Tree) (word : ℕ) (names : List (List ℕ)) (directory : ℕ) → IsNoMount tree directory → All IsName names → LeadsWell tree (walk tree word names directory)
unfolding walk
walk_none tree word [] directory h valid = h
walk_none tree word (name ∷ []) directory h valid = last_none tree word directory name (edge_at tree (record { directory = directory; name = name })) (All-head IsName name [] valid)
walk_none tree word (name ∷ next ∷ rest) directory h valid =
    inner_none tree word (next ∷ rest) (edge_at tree (record { directory = directory; name = name })) (walk tree word (next ∷ rest))
    (λ child here. walk_none tree word (next ∷ rest) child here (All-tail IsName name (next ∷ rest) valid))
