-- Where a walk leads by its first name.
use Rattle.std.proofs.Common.{◌≡◌, ◌≢◌, ℕ, Bool, true, false, ◌||◌, List, [], ◌∷◌, drop, map, Some, None, refl, ap, sym, ◌∙◌, arith, cond, rules}
use Rattle.std.specs.Prelude.{◌==◌, unwrap_or}
use Rattle.std.specs.List.{list_any, slice_get}
use Rattle.std.specs.Ordering.{is_eq}
use Rattle.std.specs.FinMap as finite
use Rattle.std.specs.FinMap.Entries as entry
use Rattle.std.proofs.lemmas.Bool.Decides.{nat_tests}
use Rattle.fidl_names.specs.declared.statuses.Status.TheVariants as status
use Rattle.io_rights.specs.Operations.{OperationSet}
use Rattle.node_graph.specs.declared.nodes.NodeKind.{NodeKind}
use Rattle.node_graph.specs.Tree.{Tree, EdgeKey, EdgeTo, Edges, edge_cmp, is_linked, name_in}
use Rattle.conn_rules.specs.Nodes.{edge_at, kind_here}
use Rattle.conn_rules.specs.Walks.{walk, last_by_kind, inner_by_kind, reach, at_node, at_nothing, nowhere}
use Rattle.conn_rules.proofs.EveryWalk.{walk_none, walk_last, walk_inner}

-- a list without a first item is empty; any other is its first item and the rest
pub no_first : {X : Type 0} (xs : List X) → slice_get xs 0 ≡ None → xs ≡ []
no_first [] e = refl
no_first (x ∷ xs) e = search rules

pub first_and_rest : {X : Type 0} (xs : List X) (x : X) → slice_get xs 0 ≡ Some x → xs ≡ x ∷ drop 1 xs
first_and_rest [] x e = search rules
first_and_rest (y ∷ xs) x e = search rules

-- no name leads to the directory itself
pub no_names : (tree : Tree) (word directory : ℕ) (limit : OperationSet) (names : List (List ℕ)) →
    names ≡ [] → reach limit (walk tree word names directory) ≡ at_node directory limit
no_names tree word directory limit names e =
    ap (λ names. reach limit (walk tree word names directory)) e ∙ ap (reach limit) (walk_none tree word directory)

pub last_missing : (tree : Tree) (word directory : ℕ) (limit : OperationSet) (name : List ℕ) →
    edge_at tree (name_in directory name) ≡ None →
    reach limit (walk tree word (name ∷ []) directory) ≡ at_nothing directory name limit
last_missing tree word directory limit name none = ap (reach limit) (walk_last tree word directory name None none)

pub last_found : (tree : Tree) (word directory : ℕ) (limit : OperationSet) (name : List ℕ) (edge : EdgeTo) (kind : NodeKind) →
    edge_at tree (name_in directory name) ≡ Some edge → kind_here tree edge.child ≡ kind →
    reach limit (walk tree word (name ∷ []) directory) ≡ reach limit (last_by_kind word edge kind)
last_found tree word directory limit name edge kind found same =
    ap (reach limit) (walk_last tree word directory name (Some edge) found)
    ∙ ap (λ kind. reach limit (last_by_kind word edge kind)) same

pub inner_missing : (tree : Tree) (word directory : ℕ) (limit : OperationSet) (name : List ℕ) (rest : List (List ℕ)) →
    rest ≢ [] → edge_at tree (name_in directory name) ≡ None →
    reach limit (walk tree word (name ∷ rest) directory) ≡ nowhere status.NotFound
inner_missing tree word directory limit name rest more none =
    ap (reach limit) (walk_inner tree word directory name rest None more none)

pub inner_found : (tree : Tree) (word directory : ℕ) (limit : OperationSet) (name : List ℕ) (rest : List (List ℕ)) (edge : EdgeTo) (kind : NodeKind) →
    rest ≢ [] → edge_at tree (name_in directory name) ≡ Some edge → kind_here tree edge.child ≡ kind →
    reach limit (walk tree word (name ∷ rest) directory)
    ≡ reach limit (inner_by_kind word rest edge kind (walk tree word rest edge.child))
inner_found tree word directory limit name rest edge kind more found same =
    ap (reach limit) (walk_inner tree word directory name rest (Some edge) more found)
    ∙ ap (λ kind. reach limit (inner_by_kind word rest edge kind (walk tree word rest edge.child))) same

-- ---- edges

any_end : (number : ℕ) (key : EdgeKey) (to : EdgeTo) (es : List (EdgeKey × EdgeTo)) → entry.find edge_cmp key es ≡ Some to → to.child == number ≡ true →
    list_any (λ (other : EdgeTo). other.child == number) (map (λ (e : EdgeKey × EdgeTo). e.1) es) ≡ true
any_end number key to [] there is = absurd (cc)
any_end number key to (e ∷ es) there is = by_test (is_eq (edge_cmp key e.0)) there (λ behind. any_end number key to es behind is)
  where
    or_true : (b : Bool) → (b || true) ≡ true
    or_true true = refl
    or_true false = refl

    by_test : (b : Bool) → cond b (Some e.1) (entry.find edge_cmp key es) ≡ Some to →
        (entry.find edge_cmp key es ≡ Some to → list_any (λ (other : EdgeTo). other.child == number) (map (λ (e : EdgeKey × EdgeTo). e.1) es) ≡ true) →
        ((e.1.child == number) || list_any (λ (other : EdgeTo). other.child == number) (map (λ (e : EdgeKey × EdgeTo). e.1) es)) ≡ true
    by_test true there rest = let same : e.1 ≡ to = ap (λ o. unwrap_or o to) there in rw (same, is) refl
    by_test false there rest = rw (rest there) (or_true (e.1.child == number))

-- where an edge ends a node is linked
pub linked_by : (edges : Edges) (key : EdgeKey) (to : EdgeTo) → finite.get edges key ≡ Some to → is_linked edges to.child ≡ true
linked_by edges key to there = any_end to.child key to (finite.entries edges) (sym (finite.get-entries edges key) ∙ there) (itself to.child)
  where
    itself : (n : ℕ) → n == n ≡ true
    itself n = grind (arith, nat_tests)
