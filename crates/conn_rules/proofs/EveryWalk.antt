-- What holds of every walk over names: what holds of each of its ends, and stays true behind one name more.
use Rattle.std.proofs.Common.{◌≡◌, ◌≢◌, ℕ, Bool, true, false, List, [], ◌∷◌, Option, Some, None, refl, ap, ◌∙◌}
use Rattle.std.specs.Prelude.{if◌then◌else◌}
use Rattle.std.proofs.lemmas.Bool.{or_right}
use Rattle.fidl_names.specs.declared.statuses.Status.{Status}
use Rattle.fidl_names.specs.declared.statuses.Status.TheVariants as status
use Rattle.io_flags.specs.Grants.{asked_rights, explicit_rights}
use Rattle.io_flags.specs.Words.{creates}
use Rattle.io_flags.proofs.GrantLemmas.{within_join_left, within_self}
use Rattle.io_rights.specs.declared.operations.Operation.TheVariants as op
use Rattle.io_rights.specs.Operations.{OperationSet, has, is_within, join, single}
use Rattle.io_rights.proofs.OperationSets.{has-join, within_from_each, within_trans}
use Rattle.node_graph.specs.declared.nodes.NodeKind.{NodeKind}
use Rattle.node_graph.specs.declared.nodes.NodeKind.TheVariants.{Directory, File, Service, Mount}
use Rattle.node_graph.specs.Tree.{Tree, EdgeTo, name_in}
use Rattle.conn_rules.specs.Nodes.{edge_at, is_mount, kind_behind}
use Rattle.conn_rules.specs.Walks.{Walk, arrives, missing, crosses, stops, behind, passing, inner_by_kind, inner_rights, inner_step, last_by_kind, last_step, walk}

-- ---- the rights that names want

within_join_right : (a b : OperationSet) → is_within b (join a b) ≡ true
within_join_right a b = within_from_each b (join a b) (λ o h. has-join a b o ∙ or_right (has a o) (has b o) h)

named_by_case : (e m : OperationSet) (b : Bool) → is_within e (if b then join e m else e) ≡ true
named_by_case e m true = within_join_left e m
named_by_case e m false = within_self e

-- what is named is asked for
pub named_in_asked : (word : ℕ) → is_within (explicit_rights word) (asked_rights word) ≡ true
unfolding asked_rights explicit_rights
named_in_asked word = named_by_case (explicit_rights word) (single op.ModifyDirectory) (creates word)

-- and what is asked for is wanted of each name before the last
pub asked_in_inner : (word : ℕ) → is_within (asked_rights word) (inner_rights word) ≡ true
asked_in_inner word = within_join_right (single op.Traverse) (asked_rights word)

pub named_in_inner : (word : ℕ) → is_within (explicit_rights word) (inner_rights word) ≡ true
named_in_inner word =
    within_trans (explicit_rights word) (asked_rights word) (inner_rights word) (named_in_asked word) (asked_in_inner word)

-- ---- the principle

-- what is said of the walk over some names from a directory holds of each end of a walk, and is kept by a name before it
pub record HoldsAlong (tree : Tree) (word : ℕ) (P : ℕ → List (List ℕ) → Walk → Type 0) : Type 0 where
  -- without names, of the directory itself
  pub here : (directory : ℕ) → P directory [] (arrives directory [])
  -- where the last name is missing
  pub absent : (directory : ℕ) (name : List ℕ) → edge_at tree (name_in directory name) ≡ None →
      P directory (name ∷ []) (missing directory name [])
  -- where the last name leads to a node of this tree
  pub node : (directory : ℕ) (name : List ℕ) (edge : EdgeTo) → edge_at tree (name_in directory name) ≡ Some edge →
      is_mount (kind_behind tree edge) ≡ false → is_within (explicit_rights word) edge.mask ≡ true →
      P directory (name ∷ []) (arrives edge.child (edge.mask ∷ []))
  -- where a name leads to a mount, be it the last or not
  pub mount : (directory : ℕ) (name : List ℕ) (rest : List (List ℕ)) (edge : EdgeTo) (index : ℕ) →
      edge_at tree (name_in directory name) ≡ Some edge → kind_behind tree edge ≡ Mount index →
      is_within (asked_rights word) edge.mask ≡ true →
      P directory (name ∷ rest) (crosses index rest (edge.mask ∷ []))
  -- where a name fails
  pub nowhere : (directory : ℕ) (name : List ℕ) (rest : List (List ℕ)) (status : Status) →
      P directory (name ∷ rest) (stops status)
  -- of one name more, which leads to the directory where the walk of the others begins
  pub further : (directory : ℕ) (name next : List ℕ) (rest : List (List ℕ)) (edge : EdgeTo) →
      edge_at tree (name_in directory name) ≡ Some edge → kind_behind tree edge ≡ Directory →
      is_within (inner_rights word) edge.mask ≡ true → (onward : Walk) →
      P edge.child (next ∷ rest) onward → P directory (name ∷ next ∷ rest) (behind edge.mask onward)

module _ (tree : Tree) (word : ℕ) (P : ℕ → List (List ℕ) → Walk → Type 0) (along : HoldsAlong tree word P) where
  passed : (directory : ℕ) (name : List ℕ) (rest : List (List ℕ)) (wanted mask : OperationSet) (w : Walk) →
      (is_within wanted mask ≡ true → P directory (name ∷ rest) (behind mask w)) →
      P directory (name ∷ rest) (passing wanted mask w)
  passed directory name rest wanted mask w h = by_test (is_within wanted mask) refl where
    by_test : (b : Bool) → is_within wanted mask ≡ b → P directory (name ∷ rest) (if b then behind mask w else stops status.AccessDenied)
    by_test true is = h is
    by_test false is = along.nowhere directory name rest _

  reached : (directory : ℕ) (name : List ℕ) (edge : EdgeTo) → edge_at tree (name_in directory name) ≡ Some edge →
      is_mount (kind_behind tree edge) ≡ false →
      P directory (name ∷ []) (passing (explicit_rights word) edge.mask (arrives edge.child []))
  reached directory name edge there none =
      passed directory name [] (explicit_rights word) edge.mask (arrives edge.child []) (along.node directory name edge there none)

  -- a new kind of node has an arm here, and one in `inner`
  last : (directory : ℕ) (name : List ℕ) (edge : EdgeTo) (kind : NodeKind) → edge_at tree (name_in directory name) ≡ Some edge →
      kind_behind tree edge ≡ kind → P directory (name ∷ []) (last_by_kind word edge kind)
  last directory name edge Directory there is = reached directory name edge there (rw is refl)
  last directory name edge File there is = reached directory name edge there (rw is refl)
  last directory name edge Service there is = reached directory name edge there (rw is refl)
  last directory name edge (Mount index) there is =
      passed directory name [] (asked_rights word) edge.mask (crosses index [] []) (along.mount directory name [] edge index there is)

  inner : (directory : ℕ) (name next : List ℕ) (rest : List (List ℕ)) (edge : EdgeTo) (kind : NodeKind) →
      edge_at tree (name_in directory name) ≡ Some edge → kind_behind tree edge ≡ kind → (onward : Walk) →
      P edge.child (next ∷ rest) onward → P directory (name ∷ next ∷ rest) (inner_by_kind word (next ∷ rest) edge kind onward)
  inner directory name next rest edge Directory there is onward h =
      passed directory name (next ∷ rest) (inner_rights word) edge.mask onward
      (λ has. along.further directory name next rest edge there is has onward h)
  inner directory name next rest edge File there is onward h = along.nowhere directory name (next ∷ rest) _
  inner directory name next rest edge Service there is onward h = along.nowhere directory name (next ∷ rest) _
  inner directory name next rest edge (Mount index) there is onward h =
      passed directory name (next ∷ rest) (inner_rights word) edge.mask (crosses index (next ∷ rest) [])
      (λ has.
      along.mount directory name (next ∷ rest) edge index there is
      (within_trans (asked_rights word) (inner_rights word) edge.mask (asked_in_inner word) has))

  last_found : (directory : ℕ) (name : List ℕ) (found : Option EdgeTo) → edge_at tree (name_in directory name) ≡ found →
      P directory (name ∷ []) (last_step tree word directory name found)
  last_found directory name None is = along.absent directory name is
  last_found directory name (Some edge) is = last directory name edge (kind_behind tree edge) is refl

  inner_found : (directory : ℕ) (name next : List ℕ) (rest : List (List ℕ)) (found : Option EdgeTo) →
      edge_at tree (name_in directory name) ≡ found → (onward : ℕ → Walk) → ((child : ℕ) → P child (next ∷ rest) (onward child)) →
      P directory (name ∷ next ∷ rest) (inner_step tree word (next ∷ rest) found onward)
  inner_found directory name next rest None is onward h = along.nowhere directory name (next ∷ rest) _
  inner_found directory name next rest (Some edge) is onward h =
      inner directory name next rest edge (kind_behind tree edge) is refl (onward edge.child) (h edge.child)

  pub every_walk : (names : List (List ℕ)) (directory : ℕ) → P directory names (walk tree word names directory)
  unfolding walk
  every_walk [] directory = along.here directory
  every_walk (name ∷ []) directory = last_found directory name (edge_at tree (name_in directory name)) refl
  every_walk (name ∷ next ∷ rest) directory =
      inner_found directory name next rest (edge_at tree (name_in directory name)) refl (walk tree word (next ∷ rest))
      (λ child. every_walk (next ∷ rest) child)

-- ---- what is said of ends alone

-- where a walk leads, without the masks on its way
abbrev pub unmasked : Walk → Walk
unmasked (arrives node masks) = arrives node []
unmasked (missing directory name masks) = missing directory name []
unmasked (crosses mount rest masks) = crosses mount rest []
unmasked (stops status) = stops status

-- a name more on the way doesn't change it
pub still_leads : (P : Walk → Type 0) (mask : OperationSet) (w : Walk) → P (unmasked w) → P (unmasked (behind mask w))
still_leads P mask (arrives node masks) h = h
still_leads P mask (missing directory name masks) h = h
still_leads P mask (crosses mount rest masks) h = h
still_leads P mask (stops status) h = h

-- ---- the walk by its first name

pub walk_none : (tree : Tree) (word directory : ℕ) → walk tree word [] directory ≡ arrives directory []
unfolding walk
walk_none tree word directory = refl

pub walk_last : (tree : Tree) (word directory : ℕ) (name : List ℕ) (found : Option EdgeTo) → edge_at tree (name_in directory name) ≡ found →
    walk tree word (name ∷ []) directory ≡ last_step tree word directory name found
unfolding walk
walk_last tree word directory name found is = ap (last_step tree word directory name) is

pub walk_inner : (tree : Tree) (word directory : ℕ) (name : List ℕ) (rest : List (List ℕ)) (found : Option EdgeTo) → rest ≢ [] →
    edge_at tree (name_in directory name) ≡ found →
    walk tree word (name ∷ rest) directory ≡ inner_step tree word rest found (walk tree word rest)
unfolding walk
walk_inner tree word directory name [] found more is = absurd (more refl)
walk_inner tree word directory name (next ∷ rest) found more is =
    ap (λ edge. inner_step tree word (next ∷ rest) edge (walk tree word (next ∷ rest))) is
