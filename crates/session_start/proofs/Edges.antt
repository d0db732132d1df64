-- The edges of a list that grows, and those of mounts.
use Rattle.std.proofs.Common.{◌≡◌, ℕ, zero, suc, ◌+◌, ◌==◌, Bool, true, false, cond, List, [], ◌∷◌, ◌++◌, length, map, filter, get_or, Option, Some, None, All, Contains, refl, sym, ap, ◌∙◌, subst, arith}
use Rattle.std.specs.Prelude.{slice_get}
use Rattle.std.specs.FinMap as finite
use Rattle.std.specs.FinMap.Entries as entry
use Rattle.std.specs.List.{find, enumerate_from}
use Rattle.std.specs.Option.{option_map, option_or}
use Rattle.std.specs.Ordering.{is_eq}
use Rattle.std.proofs.lemmas.Bool.{eqb-true, eq-eqb}
use Rattle.std.proofs.lemmas.List.Elements.{All-nil, All-cons, All-append, All-contains, All-contains_itself, All-filter, All-get_or, All-map, All-push, All-weaker, Contains-append_right}
use Rattle.std.proofs.lemmas.Option.{slice_get-map, slice_get_within, get_or_from_slice_get}
use Rattle.std.proofs.lemmas.Slice.Eq.{bytes_eq-Decides}
use Rattle.node_graph.specs.declared.nodes.NodeKind.{NodeKind}
use Rattle.node_graph.specs.declared.nodes.NodeKind.TheVariants.{Directory, File, Service, Mount}
use Rattle.node_graph.specs.Tree.{NodeRow, EdgeKey, EdgeTo, edge_cmp, kind_of}
use Rattle.session_start.specs.Accepted.{AreAccepted, IsNode, IsPlain}
use Rattle.session_start.specs.Items.{NodeItem, MountItem, Lists}
use Rattle.session_start.specs.Numbering.{Named, node_named, mount_named, named_of, number_at, edge_of, row_of_named, tree_from, tree_of}
use Rattle.session_start.specs.Sound.{HasOneEdge}
use Rattle.session_start.proofs.Found.{same_some, found_none, find_push, contains_map, contains_filter, enumerate_at, enumerate_has}
use Rattle.session_start.proofs.Numbers.{at_path}
use Rattle.session_start.proofs.Placing.{keeps_all, nodes_on}
use Rattle.session_start.proofs.Standing.{kind_found, kind_below}
use Rattle.session_start.proofs.Trees.{edges_total, exact_edges, equal_of, edges_in, IsPlaced, Grows, bare, more, placed}

-- ---- kinds

kind_or : (o : Option Named) (b : Bool) (one : Named) → option_map (λ (x : Named). x.kind) (option_or o (cond b (Some one) None)) ≡ option_or (option_map (λ (x : Named). x.kind) o) (cond b (Some one.kind) None)
kind_or None true one = refl
kind_or None false one = refl
kind_or (Some x) b one = refl

kind_push : (named : List Named) (one : Named) (path : List ℕ) → kind_found (named ++ one ∷ []) path ≡ option_or (kind_found named path) (cond (at_path path one) (Some one.kind) None)
kind_push named one path = ap (option_map (λ (x : Named). x.kind)) (find_push (at_path path) named one) ∙ kind_or (find (at_path path) named) (at_path path one) one

-- at the path of each stands what it is
kinds : (named : List Named) → Grows named → All (λ x. kind_found named x.path ≡ Some x.kind) named
kinds _ bare = All-nil (λ (x : Named). kind_found [] x.path ≡ Some x.kind)
kinds _ (more named one grows fits) =
    All-push (λ (x : Named). kind_found (named ++ one ∷ []) x.path ≡ Some x.kind) named one
    (All-weaker (λ (x : Named). kind_found named x.path ≡ Some x.kind) (λ (x : Named). kind_found (named ++ one ∷ []) x.path ≡ Some x.kind)
    (λ x is. kind_push named one x.path ∙ ap (λ o. option_or o (cond (at_path x.path one) (Some one.kind) None)) is) named (kinds named grows))
    (kind_push named one one.path
    ∙ ap (λ o. option_or (option_map (λ (x : Named). x.kind) o) (cond (at_path one.path one) (Some one.kind) None)) (found_none (at_path one.path) named fits.new.free)
    ∙ ap (λ b. option_or None (cond b (Some one.kind) None)) ((bytes_eq-Decides one.path one.path).1 refl))

kind_of_one : (named : List Named) → Grows named → (one : Named) → Contains named one → kind_of (tree_from named) (number_at named one.path) ≡ Some one.kind
kind_of_one named grows one has =
    let placed = All-contains (IsPlaced named) named one (placed named grows) has in
    kind_below named one.path placed.below ∙ All-contains (λ (x : Named). kind_found named x.path ≡ Some x.kind) named one (kinds named grows) has

-- ---- edges

find_has : (key : EdgeKey) (to : EdgeTo) (es : List (EdgeKey × EdgeTo)) → entry.find edge_cmp key es ≡ Some to → Contains es (key, to)
find_has key to [] h = absurd (cc)
find_has key to (e ∷ es) h = by_test (is_eq (edge_cmp key e.0)) refl h (λ g. find_has key to es g) where
  by_test : (b : Bool) → is_eq (edge_cmp key e.0) ≡ b → cond b (Some e.1) (entry.find edge_cmp key es) ≡ Some to → (entry.find edge_cmp key es ≡ Some to → Contains es (key, to)) → Contains (e ∷ es) (key, to)
  by_test true is h rest =
      let ends : e.1 ≡ to = same_some h in
      let keys : key ≡ e.0 = exact_edges key e.0 (equal_of (edge_cmp key e.0) is) in
      subst (λ (k : EdgeKey). Contains (e ∷ es) (k, to)) (sym keys) (subst (λ (t : EdgeTo). Contains (e ∷ es) (e.0, t)) ends (zero, omega arith, refl))
  by_test false is h rest = let found = rest h in (suc found.0, let within = found.1 in omega (arith, within), found.2)

-- an edge is that of one in the list
edge_is : (named : List Named) (key : EdgeKey) (to : EdgeTo) → finite.get (tree_from named).edges key ≡ Some to → (one : Named) × Contains named one × (edge_of named one ≡ (key, to))
edge_is named key to h =
    let found = find_has key to (edges_in named) (sym (finite.get-from_entries edges_total (edges_in named) key) ∙ h) in
    All-contains (λ (e : EdgeKey × EdgeTo). (one : Named) × Contains named one × (edge_of named one ≡ e)) (edges_in named) (key, to)
    (All-map (λ (e : EdgeKey × EdgeTo). (one : Named) × Contains named one × (edge_of named one ≡ e)) (edge_of named) named
    (All-weaker (Contains named) (λ (x : Named). (one : Named) × Contains named one × (edge_of named one ≡ edge_of named x)) (λ x has. (x, has, refl)) named (All-contains_itself named)))
    found

-- ---- mounts

-- one that is a mount is that of the list, of this server
abbrev IsKnown : Lists → ℕ → Named → Type 0
IsKnown lists server one = (index : ℕ) → one.kind ≡ Mount index → (mount : MountItem) × (slice_get lists.mounts index ≡ Some mount) × (mount.server ≡ server) × (one ≡ mount_named (index, mount))

no_mount : (kind : NodeKind) (index : ℕ) → IsPlain kind → kind ≡ Mount index → ⊥
no_mount Directory index plain is = cc
no_mount File index plain is = cc
no_mount Service index plain is = cc
no_mount (Mount i) index plain is = plain

same_index : {m n : ℕ} → Mount m ≡ Mount n → m ≡ n
same_index e = cc

passes_filter : {X : Type 0} (p : X → Bool) (xs : List X) → All (λ x. p x ≡ true) (filter p xs)
passes_filter p [] = All-nil (λ x. p x ≡ true)
passes_filter {X} p (x ∷ xs) = by_test (p x) refl (passes_filter p xs) where
  by_test : (b : Bool) → p x ≡ b → All (λ y. p y ≡ true) (filter p xs) → All (λ y. p y ≡ true) (cond b (x ∷ filter p xs) (filter p xs))
  by_test true is rest = All-cons (λ y. p y ≡ true) x (filter p xs) is rest
  by_test false is rest = rest

known : (lists : Lists) → AreAccepted lists → (server : ℕ) → All (IsKnown lists server) (named_of lists server)
known lists accepted server =
    let on : ℕ × MountItem → Bool = λ mount. mount.1.server == server in
    let all = enumerate_from 0 lists.mounts in
    All-append (IsKnown lists server) (map node_named (filter (λ node. node.server == server) lists.nodes)) (map mount_named (filter (λ mount. mount.1.server == server) all))
    (All-map (IsKnown lists server) node_named (filter (λ node. node.server == server) lists.nodes)
    (All-weaker (IsNode (length lists.servers)) (λ (node : NodeItem). IsKnown lists server (node_named node)) (λ node is index kind. absurd (no_mount node.kind index is.plain kind)) (filter (λ node. node.server == server) lists.nodes)
    (All-filter (λ (node : NodeItem). node.server == server) (IsNode (length lists.servers)) lists.nodes accepted.items.nodes)))
    (All-map (IsKnown lists server) mount_named (filter (λ mount. mount.1.server == server) all)
    (λ k d within. each (get_or (filter (λ (mount : ℕ × MountItem). mount.1.server == server) all) k d)
    (All-filter (λ (mount : ℕ × MountItem). mount.1.server == server) (λ (item : ℕ × MountItem). (place : ℕ) × (item.0 ≡ 0 + place) × (slice_get lists.mounts place ≡ Some item.1)) all (enumerate_at 0 lists.mounts) k d within)
    (passes_filter (λ (mount : ℕ × MountItem). mount.1.server == server) all k d within)))
  where
    each : (item : ℕ × MountItem) → (place : ℕ) × (item.0 ≡ 0 + place) × (slice_get lists.mounts place ≡ Some item.1) → (item.1.server == server) ≡ true → IsKnown lists server (mount_named item)
    each item at on index kind =
        let same : item.0 ≡ index = same_index kind in
        let is = at.1 in
        let place : at.0 ≡ index = omega (arith, is, same) in (
          item.1,
          subst (λ (n : ℕ). slice_get lists.mounts n ≡ Some item.1) place at.2,
          eqb-true item.1.server server on,
          ap (λ (n : ℕ). mount_named (n, item.1)) same,
        )

pub mount_known : (lists : Lists) → AreAccepted lists → (server number index : ℕ) → kind_of (tree_of lists server) number ≡ Some (Mount index) → (mount : MountItem) × (slice_get lists.mounts index ≡ Some mount) × (mount.server ≡ server)
mount_known lists accepted server zero index h = absurd (cc)
mount_known lists accepted server (suc zero) index h = absurd (cc)
mount_known lists accepted server (suc (suc k)) index h = by_row (slice_get (named_of lists server) k) refl (sym (ap (option_map (λ (row : NodeRow). row.kind)) (slice_get-map row_of_named (named_of lists server) k)) ∙ h) where
  by_row : (o : Option Named) → slice_get (named_of lists server) k ≡ o → option_map (λ (row : NodeRow). row.kind) (option_map row_of_named o) ≡ Some (Mount index) → (mount : MountItem) × (slice_get lists.mounts index ≡ Some mount) × (mount.server ≡ server)
  by_row None e is = absurd (cc)
  by_row (Some one) e is =
      let all = All-get_or (IsKnown lists server) (named_of lists server) k one (slice_get_within (named_of lists server) k one e) (known lists accepted server) in
      let found = subst (IsKnown lists server) (get_or_from_slice_get (named_of lists server) k one one e) all index (same_some is) in
      (found.0, found.1, found.2)

module _ (lists : Lists) (accepted : AreAccepted lists) (index : ℕ) (mount : MountItem) (there : slice_get lists.mounts index ≡ Some mount) where
  abbrev its_named : List Named
  its_named = named_of lists mount.server

  its_grows : Grows its_named
  its_grows = let keeps = keeps_all lists accepted mount.server in keeps.grows

  its_one : Contains its_named (mount_named (index, mount))
  its_one =
      let same : 0 + index ≡ index = omega arith in
      Contains-append_right (nodes_on mount.server lists.nodes) (map mount_named (filter (λ m. m.1.server == mount.server) (enumerate_from 0 lists.mounts))) (mount_named (index, mount))
      (contains_map mount_named (filter (λ m. m.1.server == mount.server) (enumerate_from 0 lists.mounts)) (index, mount)
      (contains_filter (λ (m : ℕ × MountItem). m.1.server == mount.server) (enumerate_from 0 lists.mounts) (index, mount)
      (subst (λ (n : ℕ). Contains (enumerate_from 0 lists.mounts) (n, mount)) same (enumerate_has 0 lists.mounts index mount there)) (eq-eqb mount.server mount.server refl)))

  alone : (other : EdgeKey) (end : EdgeTo) → finite.get (tree_from its_named).edges other ≡ Some end → kind_of (tree_from its_named) end.child ≡ Some (Mount index) → other ≡ (edge_of its_named (mount_named (index, mount))).0
  alone other end at kind =
      let found = edge_is its_named other end at in
      let one = found.0 in
      let ends : (edge_of its_named one).1 ≡ end = ap (λ (e : EdgeKey × EdgeTo). e.1) found.2 in
      let is : one.kind ≡ Mount index = same_some (sym (kind_of_one its_named its_grows one found.1) ∙ ap (λ (to : EdgeTo). kind_of (tree_from its_named) to.child) ends ∙ kind) in
      let its = All-contains (IsKnown lists mount.server) its_named one (known lists accepted mount.server) found.1 index is in
      let mounts : its.0 ≡ mount = same_some (sym its.1 ∙ there) in
      let ones : one ≡ mount_named (index, mount) = its.3 ∙ ap (λ (m : MountItem). mount_named (index, m)) mounts in
      sym (ap (λ (e : EdgeKey × EdgeTo). e.0) found.2) ∙ ap (λ (x : Named). (edge_of its_named x).0) ones

  pub one_edge : HasOneEdge (tree_of lists mount.server) index mount.rights
  one_edge =
      let one = mount_named (index, mount) in
      let is_placed = All-contains (IsPlaced its_named) its_named one (placed its_named its_grows) its_one in
      record {
        key = (edge_of its_named one).0;
        to = (edge_of its_named one).1;
        there = finite.get-from_entries edges_total (edges_in its_named) (edge_of its_named one).0 ∙ is_placed.edge;
        leads = kind_of_one its_named its_grows one its_one;
        masked = refl;
        alone = alone;
      }
