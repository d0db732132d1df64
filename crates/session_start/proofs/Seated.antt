-- What stands behind the first nodes, and behind one more.
use Rattle.std.proofs.Common.{◌≡◌, ℕ, ◌+◌, ◌≤◌, ◌==◌, ◌||◌, Bool, true, false, cond, if◌then◌else◌, List, [], ◌∷◌, ◌++◌, length, Option, Some, None, IsSome, All, refl, sym, ap, ◌∙◌, subst, arith, nat_lt, Bor}
use Rattle.std.specs.BTreeMap.{BTreeMap, get, is_at}
use Rattle.std.specs.Option.{option_map_or}
use Rattle.std.specs.Ordering.{is_eq, nat_cmp}
use Rattle.std.specs.Cmp.Lexicographic.{slice_cmp}
use Rattle.std.specs.Str.{bytes_eq}
use Rattle.std.proofs.lemmas.List.{length-map}
use Rattle.std.proofs.lemmas.Map.Text.{is_eq-slice_cmp}
use Rattle.std.proofs.lemmas.Slice.Eq.{bytes_eq-Decides}
use Rattle.node_graph.specs.declared.nodes.NodeRef.{NodeRef}
use Rattle.node_graph.specs.Graph.{Kept, Names, number_of, kind_at, holds_at, is_kept, StandsFor}
use Rattle.node_graph.specs.Tree.{Edges, bare_tree, kind_of, is_linked}
use Rattle.session_start.specs.Numbering.{Named, number_at, row_of_named, tree_from, with_node}
use Rattle.path_walk.specs.Names.{dot}
use Rattle.path_walk.specs.Parts.{is_dot, parent_of}
use Rattle.session_start.proofs.Numbers.{at_path, number_push, number_kept}
use Rattle.session_start.proofs.Standing.{kept_in}
use Rattle.session_start.proofs.Trees.{IsPlaced, Fits, Grows, more, placed, tree_push}
use Rattle.session_start.specs.Growing.{Makes, key_in}
use Rattle.session_start.specs.Places.{path_cmp, IsNumbering, Stands}
use Rattle.session_start.proofs.NamedNodes.{named_kind, named_some}

-- ---- what stands

module _ (named : List Named) (places : BTreeMap (Bor (List ℕ)) NodeRef) (numbered : IsNumbering named places) where
  pub place_in : (path : Bor (List ℕ)) → 1 ≤ number_at named path.now → IsSome (get path_cmp places path)
  place_in path some = by_place (get path_cmp places path) (numbered path) where
    by_place : (o : Option NodeRef) → option_map_or number_of o 0 ≡ number_at named path.now → IsSome o
    by_place None is = absurd (omega (arith, is, some))
    by_place (Some node) is = refl

  pub leads_in : (path : Bor (List ℕ)) (node : NodeRef) → get path_cmp places path ≡ Some node → number_of node ≡ number_at named path.now
  leads_in path node at = ap (λ o. option_map_or number_of o 0) (sym at) ∙ numbered path

module _ (named : List Named) (graph : Kept) (places : BTreeMap (Bor (List ℕ)) NodeRef) (stands : Stands named graph places) where
  pub place_there : (path : Bor (List ℕ)) → 1 ≤ number_at named path.now → IsSome (get path_cmp places path)
  place_there path some = place_in named places stands.numbered path some

  pub leads_to : (path : Bor (List ℕ)) (node : NodeRef) → get path_cmp places path ≡ Some node → number_of node ≡ number_at named path.now
  leads_to path node at = leads_in named places stands.numbered path node at

  pub kind_there : (path : Bor (List ℕ)) (node : NodeRef) → get path_cmp places path ≡ Some node → kind_at graph (number_of node) ≡ kind_of (tree_from named) (number_at named path.now)
  kind_there path node at = named_kind graph (tree_from named) node stands.tree (stands.kept path node at) ∙ ap (kind_of (tree_from named)) (leads_to path node at)

  pub some_there : (path : Bor (List ℕ)) (node : NodeRef) → get path_cmp places path ≡ Some node → 1 ≤ number_at named path.now
  some_there path node at =
      let number = leads_to path node at in
      let some = named_some graph (tree_from named) node stands.tree (stands.kept path node at) in
      omega (arith, number, some)

pub kept_by : (graph : Kept) (named : List Named) → graph.edges ≡ (tree_from named).edges → All (IsPlaced named) named → (path : List ℕ) → 1 ≤ number_at named path → is_kept graph (number_at named path) ≡ true
kept_by graph named edges all path some =
    let number = number_at named path in
    ap (λ (es : Edges). (number == 1) || (is_linked es number || nat_lt 0 (holds_at graph number))) edges
    ∙ either (number == 1) (is_linked (tree_from named).edges number) (nat_lt 0 (holds_at graph number)) (kept_in named all path some)
  where
    either : (a b c : Bool) → (a || b) ≡ true → (a || (b || c)) ≡ true
    either true b c h = refl
    either false true c h = refl
    either false false c h = absurd (cc)

-- ---- one more

at_is : (path q : Bor (List ℕ)) (one : Named) → path.now ≡ one.path → is_at (path_cmp path) q ≡ at_path q.now one
at_is path q one same = is_eq-slice_cmp path.now q.now ∙ ap (λ text. bytes_eq text q.now) same

module _ (named : List Named) (one : Named) (grows : Grows named) (fits : Fits named one) (old new : Kept) (before now : BTreeMap (Bor (List ℕ)) NodeRef) (stands : Stands named old before)
    (dir made : NodeRef) (parent : number_of dir ≡ number_at named (parent_of one.path)) (makes : Makes old new (tree_from named) (key_in (number_of dir) one.path) one.kind one.mask one.bytes made)
    (path : Bor (List ℕ)) (same : path.now ≡ one.path)
    (adds : (q : Bor (List ℕ)) → get path_cmp now q ≡ cond (is_at (path_cmp path) q) (Some made) (get path_cmp before q)) where
  tree_more : StandsFor new (tree_from (named ++ one ∷ []))
  tree_more =
      subst (StandsFor new) (sym (tree_push named one fits (placed named grows)))
      (subst (λ (n : ℕ). StandsFor new (with_node (tree_from named) (key_in n one.path) one.kind one.mask one.bytes)) parent makes.grown)

  number_made : number_of made ≡ length named + 2
  number_made =
      let tree = stands.tree in
      let count = tree.made in
      let size = length-map named row_of_named in
      let number = makes.number in
      omega (arith, count, size, number)

  numbered_more : (q : Bor (List ℕ)) → option_map_or number_of (get path_cmp now q) 0 ≡ number_at (named ++ one ∷ []) q.now
  numbered_more q =
      ap (λ o. option_map_or number_of o 0) (adds q ∙ ap (λ b. cond b (Some made) (get path_cmp before q)) (at_is path q one same))
      ∙ by_test (at_path q.now one) ∙ sym (number_push named one fits.new q.now)
    where
      by_test : (b : Bool) → option_map_or number_of (cond b (Some made) (get path_cmp before q)) 0 ≡ (if b then length named + 2 else number_at named q.now)
      by_test true = number_made
      by_test false = stands.numbered q

  kept_more : (q : Bor (List ℕ)) (node : NodeRef) → get path_cmp now q ≡ Some node → Names new node
  kept_more q node found = by_test (is_at (path_cmp path) q) (sym (adds q) ∙ found) where
    by_test : (b : Bool) → cond b (Some made) (get path_cmp before q) ≡ Some node → Names new node
    by_test true is = let same_node : made ≡ node = cc in subst (Names new) same_node makes.named
    by_test false is =
        let number = leads_to named old before stands q node is in
        let some = some_there named old before stands q node is in
        let still = number_kept named one fits.new q.now some in
        let tree = tree_more in
        let all = placed (named ++ one ∷ []) (more named one grows fits) in
        let kept : is_kept new (number_of node) ≡ true =
        ap (is_kept new) (number ∙ sym still) ∙ kept_by new (named ++ one ∷ []) tree.edges all q.now (omega (arith, still, some)) in
        (makes.names node (stands.kept q node is) kept).0

  pub stands_more : Stands (named ++ one ∷ []) new now
  stands_more = record {
    tree = tree_more;
    unheld = λ number. makes.holds number ∙ stands.unheld number;
    numbered = numbered_more;
    kept = kept_more;
  }

-- ---- none

turned : (a b : List ℕ) (s t : Bool) → bytes_eq a b ≡ s → bytes_eq b a ≡ t → bytes_eq a b ≡ bytes_eq b a
turned a b true true e f = e ∙ sym f
turned a b false false e f = e ∙ sym f
turned a b true false e f = let back : bytes_eq b a ≡ true = (bytes_eq-Decides b a).1 (sym ((bytes_eq-Decides a b).0 e)) in absurd (let wrong : true ≡ false = sym back ∙ f in cc)
turned a b false true e f = let there : bytes_eq a b ≡ true = (bytes_eq-Decides a b).1 (sym ((bytes_eq-Decides b a).0 f)) in absurd (let wrong : true ≡ false = sym there ∙ e in cc)

number_none : (path : List ℕ) → (if is_dot path then 1 else 0) ≡ number_at [] path
unfolding number_at
number_none path = refl

module _ (graph : Kept) (stood : StandsFor graph bare_tree) (held : (number : ℕ) → holds_at graph number ≡ 0) (top : NodeRef) (named : Names graph top) (is : number_of top ≡ 1)
    (before now : BTreeMap (Bor (List ℕ)) NodeRef) (none : before.entries ≡ [])
    (adds : (q : Bor (List ℕ)) → get path_cmp now q ≡ cond (is_eq (slice_cmp nat_cmp dot q.now)) (Some top) (get path_cmp before q)) where
  found : (q : Bor (List ℕ)) → get path_cmp now q ≡ (if is_dot q.now then Some top else None)
  found q =
      adds q
      ∙ ap (λ b. cond b (Some top) (get path_cmp before q)) (is_eq-slice_cmp dot q.now ∙ turned dot q.now (bytes_eq dot q.now) (bytes_eq q.now dot) refl refl)
      ∙ ap (λ o. cond (is_dot q.now) (Some top) o) (empty q)
    where
      empty : (q : Bor (List ℕ)) → get path_cmp before q ≡ None
      empty q = rw none

  numbered_root : (q : Bor (List ℕ)) → option_map_or number_of (get path_cmp now q) 0 ≡ number_at [] q.now
  numbered_root q = ap (λ o. option_map_or number_of o 0) (found q) ∙ by_test (is_dot q.now) ∙ number_none q.now where
    by_test : (b : Bool) → option_map_or number_of (if b then Some top else None) 0 ≡ (if b then 1 else 0)
    by_test true = is
    by_test false = refl

  kept_root : (q : Bor (List ℕ)) (node : NodeRef) → get path_cmp now q ≡ Some node → Names graph node
  kept_root q node at = by_test (is_dot q.now) (sym (found q) ∙ at) where
    by_test : (b : Bool) → (if b then Some top else None) ≡ Some node → Names graph node
    by_test true e = let same_node : top ≡ node = cc in subst (Names graph) same_node named
    by_test false e = absurd (cc)

  -- the root alone
  pub stands_bare : Stands [] graph now
  stands_bare = record { tree = stood; unheld = held; numbered = numbered_root; kept = kept_root }
