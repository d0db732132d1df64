-- The tree of a list of nodes, as the list grows at its end.
use Rattle.std.proofs.Common.{◌≡◌, ◌≢◌, ℕ, zero, suc, ◌+◌, ◌≤◌, Bool, true, false, cond, List, [], ◌∷◌, ◌++◌, length, map, Some, None, All, refl, sym, ap, ◌∙◌, arith}
use Rattle.std.specs.Ordering.{nat_cmp, is_eq}
use Rattle.std.specs.declared.cmp.Ordering.{Ordering}
use Rattle.std.specs.declared.cmp.Ordering.TheVariants.{Less, Equal, Greater}
use Rattle.std.specs.Cmp.{IsTotalOrder, nat_cmp_total}
use Rattle.std.specs.Cmp.Lexicographic.{slice_cmp, nat_list_cmp_total}
use Rattle.std.specs.FinMap as finite
use Rattle.std.specs.FinMap.Entries as entry
use Rattle.std.proofs.lemmas.Cmp.{on_total, then_total, tied_itself}
use Rattle.std.proofs.lemmas.Map.Lookups.{CmpEqualImpliesEq, exact_pairs, exact_unsigned, exact_bytes}
use Rattle.std.proofs.lemmas.List.{length-map, map-append}
use Rattle.std.proofs.lemmas.List.Elements.{All-nil, All-head, All-tail, All-map, All-push, All-weaker}
use Rattle.path_walk.specs.Names.{IsName}
use Rattle.path_walk.specs.Paths.{names_of}
use Rattle.node_graph.specs.declared.nodes.NodeKind.{NodeKind}
use Rattle.node_graph.specs.declared.nodes.NodeKind.TheVariants.{Directory}
use Rattle.node_graph.specs.Tree.{EdgeKey, EdgeTo, edge_cmp, Edges, Tree, kind_of}
use Rattle.path_walk.specs.Parts.{last_name, parent_of, is_dot}
use Rattle.path_walk.proofs.PartLemmas.{same_path}
use Rattle.session_start.specs.Numbering.{Named, number_at, edge_of, row_of_named, tree_from, with_node}
use Rattle.session_start.proofs.Numbers.{IsNew, number_same, number_free, number_new, number_kept}

-- ---- keys

pub edges_total : IsTotalOrder edge_cmp
edges_total = then_total (on_total (λ k. k.directory) nat_cmp_total) (on_total (λ k. k.name) nat_list_cmp_total)

pub exact_edges : CmpEqualImpliesEq edge_cmp
exact_edges a b h = ap (λ (p : ℕ × List ℕ). record { directory = p.0; name = p.1 }) (exact_pairs nat_cmp (slice_cmp nat_cmp) exact_unsigned exact_bytes (a.directory, a.name) (b.directory, b.name) h)

pub equal_of : (o : Ordering) → is_eq o ≡ true → o ≡ Equal
equal_of Less h = absurd (cc)
equal_of Equal h = refl
equal_of Greater h = absurd (cc)

find_fresh : (key : EdgeKey) (es : List (EdgeKey × EdgeTo)) → All (λ e. e.0 ≢ key) es → entry.find edge_cmp key es ≡ None
find_fresh key [] h = refl
find_fresh key (e ∷ es) h = by_test key e es (All-head (λ (e : EdgeKey × EdgeTo). e.0 ≢ key) e es h) (find_fresh key es (All-tail (λ (e : EdgeKey × EdgeTo). e.0 ≢ key) e es h)) (is_eq (edge_cmp key e.0)) refl where
  by_test : (key : EdgeKey) (e : EdgeKey × EdgeTo) (es : List (EdgeKey × EdgeTo)) → e.0 ≢ key → entry.find edge_cmp key es ≡ None → (b : Bool) → is_eq (edge_cmp key e.0) ≡ b → entry.find edge_cmp key (e ∷ es) ≡ None
  by_test key e es other rest true is = absurd (other (sym (exact_edges key e.0 (equal_of (edge_cmp key e.0) is))))
  by_test key e es other rest false is = ap (λ b. cond b (Some e.1) (entry.find edge_cmp key es)) is ∙ rest

find_stays : (key : EdgeKey) (es more : List (EdgeKey × EdgeTo)) (to : EdgeTo) → entry.find edge_cmp key es ≡ Some to → entry.find edge_cmp key (es ++ more) ≡ Some to
find_stays key [] more to h = absurd (cc)
find_stays key (e ∷ es) more to h = by_test (is_eq (edge_cmp key e.0)) h (λ g. find_stays key es more to g) where
  by_test : (b : Bool) → cond b (Some e.1) (entry.find edge_cmp key es) ≡ Some to → (entry.find edge_cmp key es ≡ Some to → entry.find edge_cmp key (es ++ more) ≡ Some to) → cond b (Some e.1) (entry.find edge_cmp key (es ++ more)) ≡ Some to
  by_test true h rest = h
  by_test false h rest = rest h

find_last : (key : EdgeKey) (es : List (EdgeKey × EdgeTo)) (to : EdgeTo) → entry.find edge_cmp key es ≡ None → entry.find edge_cmp key (es ++ (key, to) ∷ []) ≡ Some to
find_last key es to none =
    entry.find-append edge_cmp edges_total es key to key none ∙ ap (λ o. cond (is_eq o) (Some to) (entry.find edge_cmp key es)) (tied_itself edges_total key)

-- ---- what stands in a list

abbrev pub edges_in : List Named → List (EdgeKey × EdgeTo)
edges_in named = map (edge_of named) named

pub record IsPlaced (named : List Named) (one : Named) : Type 0 where
  pub below : is_dot one.path ≡ false
  pub valid : All IsName (names_of one.path)
  pub number : 1 ≤ number_at named one.path
  pub parent : 1 ≤ number_at named (parent_of one.path)
  pub edge : entry.find edge_cmp (edge_of named one).0 (edges_in named) ≡ Some (edge_of named one).1

-- one that can stand behind these
pub record Fits (named : List Named) (one : Named) : Type 0 where
  pub new : IsNew named one.path
  pub valid : All IsName (names_of one.path)
  pub parent : kind_of (tree_from named) (number_at named (parent_of one.path)) ≡ Some Directory

pub data Grows : List Named → Type 0 where
  bare : Grows []
  more : (named : List Named) (one : Named) → Grows named → Fits named one → Grows (named ++ one ∷ [])

pub number_some : (tree : Tree) (number : ℕ) (kind : NodeKind) → kind_of tree number ≡ Some kind → 1 ≤ number
number_some tree zero kind h = absurd (cc)
number_some tree (suc place) kind h = omega arith

module _ (named : List Named) (one : Named) (fits : Fits named one) where
  pub parent_there : 1 ≤ number_at named (parent_of one.path)
  parent_there = number_some (tree_from named) (number_at named (parent_of one.path)) Directory fits.parent

  abbrev pub new_key : EdgeKey
  new_key = record { directory = number_at named (parent_of one.path); name = last_name one.path }

  abbrev pub new_end : EdgeTo
  new_end = record { child = length named + 2; mask = one.mask }

  new_edge : edge_of (named ++ one ∷ []) one ≡ (new_key, new_end)
  new_edge =
      ap (λ (n : ℕ). (record { directory = n; name = last_name one.path }, record { child = number_at (named ++ one ∷ []) one.path; mask = one.mask })) (number_kept named one fits.new (parent_of one.path) parent_there)
      ∙ ap (λ (n : ℕ). (new_key, record { child = n; mask = one.mask })) (number_new named one fits.new)

  same_edge : (old : Named) → IsPlaced named old → edge_of (named ++ one ∷ []) old ≡ edge_of named old
  same_edge old placed =
      ap (λ (n : ℕ). (record { directory = n; name = last_name old.path }, record { child = number_at (named ++ one ∷ []) old.path; mask = old.mask })) (number_kept named one fits.new (parent_of old.path) placed.parent)
      ∙ ap (λ (n : ℕ). (record { directory = number_at named (parent_of old.path); name = last_name old.path }, record { child = n; mask = old.mask })) (number_kept named one fits.new old.path placed.number)

  same_edges : (olds : List Named) → All (IsPlaced named) olds → map (edge_of (named ++ one ∷ [])) olds ≡ map (edge_of named) olds
  same_edges [] h = refl
  same_edges (old ∷ olds) h =
      ap (λ edge. edge ∷ map (edge_of (named ++ one ∷ [])) olds) (same_edge old (All-head (IsPlaced named) old olds h))
      ∙ ap (λ edges. edge_of named old ∷ edges) (same_edges olds (All-tail (IsPlaced named) old olds h))

  pub more_edges : All (IsPlaced named) named → edges_in (named ++ one ∷ []) ≡ edges_in named ++ (new_key, new_end) ∷ []
  more_edges h =
      map-append (edge_of (named ++ one ∷ [])) named (one ∷ [])
      ∙ ap (λ edges. edges ++ edge_of (named ++ one ∷ []) one ∷ []) (same_edges named h)
      ∙ ap (λ edge. edges_in named ++ edge ∷ []) new_edge

  other_key : (old : Named) → IsPlaced named old → (edge_of named old).0 ≢ new_key
  other_key old placed same =
      let parents : parent_of old.path ≡ parent_of one.path = number_same named (parent_of old.path) (parent_of one.path) placed.parent (ap (λ (k : EdgeKey). k.directory) same) in
      let paths : old.path ≡ one.path = same_path old.path one.path placed.below fits.new.below placed.valid fits.valid parents (ap (λ (k : EdgeKey). k.name) same) in
      let none : number_at named old.path ≡ 0 = ap (number_at named) paths ∙ number_free named one.path fits.new in
      let some = placed.number in
      omega (arith, none, some)

  pub fresh_key : All (IsPlaced named) named → entry.find edge_cmp new_key (edges_in named) ≡ None
  fresh_key h =
      find_fresh new_key (edges_in named) (All-map (λ (e : EdgeKey × EdgeTo). e.0 ≢ new_key) (edge_of named) named (All-weaker (IsPlaced named) (λ (old : Named). (edge_of named old).0 ≢ new_key) other_key named h))

  old_placed : All (IsPlaced named) named → (old : Named) → IsPlaced named old → IsPlaced (named ++ one ∷ []) old
  old_placed h old placed = record {
    below = placed.below;
    valid = placed.valid;
    number = rw (number_kept named one fits.new old.path placed.number) placed.number;
    parent = rw (number_kept named one fits.new (parent_of old.path) placed.parent) placed.parent;
    edge =
        ap (λ (e : EdgeKey × EdgeTo). entry.find edge_cmp e.0 (edges_in (named ++ one ∷ []))) (same_edge old placed)
        ∙ ap (entry.find edge_cmp (edge_of named old).0) (more_edges h)
        ∙ find_stays (edge_of named old).0 (edges_in named) ((new_key, new_end) ∷ []) (edge_of named old).1 placed.edge
        ∙ ap (λ (e : EdgeKey × EdgeTo). Some e.1) (sym (same_edge old placed));
  }

  new_placed : All (IsPlaced named) named → IsPlaced (named ++ one ∷ []) one
  new_placed h = record {
    below = fits.new.below;
    valid = fits.valid;
    number = rw (number_new named one fits.new) (omega arith);
    parent = rw (number_kept named one fits.new (parent_of one.path) parent_there) parent_there;
    edge =
        ap (λ (e : EdgeKey × EdgeTo). entry.find edge_cmp e.0 (edges_in (named ++ one ∷ []))) new_edge
        ∙ ap (entry.find edge_cmp new_key) (more_edges h)
        ∙ find_last new_key (edges_in named) new_end (fresh_key h)
        ∙ ap (λ (e : EdgeKey × EdgeTo). Some e.1) (sym new_edge);
  }

  pub more_placed : All (IsPlaced named) named → All (IsPlaced (named ++ one ∷ [])) (named ++ one ∷ [])
  more_placed h =
      All-push (IsPlaced (named ++ one ∷ [])) named one (All-weaker (IsPlaced named) (IsPlaced (named ++ one ∷ [])) (old_placed h) named h) (new_placed h)

  -- the tree of one more is the tree with that node
  pub tree_push : All (IsPlaced named) named → tree_from (named ++ one ∷ []) ≡ with_node (tree_from named) new_key one.kind one.mask one.bytes
  tree_push h =
      let rows : map row_of_named (named ++ one ∷ []) ≡ map row_of_named named ++ row_of_named one ∷ [] = map-append row_of_named named (one ∷ []) in
      let count : length named + 2 ≡ length (tree_from named).nodes + 1 = let size = length-map named row_of_named in omega (arith, size) in
      let edges : (tree_from (named ++ one ∷ [])).edges ≡ finite.insert (tree_from named).edges new_key new_end =
      ap (λ es. finite.from_entries {R = edge_cmp} es) (more_edges h) ∙ finite.from_entries_push edges_total exact_edges (edges_in named) new_key new_end (fresh_key h) in
      ap (λ rs. record { nodes = record { kind = Directory; bytes = [] } ∷ rs; edges = (tree_from (named ++ one ∷ [])).edges }) rows
      ∙ ap (λ (es : Edges). record { nodes = record { kind = Directory; bytes = [] } ∷ (map row_of_named named ++ row_of_named one ∷ []); edges = es })
      (edges ∙ ap (λ (n : ℕ). finite.insert (tree_from named).edges new_key (record { child = n; mask = one.mask })) count)

pub placed : (named : List Named) → Grows named → All (IsPlaced named) named
placed _ bare = All-nil (IsPlaced [])
placed _ (more named one grows fits) = more_placed named one fits (placed named grows)
