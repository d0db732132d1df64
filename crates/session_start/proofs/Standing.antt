-- What stands in a list that grows: kinds, names that lead to nodes, and that no creation is refused.
use Rattle.std.proofs.Common.{◌≡◌, ◌≢◌, ℕ, suc, ◌+◌, ◌<◌, ◌≤◌, ◌==◌, ◌||◌, ◌&&◌, Bool, true, false, not, cond, nat_le, List, [], ◌∷◌, ◌++◌, length, map, take, get_or, Option, Some, None, All, AllPairs, refl, sym, ap, ◌∙◌, subst, arith, inl, inr, ◌⊎◌}
use Rattle.std.specs.Prelude.{slice_get, is_some, unwrap_or}
use Rattle.std.specs.FinMap as finite
use Rattle.std.specs.FinMap.Entries as entry
use Rattle.std.specs.List.{find, list_any}
use Rattle.std.specs.Option.{option_map}
use Rattle.std.specs.Ordering.{is_eq}
use Rattle.std.specs.Str.{bytes_eq}
use Rattle.std.proofs.Math.Bool.{or-true}
use Rattle.std.proofs.lemmas.Bool.Decides.{nat_tests}
use Rattle.std.proofs.lemmas.List.{length-map, take-append-le, take_at}
use Rattle.std.proofs.lemmas.List.Elements.{All-get_or}
use Rattle.std.proofs.lemmas.List.Quantifiers.{all_pairs_push}
use Rattle.std.proofs.lemmas.Option.{slice_get-map, slice_get_within, get_or_from_slice_get}
use Rattle.std.proofs.lemmas.Slice.Eq.{bytes_eq-Decides}
use Rattle.fidl_names.specs.First.{cause_if, first_of}
use Rattle.fidl_names.specs.declared.limits.TheConstants as limit
use Rattle.node_graph.specs.declared.faults.GraphFault.TheVariants as fault
use Rattle.node_graph.specs.declared.nodes.NodeKind.{NodeKind}
use Rattle.node_graph.specs.declared.nodes.NodeKind.TheVariants.{Directory}
use Rattle.node_graph.specs.Graph.{create_refusal}
use Rattle.node_graph.specs.Tree.{NodeRow, EdgeKey, EdgeTo, edge_cmp, Edges, kind_of, is_linked, is_removed}
use Rattle.path_walk.specs.Parts.{is_dot, last_name, parent_of}
use Rattle.session_start.specs.Numbering.{Named, number_at, edge_of, row_of_named, tree_from}
use Rattle.session_start.specs.Sound.{AreInPlace}
use Rattle.session_start.proofs.Found.{found_none, found_at, none_pass, push_at}
use Rattle.session_start.proofs.Numbers.{at_path, At, root, there, absent, at}
use Rattle.session_start.proofs.Trees.{edges_total, edges_in, IsPlaced, Fits, Grows, bare, more, placed, parent_there, fresh_key}

-- ---- kinds

abbrev pub kind_found : List Named → List ℕ → Option NodeKind
kind_found named path = option_map (λ one. one.kind) (find (at_path path) named)

pub kind_below : (named : List Named) (path : List ℕ) → is_dot path ≡ false → kind_of (tree_from named) (number_at named path) ≡ kind_found named path
kind_below named path below = by_at (at named path) where
  by_at : At named path → kind_of (tree_from named) (number_at named path) ≡ kind_found named path
  by_at (root is number) = let wrong : true ≡ false = sym is ∙ below in absurd (cc)
  by_at (absent is none number) = rw number (ap (option_map (λ (one : Named). one.kind)) (sym (found_none (at_path path) named none)))
  by_at (there k one is found here same number) =
      let place : number_at named path ≡ suc (suc k) = omega (arith, number) in
      rw place (ap (option_map (λ (row : NodeRow). row.kind)) (slice_get-map row_of_named named k ∙ ap (option_map row_of_named) here)
      ∙ sym (ap (option_map (λ (one : Named). one.kind)) (found_at (at_path path) named k found ∙ here)))

pub kind_root : (named : List Named) (path : List ℕ) → is_dot path ≡ true → kind_of (tree_from named) (number_at named path) ≡ Some Directory
kind_root named path dotted = by_at (at named path) where
  by_at : At named path → kind_of (tree_from named) (number_at named path) ≡ Some Directory
  by_at (root is number) = rw number
  by_at (there k one is found here same number) = let wrong : true ≡ false = sym dotted ∙ is in absurd (cc)
  by_at (absent is none number) = let wrong : true ≡ false = sym dotted ∙ is in absurd (cc)

-- ---- names that lead to nodes

any_of : (number : ℕ) (key : EdgeKey) (to : EdgeTo) (es : List (EdgeKey × EdgeTo)) → entry.find edge_cmp key es ≡ Some to → to.child == number ≡ true → list_any (λ (t : EdgeTo). t.child == number) (map (λ (e : EdgeKey × EdgeTo). e.1) es) ≡ true
any_of number key to [] h is = absurd (cc)
any_of number key to (e ∷ es) h is = by_test (is_eq (edge_cmp key e.0)) h (λ g. any_of number key to es g is) where
  by_test : (b : Bool) → cond b (Some e.1) (entry.find edge_cmp key es) ≡ Some to → (entry.find edge_cmp key es ≡ Some to → list_any (λ (t : EdgeTo). t.child == number) (map (λ (e : EdgeKey × EdgeTo). e.1) es) ≡ true) →
      ((e.1.child == number) || list_any (λ (t : EdgeTo). t.child == number) (map (λ (e : EdgeKey × EdgeTo). e.1) es)) ≡ true
  by_test true h rest = let same : e.1 ≡ to = ap (λ o. unwrap_or o to) h in rw same (rw is)
  by_test false h rest = rw (rest h) (or-true (e.1.child == number))

-- a name leads to where an edge ends
pub linked_by : (edges : Edges) (key : EdgeKey) (to : EdgeTo) → finite.get edges key ≡ Some to → is_linked edges to.child ≡ true
linked_by edges key to h = any_of to.child key to (finite.entries edges) (sym (finite.get-entries edges key) ∙ h) (itself to.child) where
  itself : (n : ℕ) → n == n ≡ true
  itself n = grind (arith, nat_tests)

-- the node at a path is the root, or a name leads to it
pub kept_in : (named : List Named) → All (IsPlaced named) named → (path : List ℕ) → 1 ≤ number_at named path →
    ((number_at named path == 1) || is_linked (tree_from named).edges (number_at named path)) ≡ true
kept_in named all path some = by_at (at named path) where
  by_at : At named path → ((number_at named path == 1) || is_linked (tree_from named).edges (number_at named path)) ≡ true
  by_at (root is number) = rw number
  by_at (absent is none number) = absurd (omega (arith, number, some))
  by_at (there k one is found here same number) =
      let within = slice_get_within named k one here in
      let is_one = get_or_from_slice_get named k one one here in
      let placed = subst (IsPlaced named) is_one (All-get_or (IsPlaced named) named k one within all) in
      let edge = edge_of named one in
      let linked = linked_by (tree_from named).edges edge.0 edge.1 (finite.get-from_entries edges_total (edges_in named) edge.0 ∙ placed.edge) in
      let child : number_at named one.path ≡ number_at named path = ap (number_at named) same in
      ap (λ b. (number_at named path == 1) || b) (ap (is_linked (tree_from named).edges) (sym child) ∙ linked) ∙ or-true (number_at named path == 1)

few_edges : (es : List (EdgeKey × EdgeTo)) → finite.len (finite.from_entries {R = edge_cmp} es) ≤ length es
few_edges [] = rw (finite.len-empty edge_cmp EdgeTo) (omega arith)
few_edges (e ∷ es) = by_test (is_some (finite.get (finite.from_entries {R = edge_cmp} es) e.0)) (few_edges es) (finite.len-insert edges_total (finite.from_entries es) e.0 e.1) where
  by_test : (b : Bool) → finite.len (finite.from_entries {R = edge_cmp} es) ≤ length es → finite.len (finite.from_entries {R = edge_cmp} (e ∷ es)) ≡ cond b (finite.len (finite.from_entries {R = edge_cmp} es)) (finite.len (finite.from_entries {R = edge_cmp} es) + 1) →
      finite.len (finite.from_entries {R = edge_cmp} (e ∷ es)) ≤ suc (length es)
  by_test true rest is = omega (arith, rest, is)
  by_test false rest is = omega (arith, rest, is)

not_removed : (root linked : Bool) → (root || linked) ≡ true → (not root && not linked) ≡ false
not_removed true linked h = refl
not_removed false true h = refl
not_removed false false h = absurd (cc)

refusal_none : (edges : Edges) (key : EdgeKey) → is_removed edges key.directory ≡ false → finite.get edges key ≡ None → finite.len edges < limit.MAX_NAMES → create_refusal edges key ≡ None
refusal_none edges key here free few =
    ap (λ b. first_of (cause_if b fault.Removed ∷ cause_if (is_some (finite.get edges key)) fault.Exists ∷ cause_if (nat_le limit.MAX_NAMES (finite.len edges)) fault.NoSpace ∷ [])) here
    ∙ ap (λ o. first_of (cause_if (is_some o) fault.Exists ∷ cause_if (nat_le limit.MAX_NAMES (finite.len edges)) fault.NoSpace ∷ [])) free
    ∙ ap (λ b. first_of (cause_if b fault.NoSpace ∷ [])) (below (finite.len edges) few)
  where
    below : (count : ℕ) → count < limit.MAX_NAMES → nat_le limit.MAX_NAMES count ≡ false
    below count few = grind (arith, nat_tests)

-- no creation is refused
pub free_in : (named : List Named) (one : Named) → Grows named → Fits named one → length named < limit.MAX_NAMES →
    create_refusal (tree_from named).edges (record { directory = number_at named (parent_of one.path); name = last_name one.path }) ≡ None
free_in named one grows fits few =
    let all = placed named grows in
    let key : EdgeKey = record { directory = number_at named (parent_of one.path); name = last_name one.path } in
    let size = few_edges (edges_in named) in
    let count = length-map named (edge_of named) in
    refusal_none (tree_from named).edges key
    (not_removed (number_at named (parent_of one.path) == 1) (is_linked (tree_from named).edges (number_at named (parent_of one.path))) (kept_in named all (parent_of one.path) (parent_there named one fits)))
    (finite.get-from_entries edges_total (edges_in named) key ∙ fresh_key named one fits all)
    (omega (arith, size, count, few))

-- ---- all in place

-- the first of a list that grows, and one of it behind those before it
pub grows_at : (named : List Named) → Grows named → (place : ℕ) (one : Named) → slice_get named place ≡ Some one → Grows (take place named) × Fits (take place named) one
grows_at _ bare place one h = absurd (cc)
grows_at _ (more named last grows fits) place one h = by_place (push_at named last place one h) (λ e. grows_at named grows place one e) where
  by_place : (slice_get named place ≡ Some one) ⊎ ((place ≡ length named) × (last ≡ one)) → (slice_get named place ≡ Some one → Grows (take place named) × Fits (take place named) one) →
      Grows (take place (named ++ last ∷ [])) × Fits (take place (named ++ last ∷ [])) one
  by_place (inl e) rest =
      let within = slice_get_within named place one e in
      let same = take-append-le place named (last ∷ []) (omega arith) in
      subst (λ (front : List Named). Grows front × Fits front one) (sym same) (rest e)
  by_place (inr e) rest =
      let same : take place (named ++ last ∷ []) ≡ named = take_at named (last ∷ []) place (sym e.0) in
      subst (λ (front : List Named). Grows front × Fits front one) (sym same) (grows, subst (Fits named) e.1 fits)

pub in_place : (named : List Named) → Grows named → AreInPlace named
in_place named grows = record {
  parents = λ place one h. let fits = (grows_at named grows place one h).1 in fits.parent;
  apart = apart named grows;
} where
  apart : (named : List Named) → Grows named → AllPairs (λ one other. one.path ≢ other.path) named
  apart _ bare = λ i j d l m. absurd (omega arith)
  apart _ (more named one grows fits) =
      let free = none_pass (at_path one.path) named (found_none (at_path one.path) named fits.new.free) in
      all_pairs_push (λ (a b : Named). a.path ≢ b.path) named one (apart named grows)
      (λ k d within same.
      let is : bytes_eq (get_or named k d).path one.path ≡ true = (bytes_eq-Decides (get_or named k d).path one.path).1 same in
      let other = free k d within in
      let wrong : true ≡ false = sym is ∙ other in absurd (cc))
