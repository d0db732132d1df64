-- A tree that grows by a node, and one in which an entry ends at a node.
use Rattle.std.proofs.Common.{◌≡◌, ℕ, zero, suc, ◌+◌, ◌<◌, ◌≤◌, ◌==◌, Bool, true, false, cond, List, [], ◌∷◌, ◌++◌, length, Option, Some, None, refl, sym, ap, ◌∙◌, subst, arith, append_assoc, append-nil, length-append}
use Rattle.std.specs.Prelude.{slice_set}
use Rattle.std.specs.Cmp.{tied_itself}
use Rattle.std.specs.FinMap as finite
use Rattle.std.specs.Ordering.{eq_by_cmp, is_eq}
use Rattle.std.specs.declared.cmp.Ordering.{Ordering}
use Rattle.std.specs.declared.cmp.Ordering.TheVariants.{Less, Equal, Greater}
use Rattle.std.proofs.lemmas.Bool.{ne_eqb, eq-eqb}
use Rattle.io_namespace.specs.Entries.{IsWith, Same}
use Rattle.io_namespace.specs.Kept.{EdgeKey, EdgeMap, Kept, edge_cmp, and_then, node_behind, end_of, table_of, IsTree}
use Rattle.io_namespace.specs.Steps.{Grows}
use Rattle.io_namespace.proofs.Keyed.{edges_total, edges_apart}

abbrev pub Path : Type 0
Path = List (List ℕ)

some_is : {A : Type 0} (a b : A) → Some a ≡ Some b → a ≡ b
some_is a b e = cc

-- ---- one path leads to each node

pub home_behind : (edges : EdgeMap) (ends : List (Option ℕ)) (tree : IsTree edges ends) (node last : ℕ) (path : Path) →
    node_behind edges node path ≡ Some last → tree.home last ≡ tree.home node ++ path
home_behind edges ends tree node last [] e = ap tree.home (sym (some_is node last e)) ∙ sym (append-nil (tree.home node))
home_behind edges ends tree node last (step ∷ path) e = by_get (λ next. home_behind edges ends tree next last path) (finite.get edges (node, step)) refl where
  by_get : ((next : ℕ) → node_behind edges next path ≡ Some last → tree.home last ≡ tree.home next ++ path) → (o : Option ℕ) → finite.get edges (node, step) ≡ o →
      tree.home last ≡ tree.home node ++ step ∷ path
  by_get behind None there = absurd (let none : None ≡ Some last = sym (ap (λ o. and_then o (λ next. node_behind edges next path)) there) ∙ e in cc)
  by_get behind (Some next) there =
      behind next (sym (ap (λ o. and_then o (λ n. node_behind edges n path)) there) ∙ e)
      ∙ ap (λ h. h ++ path) (tree.on node next step there)
      ∙ append_assoc (tree.home node) (step ∷ []) path

pub one_path : (edges : EdgeMap) (ends : List (Option ℕ)) (tree : IsTree edges ends) (last : ℕ) (path other : Path) →
    node_behind edges 0 path ≡ Some last → node_behind edges 0 other ≡ Some last → other ≡ path
one_path edges ends tree last path other e f =
    ap (λ h. h ++ other) (sym tree.root) ∙ sym (home_behind edges ends tree 0 last other f)
    ∙ home_behind edges ends tree 0 last path e ∙ ap (λ h. h ++ path) tree.root

-- ---- ends

pub end_pushed : (ends : List (Option ℕ)) (node : ℕ) → end_of (ends ++ None ∷ []) node ≡ end_of ends node
end_pushed [] zero = refl
end_pushed [] (suc node) = refl
end_pushed (end ∷ ends) zero = refl
end_pushed (end ∷ ends) (suc node) = end_pushed ends node

pub end_past : (ends : List (Option ℕ)) (node : ℕ) → length ends ≤ node → end_of ends node ≡ None
end_past [] node past = refl
end_past (end ∷ ends) zero past = absurd (omega arith)
end_past (end ∷ ends) (suc node) past = end_past ends node (omega arith)

then_same : {A B : Type 0} (o : Option A) (f g : A → Option B) → ((a : A) → f a ≡ g a) → and_then o f ≡ and_then o g
then_same None f g same = refl
then_same (Some a) f g same = same a

pub pushed_same : (edges : EdgeMap) (ends : List (Option ℕ)) → Same (table_of (record { edges = edges; ends = ends })) (table_of (record { edges = edges; ends = ends ++ None ∷ [] }))
pushed_same edges ends prefix = then_same (node_behind edges 0 prefix) (end_of (ends ++ None ∷ [])) (end_of ends) (end_pushed ends)

pub tree_pushed : (edges : EdgeMap) (ends : List (Option ℕ)) → IsTree edges ends → IsTree edges (ends ++ None ∷ [])
tree_pushed edges ends tree = record {
  home = tree.home;
  root = tree.root;
  from = λ node next step there. let l = length-append ends (None ∷ []) in let h = tree.from node next step there in omega (arith, l, h);
  to = λ node next step there. let l = length-append ends (None ∷ []) in let h = tree.to node next step there in omega (arith, l, h);
  on = tree.on;
}

-- ---- a node more

ties : (r : Ordering) → is_eq r ≡ true → r ≡ Equal
ties Less h = absurd (cc)
ties Equal h = refl
ties Greater h = absurd (cc)

same_key : (a b : EdgeKey) → eq_by_cmp edge_cmp a b ≡ true → a ≡ b
same_key a b e = edges_apart a b (ties (edge_cmp a b) e)

-- an edge of the tree with one more is that, or was there
data Edge (edges : EdgeMap) (node fresh : ℕ) (step : List ℕ) (from : ℕ) (on : List ℕ) : Type 0 where
  new : from ≡ node → on ≡ step → finite.get (finite.insert edges (node, step) fresh) (from, on) ≡ Some fresh → Edge edges node fresh step from on
  old : finite.get (finite.insert edges (node, step) fresh) (from, on) ≡ finite.get edges (from, on) → Edge edges node fresh step from on

edge_at : (edges : EdgeMap) (node fresh : ℕ) (step : List ℕ) (from : ℕ) (on : List ℕ) → Edge edges node fresh step from on
edge_at edges node fresh step from on = by_test (eq_by_cmp edge_cmp (from, on) (node, step)) refl where
  got : finite.get (finite.insert edges (node, step) fresh) (from, on) ≡ cond (eq_by_cmp edge_cmp (from, on) (node, step)) (Some fresh) (finite.get edges (from, on))
  got = finite.get-insert edges_total edges (node, step) fresh (from, on)

  by_test : (b : Bool) → eq_by_cmp edge_cmp (from, on) (node, step) ≡ b → Edge edges node fresh step from on
  by_test true is =
      let key : ◌≡◌ {A = EdgeKey} (from, on) (node, step) = same_key (from, on) (node, step) is in
      new (ap (λ (k : EdgeKey). k.0) key) (ap (λ (k : EdgeKey). k.1) key) (got ∙ ap (λ b. cond b (Some fresh) (finite.get edges (from, on))) is)
  by_test false is = old (got ∙ ap (λ b. cond b (Some fresh) (finite.get edges (from, on))) is)

pub got_new : (edges : EdgeMap) (node fresh : ℕ) (step : List ℕ) → finite.get (finite.insert edges (node, step) fresh) (node, step) ≡ Some fresh
got_new edges node fresh step =
    finite.get-insert edges_total edges (node, step) fresh (node, step)
    ∙ ap (λ r. cond (is_eq r) (Some fresh) (finite.get edges (node, step))) (tied_itself edges_total (node, step))

pub got_old : (edges : EdgeMap) (node fresh : ℕ) (step : List ℕ) → finite.get edges (node, step) ≡ None → (key : EdgeKey) (next : ℕ) →
    finite.get edges key ≡ Some next → finite.get (finite.insert edges (node, step) fresh) key ≡ Some next
got_old edges node fresh step free key next there = by_edge (edge_at edges node fresh step key.0 key.1) where
  by_edge : Edge edges node fresh step key.0 key.1 → finite.get (finite.insert edges (node, step) fresh) key ≡ Some next
  by_edge (old same) = same ∙ there
  by_edge (new from on got) =
      let none : finite.get edges key ≡ None = subst (λ (k : EdgeKey). finite.get edges k ≡ None) (λ i. (sym from i, sym on i)) free in
      absurd (let both : None ≡ Some next = sym none ∙ there in cc)

-- the tree with a fresh node
module _ (edges : EdgeMap) (ends : List (Option ℕ)) (tree : IsTree edges ends) (node : ℕ) (step : List ℕ) (within : node < length ends)
    (free : finite.get edges (node, step) ≡ None) where
  abbrev pub grown : EdgeMap
  grown = finite.insert edges (node, step) (length ends)

  -- nothing is behind the fresh node
  nothing_behind : (path : Path) → and_then (node_behind grown (length ends) path) (end_of (ends ++ None ∷ [])) ≡ None
  nothing_behind [] = end_pushed ends (length ends) ∙ end_past ends (length ends) (omega arith)
  nothing_behind (on ∷ path) = by_edge (edge_at edges node (length ends) step (length ends) on) where
    by_get : (o : Option ℕ) → finite.get edges (length ends, on) ≡ o → finite.get grown (length ends, on) ≡ finite.get edges (length ends, on) →
        and_then (node_behind grown (length ends) (on ∷ path)) (end_of (ends ++ None ∷ [])) ≡ None
    by_get None there same = ap (λ o. and_then (and_then o (λ next. node_behind grown next path)) (end_of (ends ++ None ∷ []))) (same ∙ there)
    by_get (Some next) there same = absurd (let h = tree.from (length ends) next on there in omega (arith, h))

    by_edge : Edge edges node (length ends) step (length ends) on → and_then (node_behind grown (length ends) (on ∷ path)) (end_of (ends ++ None ∷ [])) ≡ None
    by_edge (new from is got) = absurd (omega (arith, from, within))
    by_edge (old same) = by_get (finite.get edges (length ends, on)) refl same

  grown_below : (from : ℕ) (path : Path) → from < length ends → and_then (node_behind grown from path) (end_of (ends ++ None ∷ [])) ≡ and_then (node_behind edges from path) (end_of ends)
  grown_below from [] low = end_pushed ends from
  grown_below from (on ∷ path) low = by_edge (λ next. grown_below next path) (edge_at edges node (length ends) step from on) where
    by_get : ((next : ℕ) → next < length ends → and_then (node_behind grown next path) (end_of (ends ++ None ∷ [])) ≡ and_then (node_behind edges next path) (end_of ends)) → (o : Option ℕ) → finite.get edges (from, on) ≡ o → finite.get grown (from, on) ≡ finite.get edges (from, on) →
        and_then (node_behind grown from (on ∷ path)) (end_of (ends ++ None ∷ [])) ≡ and_then (node_behind edges from (on ∷ path)) (end_of ends)
    by_get behind None there same =
        ap (λ o. and_then (and_then o (λ next. node_behind grown next path)) (end_of (ends ++ None ∷ []))) (same ∙ there)
        ∙ sym (ap (λ o. and_then (and_then o (λ next. node_behind edges next path)) (end_of ends)) there)
    by_get behind (Some next) there same =
        ap (λ o. and_then (and_then o (λ n. node_behind grown n path)) (end_of (ends ++ None ∷ []))) (same ∙ there)
        ∙ behind next (tree.to from next on there)
        ∙ sym (ap (λ o. and_then (and_then o (λ n. node_behind edges n path)) (end_of ends)) there)

    by_edge : ((next : ℕ) → next < length ends → and_then (node_behind grown next path) (end_of (ends ++ None ∷ [])) ≡ and_then (node_behind edges next path) (end_of ends)) →
        Edge edges node (length ends) step from on → and_then (node_behind grown from (on ∷ path)) (end_of (ends ++ None ∷ [])) ≡ and_then (node_behind edges from (on ∷ path)) (end_of ends)
    by_edge behind (old same) = by_get behind (finite.get edges (from, on)) refl same
    by_edge behind (new is it got) =
        let none : finite.get edges (from, on) ≡ None = subst (λ (k : EdgeKey). finite.get edges k ≡ None) (λ i. (sym is i, sym it i)) free in
        ap (λ o. and_then (and_then o (λ next. node_behind grown next path)) (end_of (ends ++ None ∷ []))) got
        ∙ nothing_behind path
        ∙ sym (ap (λ o. and_then (and_then o (λ next. node_behind edges next path)) (end_of ends)) none)

  pub grown_same : Same (table_of (record { edges = edges; ends = ends })) (table_of (record { edges = grown; ends = ends ++ None ∷ [] }))
  grown_same prefix = grown_below 0 prefix (omega (arith, within))

  home_on : Bool → ℕ → Path
  home_on true x = tree.home node ++ step ∷ []
  home_on false x = tree.home x

  home_of : ℕ → Path
  home_of x = home_on (x == length ends) x

  home_old : (x : ℕ) → x < length ends → home_of x ≡ tree.home x
  unfolding home_of home_on
  home_old x low = ap (λ b. home_on b x) (ne_eqb x (length ends) (λ e. omega (arith, e, low)))

  home_new : home_of (length ends) ≡ tree.home node ++ step ∷ []
  unfolding home_of home_on
  home_new = ap (λ b. home_on b (length ends)) (eq-eqb (length ends) (length ends) refl)

  size : length (ends ++ None ∷ []) ≡ length ends + 1
  size = length-append ends (None ∷ [])

  grown_from : (from next : ℕ) (on : List ℕ) → finite.get grown (from, on) ≡ Some next → from < length (ends ++ None ∷ [])
  grown_from from next on there = by_edge (edge_at edges node (length ends) step from on) where
    by_edge : Edge edges node (length ends) step from on → from < length (ends ++ None ∷ [])
    by_edge (new is it got) = let l = size in omega (arith, l, is, within)
    by_edge (old same) = let l = size in let h = tree.from from next on (sym same ∙ there) in omega (arith, l, h)

  grown_to : (from next : ℕ) (on : List ℕ) → finite.get grown (from, on) ≡ Some next → next < length (ends ++ None ∷ [])
  grown_to from next on there = by_edge (edge_at edges node (length ends) step from on) where
    by_edge : Edge edges node (length ends) step from on → next < length (ends ++ None ∷ [])
    by_edge (new is it got) = let l = size in let h = some_is next (length ends) (sym there ∙ got) in omega (arith, l, h)
    by_edge (old same) = let l = size in let h = tree.to from next on (sym same ∙ there) in omega (arith, l, h)

  grown_on : (from next : ℕ) (on : List ℕ) → finite.get grown (from, on) ≡ Some next → home_of next ≡ home_of from ++ on ∷ []
  grown_on from next on there = by_edge (edge_at edges node (length ends) step from on) where
    by_edge : Edge edges node (length ends) step from on → home_of next ≡ home_of from ++ on ∷ []
    by_edge (new is it got) =
        ap home_of (some_is next (length ends) (sym there ∙ got)) ∙ home_new
        ∙ ap (λ h. h ++ step ∷ []) (sym (home_old node within))
        ∙ ap (λ f. home_of f ++ step ∷ []) (sym is) ∙ ap (λ s. home_of from ++ s ∷ []) (sym it)
    by_edge (old same) =
        let was : finite.get edges (from, on) ≡ Some next = sym same ∙ there in
        home_old next (tree.to from next on was) ∙ tree.on from next on was
        ∙ ap (λ h. h ++ on ∷ []) (sym (home_old from (tree.from from next on was)))

  pub tree_grown : IsTree grown (ends ++ None ∷ [])
  tree_grown = record {
    home = home_of;
    root = home_old 0 (omega (arith, within)) ∙ tree.root;
    from = grown_from;
    to = grown_to;
    on = grown_on;
  }

-- a step of growing
pub record Grown (edges edges' : EdgeMap) (ends ends' : List (Option ℕ)) (node next : ℕ) (step : List ℕ) : Type 0 where
  pub put : edges' ≡ finite.insert edges (node, step) next
  pub is : next ≡ length ends
  pub pushed : ends' ≡ ends ++ None ∷ []
  pub within : node < length ends
  pub free : finite.get edges (node, step) ≡ None

pub tree_by : (edges edges' : EdgeMap) (ends ends' : List (Option ℕ)) (node next : ℕ) (step : List ℕ) → Grown edges edges' ends ends' node next step → IsTree edges ends → IsTree edges' ends'
tree_by edges edges' ends ends' node next step g tree =
    subst (λ (e : EdgeMap). IsTree e ends') (sym (g.put ∙ ap (finite.insert edges (node, step)) g.is))
    (subst (IsTree (grown edges ends tree node step g.within g.free)) (sym g.pushed) (tree_grown edges ends tree node step g.within g.free))

pub same_by : (edges edges' : EdgeMap) (ends ends' : List (Option ℕ)) (node next : ℕ) (step : List ℕ) → Grown edges edges' ends ends' node next step → IsTree edges ends →
    Same (table_of (record { edges = edges; ends = ends })) (table_of (record { edges = edges'; ends = ends' }))
same_by edges edges' ends ends' node next step g tree =
    subst (λ (e : EdgeMap). Same (table_of (record { edges = edges; ends = ends })) (table_of (record { edges = e; ends = ends' }))) (sym (g.put ∙ ap (finite.insert edges (node, step)) g.is))
    (subst (λ (l : List (Option ℕ)). Same (table_of (record { edges = edges; ends = ends })) (table_of (record { edges = grown edges ends tree node step g.within g.free; ends = l }))) (sym g.pushed)
    (grown_same edges ends tree node step g.within g.free))

pub got_by : (edges edges' : EdgeMap) (ends ends' : List (Option ℕ)) (node next : ℕ) (step : List ℕ) → Grown edges edges' ends ends' node next step → finite.get edges' (node, step) ≡ Some next
got_by edges edges' ends ends' node next step g = ap (λ (e : EdgeMap). finite.get e (node, step)) g.put ∙ got_new edges node next step

pub grows_by : (edges edges' : EdgeMap) (ends ends' : List (Option ℕ)) (node next : ℕ) (step : List ℕ) → Grown edges edges' ends ends' node next step →
    Grows (record { edges = edges; ends = ends }) (record { edges = edges'; ends = ends' })
grows_by edges edges' ends ends' node next step g = record {
  edges = λ key behind there. ap (λ (e : EdgeMap). finite.get e key) g.put ∙ got_old edges node next step g.free key behind there;
  ends = let l = length-append ends (None ∷ []) in let e = ap length g.pushed in omega (arith, l, e);
}

-- ---- an entry more

pub ended_with : (edges : EdgeMap) (ends after : List (Option ℕ)) (tree : IsTree edges ends) (node endpoint : ℕ) (path : Path) → node_behind edges 0 path ≡ Some node →
    end_of after node ≡ Some endpoint → ((other : ℕ) → (other ≡ node → ⊥) → end_of after other ≡ end_of ends other) →
    IsWith (table_of (record { edges = edges; ends = ends })) path endpoint (table_of (record { edges = edges; ends = after }))
ended_with edges ends after tree node endpoint path leads has others = record {
  has = ap (λ o. and_then o (end_of after)) leads ∙ has;
  others = other_path;
} where
  other_path : (other : Path) → (other ≡ path → ⊥) → and_then (node_behind edges 0 other) (end_of after) ≡ and_then (node_behind edges 0 other) (end_of ends)
  other_path other apart = by_node (node_behind edges 0 other) refl where
    by_node : (o : Option ℕ) → node_behind edges 0 other ≡ o → and_then (node_behind edges 0 other) (end_of after) ≡ and_then (node_behind edges 0 other) (end_of ends)
    by_node None e = ap (λ o. and_then o (end_of after)) e ∙ sym (ap (λ o. and_then o (end_of ends)) e)
    by_node (Some last) e =
        ap (λ o. and_then o (end_of after)) e
        ∙ others last (λ same. apart (one_path edges ends tree node path other leads (e ∙ ap Some same)))
        ∙ sym (ap (λ o. and_then o (end_of ends)) e)

pub end_set : (ends : List (Option ℕ)) (node endpoint : ℕ) → node < length ends → end_of (slice_set ends node (Some endpoint)) node ≡ Some endpoint
end_set [] node endpoint low = absurd (omega arith)
end_set (end ∷ ends) zero endpoint low = refl
end_set (end ∷ ends) (suc node) endpoint low = end_set ends node endpoint (omega arith)

pub end_kept : (ends : List (Option ℕ)) (node endpoint other : ℕ) → (other ≡ node → ⊥) → end_of (slice_set ends node (Some endpoint)) other ≡ end_of ends other
end_kept [] node endpoint other apart = refl
end_kept (end ∷ ends) zero endpoint zero apart = absurd (apart refl)
end_kept (end ∷ ends) zero endpoint (suc other) apart = refl
end_kept (end ∷ ends) (suc node) endpoint zero apart = refl
end_kept (end ∷ ends) (suc node) endpoint (suc other) apart = end_kept ends node endpoint other (λ same. apart (ap suc same))

pub tree_ended : (edges : EdgeMap) (ends after : List (Option ℕ)) → length after ≡ length ends → IsTree edges ends → IsTree edges after
tree_ended edges ends after size tree = record {
  home = tree.home;
  root = tree.root;
  from = λ node next step there. let h = tree.from node next step there in omega (arith, size, h);
  to = λ node next step there. let h = tree.to node next step there in omega (arith, size, h);
  on = tree.on;
}

-- two tables with the same entries are changed alike
pub with_same : (before between after : List (List ℕ) → Option ℕ) (prefix : Path) (endpoint : ℕ) → Same before between → IsWith between prefix endpoint after → IsWith before prefix endpoint after
with_same before between after prefix endpoint same change = record {
  has = change.has;
  others = λ other apart. change.others other apart ∙ same other;
}

-- ---- the path of a longer walk

pub node_behind-append : (edges : EdgeMap) (node : ℕ) (path : Path) (step : List ℕ) (last next : ℕ) → node_behind edges node path ≡ Some last → finite.get edges (last, step) ≡ Some next →
    node_behind edges node (path ++ step ∷ []) ≡ Some next
node_behind-append edges node [] step last next e there =
    ap (λ n. and_then (finite.get edges (n, step)) (λ m. Some m)) (some_is node last e) ∙ ap (λ o. and_then o (λ m. Some m)) there
node_behind-append edges node (first ∷ path) step last next e there = by_get (λ behind to. node_behind-append edges behind path step last next to there) (finite.get edges (node, first)) refl where
  by_get : ((behind : ℕ) → node_behind edges behind path ≡ Some last → node_behind edges behind (path ++ step ∷ []) ≡ Some next) → (o : Option ℕ) → finite.get edges (node, first) ≡ o → node_behind edges node ((first ∷ path) ++ step ∷ []) ≡ Some next
  by_get on None at = absurd (let none : None ≡ Some last = sym (ap (λ o. and_then o (λ n. node_behind edges n path)) at) ∙ e in cc)
  by_get on (Some behind) at =
      ap (λ o. and_then o (λ n. node_behind edges n (path ++ step ∷ []))) at
      ∙ on behind (sym (ap (λ o. and_then o (λ n. node_behind edges n path)) at) ∙ e)

pub node_behind-grows : (before after : Kept) → Grows before after → (node : ℕ) (path : Path) (last : ℕ) → node_behind before.edges node path ≡ Some last → node_behind after.edges node path ≡ Some last
node_behind-grows before after grows node [] last e = e
node_behind-grows before after grows node (step ∷ path) last e = by_get (λ behind. node_behind-grows before after grows behind path last) (finite.get before.edges (node, step)) refl where
  by_get : ((behind : ℕ) → node_behind before.edges behind path ≡ Some last → node_behind after.edges behind path ≡ Some last) → (o : Option ℕ) → finite.get before.edges (node, step) ≡ o → node_behind after.edges node (step ∷ path) ≡ Some last
  by_get on None at = absurd (let none : None ≡ Some last = sym (ap (λ o. and_then o (λ n. node_behind before.edges n path)) at) ∙ e in cc)
  by_get on (Some behind) at =
      ap (λ o. and_then o (λ n. node_behind after.edges n path)) (grows.edges (node, step) behind at)
      ∙ on behind (sym (ap (λ o. and_then o (λ n. node_behind before.edges n path)) at) ∙ e)

-- ---- the tree without an edge

pub empty_tree : (edges : EdgeMap) (ends : List (Option ℕ)) → edges ≡ finite.empty → IsTree edges ends
empty_tree edges ends is = record {
  home = λ node. [];
  root = refl;
  from = λ node next step there. absurd (nowhere node next step there);
  to = λ node next step there. absurd (nowhere node next step there);
  on = λ node next step there. absurd (nowhere node next step there);
} where
  nowhere : (node next : ℕ) (step : List ℕ) → finite.get edges (node, step) ≡ Some next → ⊥
  nowhere node next step there =
      let none : None ≡ Some next = sym (ap (λ (e : EdgeMap). finite.get e (node, step)) is ∙ finite.get-empty edge_cmp (node, step)) ∙ there in cc
