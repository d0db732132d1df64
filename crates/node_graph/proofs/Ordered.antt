-- How keys of edges stand to each other, and maps by them.
use Rattle.std.proofs.Common.{◌≡◌, ℕ, List, [], ◌∷◌, Option, Some, None, refl, ap, sym, ◌∙◌, subst, cond, Bool, true, false, T}
use Rattle.std.specs.Prelude.{◌&&◌, length, ◌≤◌}
use Rattle.std.specs.BTreeMap.{BTreeMap, is_at, UpdatesBy}
use Rattle.std.specs.Map.{lookup, keys_of}
use Rattle.std.specs.declared.cmp.Ordering.{Ordering}
use Rattle.std.specs.declared.cmp.Ordering.TheVariants.{Less, Equal, Greater}
use Rattle.std.specs.Ordering.{nat_cmp, is_lt, is_eq, eq_by_cmp, ordering_reverse}
use Rattle.std.specs.List.{AllByRecursion}
use Rattle.std.specs.List.Sorted.{IsStrictlySortedBy}
use Rattle.std.specs.Cmp.{eq_by_cmp_equiv}
use Rattle.std.specs.Cmp.Lexicographic.{slice_cmp}
use Rattle.std.specs.FinMap as finite
use Rattle.std.specs.FinMap.Entries as entry
use Rattle.std.proofs.lemmas.Map.Lookups.{CmpEqualImpliesEq, exact_pairs, exact_unsigned, exact_bytes}
use Rattle.fidl_names.specs.declared.limits.TheConstants as limit
use Rattle.node_graph.specs.declared.nodes.Entry.{Entry}
use Rattle.node_graph.specs.Tree.{EdgeKey, edge_cmp}
use Rattle.node_graph.specs.Ends.{Ends, IsNamed}
use Rattle.node_graph.proofs.RowLists.{same_some}
pub use Rattle.node_graph.specs.Keys.{edges_total}

-- keys that compare alike are one
pub exact_edges : CmpEqualImpliesEq edge_cmp
exact_edges a b h = ap (λ (p : ℕ × List ℕ). record { directory = p.0; name = p.1 }) (exact_pairs nat_cmp (slice_cmp nat_cmp) exact_unsigned exact_bytes (a.directory, a.name) (b.directory, b.name) h)

pub both_true : (a b : Bool) → a && b ≡ true → (a ≡ true) × (b ≡ true)
both_true true b h = (refl, h)
both_true false b h = absurd (cc)

pub less : (o : Ordering) → is_lt o ≡ true → o ≡ Less
less Less h = refl
less Equal h = absurd (cc)
less Greater h = absurd (cc)

-- two keys stand in one of three ways
pub data Standing (a b : EdgeKey) : Type 0 where
  earlier : edge_cmp a b ≡ Less → edge_cmp b a ≡ Greater → Standing a b
  alike : edge_cmp a b ≡ Equal → edge_cmp b a ≡ Equal → Standing a b
  later : edge_cmp a b ≡ Greater → edge_cmp b a ≡ Less → Standing a b

pub standing : (a b : EdgeKey) → Standing a b
standing a b =
    elim (edge_cmp a b) as (λ o. edge_cmp a b ≡ o → Standing a b) [
      | Less ↦ λ e. earlier e (edges_total.antisymm b a ∙ ap ordering_reverse e)
      | Equal ↦ λ e. alike e (edges_total.antisymm b a ∙ ap ordering_reverse e)
      | Greater ↦ λ e. later e (edges_total.antisymm b a ∙ ap ordering_reverse e)
    ] refl

-- one key is another, or its entry is not concerned
pub data Same (q k : EdgeKey) : Type 0 where
  same : q ≡ k → eq_by_cmp edge_cmp q k ≡ true → Same q k
  other : ¬ (q ≡ k) → eq_by_cmp edge_cmp q k ≡ false → Same q k

pub same_or_other : (q k : EdgeKey) → Same q k
same_or_other q k =
    elim (standing q k) [
      | earlier a b ↦ other (λ e. absurd (let tied : edge_cmp q k ≡ Equal = ap (λ (x : EdgeKey). edge_cmp q x) (sym e) ∙ self q in let wrong : Less ≡ Equal = sym a ∙ tied in cc)) (ap is_eq a)
      | alike a b ↦ same (exact_edges q k a) (ap is_eq a)
      | later a b ↦ other (λ e. absurd (let tied : edge_cmp q k ≡ Equal = ap (λ (x : EdgeKey). edge_cmp q x) (sym e) ∙ self q in let wrong : Greater ≡ Equal = sym a ∙ tied in cc)) (ap is_eq a)
    ]
  where
    self : (q : EdgeKey) → edge_cmp q q ≡ Equal
    self q = elim (standing q q) [
      | earlier a b ↦ absurd (let wrong : Less ≡ Greater = sym a ∙ b in cc)
      | alike a b ↦ a
      | later a b ↦ absurd (let wrong : Greater ≡ Less = sym a ∙ b in cc)
    ]

module _ {X : Type 0} where
  find-lookup : (es : List (EdgeKey × X)) (q : EdgeKey) → entry.find edge_cmp q es ≡ lookup (is_at (edge_cmp q)) es
  find-lookup [] q = refl
  find-lookup (e ∷ es) q = ap (cond (is_eq (edge_cmp q e.0)) (Some e.1)) (find-lookup es q)

  abbrev pub map_of : List (EdgeKey × X) → finite.FinMap edge_cmp X
  map_of es = finite.from_entries es

  pub get-map_of : (es : List (EdgeKey × X)) (q : EdgeKey) → finite.get (map_of es) q ≡ lookup (is_at (edge_cmp q)) es
  get-map_of es q = finite.get-from_entries edges_total es q ∙ find-lookup es q

  pub same_edges : (m n : finite.FinMap edge_cmp X) → ((q : EdgeKey) → finite.get m q ≡ finite.get n q) → m ≡ n
  same_edges m n is = finite.same_map edges_total exact_edges m n is

  -- what is found under each key after one of them changed
  pub get-changed : (old new : BTreeMap EdgeKey X) (key : EdgeKey) (found : Option X) → UpdatesBy edge_cmp (edge_cmp key) old new found
      → (q : EdgeKey) → finite.get (map_of new.entries) q ≡ cond (eq_by_cmp edge_cmp q key) found (finite.get (map_of old.entries) q)
  get-changed old new key found u q =
      get-map_of new.entries q
      ∙ u.0 q
      ∙ ap (λ b. cond b found (lookup (is_at (edge_cmp q)) old.entries)) ((eq_by_cmp_equiv edges_total).symm key q)
      ∙ ap (cond (eq_by_cmp edge_cmp q key) found) (sym (get-map_of old.entries q))

  pub map_put : (old new : BTreeMap EdgeKey X) (key : EdgeKey) (x : X) → UpdatesBy edge_cmp (edge_cmp key) old new (Some x) → map_of new.entries ≡ finite.insert (map_of old.entries) key x
  map_put old new key x u = same_edges _ _ (λ q. get-changed old new key (Some x) u q ∙ sym (finite.get-insert edges_total (map_of old.entries) key x q))

  pub map_cut : (old new : BTreeMap EdgeKey X) (key : EdgeKey) → UpdatesBy edge_cmp (edge_cmp key) old new None → map_of new.entries ≡ finite.remove (map_of old.entries) key
  map_cut old new key u = same_edges _ _ (λ q. get-changed old new key None u q ∙ sym (finite.get-remove edges_total (map_of old.entries) key q))

  below : (e : EdgeKey) (es : List (EdgeKey × X)) → AllByRecursion (λ y. edge_cmp e y ≡ Less) (keys_of es) → entry.below_all edge_cmp e es ≡ true
  below e [] all = refl
  below e (x ∷ es) all = rw (all.0, below e es all.1) refl

  pub in_order : (es : List (EdgeKey × X)) → IsStrictlySortedBy edge_cmp (keys_of es) → finite.is_sorted edge_cmp es ≡ true
  unfolding IsStrictlySortedBy
  in_order [] sorted = refl
  in_order (e ∷ es) sorted = rw (below e.0 es sorted.0, in_order es sorted.1) refl

  pub entries-map_of : (es : List (EdgeKey × X)) → finite.is_sorted edge_cmp es ≡ true → finite.entries (map_of es) ≡ es
  entries-map_of es sorted =
      let t : T (finite.is_sorted edge_cmp es) = subst T (sym sorted) tt in
      ap finite.entries (same_edges (map_of es) (finite.from_sorted es) (λ q. finite.get-from_entries edges_total es q ∙ sym (finite.get-from_sorted edge_cmp es q t)))
      ∙ finite.entries-from_sorted edge_cmp es t

  pub len-map_of : (es : List (EdgeKey × X)) → finite.is_sorted edge_cmp es ≡ true → finite.len (map_of es) ≡ length es
  len-map_of es sorted = finite.len-entries (map_of es) ∙ ap length (entries-map_of es sorted)

-- what is found after an entry was put in is that one or an old one
pub data Comes {X : Type 0} (m : finite.FinMap edge_cmp X) (key : EdgeKey) (to : X) (from : EdgeKey) (x : X) : Type 0 where
  fresh : from ≡ key → to ≡ x → Comes m key to from x
  known : ¬ (from ≡ key) → finite.get m from ≡ Some x → Comes m key to from x

pub comes : {X : Type 0} (m : finite.FinMap edge_cmp X) (key : EdgeKey) (to : X) (from : EdgeKey) (x : X) → finite.get (finite.insert m key to) from ≡ Some x → Comes m key to from x
comes m key to from x there =
    let is = sym (finite.get-insert edges_total m key to from) ∙ there in
    elim (same_or_other from key) [
      | same e b ↦ fresh e (same_some _ _ (sym (ap (λ c. cond c (Some to) (finite.get m from)) b) ∙ is))
      | other e b ↦ known e (sym (ap (λ c. cond c (Some to) (finite.get m from)) b) ∙ is)
    ]

-- what is found after a key was taken out was there under another key
pub stays : {X : Type 0} (m : finite.FinMap edge_cmp X) (key from : EdgeKey) (x : X) → finite.get (finite.remove m key) from ≡ Some x → (¬ (from ≡ key)) × (finite.get m from ≡ Some x)
stays m key from x there =
    let is = sym (finite.get-remove edges_total m key from) ∙ there in
    elim (same_or_other from key) [
      | same e b ↦ absurd (let wrong : None ≡ Some x = sym (ap (λ c. cond c None (finite.get m from)) b) ∙ is in cc)
      | other e b ↦ (e, sym (ap (λ c. cond c None (finite.get m from)) b) ∙ is)
    ]

pub get-put_here : {X : Type 0} (m : finite.FinMap edge_cmp X) (key : EdgeKey) (to : X) → finite.get (finite.insert m key to) key ≡ Some to
get-put_here m key to = elim (same_or_other key key) [
  | same e b ↦ finite.get-insert edges_total m key to key ∙ ap (λ c. cond c (Some to) (finite.get m key)) b
  | other e b ↦ absurd (e refl)
]

pub get-put_other : {X : Type 0} (m : finite.FinMap edge_cmp X) (key from : EdgeKey) (to : X) → ¬ (from ≡ key) → finite.get (finite.insert m key to) from ≡ finite.get m from
get-put_other m key from to apart = elim (same_or_other from key) [
  | same e b ↦ absurd (apart e)
  | other e b ↦ finite.get-insert edges_total m key to from ∙ ap (λ c. cond c (Some to) (finite.get m from)) b
]

pub get-cut_here : {X : Type 0} (m : finite.FinMap edge_cmp X) (key : EdgeKey) → finite.get (finite.remove m key) key ≡ None
get-cut_here m key = elim (same_or_other key key) [
  | same e b ↦ finite.get-remove edges_total m key key ∙ ap (λ c. cond c None (finite.get m key)) b
  | other e b ↦ absurd (e refl)
]

pub get-cut_other : {X : Type 0} (m : finite.FinMap edge_cmp X) (key from : EdgeKey) → ¬ (from ≡ key) → finite.get (finite.remove m key) from ≡ finite.get m from
get-cut_other m key from apart = elim (same_or_other from key) [
  | same e b ↦ absurd (apart e)
  | other e b ↦ finite.get-remove edges_total m key from ∙ ap (λ c. cond c None (finite.get m from)) b
]

pub named_none : IsNamed []
named_none = record { in_order = refl; named = λ key to there. absurd (let wrong : None ≡ Some to = sym (get-map_of [] key) ∙ there in cc) }

pub named_put : (old new : BTreeMap EdgeKey Entry) (key : EdgeKey) (to : Entry) → IsNamed old.entries → 1 ≤ length key.name → length key.name ≤ limit.MAX_NAME
    → UpdatesBy edge_cmp (edge_cmp key) old new (Some to) → IsStrictlySortedBy edge_cmp (keys_of new.entries) → IsNamed new.entries
named_put old new key to named some few u sorted = record {
  in_order = in_order new.entries sorted;
  named = λ from x there.
      elim (comes (map_of old.entries) key to from x (ap (λ (m : Ends). finite.get m from) (sym (map_put old new key to u)) ∙ there)) [
        | fresh e is ↦ let P : EdgeKey → Type 0 = λ k. (1 ≤ length k.name) × (length k.name ≤ limit.MAX_NAME) in subst P (sym e) (some, few)
        | known apart was ↦ named.named from x was
      ];
}

pub named_cut : (old new : BTreeMap EdgeKey Entry) (key : EdgeKey) → IsNamed old.entries → UpdatesBy edge_cmp (edge_cmp key) old new None → IsStrictlySortedBy edge_cmp (keys_of new.entries) → IsNamed new.entries
named_cut old new key named u sorted = record {
  in_order = in_order new.entries sorted;
  named = λ from x there. named.named from x (stays (map_of old.entries) key from x (ap (λ (m : Ends). finite.get m from) (sym (map_cut old new key u)) ∙ there)).1;
}
