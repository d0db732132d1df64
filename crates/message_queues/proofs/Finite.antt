-- Finite maps of the entries of trees and tables, by what is found in them.
use Rattle.std.proofs.Common.{◌≡◌, ℕ, ◌+◌, Bool, List, [], ◌∷◌, true, false, cond, eqb, length, refl, sym, ap, ◌∙◌, arith}
use Rattle.std.specs.Prelude.{Option, Some, None, sum_by}
use Rattle.std.specs.BTreeMap.{BTreeMap, is_at, UpdatesBy}
use Rattle.std.specs.Map.{lookup, keys_of, values_of}
use Rattle.std.specs.declared.cmp.Ordering.{Ordering}
use Rattle.std.specs.declared.cmp.Ordering.TheVariants.{Less, Equal, Greater}
use Rattle.std.specs.Ordering.{is_eq, eq_by_cmp, nat_cmp}
use Rattle.std.specs.List.{AllByRecursion, IsDistinct}
use Rattle.std.specs.Cmp.{IsTotalOrder, eq_by_cmp_equiv}
use Rattle.std.specs.FinMap as finite
use Rattle.std.specs.FinMap.Entries as entry
use Rattle.std.proofs.lemmas.Cmp.{nat_cmp_total, tied_itself}
use Rattle.std.proofs.lemmas.List.Sums.{sum_by-cons}
use Rattle.std.proofs.lemmas.Map.Lookups.{CmpEqualImpliesEq}
use Rattle.link_admission.proofs.Tabled.{get-table}

-- one key is another, or not
pub data Same {K : Type 0} (R : K → K → Ordering) (q k : K) : Type 0 where
  one_key : q ≡ k → eq_by_cmp R q k ≡ true → Same R q k
  two_keys : ¬ (q ≡ k) → eq_by_cmp R q k ≡ false → Same R q k

tied : (o : Ordering) → is_eq o ≡ true → o ≡ Equal
tied Less h = absurd (cc)
tied Equal h = refl
tied Greater h = absurd (cc)

module _ {K : Type 0} {R : K → K → Ordering} (o : IsTotalOrder R) (exact : CmpEqualImpliesEq R) where
  pub same_or_other : (q k : K) → Same R q k
  same_or_other q k =
      elim (eq_by_cmp R q k) as (λ b. eq_by_cmp R q k ≡ b → Same R q k) [
        | true ↦ λ e. one_key (exact q k (tied (R q k) e)) e
        | false ↦ λ e. two_keys (λ is. absurd (let itself : R q k ≡ Equal = ap (λ (x : K). R q x) (sym is) ∙ tied_itself o q in let wrong : false ≡ true = sym e ∙ ap is_eq itself in cc)) e
      ] refl

  module _ {X : Type 0} where
    find-lookup : (es : List (K × X)) (q : K) → entry.find R q es ≡ lookup (is_at (R q)) es
    find-lookup [] q = refl
    find-lookup (e ∷ es) q = ap (cond (is_eq (R q e.0)) (Some e.1)) (find-lookup es q)

    -- what is found in the map of entries
    pub get-entries : (es : List (K × X)) (q : K) → finite.get (finite.from_entries {R = R} es) q ≡ lookup (is_at (R q)) es
    get-entries es q = finite.get-from_entries o es q ∙ find-lookup es q

    pub same_maps : (m n : finite.FinMap R X) → ((q : K) → finite.get m q ≡ finite.get n q) → m ≡ n
    same_maps m n is = finite.same_map o exact m n is

    -- a tree in which one key changed
    pub get_updated : (old new : BTreeMap K X) (key : K) (w : Option X) → UpdatesBy R (R key) old new w → (q : K)
        → finite.get (finite.from_entries {R = R} new.entries) q ≡ cond (eq_by_cmp R q key) w (finite.get (finite.from_entries {R = R} old.entries) q)
    get_updated old new key w u q =
        get-entries new.entries q ∙ u.0 q
        ∙ ap (λ b. cond b w (lookup (is_at (R q)) old.entries)) ((eq_by_cmp_equiv o).symm key q)
        ∙ ap (cond (eq_by_cmp R q key) w) (sym (get-entries old.entries q))

    pub map_put : (old new : BTreeMap K X) (key : K) (x : X) → UpdatesBy R (R key) old new (Some x) → finite.from_entries {R = R} new.entries ≡ finite.insert (finite.from_entries old.entries) key x
    map_put old new key x u = same_maps _ _ (λ q. get_updated old new key (Some x) u q ∙ sym (finite.get-insert o (finite.from_entries old.entries) key x q))

    pub map_cut : (old new : BTreeMap K X) (key : K) → UpdatesBy R (R key) old new None → finite.from_entries {R = R} new.entries ≡ finite.remove (finite.from_entries old.entries) key
    map_cut old new key u = same_maps _ _ (λ q. get_updated old new key None u q ∙ sym (finite.get-remove o (finite.from_entries old.entries) key q))

    -- ---- one key put in or taken out

    pub get-put_here : (m : finite.FinMap R X) (key : K) (x : X) → finite.get (finite.insert m key x) key ≡ Some x
    get-put_here m key x = elim (same_or_other key key) [
      | one_key e b ↦ finite.get-insert o m key x key ∙ ap (λ c. cond c (Some x) (finite.get m key)) b
      | two_keys e b ↦ absurd (e refl)
    ]

    pub get-put_other : (m : finite.FinMap R X) (key from : K) (x : X) → ¬ (from ≡ key) → finite.get (finite.insert m key x) from ≡ finite.get m from
    get-put_other m key from x apart = elim (same_or_other from key) [
      | one_key e b ↦ absurd (apart e)
      | two_keys e b ↦ finite.get-insert o m key x from ∙ ap (λ c. cond c (Some x) (finite.get m from)) b
    ]

    pub get-cut_here : (m : finite.FinMap R X) (key : K) → finite.get (finite.remove m key) key ≡ None
    get-cut_here m key = elim (same_or_other key key) [
      | one_key e b ↦ finite.get-remove o m key key ∙ ap (λ c. cond c None (finite.get m key)) b
      | two_keys e b ↦ absurd (e refl)
    ]

    pub get-cut_other : (m : finite.FinMap R X) (key from : K) → ¬ (from ≡ key) → finite.get (finite.remove m key) from ≡ finite.get m from
    get-cut_other m key from apart = elim (same_or_other from key) [
      | one_key e b ↦ absurd (apart e)
      | two_keys e b ↦ finite.get-remove o m key from ∙ ap (λ c. cond c None (finite.get m from)) b
    ]

-- ---- sums over tables by number

module _ {X : Type 0} (weigh : X → ℕ) where
  sum-put_by : (key : ℕ) (x : X) (e : ℕ × X) (es : List (ℕ × X)) (o : Ordering) → cond (is_eq o) (Some e.1) (entry.find nat_cmp key es) ≡ None
      → sum_by weigh (values_of (entry.put nat_cmp key x es)) ≡ weigh x + sum_by weigh (values_of es)
      → sum_by weigh (values_of (entry.by_order o ((key, x) ∷ e ∷ es) ((e.0, x) ∷ es) (e ∷ entry.put nat_cmp key x es))) ≡ weigh x + sum_by weigh (values_of (e ∷ es))
  sum-put_by key x e es Less none later = omega (arith, sum_by-cons weigh x (values_of (e ∷ es)))
  sum-put_by key x e es Equal none later = absurd (cc)
  sum-put_by key x e es Greater none later = omega (arith, later, sum_by-cons weigh e.1 (values_of es), sum_by-cons weigh e.1 (values_of (entry.put nat_cmp key x es)))

  -- the sum with a new key put in
  sum-put : (key : ℕ) (x : X) (es : List (ℕ × X)) → entry.find nat_cmp key es ≡ None → sum_by weigh (values_of (entry.put nat_cmp key x es)) ≡ weigh x + sum_by weigh (values_of es)
  sum-put key x [] none = sum_by-cons weigh x []
  sum-put key x (e ∷ es) none =
      sum-put_by key x e es (nat_cmp key e.0) none (sum-put key x es (later_none (eq_by_cmp nat_cmp key e.0) e.1 (entry.find nat_cmp key es) none))
    where
      later_none : (b : Bool) (y : X) (o : Option X) → cond b (Some y) o ≡ None → o ≡ None
      later_none true y o h = absurd (cc)
      later_none false y o h = h

  absent : (key : ℕ) (es : List (ℕ × X)) → AllByRecursion (λ y. eqb key y ≡ false) (keys_of es) → lookup (eqb key) es ≡ None
  absent key [] none = refl
  absent key (e ∷ es) none = ap (λ (b : Bool). cond b (Some e.1) (lookup (eqb key) es)) none.0 ∙ absent key es none.1

  sum-none : (es : List (ℕ × X)) → length es ≡ 0 → sum_by weigh (values_of es) ≡ 0
  sum-none [] none = refl
  sum-none (e ∷ es) none = absurd (omega arith)

  -- the sum over a table of entries in any order
  pub sum-map : (es : List (ℕ × X)) → IsDistinct eqb (keys_of es) → sum_by weigh (finite.values (finite.from_entries {R = nat_cmp} es)) ≡ sum_by weigh (values_of es)
  unfolding IsDistinct
  sum-map [] distinct = let none = finite.empty {X = X} {R = nat_cmp} in sum-none (finite.entries none) (sym (finite.len-entries none) ∙ finite.len-empty nat_cmp X)
  sum-map (e ∷ es) distinct =
      let table = finite.from_entries {R = nat_cmp} es in
      let none : entry.find nat_cmp e.0 (finite.entries table) ≡ None = sym (finite.get-entries table e.0) ∙ (get-table es e.0 ∙ absent e.0 es distinct.0) in
      let put = ap (λ (entries : List (ℕ × X)). sum_by weigh (values_of entries)) (finite.entries-insert nat_cmp_total table e.0 e.1) ∙ sum-put e.0 e.1 (finite.entries table) none in
      omega (arith, put, sum-map es distinct.1, sum_by-cons weigh e.1 (values_of es))
