-- The ordered tables of a client, seen as finite maps and sets.
use Rattle.std.proofs.Common.{◌≡◌, ℕ, Bool, true, false, cond, List, [], ◌∷◌, length, refl, sym, ap, subst, ◌∙◌, T}
use Rattle.std.specs.Prelude.{◌&&◌, ◌||◌, Option, Some, None}
use Rattle.std.specs.declared.cmp.Ordering.{Ordering}
use Rattle.std.specs.declared.cmp.Ordering.TheVariants.{Less}
use Rattle.std.specs.BTreeMap.{is_at}
use Rattle.std.specs.Cmp.{IsTotalOrder, nat_cmp_total, eq_by_cmp_equiv, Equal-is}
use Rattle.std.specs.FinMap as finite
use Rattle.std.specs.FinMap.{IsAntisymmetric, nat_cmp-IsAntisymmetric, FinMap, find, is_sorted, get-from_entries, get-from_sorted, get-insert, get-remove, same_map, len-entries, entries-from_sorted}
use Rattle.std.specs.FinMap.Entries.{below_all}
use Rattle.std.specs.FinSet as set
use Rattle.std.specs.FinSet.{contains-insert, contains-from_list, same_set}
use Rattle.std.specs.List.{AllByRecursion, list_any}
use Rattle.std.specs.List.Sorted.{IsStrictlySortedBy}
use Rattle.std.specs.Map.{keys_of, lookup}
use Rattle.std.specs.Ordering.{nat_cmp, eq_by_cmp, is_lt}
use Rattle.std.proofs.lemmas.Cmp.{on_total, then_total}
use Rattle.std.proofs.lemmas.Map.Lookups.{exact_pairs, exact_unsigned}
use Rattle.io_client.specs.Calls.{call_cmp}

pub calls_total : IsTotalOrder call_cmp
calls_total = then_total (on_total (λ k. k.0) nat_cmp_total) (on_total (λ k. k.1) nat_cmp_total)

pub calls_exact : IsAntisymmetric call_cmp
calls_exact a b h = exact_pairs nat_cmp nat_cmp exact_unsigned exact_unsigned a b h

and_true : (a b : Bool) → a ≡ true → b ≡ true → a && b ≡ true
and_true true b p q = q
and_true false b p q = p

module _ {K X : Type 0} (R : K → K → Ordering) where
  find-lookup : (es : List (K × X)) (q : K) → find R q es ≡ lookup (is_at (R q)) es
  find-lookup [] q = refl
  find-lookup (e ∷ es) q = ap (cond (eq_by_cmp R q e.0) (Some e.1)) (find-lookup es q)

  below : (x : K) (es : List (K × X)) → AllByRecursion (λ y. R x y ≡ Less) (keys_of es) → below_all R x es ≡ true
  below x [] h = refl
  below x (e ∷ es) h = and_true (is_lt (R x e.0)) (below_all R x es) (ap is_lt h.0) (below x es h.1)

  sorted : (es : List (K × X)) → IsStrictlySortedBy R (keys_of es) → is_sorted R es ≡ true
  unfolding IsStrictlySortedBy
  sorted [] h = refl
  sorted (e ∷ es) h = and_true (below_all R e.0 es) (is_sorted R es) (below e.0 es h.0) (sorted es h.1)

module _ {K X : Type 0} {R : K → K → Ordering} (o : IsTotalOrder R) (same : IsAntisymmetric R) where
  -- the map of a table has what stands in it
  pub get-table : (es : List (K × X)) (q : K) → finite.get (finite.from_entries {R = R} es) q ≡ lookup (is_at (R q)) es
  get-table es q = get-from_entries o es q ∙ find-lookup R es q

  -- it has as many entries as the table
  pub len-table : (es : List (K × X)) → IsStrictlySortedBy R (keys_of es) → finite.len (finite.from_entries {R = R} es) ≡ length es
  len-table es h =
      let in_order : T (is_sorted R es) = subst T (sym (sorted R es h)) tt in
      let one = same_map o same (finite.from_entries es) (finite.from_sorted es) (λ q. get-from_entries o es q ∙ sym (get-from_sorted R es q in_order)) in
      ap finite.len one ∙ (len-entries (finite.from_sorted es) ∙ ap length (entries-from_sorted R es in_order))

  changed : (old new : List (K × X)) (k : K) (w : Option X) (m : FinMap R X) →
      ((q : K) → lookup (is_at (R q)) new ≡ cond (is_at (R k) q) w (lookup (is_at (R q)) old)) →
      ((q : K) → finite.get m q ≡ cond (eq_by_cmp R q k) w (finite.get (finite.from_entries {R = R} old) q)) → finite.from_entries new ≡ m
  changed old new k w m is made =
      same_map o same (finite.from_entries new) m
      (λ q. get-table new q ∙ (is q ∙ (ap (λ b. cond b w (lookup (is_at (R q)) old)) ((eq_by_cmp_equiv o).symm k q) ∙ (ap (cond (eq_by_cmp R q k) w) (sym (get-table old q)) ∙ sym (made q)))))

  -- a table in which one entry was put is the map with it inserted
  pub insert-table : (old new : List (K × X)) (k : K) (v : X) →
      ((q : K) → lookup (is_at (R q)) new ≡ cond (is_at (R k) q) (Some v) (lookup (is_at (R q)) old)) →
      finite.from_entries {R = R} new ≡ finite.insert (finite.from_entries old) k v
  insert-table old new k v is = changed old new k (Some v) (finite.insert (finite.from_entries old) k v) is (get-insert o (finite.from_entries old) k v)

  -- a table from which one entry was taken is the map without it
  pub remove-table : (old new : List (K × X)) (k : K) →
      ((q : K) → lookup (is_at (R q)) new ≡ cond (is_at (R k) q) None (lookup (is_at (R q)) old)) →
      finite.from_entries {R = R} new ≡ finite.remove (finite.from_entries old) k
  remove-table old new k is = changed old new k None (finite.remove (finite.from_entries old) k) is (get-remove o (finite.from_entries old) k)

  undone : (m : FinMap R X) (k q : K) (v : X) (b : Bool) → eq_by_cmp R q k ≡ b → finite.get m k ≡ None →
      cond b None (cond b (Some v) (finite.get m q)) ≡ finite.get m q
  undone m k q v true at none = sym (ap (finite.get m) (same q k ((Equal-is (R q k)).0 at)) ∙ none)
  undone m k q v false at none = refl

  -- an entry that is put where none was, and taken out again, leaves the map as it was
  pub remove-insert : (m : FinMap R X) (k : K) (v : X) → finite.get m k ≡ None → finite.remove (finite.insert m k v) k ≡ m
  remove-insert m k v none =
      same_map o same (finite.remove (finite.insert m k v) k) m
      (λ q. get-remove o (finite.insert m k v) k q ∙ (ap (cond (eq_by_cmp R q k) None) (get-insert o m k v q) ∙ undone m k q v (eq_by_cmp R q k) refl none))

  as_was : (m : FinMap R X) (k q : K) (b : Bool) → eq_by_cmp R q k ≡ b → finite.get m k ≡ None → cond b None (finite.get m q) ≡ finite.get m q
  as_was m k q true at none = sym (ap (finite.get m) (same q k ((Equal-is (R q k)).0 at)) ∙ none)
  as_was m k q false at none = refl

  -- to take out what isn't there changes nothing
  pub remove-none : (m : FinMap R X) (k : K) → finite.get m k ≡ None → finite.remove m k ≡ m
  remove-none m k none = same_map o same (finite.remove m k) m (λ q. get-remove o m k q ∙ as_was m k q (eq_by_cmp R q k) refl none)

or_cond : (a b : Bool) → cond a true b ≡ a || b
or_cond true b = refl
or_cond false b = refl

-- a table of numbers, seen as a set
pub contains-table : (ks : List ℕ) (q : ℕ) → set.contains (set.from_list {R = nat_cmp} ks) q ≡ list_any (is_at (nat_cmp q)) ks
contains-table ks q = contains-from_list nat_cmp_total ks q

pub insert-set : (old new : List ℕ) (k : ℕ) →
    ((q : ℕ) → list_any (is_at (nat_cmp q)) new ≡ cond (is_at (nat_cmp k) q) true (list_any (is_at (nat_cmp q)) old)) →
    set.from_list {R = nat_cmp} new ≡ set.insert (set.from_list old) k
insert-set old new k is =
    same_set nat_cmp_total nat_cmp-IsAntisymmetric (set.from_list new) (set.insert (set.from_list old) k)
    (λ q. contains-table new q ∙ (is q ∙ (or_cond (is_at (nat_cmp k) q) (list_any (is_at (nat_cmp q)) old) ∙ (ap (λ b. b || list_any (is_at (nat_cmp q)) old) ((eq_by_cmp_equiv nat_cmp_total).symm k q) ∙ (ap (λ b. eq_by_cmp nat_cmp q k || b) (sym (contains-table old q)) ∙ sym (contains-insert nat_cmp_total (set.from_list old) k q))))))
