-- Maps by numbers: what a change leaves, how many of their values pass a test, and their lengths.
use Rattle.std.proofs.Common.{◌≡◌, ◌≢◌, ℕ, ◌+◌, ◌≤◌, Bool, true, false, cond, eqb, List, [], ◌∷◌, length, map, Option, Some, None, refl, sym, ap, ◌∙◌, subst, arith}
use Rattle.std.specs.Prelude.{is_some, count_by}
use Rattle.std.specs.Cmp.{nat_cmp_total, tied_itself}
use Rattle.std.specs.FinMap as finite
use Rattle.std.specs.FinMap.Entries as entry
use Rattle.std.specs.BTreeMap.{is_at}
use Rattle.std.specs.List.{AllByRecursion, IsDistinct}
use Rattle.std.specs.Map.{keys_of, lookup}
use Rattle.std.specs.Ordering.{is_eq, eq_by_cmp, nat_cmp}
use Rattle.std.specs.declared.cmp.Ordering.{Ordering}
use Rattle.std.specs.declared.cmp.Ordering.TheVariants.{Less, Equal, Greater}
use Rattle.std.proofs.lemmas.List.{length-map}
use Rattle.std.proofs.lemmas.List.Sums.{count_by-le-length, sum_by-cons}
use Rattle.link_admission.proofs.Tabled as Tabled

abbrev pub Numbered : Type 0 → Type 0
Numbered V = finite.FinMap nat_cmp V

-- ---- numbers that tie

equal : (o : Ordering) → is_eq o ≡ true → o ≡ Equal
equal Less h = absurd (cc)
equal Equal h = refl
equal Greater h = absurd (cc)

pub tied : (a b : ℕ) → eq_by_cmp nat_cmp a b ≡ true → a ≡ b
tied a b e = finite.nat_cmp-IsAntisymmetric a b (equal _ e)

pub ties : (a : ℕ) → eq_by_cmp nat_cmp a a ≡ true
ties a = ap is_eq (tied_itself nat_cmp_total a)

-- a number is another or isn't
pub data Standing (a b : ℕ) : Type 0 where
  same : a ≡ b → eq_by_cmp nat_cmp a b ≡ true → Standing a b
  other : a ≢ b → eq_by_cmp nat_cmp a b ≡ false → Standing a b

pub standing : (a b : ℕ) → Standing a b
standing a b = by_test (eq_by_cmp nat_cmp a b) refl where
  by_test : (t : Bool) → eq_by_cmp nat_cmp a b ≡ t → Standing a b
  by_test true e = same (tied a b e) e
  by_test false e = other (λ is. absurd (let yes : eq_by_cmp nat_cmp a b ≡ true = subst (λ x. eq_by_cmp nat_cmp a x ≡ true) is (ties a) in let wrong : true ≡ false = sym yes ∙ e in cc)) e

-- ---- maps by numbers

pub same_map : {V : Type 0} (m n : Numbered V) → ((q : ℕ) → finite.get m q ≡ finite.get n q) → m ≡ n
same_map m n is = finite.same_map nat_cmp_total finite.nat_cmp-IsAntisymmetric m n is

pub get_put : {V : Type 0} (m : Numbered V) (k : ℕ) (v : V) → finite.get (finite.insert m k v) k ≡ Some v
get_put m k v = finite.get-insert nat_cmp_total m k v k ∙ ap (λ b. cond b (Some v) (finite.get m k)) (ties k)

pub get_put_other : {V : Type 0} (m : Numbered V) (k q : ℕ) (v : V) → q ≢ k → finite.get (finite.insert m k v) q ≡ finite.get m q
get_put_other m k q v apart = elim (standing q k) [
  | same e b ↦ absurd (apart e)
  | other e b ↦ finite.get-insert nat_cmp_total m k v q ∙ ap (λ b. cond b (Some v) (finite.get m q)) b
]

pub get_cut : {V : Type 0} (m : Numbered V) (k : ℕ) → finite.get (finite.remove m k) k ≡ None
get_cut m k = finite.get-remove nat_cmp_total m k k ∙ ap (λ b. cond b None (finite.get m k)) (ties k)

pub get_cut_other : {V : Type 0} (m : Numbered V) (k q : ℕ) → q ≢ k → finite.get (finite.remove m k) q ≡ finite.get m q
get_cut_other m k q apart = elim (standing q k) [
  | same e b ↦ absurd (apart e)
  | other e b ↦ finite.get-remove nat_cmp_total m k q ∙ ap (λ b. cond b None (finite.get m q)) b
]

pub nothing_cut : {V : Type 0} (m : Numbered V) (k : ℕ) → finite.get m k ≡ None → finite.remove m k ≡ m
nothing_cut m k none = same_map _ _ (λ q. elim (standing q k) [
  | same e b ↦ ap (finite.get (finite.remove m k)) e ∙ get_cut m k ∙ sym (ap (finite.get m) e ∙ none)
  | other e b ↦ get_cut_other m k q e
])

-- ---- counting over the entries of a map

abbrev pub one_if : Bool → ℕ
one_if b = cond b 1 0

-- what is put in again where it was taken out
put_back : {V : Type 0} (m : Numbered V) (k : ℕ) (v : V) → finite.get m k ≡ Some v → finite.insert (finite.remove m k) k v ≡ m
put_back m k v there = same_map _ _ (λ q. elim (standing q k) [
  | same e b ↦ ap (finite.get (finite.insert (finite.remove m k) k v)) e ∙ get_put (finite.remove m k) k v ∙ sym (ap (finite.get m) e ∙ there)
  | other e b ↦ get_put_other (finite.remove m k) k q v e ∙ get_cut_other m k q e
])

module _ {V : Type 0} (p : V → Bool) where
  abbrev counted : List (ℕ × V) → ℕ
  counted es = count_by p (map (λ (e : ℕ × V). e.1) es)

  counted_cons : (e : ℕ × V) (es : List (ℕ × V)) → counted (e ∷ es) ≡ one_if (p e.1) + counted es
  counted_cons e es = sum_by-cons (λ (c : V). one_if (p c)) e.1 (map (λ (e : ℕ × V). e.1) es)

  by_order_put : (o : Ordering) (k : ℕ) (v : V) (e : ℕ × V) (es : List (ℕ × V)) →
      (is_eq o ≡ true → ⊥) → counted (entry.put nat_cmp k v es) ≡ one_if (p v) + counted es →
      counted (entry.by_order o ((k, v) ∷ e ∷ es) ((e.0, v) ∷ es) (e ∷ entry.put nat_cmp k v es)) ≡ one_if (p v) + counted (e ∷ es)
  by_order_put Less k v e es none more = counted_cons (k, v) (e ∷ es)
  by_order_put Equal k v e es none more = absurd (none refl)
  by_order_put Greater k v e es none more =
      let here = counted_cons e (entry.put nat_cmp k v es) in
      let was = counted_cons e es in
      omega (arith, here, was, more)

  counted_put : (k : ℕ) (v : V) (es : List (ℕ × V)) → entry.find nat_cmp k es ≡ None → counted (entry.put nat_cmp k v es) ≡ one_if (p v) + counted es
  counted_put k v [] none = counted_cons (k, v) []
  counted_put k v (e ∷ es) none =
      let not_here : is_eq (nat_cmp k e.0) ≡ true → ⊥ = λ is.
      let found : Some e.1 ≡ None = sym (ap (λ b. cond b (Some e.1) (entry.find nat_cmp k es)) is) ∙ none in cc in
      by_order_put (nat_cmp k e.0) k v e es not_here (counted_put k v es (rest_none (is_eq (nat_cmp k e.0)) e.1 (entry.find nat_cmp k es) none))
    where
      rest_none : (b : Bool) (x : V) (o : Option V) → cond b (Some x) o ≡ None → o ≡ None
      rest_none true x o is = absurd (cc)
      rest_none false x o is = is

  pub count_put : (m : Numbered V) (k : ℕ) (v : V) → finite.get m k ≡ None → count_by p (finite.values (finite.insert m k v)) ≡ one_if (p v) + count_by p (finite.values m)
  count_put m k v none = ap counted (finite.entries-insert nat_cmp_total m k v) ∙ counted_put k v (finite.entries m) (sym (finite.get-entries m k) ∙ none)

  pub count_cut : (m : Numbered V) (k : ℕ) (v : V) → finite.get m k ≡ Some v → count_by p (finite.values m) ≡ one_if (p v) + count_by p (finite.values (finite.remove m k))
  count_cut m k v there = ap (λ (n : Numbered V). count_by p (finite.values n)) (sym (put_back m k v there)) ∙ count_put (finite.remove m k) k v (get_cut m k)

  put_twice : (m : Numbered V) (k : ℕ) (v w : V) → finite.insert m k w ≡ finite.insert (finite.remove m k) k w
  put_twice m k v w = same_map _ _ (λ q. elim (standing q k) [
    | same e b ↦ ap (finite.get (finite.insert m k w)) e ∙ get_put m k w ∙ sym (ap (finite.get (finite.insert (finite.remove m k) k w)) e ∙ get_put (finite.remove m k) k w)
    | other e b ↦ get_put_other m k q w e ∙ sym (get_put_other (finite.remove m k) k q w e ∙ get_cut_other m k q e)
  ])

  pub count_again : (m : Numbered V) (k : ℕ) (v w : V) → finite.get m k ≡ Some v → p w ≡ p v → count_by p (finite.values (finite.insert m k w)) ≡ count_by p (finite.values m)
  count_again m k v w there alike =
      ap (λ (n : Numbered V). count_by p (finite.values n)) (put_twice m k v w) ∙ count_put (finite.remove m k) k w (get_cut m k)
      ∙ ap (λ b. one_if b + count_by p (finite.values (finite.remove m k))) alike ∙ sym (count_cut m k v there)

-- ---- lengths

pub longer : {V : Type 0} (m : Numbered V) (k : ℕ) (v : V) → finite.get m k ≡ None → finite.len (finite.insert m k v) ≡ finite.len m + 1
longer m k v none = finite.len-insert nat_cmp_total m k v ∙ ap (λ o. cond (is_some o) (finite.len m) (finite.len m + 1)) none

pub shorter : {V : Type 0} (m : Numbered V) (k : ℕ) (v : V) → finite.get m k ≡ Some v → finite.len (finite.remove m k) + 1 ≡ finite.len m
shorter m k v there = sym (longer (finite.remove m k) k v (get_cut m k)) ∙ ap finite.len (put_back m k v there)

pub as_long : {V : Type 0} (m : Numbered V) (k : ℕ) (v w : V) → finite.get m k ≡ Some v → finite.len (finite.insert m k w) ≡ finite.len m
as_long m k v w there = finite.len-insert nat_cmp_total m k w ∙ ap (λ o. cond (is_some o) (finite.len m) (finite.len m + 1)) there

-- no more pass a test than there are
pub counts_few : {V : Type 0} (p : V → Bool) (m : Numbered V) → count_by p (finite.values m) ≤ finite.len m
counts_few {V} p m =
    let count = count_by-le-length p (finite.values m) in
    let size = length-map (finite.entries m) (λ (e : ℕ × V). e.1) in
    let entries = finite.len-entries m in
    omega (arith, count, size, entries)

pub count_none : {V : Type 0} (p : V → Bool) → count_by p (finite.values (finite.empty {K = ℕ} {X = V} {R = nat_cmp})) ≡ 0
count_none {V} p =
    let few = counts_few p (finite.empty {K = ℕ} {X = V} {R = nat_cmp}) in
    let none = finite.len-empty nat_cmp V in
    omega (arith, few, none)

-- ---- tables in order, seen as maps

find_lookup : {V : Type 0} (es : List (ℕ × V)) (q : ℕ) → entry.find nat_cmp q es ≡ lookup (is_at (nat_cmp q)) es
find_lookup [] q = refl
find_lookup (e ∷ es) q = ap (cond (eq_by_cmp nat_cmp q e.0) (Some e.1)) (find_lookup es q)

-- the map of a table has what stands in it
pub get-table : {V : Type 0} (es : List (ℕ × V)) (q : ℕ) → finite.get (finite.from_entries {R = nat_cmp} es) q ≡ lookup (is_at (nat_cmp q)) es
get-table es q = finite.get-from_entries nat_cmp_total es q ∙ find_lookup es q

-- a table in which one entry was put is the map with it inserted
pub insert-table : {V : Type 0} (old new : List (ℕ × V)) (k : ℕ) (v : V) →
    ((q : ℕ) → lookup (is_at (nat_cmp q)) new ≡ cond (is_at (nat_cmp k) q) (Some v) (lookup (is_at (nat_cmp q)) old)) →
    finite.from_entries {R = nat_cmp} new ≡ finite.insert (finite.from_entries old) k v
insert-table old new k v is = same_map _ _ (λ q. elim (standing k q) [
  | same e b ↦
      get-table new q ∙ is q ∙ ap (λ t. cond t (Some v) (lookup (is_at (nat_cmp q)) old)) b
      ∙ sym (ap (finite.get (finite.insert (finite.from_entries old) k v)) (sym e) ∙ get_put (finite.from_entries old) k v)
  | other e b ↦
      get-table new q ∙ is q ∙ ap (λ t. cond t (Some v) (lookup (is_at (nat_cmp q)) old)) b
      ∙ sym (get_put_other (finite.from_entries old) k q v (λ same. e (sym same)) ∙ get-table old q)
])

-- a table from which one entry was taken is the map without it
pub remove-table : {V : Type 0} (old new : List (ℕ × V)) (k : ℕ) →
    ((q : ℕ) → lookup (is_at (nat_cmp q)) new ≡ cond (is_at (nat_cmp k) q) None (lookup (is_at (nat_cmp q)) old)) →
    finite.from_entries {R = nat_cmp} new ≡ finite.remove (finite.from_entries old) k
remove-table old new k is = same_map _ _ (λ q. elim (standing k q) [
  | same e b ↦
      get-table new q ∙ is q ∙ ap (λ t. cond t None (lookup (is_at (nat_cmp q)) old)) b
      ∙ sym (ap (finite.get (finite.remove (finite.from_entries old) k)) (sym e) ∙ get_cut (finite.from_entries old) k)
  | other e b ↦
      get-table new q ∙ is q ∙ ap (λ t. cond t None (lookup (is_at (nat_cmp q)) old)) b
      ∙ sym (get_cut_other (finite.from_entries old) k q (λ same. e (sym same)) ∙ get-table old q)
])

-- ---- tables by hashes, seen as maps

-- what stands apart from all keys is no key
apart_from : {V : Type 0} (k : ℕ) (es : List (ℕ × V)) → AllByRecursion (λ y. eqb k y ≡ false) (keys_of es) → lookup (eqb k) es ≡ None
apart_from k [] d = refl
apart_from k (e ∷ es) d = ap (λ b. cond b (Some e.1) (lookup (eqb k) es)) d.0 ∙ apart_from k es d.1

-- a table in which no number stands twice has as many entries as its map
pub len-table : {V : Type 0} (es : List (ℕ × V)) → IsDistinct eqb (keys_of es) → finite.len (finite.from_entries {R = nat_cmp} es) ≡ length es
unfolding IsDistinct
len-table {V} [] d = finite.len-empty nat_cmp V
len-table (e ∷ es) d =
    let one = longer (finite.from_entries es) e.0 e.1 (Tabled.get-table es e.0 ∙ apart_from e.0 es d.0) in
    let rest = len-table es d.1 in
    omega (arith, one, rest)
