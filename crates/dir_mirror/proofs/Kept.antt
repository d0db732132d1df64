-- Seats and the names that are there.
use Rattle.std.proofs.Common.{◌≡◌, ℕ, Bool, true, false, cond, ◌||◌, List, [], ◌∷◌, Option, Some, None, refl, sym, ap, subst, ◌∙◌}
use Rattle.std.specs.Prelude.{◌↔◌, IsTrue, Contains, IsSome, if◌then◌else◌, ◌&&◌, is_some}
use Rattle.std.specs.BTreeMap.{BTreeMap, IsOrdered, UpdatesBy, WritesThrough, insert_entry, is_at}
use Rattle.std.specs.Cmp.{eq_by_cmp_equiv}
use Rattle.std.specs.Cmp.Lexicographic.{slice_cmp, nat_list_cmp_total, nat_list_eq_equiv}
use Rattle.std.specs.List.{AllByRecursion, list_any}
use Rattle.std.specs.List.Sorted.{IsStrictlySortedBy}
use Rattle.std.specs.Map.{AreApart, IsKeyTest, KeepsOthers, keys_of, lookup, remove_entry}
use Rattle.std.specs.Option.{option_map_or}
use Rattle.std.specs.Ordering.{is_eq, match_ordering, nat_cmp}
use Rattle.std.specs.Str.{bytes_eq}
use Rattle.std.specs.declared.cmp.Ordering.{Ordering}
use Rattle.std.specs.declared.cmp.Ordering.TheVariants.{Less, Equal, Greater}
use Rattle.std.proofs.lemmas.Map.Keys.{sorted_head, sorted_tail}
use Rattle.std.proofs.lemmas.Map.Made.{is_member-Decides}
use Rattle.std.proofs.lemmas.Map.Text.{is_eq-slice_cmp}
use Rattle.std.proofs.lemmas.Slice.Eq.{bytes_eq-Decides}
use Rattle.dir_mirror.specs.Seats.{is_there, names_of, seat_of}

pub same_bytes : (xs ys : List ℕ) → bytes_eq xs ys ≡ true → xs ≡ ys
same_bytes xs ys e = (bytes_eq-Decides xs ys).0 e

pub itself : (xs : List ℕ) → bytes_eq xs xs ≡ true
itself xs = (bytes_eq-Decides xs xs).1 refl

ties : (xs ys : List ℕ) → is_eq (slice_cmp nat_cmp xs ys) ≡ bytes_eq xs ys
ties xs ys = is_eq-slice_cmp xs ys

apart : (xs ys zs : List ℕ) → bytes_eq xs ys ≡ false → is_eq (slice_cmp nat_cmp xs zs) ≡ true → is_eq (slice_cmp nat_cmp ys zs) ≡ false
apart xs ys zs n y =
    let same = nat_list_eq_equiv.congr xs zs ys (sym (ties xs zs) ∙ y) in
    ties ys zs ∙ nat_list_eq_equiv.symm ys zs ∙ sym same ∙ n

others : {K X : Type 0} (eq : K → K → Bool) (test : K → Bool) (old new : List (K × X)) → KeepsOthers eq test old new
    → (other : K → Bool) → IsKeyTest eq other → AreApart test other → lookup other new ≡ lookup other old
unfolding KeepsOthers
others eq test old new h = h

module _ {K : Type 0} (bytes : K → List ℕ) where
  abbrev pub by_bytes : K → K → Ordering
  by_bytes a b = slice_cmp nat_cmp (bytes a) (bytes b)

  -- ---- seats

  -- a change at a name changes the seat of that name alone
  pub seat_changed : (name : List ℕ) (old new : BTreeMap K Bool) (w : Option Bool) → UpdatesBy by_bytes (λ key. slice_cmp nat_cmp name (bytes key)) old new w
      → (other : List ℕ) → seat_of bytes new other ≡ cond (bytes_eq name other) w (seat_of bytes old other)
  seat_changed name old new w u other =
      elim (bytes_eq name other) as (λ b. bytes_eq name other ≡ b → seat_of bytes new other ≡ cond b w (seat_of bytes old other)) [
        | true ↦ λ y. subst (λ n. seat_of bytes new n ≡ w) (same_bytes name other y) u.1
        | false ↦ λ n. others _ _ old.entries new.entries u.3 _
            (λ x y. (eq_by_cmp_equiv nat_list_cmp_total).congr other (bytes x) (bytes y)) (λ k. apart name other (bytes k) n)
      ] refl

  -- ---- the names that are there

  passing_over : (found key other : List ℕ) → slice_cmp nat_cmp found other ≡ Less → bytes_eq key found ≡ true → bytes_eq key other ≡ false
  passing_over found key other less y =
      sym (ties key other) ∙ ap (λ n. is_eq (slice_cmp nat_cmp n other)) (same_bytes key found y) ∙ ap is_eq less

  -- a key that is below all others is none of them
  none_later : (key : K) (name : List ℕ) (seats : List (K × Bool)) → AllByRecursion (λ k. by_bytes key k ≡ Less) (keys_of seats) → bytes_eq name (bytes key) ≡ true
      → list_any (bytes_eq name) (names_of bytes seats) ≡ false
  none_later key name [] below is = refl
  none_later key name ((k, true) ∷ seats) below is =
      ap (λ b. b || list_any (bytes_eq name) (names_of bytes seats)) (passing_over (bytes key) name (bytes k) below.0 is) ∙ none_later key name seats below.1 is
  none_later key name ((k, false) ∷ seats) below is = none_later key name seats below.1 is

  among_names : (seats : List (K × Bool)) (name : List ℕ) → IsStrictlySortedBy by_bytes (keys_of seats)
      → list_any (bytes_eq name) (names_of bytes seats) ≡ option_map_or (λ there. there) (lookup (is_at (λ key. slice_cmp nat_cmp name (bytes key))) seats) false
  among_names [] name sorted = refl
  among_names ((k, b) ∷ seats) name sorted =
      let rest = among_names seats name (sorted_tail by_bytes k (keys_of seats) sorted) in
      let below = sorted_head by_bytes k (keys_of seats) sorted in
      elim (bytes_eq name (bytes k)) as (λ e. bytes_eq name (bytes k) ≡ e → list_any (bytes_eq name) (names_of bytes ((k, b) ∷ seats))
      ≡ option_map_or (λ there. there) (cond (is_eq (slice_cmp nat_cmp name (bytes k))) (Some b) (lookup (is_at (λ key. slice_cmp nat_cmp name (bytes key))) seats)) false) [
        | true ↦ λ y. elim b as (λ b. list_any (bytes_eq name) (names_of bytes ((k, b) ∷ seats))
            ≡ option_map_or (λ there. there) (cond (is_eq (slice_cmp nat_cmp name (bytes k))) (Some b) (lookup (is_at (λ key. slice_cmp nat_cmp name (bytes key))) seats)) false) [
              | true ↦ rw (ties name (bytes k), y) refl
              | false ↦ rw (ties name (bytes k), y) (none_later k name seats below y)
            ]
        | false ↦ λ n. elim b as (λ b. list_any (bytes_eq name) (names_of bytes ((k, b) ∷ seats))
            ≡ option_map_or (λ there. there) (cond (is_eq (slice_cmp nat_cmp name (bytes k))) (Some b) (lookup (is_at (λ key. slice_cmp nat_cmp name (bytes key))) seats)) false) [
              | true ↦ rw (ties name (bytes k), n) rest
              | false ↦ rw (ties name (bytes k), n) rest
            ]
      ] refl

  pub contains_there : (seats : BTreeMap K Bool) (name : List ℕ) → IsOrdered by_bytes seats → Contains (names_of bytes seats.entries) name ↔ IsTrue (is_there bytes seats name)
  contains_there seats name ordered =
      let same = among_names seats.entries name ordered in
      let decides = is_member-Decides bytes_eq-Decides (names_of bytes seats.entries) name in
      (λ has. sym same ∙ decides.1 has, λ there. decides.0 (same ∙ there))

  -- the order

  all_later : (key : K) (seats : List (K × Bool)) → AllByRecursion (λ k. by_bytes key k ≡ Less) (keys_of seats)
      → AllByRecursion (λ name. slice_cmp nat_cmp (bytes key) name ≡ Less) (names_of bytes seats)
  all_later key [] below = tt
  all_later key ((k, true) ∷ seats) below = (below.0, all_later key seats below.1)
  all_later key ((k, false) ∷ seats) below = all_later key seats below.1

  pub names_ascend : (seats : List (K × Bool)) → IsStrictlySortedBy by_bytes (keys_of seats) → IsStrictlySortedBy (slice_cmp nat_cmp) (names_of bytes seats)
  unfolding IsStrictlySortedBy
  names_ascend [] sorted = tt
  names_ascend ((k, true) ∷ seats) sorted = (all_later k seats sorted.0, names_ascend seats sorted.1)
  names_ascend ((k, false) ∷ seats) sorted = names_ascend seats sorted.1

  -- ---- seats of names that aren't there

  not_none : {A : Type 0} (b : Bool) → Some b ≡ None → A
  not_none b e = absurd (cc)

  pub names_with_seat : (cmp : K → K → Ordering) (key : K) (seats : List (K × Bool)) → lookup (is_at (cmp key)) seats ≡ None
      → names_of bytes (insert_entry cmp seats key false) ≡ names_of bytes seats
  names_with_seat cmp key [] none = refl
  names_with_seat cmp key ((k, b) ∷ seats) none =
      elim (cmp key k) as (λ o. cond (is_eq o) (Some b) (lookup (is_at (cmp key)) seats) ≡ None
      → names_of bytes (match_ordering o ((key, false) ∷ (k, b) ∷ seats) ((k, false) ∷ seats) ((k, b) ∷ insert_entry cmp seats key false)) ≡ names_of bytes ((k, b) ∷ seats)) [
        | Less ↦ λ _. refl
        | Equal ↦ λ e. not_none b e
        | Greater ↦ λ e. elim b as (λ b. names_of bytes ((k, b) ∷ insert_entry cmp seats key false) ≡ names_of bytes ((k, b) ∷ seats)) [
          | true ↦ ap (λ l. bytes k ∷ l) (names_with_seat cmp key seats e)
          | false ↦ names_with_seat cmp key seats e
        ]
      ] none

  pub names_without_seat : (test : K → Bool) (seats : List (K × Bool)) → lookup test seats ≡ Some false
      → names_of bytes (remove_entry test seats) ≡ names_of bytes seats
  names_without_seat test [] found = refl
  names_without_seat test ((k, b) ∷ seats) found =
      elim (test k) as (λ t. cond t (Some b) (lookup test seats) ≡ Some false → names_of bytes (cond t seats ((k, b) ∷ remove_entry test seats)) ≡ names_of bytes ((k, b) ∷ seats)) [
        | true ↦ λ e. elim b as (λ b. Some b ≡ Some false → names_of bytes seats ≡ names_of bytes ((k, b) ∷ seats)) [ true ↦ λ e. absurd (cc) | false ↦ λ _. refl ] e
        | false ↦ λ e. elim b as (λ b. names_of bytes ((k, b) ∷ remove_entry test seats) ≡ names_of bytes ((k, b) ∷ seats)) [
          | true ↦ ap (λ l. bytes k ∷ l) (names_without_seat test seats e)
          | false ↦ names_without_seat test seats e
        ]
      ] found

  -- ---- one seat

  some_is : (o : Option Bool) → is_some o ≡ true → IsSome o
  some_is None e = absurd (cc)
  some_is (Some b) e = refl

  none_of : (o : Option Bool) → is_some o ≡ false → o ≡ None
  none_of None e = refl
  none_of (Some b) e = absurd (cc)

  -- a name that had no seat has one, and isn't there
  module _ (key : K) (name : List ℕ) (old new : BTreeMap K Bool) (same : bytes key ≡ name)
      (updates : UpdatesBy by_bytes (by_bytes key) old new (Some false)) (none : is_some (seat_of bytes old name) ≡ false) where
    seated : (other : List ℕ) → seat_of bytes new other ≡ cond (bytes_eq name other) (Some false) (seat_of bytes old other)
    seated other = rw same at (seat_changed (bytes key) old new (Some false) updates other)

    pub names_with_one :
        new.entries ≡ insert_entry by_bytes old.entries key false → names_of bytes new.entries ≡ names_of bytes old.entries
    names_with_one entries =
        ap (names_of bytes) entries
        ∙ names_with_seat by_bytes key old.entries (ap (λ n. lookup (is_at (λ k. slice_cmp nat_cmp n (bytes k))) old.entries) same ∙ none_of (seat_of bytes old name) none)

    pub there_with_seat : (other : List ℕ) → is_there bytes new other ≡ is_there bytes old other
    there_with_seat other =
        elim (bytes_eq name other) as (λ b. bytes_eq name other ≡ b → is_there bytes new other ≡ is_there bytes old other) [
          | true ↦ λ y. ap (λ o. option_map_or (λ there. there) o false) (seated other ∙ ap (λ b. cond b (Some false) (seat_of bytes old other)) y)
              ∙ sym (ap (λ o. option_map_or (λ there. there) o false) (ap (seat_of bytes old) (sym (same_bytes name other y)) ∙ none_of (seat_of bytes old name) none))
          | false ↦ λ n. ap (λ o. option_map_or (λ there. there) o false) (seated other ∙ ap (λ b. cond b (Some false) (seat_of bytes old other)) n)
        ] refl

    pub kept_with_seat : (other : List ℕ) → is_some (seat_of bytes old other) ≡ true → is_some (seat_of bytes new other) ≡ true
    kept_with_seat other has =
        elim (bytes_eq name other) as (λ b. bytes_eq name other ≡ b → is_some (seat_of bytes new other) ≡ true) [
          | true ↦ λ y. ap is_some (seated other ∙ ap (λ b. cond b (Some false) (seat_of bytes old other)) y)
          | false ↦ λ n. ap is_some (seated other ∙ ap (λ b. cond b (Some false) (seat_of bytes old other)) n) ∙ has
        ] refl

  -- the seat of a name is written
  pub marked : (name : List ℕ) (old new : BTreeMap K Bool) (there : Bool) → WritesThrough by_bytes (λ key. slice_cmp nat_cmp name (bytes key)) old there new
      → is_some (seat_of bytes old name) ≡ true → (other : List ℕ)
      → seat_of bytes new other ≡ (if bytes_eq name other && is_some (seat_of bytes old other) then Some there else seat_of bytes old other)
  marked name old new there w has other =
      let u = w.3 (some_is (seat_of bytes old name) has) in
      let e = seat_changed name old new (Some there) u other in
      elim (bytes_eq name other) as (λ b. bytes_eq name other ≡ b → seat_of bytes new other ≡ (if b && is_some (seat_of bytes old other) then Some there else seat_of bytes old other)) [
        | true ↦ λ y. e ∙ ap (λ b. cond b (Some there) (seat_of bytes old other)) y
            ∙ sym (ap (λ b. if b then Some there else seat_of bytes old other) (ap (λ n. is_some (seat_of bytes old n)) (sym (same_bytes name other y)) ∙ has))
        | false ↦ λ n. e ∙ ap (λ b. cond b (Some there) (seat_of bytes old other)) n
      ] refl
