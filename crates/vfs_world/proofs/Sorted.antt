-- Numbers that rise, and stand once each.
use Rattle.std.proofs.Common.{◌≡◌, ℕ, ◌+◌, ◌<◌, ◌==◌, ◌||◌, Bool, true, false, cond, List, [], ◌∷◌, ◌++◌, filter, get_or, length, map, take, Contains, Option, Some, None, refl, sym, ap, ◌∙◌, subst, arith}
use Rattle.std.specs.FinMap as finite
use Rattle.std.specs.FinMap.{nat_cmp-IsAntisymmetric, find, put, entries-insert, get-from_entries, len-empty, len-entries, same_map}
use Rattle.std.specs.List.{AllByRecursion, dedup}
use Rattle.std.specs.List.Sorted.{IsPermutation, IsSorted, IsStrictlySortedBy}
use Rattle.std.specs.Ordering.{eq_by_cmp, nat_cmp}
use Rattle.std.specs.declared.cmp.Ordering.TheVariants.{Less}
use Rattle.std.proofs.lemmas.Bool.{eqb-true, eq-eqb}
use Rattle.std.proofs.lemmas.Bool.Decides.{nat_tests}
use Rattle.std.proofs.lemmas.Cmp.{nat_cmp_total}
use Rattle.std.proofs.lemmas.List.{append-nil, nil_from_length}
use Rattle.std.proofs.lemmas.List.Elements.{filter_more}
use Rattle.std.proofs.lemmas.List.Folds.{Any-from_list_any, list_any-from_Any}
use Rattle.std.proofs.lemmas.List.Kept.{Contains-dedup_nat, Contains-from_dedup}
use Rattle.std.proofs.lemmas.List.Sorted.{Contains-permutation, IsPermutation-sym}
use Rattle.std.proofs.lemmas.Map.Keys.{IsStrictlyIncreasing-dedup, sorted_from_strictly_increasing, sorted_head, sorted_tail}
use Rattle.link_admission.specs.Numbering.{among}
use Rattle.vfs_journal.specs.Output.{rising}

abbrev entries_of : List ℕ → List (ℕ × Bool)
entries_of numbers = map (λ number. (number, true)) numbers

same_number : (q x : ℕ) → eq_by_cmp nat_cmp q x ≡ (x == q)
same_number q x = grind (arith, nat_tests)

found_by : (b c : Bool) → cond b (Some true) (cond c (Some true) None) ≡ cond (b || c) (Some true) None
found_by true c = refl
found_by false c = refl

-- what a map of numbers has
found : (q : ℕ) (xs : List ℕ) → find nat_cmp q (entries_of xs) ≡ cond (among q xs) (Some true) None
found q [] = refl
found q (x ∷ xs) =
    ap (λ (b : Bool). cond b (Some true) (find nat_cmp q (entries_of xs))) (same_number q x)
    ∙ ap (λ (o : Option Bool). cond (x == q) (Some true) o) (found q xs)
    ∙ found_by (x == q) (among q xs)

put_front : (y : ℕ) (ys : List ℕ) → AllByRecursion (λ z. nat_cmp y z ≡ Less) ys → put nat_cmp y true (entries_of ys) ≡ (y, true) ∷ entries_of ys
put_front y [] h = refl
put_front y (z ∷ ys) h = rw h.0 refl

entries_back : (ys : List ℕ) → IsStrictlySortedBy nat_cmp ys → finite.entries (finite.from_entries {R = nat_cmp} (entries_of ys)) ≡ entries_of ys
entries_back [] h = nil_from_length _ (sym (len-entries (finite.empty {X = Bool} {R = nat_cmp})) ∙ len-empty nat_cmp Bool)
entries_back (y ∷ ys) h =
    entries-insert nat_cmp_total (finite.from_entries (entries_of ys)) y true
    ∙ ap (put nat_cmp y true) (entries_back ys (sorted_tail nat_cmp y ys h))
    ∙ put_front y ys (sorted_head nat_cmp y ys h)

numbers_back : (ys : List ℕ) → map (λ (e : ℕ × Bool). e.0) (entries_of ys) ≡ ys
numbers_back [] = refl
numbers_back (y ∷ ys) = ap (λ zs. y ∷ zs) (numbers_back ys)

-- numbers that rise are those of any list that has the same
pub rising_is : (xs ys : List ℕ) → IsStrictlySortedBy nat_cmp ys → ((q : ℕ) → among q xs ≡ among q ys) → rising xs ≡ ys
rising_is xs ys rises same =
    let equal : finite.from_entries {R = nat_cmp} (entries_of xs) ≡ finite.from_entries {R = nat_cmp} (entries_of ys) =
    same_map nat_cmp_total nat_cmp-IsAntisymmetric _ _ (λ q.
    get-from_entries nat_cmp_total (entries_of xs) q ∙ found q xs ∙ ap (λ (b : Bool). cond b (Some true) None) (same q) ∙ sym (found q ys) ∙ sym (get-from_entries nat_cmp_total (entries_of ys) q)) in
    ap finite.keys equal ∙ ap (map (λ (e : ℕ × Bool). e.0)) (entries_back ys rises) ∙ numbers_back ys

member : (q : ℕ) (xs : List ℕ) → among q xs ≡ true → Contains xs q
member q xs h =
    let at = Any-from_list_any (λ m. m == q) xs h in
    let is : at.1 ≡ q = eqb-true at.1 q at.4 in
    subst (Contains xs) is (at.0, at.2, at.3)

is_among : (q : ℕ) (xs : List ℕ) → Contains xs q → among q xs ≡ true
is_among q xs h = list_any-from_Any (λ m. m == q) xs (h.0, q, h.1, h.2, eq-eqb q q refl)

same_test : (a b : Bool) → (a ≡ true → b ≡ true) → (b ≡ true → a ≡ true) → a ≡ b
same_test true b to from = sym (to refl)
same_test false true to from = from refl
same_test false false to from = refl

-- a sort and a `dedup` leave the same numbers, rising
pub sorted_once : (xs ys zs : List ℕ) → IsPermutation xs ys → IsSorted nat_cmp ys → zs ≡ dedup (λ a b. a == b) ys → zs ≡ rising xs
sorted_once xs ys zs moved sorted once =
    once
    ∙ sym (rising_is xs (dedup (λ a b. a == b) ys) (sorted_from_strictly_increasing _ (IsStrictlyIncreasing-dedup ys sorted))
    (λ q. same_test (among q xs) (among q (dedup (λ a b. a == b) ys))
    (λ h. is_among q _ (Contains-dedup_nat ys q (Contains-permutation xs ys q moved (member q xs h))))
    (λ h. is_among q xs (Contains-permutation ys xs q (IsPermutation-sym xs ys moved) (Contains-from_dedup (λ a b. a == b) ys q (member q _ h))))))

-- ---- numbers that pass a test, with one more

pub passes_more : (p : ℕ → Bool) (numbers kept more : List ℕ) (at : ℕ) → at < length numbers → p (get_or numbers at 0) ≡ true → kept ≡ filter p (take at numbers) →
    more ≡ kept ++ get_or numbers at 0 ∷ [] → more ≡ filter p (take (at + 1) numbers)
passes_more p numbers kept more at within passes so is =
    is ∙ ap (λ (xs : List ℕ). xs ++ get_or numbers at 0 ∷ []) so
    ∙ sym (filter_more p numbers at 0 within ∙ ap (λ (b : Bool). filter p (take at numbers) ++ cond b (get_or numbers at 0 ∷ []) []) passes)

pub passes_over : (p : ℕ → Bool) (numbers kept more : List ℕ) (at : ℕ) → at < length numbers → p (get_or numbers at 0) ≡ false → kept ≡ filter p (take at numbers) →
    more ≡ kept → more ≡ filter p (take (at + 1) numbers)
passes_over p numbers kept more at within fails so is =
    is ∙ so
    ∙ sym (filter_more p numbers at 0 within ∙ ap (λ (b : Bool). filter p (take at numbers) ++ cond b (get_or numbers at 0 ∷ []) []) fails ∙ append-nil (filter p (take at numbers)))
