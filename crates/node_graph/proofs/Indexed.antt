-- Short names are told apart by their numbers, and what keeps an index of them.
use Rattle.std.proofs.Common.{◌≡◌, ℕ, zero, suc, List, [], ◌∷◌, Option, Some, None, Bool, true, false, cond, refl, ap, sym, ◌∙◌, subst, arith, get_or, eqb-true, inl, inr}
use Rattle.std.specs.Prelude.{◌+◌, ◌*◌, ◌^◌, ◌<◌, ◌≤◌, ◌==◌, ◌&&◌, ◌||◌, ◌⊎◌, is_some, length, take}
use Rattle.std.specs.BTreeMap.{BTreeMap, UpdatesBy}
use Rattle.std.specs.FinMap as finite
use Rattle.std.specs.Cmp.{eq_by_cmp_equiv}
use Rattle.std.specs.Int.Digits.{AllBelowBase, number_from_digits_after}
use Rattle.std.specs.Map.{lookup}
use Rattle.std.specs.Ordering.{eq_by_cmp}
use Rattle.std.proofs.Math.Nat.{pow-suc, pow-le-pow_right, one-le-pow, mul_comm, mul_assoc, add-mul}
use Rattle.std.proofs.lemmas.Bool.Decides.{nat_tests}
use Rattle.std.proofs.lemmas.Int.Digits.{number_after_lt, number_after_append}
use Rattle.std.proofs.lemmas.List.{length-take-le, take_more}
use Rattle.node_graph.specs.declared.nodes.Entry.{Entry}
use Rattle.node_graph.specs.declared.short.ShortName.{ShortName}
use Rattle.node_graph.specs.declared.short.TheConstants as limit
use Rattle.node_graph.specs.Tree.{EdgeKey, edge_cmp}
use Rattle.node_graph.specs.Ends.{Ends, name_in}
use Rattle.node_graph.specs.Short.{FindsAlike, FindsNow, IsIndex, IsKeyOf, IsPut, IsShort, LeadsAs, is_same_key, key_of, packed}
use Rattle.node_graph.proofs.Ordered.{edges_total, same_or_other, same, other, both_true, map_of, get-map_of, get-changed}

-- ---- the number of a name

pub all_bytes : (name : List ℕ) → ((place : ℕ) → get_or name place 0 < 256) → AllBelowBase 256 name
all_bytes [] bytes = tt
all_bytes (x ∷ xs) bytes = (bytes zero, all_bytes xs (λ place. bytes (suc place)))

taken_bytes : (k : ℕ) (name : List ℕ) → AllBelowBase 256 name → AllBelowBase 256 (take k name)
taken_bytes zero name bytes = tt
taken_bytes (suc k) [] bytes = tt
taken_bytes (suc k) (x ∷ xs) bytes = (bytes.0, taken_bytes k xs bytes.1)

-- one more byte of a short name, whose number fits
pub pack_step : (name : List ℕ) (i : ℕ) → length name ≤ limit.SHORT → AllBelowBase 256 name → i < length name
    → (packed (take (i + 1) name) ≡ packed (take i name) * 256 + get_or name i 0) × (packed (take (i + 1) name) < 2 ^ 128)
pack_step name i few bytes within =
    let most = number_after_lt 256 1 (take (i + 1) name) (taken_bytes (i + 1) name bytes) in
    let size : length (take (i + 1) name) ≡ i + 1 = length-take-le (i + 1) name (omega arith) in
    let most_is : packed (take (i + 1) name) < 2 * 256 ^ (i + 1) = subst (λ k. packed (take (i + 1) name) < 2 * 256 ^ k) size most in
    let room = pow-le-pow_right {n = 256} (omega arith) {i = i + 1} {j = 15} (omega arith) in
    (ap packed (take_more name i 0 within) ∙ number_after_append 256 1 (take i name) (get_or name i 0 ∷ []), omega (arith, most_is, room))

-- digits as many, each behind a number, are the same where the numbers that they write are
same_digits : (n m : ℕ) (a b : List ℕ) → length a ≡ length b → AllBelowBase 256 a → AllBelowBase 256 b
    → number_from_digits_after 256 n a ≡ number_from_digits_after 256 m b → (n ≡ m) × (a ≡ b)
same_digits n m [] [] size fa fb e = (e, refl)
same_digits n m [] (y ∷ ys) size fa fb e = absurd (omega arith)
same_digits n m (x ∷ xs) [] size fa fb e = absurd (omega arith)
same_digits n m (x ∷ xs) (y ∷ ys) size fa fb e =
    let rest = same_digits (n * 256 + x) (m * 256 + y) xs ys (omega arith) fa.1 fb.1 e in
    let together = rest.0 in
    let low = fa.0 in
    let low_too = fb.0 in
    let first : x ≡ y = omega (arith, together, low, low_too) in
    (omega (arith, together, low, low_too), ap (λ z. z ∷ xs) first ∙ ap (λ zs. y ∷ zs) rest.1)

-- a number is at least what stands before its digits, with a zero for each of them
at_least : (n : ℕ) (a : List ℕ) → n * 256 ^ length a ≤ number_from_digits_after 256 n a
at_least n [] = omega arith
at_least n (x ∷ xs) =
    let more = at_least (n * 256 + x) xs in
    let next = ap (λ p. n * p) (pow-suc 256 (length xs)) in
    let split = add-mul (n * 256) x (256 ^ length xs) in
    let turned = grown n (256 ^ length xs) in
    omega (arith, more, next, split, turned)
  where
    grown : (n p : ℕ) → n * (p * 256) ≡ n * 256 * p
    grown n p = ap (λ q. n * q) (mul_comm p 256) ∙ sym (mul_assoc n 256 p)

-- a shorter name has a lower number
lower : (a b : List ℕ) → AllBelowBase 256 a → length a < length b → packed a < packed b
lower a b fa less =
    let most = number_after_lt 256 1 a fa in
    let least = at_least 1 b in
    let more = pow-le-pow_right {n = 256} (omega arith) {i = suc (length a)} {j = length b} (omega arith) in
    let next = pow-suc 256 (length a) in
    let some = one-le-pow (length a) 256 (omega arith) in
    omega (arith, most, least, more, next, some)

-- names of the same number are one
same_name : (a b : List ℕ) → AllBelowBase 256 a → AllBelowBase 256 b → packed a ≡ packed b → a ≡ b
same_name a b fa fb e = (same_digits 1 1 a b (as_long (length a) (length b) (λ less. omega (arith, e, lower a b fa less)) (λ more. omega (arith, e, lower b a fb more))) fa fb e).1
  where
    as_long : (m n : ℕ) → ¬ (m < n) → ¬ (n < m) → m ≡ n
    as_long m n not_less not_more = grind (arith, not_less, not_more)

-- ---- the key of a short name

both_same : (d e m n : ℕ) → d ≡ e → m ≡ n → (d == e) && (m == n) ≡ true
both_same d e m n p q = grind (arith, nat_tests)

-- keys of short names are one exactly where the names are
same_test : (d e : ℕ) (a b : List ℕ) → AllBelowBase 256 a → AllBelowBase 256 b → is_same_key (key_of d a) (key_of e b) ≡ eq_by_cmp edge_cmp (name_in d a) (name_in e b)
same_test d e a b fa fb =
    elim (same_or_other (name_in d a) (name_in e b)) [
      | same is tied ↦ both_same d e (packed a) (packed b) (ap (λ (k : EdgeKey). k.directory) is) (ap (λ (k : EdgeKey). packed k.name) is) ∙ sym tied
      | other apart untied ↦ tested (is_same_key (key_of d a) (key_of e b)) refl apart ∙ sym untied
    ]
  where
    tested : (t : Bool) → is_same_key (key_of d a) (key_of e b) ≡ t → ¬ (name_in d a ≡ name_in e b) → is_same_key (key_of d a) (key_of e b) ≡ false
    tested false is apart = is
    tested true is apart =
        let parts = both_true (d == e) (packed a == packed b) is in
        absurd (apart (ap (λ n. name_in n a) (eqb-true d e parts.0) ∙ ap (name_in e) (same_name a b fa fb (eqb-true (packed a) (packed b) parts.1))))

-- ---- the index

-- under one key this is found now, and under each other what was
abbrev pub ChangesAt : EdgeKey → Option Entry → Ends → Ends → Type 0
ChangesAt key found old new = (q : EdgeKey) → finite.get new q ≡ cond (eq_by_cmp edge_cmp q key) found (finite.get old q)

pub changed_at : (old new : BTreeMap EdgeKey Entry) (key name : EdgeKey) (found : Option Entry) → UpdatesBy edge_cmp (edge_cmp key) old new found → key ≡ name → ChangesAt name found (map_of old.entries) (map_of new.entries)
changed_at old new key name found u is = subst (λ k. ChangesAt k found (map_of old.entries) (map_of new.entries)) is (get-changed old new key found u)

pub no_index : IsIndex [] true (map_of [])
no_index = record { leads = λ d n short. inl (sym (get-map_of [] (name_in d n))) }

-- from the key of a short name this is found, where the names have it
changed_key : (old new : List (ShortName × Entry)) (directory : ℕ) (name : List ℕ) (found : Option Entry) (key : ShortName) → IsKeyOf key directory name → FindsNow key found old new → (d : ℕ) (n : List ℕ) → IsShort n
    → lookup (is_same_key (key_of d n)) new ≡ cond (eq_by_cmp edge_cmp (name_in d n) (name_in directory name)) found (lookup (is_same_key (key_of d n)) old)
changed_key old new directory name found key of changed d n short =
    changed (key_of d n)
    ∙ ap (λ k. cond (is_same_key k (key_of d n)) found (lookup (is_same_key (key_of d n)) old)) of.is
    ∙ ap (λ b. cond b found (lookup (is_same_key (key_of d n)) old)) (same_test directory d name n of.short.bytes short.bytes ∙ (eq_by_cmp_equiv edges_total).symm (name_in directory name) (name_in d n))

-- what is found changes with the names, or both stay
moves_along : (is : Bool) (was now before after found : Option Entry) (whole : Bool) → now ≡ cond is found was → after ≡ cond is found before → (was ≡ before) ⊎ ((was ≡ None) × (whole ≡ false)) → (now ≡ after) ⊎ ((now ≡ None) × (whole ≡ false))
moves_along true was now before after found whole here there old = inl (here ∙ sym there)
moves_along false was now before after found whole here there (inl alike) = inl (here ∙ alike ∙ sym there)
moves_along false was now before after found whole here there (inr lacks) = inr (here ∙ lacks.0, lacks.1)

-- what is left out isn't found, and from each other key what was
left_out : (is : Bool) (was before after found : Option Entry) (whole : Bool) → (is ≡ true → was ≡ None) → after ≡ cond is found before → (was ≡ before) ⊎ ((was ≡ None) × (whole ≡ false)) → (was ≡ after) ⊎ ((was ≡ None) × (false ≡ false))
left_out true was before after found whole none there old = inr (none refl, refl)
left_out false was before after found whole none there (inl alike) = inl (alike ∙ sym there)
left_out false was before after found whole none there (inr lacks) = inr (lacks.0, refl)

pub index_changes : (old new : List (ShortName × Entry)) (whole : Bool) (names after : Ends) (key : ShortName) (directory : ℕ) (name : List ℕ) (found : Option Entry) → IsKeyOf key directory name → IsIndex old whole names
    → FindsNow key found old new → ChangesAt (name_in directory name) found names after → IsIndex new whole after
index_changes old new whole names after key directory name found of index changed kept = record {
  leads = λ d n short.
      moves_along (eq_by_cmp edge_cmp (name_in d n) (name_in directory name)) (lookup (is_same_key (key_of d n)) old) _ (finite.get names (name_in d n)) _ found whole
      (changed_key old new directory name found key of changed d n short) (kept (name_in d n)) (index.leads d n short);
}

-- a name is cut
pub index_cut : (old new : List (ShortName × Entry)) (was is : Bool) (names after : Ends) (key : ShortName) (directory : ℕ) (name : List ℕ) → IsKeyOf key directory name → IsIndex old was names
    → FindsNow key None old new → is ≡ was → ChangesAt (name_in directory name) None names after → IsIndex new is after
index_cut old new was is names after key directory name of index changed stays kept =
    subst (λ w. IsIndex new w after) (sym stays) (index_changes old new was names after key directory name None of index changed kept)

-- a name is put, or left out
pub index_puts : (old new : List (ShortName × Entry)) (was is : Bool) (names after : Ends) (key : ShortName) (directory : ℕ) (name : List ℕ) (to : Entry) → IsKeyOf key directory name → IsIndex old was names
    → IsPut key to old new was is → ChangesAt (name_in directory name) (Some to) names after → IsIndex new is after
index_puts old new was is names after key directory name to of index (inl put) kept =
    subst (λ w. IsIndex new w after) (sym put.1) (index_changes old new was names after key directory name (Some to) of index put.0 kept)
index_puts old new was is names after key directory name to of index (inr out) kept =
    subst (λ w. IsIndex new w after) (sym out.2) (subst (λ es. IsIndex es false after) (sym out.1) (record {
      leads = λ d n short.
          left_out (eq_by_cmp edge_cmp (name_in d n) (name_in directory name)) (lookup (is_same_key (key_of d n)) old) (finite.get names (name_in d n)) _ (Some to) was
          (λ tied. none d n short tied) (kept (name_in d n)) (index.leads d n short);
    }))
  where
    none : (d : ℕ) (n : List ℕ) → IsShort n → eq_by_cmp edge_cmp (name_in d n) (name_in directory name) ≡ true → lookup (is_same_key (key_of d n)) old ≡ None
    none d n short tied = elim (same_or_other (name_in d n) (name_in directory name)) [
      | same e b ↦ ap (λ (k : EdgeKey). lookup (is_same_key (key_of k.directory k.name)) old) e ∙ ap (λ k. lookup (is_same_key k) old) (sym of.is) ∙ out.0
      | other e b ↦ absurd (let wrong : false ≡ true = sym b ∙ tied in cc)
    ]

-- a longer name concerns no index
pub index_stays : (index : List (ShortName × Entry)) (whole : Bool) (names after : Ends) (directory : ℕ) (name : List ℕ) (found : Option Entry) → limit.SHORT < length name → IsIndex index whole names
    → ChangesAt (name_in directory name) found names after → IsIndex index whole after
index_stays index whole names after directory name found long is kept = record {
  leads = λ d n short.
      let P : Option Entry → Type 0 = λ to. LeadsAs index whole (key_of d n) to in
      subst P (sym (kept (name_in d n) ∙ ap (λ b. cond b found (finite.get names (name_in d n))) (apart d n short))) (is.leads d n short);
}
  where
    apart : (d : ℕ) (n : List ℕ) → IsShort n → eq_by_cmp edge_cmp (name_in d n) (name_in directory name) ≡ false
    apart d n short = elim (same_or_other (name_in d n) (name_in directory name)) [
      | same e b ↦ absurd (let size = ap (λ (k : EdgeKey). length k.name) e in let few = short.few in omega (arith, size, few, long))
      | other e b ↦ b
    ]

-- an index in another order
pub index_kept : (old new : List (ShortName × Entry)) (was is : Bool) (names : Ends) → FindsAlike old new → is ≡ was → IsIndex old was names → IsIndex new is names
index_kept old new was is names same_found stays index = subst (λ w. IsIndex new w names) (sym stays) (record {
  leads = λ d n short.
      let P : Option Entry → Type 0 = λ found. (found ≡ finite.get names (name_in d n)) ⊎ ((found ≡ None) × (was ≡ false)) in
      subst P (sym (same_found (key_of d n))) (index.leads d n short);
})

-- what is found in an index is where the name leads; what isn't leads nowhere, where the index is whole
pub index_found : (index : List (ShortName × Entry)) (whole : Bool) (names : Ends) (key : ShortName) (directory : ℕ) (name : List ℕ) (found : Option Entry) → IsKeyOf key directory name → IsIndex index whole names
    → found ≡ lookup (is_same_key key) index → is_some found || whole ≡ true → found ≡ finite.get names (name_in directory name)
index_found index whole names key directory name found of is there told =
    by_cases found whole (finite.get names (name_in directory name)) told
    (let P : Option Entry → Type 0 = λ f. (f ≡ finite.get names (name_in directory name)) ⊎ ((f ≡ None) × (whole ≡ false)) in
    subst P (sym (there ∙ ap (λ k. lookup (is_same_key k) index) of.is)) (is.leads directory name of.short))
  where
    by_cases : (f : Option Entry) (w : Bool) (to : Option Entry) → is_some f || w ≡ true → (f ≡ to) ⊎ ((f ≡ None) × (w ≡ false)) → f ≡ to
    by_cases f w to told (inl alike) = alike
    by_cases None true to told (inr lacks) = absurd (let wrong : true ≡ false = lacks.1 in cc)
    by_cases None false to told (inr lacks) = absurd (cc)
    by_cases (Some x) w to told (inr lacks) = absurd (let wrong : Some x ≡ None = lacks.0 in cc)
