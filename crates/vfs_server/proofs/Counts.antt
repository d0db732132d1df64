-- Counts over the numbers of nodes: of those that some elements of a list name there are no more than elements.
use Rattle.std.proofs.Common.{◌≡◌, ℕ, zero, suc, ◌+◌, ◌<◌, ◌≤◌, ◌==◌, ◌||◌, Bool, true, false, List, [], ◌∷◌, length, refl, sym, ap, ◌∙◌, arith}
use Rattle.std.specs.Prelude.{nat_lt, count_by, sum_by}
use Rattle.std.specs.List.{list_any}
use Rattle.std.proofs.lemmas.Bool.{eqb-true, lt-ltb, ne_eqb}
use Rattle.std.proofs.lemmas.List.Sums.{sum_by-append, sum_by-cons}
use Rattle.std.proofs.Math.Nat.{zero-add}
use Rattle.node_graph.specs.Graph.{numbers_to}
use Rattle.vfs_server.proofs.Maps.{one_if}

-- ---- one test for another

-- something passes where the count of those that pass isn't 0
pub some_pass : {X : Type 0} (p : X → Bool) (xs : List X) → nat_lt 0 (count_by p xs) ≡ list_any p xs
some_pass p [] = refl
some_pass p (x ∷ xs) = ap (nat_lt 0) (sum_by-cons (λ y. one_if (p y)) x xs) ∙ by_test (p x) (count_by p xs) (list_any p xs) (some_pass p xs) where
  by_test : (b : Bool) (count : ℕ) (any : Bool) → nat_lt 0 count ≡ any → nat_lt 0 (one_if b + count) ≡ (b || any)
  by_test true count any is = lt-ltb 0 (1 + count) (omega arith)
  by_test false count any is = ap (nat_lt 0) (zero-add count) ∙ is

pub either_passes : (m n : ℕ) → nat_lt 0 (m + n) ≡ (nat_lt 0 m || nat_lt 0 n)
either_passes zero n = ap (nat_lt 0) (zero-add n)
either_passes (suc m) n = lt-ltb 0 (suc m + n) (omega arith) ∙ ap (λ b. b || nat_lt 0 n) (sym (lt-ltb 0 (suc m) (omega arith)))

pub same_count : (p q : ℕ → Bool) → ((n : ℕ) → p n ≡ q n) → (ns : List ℕ) → count_by p ns ≡ count_by q ns
same_count p q alike [] = refl
same_count p q alike (n ∷ ns) =
    sum_by-cons (λ m. one_if (p m)) n ns ∙ ap (λ b. one_if b + count_by p ns) (alike n) ∙ ap (λ c. one_if (q n) + c) (same_count p q alike ns) ∙ sym (sum_by-cons (λ m. one_if (q m)) n ns)

-- ---- each number once

abbrev is_it : ℕ → ℕ → Bool
is_it k n = k == n

next_counted : (k made : ℕ) → count_by (is_it k) (numbers_to (suc made)) ≡ count_by (is_it k) (numbers_to made) + one_if (k == made + 1)
next_counted k made =
    let more = sum_by-append (λ n. one_if (is_it k n)) (numbers_to made) ((made + 1) ∷ []) in
    more ∙ omega (arith, sum_by-cons (λ n. one_if (is_it k n)) (made + 1) [])

none_above : (k made : ℕ) → made < k → count_by (is_it k) (numbers_to made) ≡ 0
none_above k zero over = refl
none_above k (suc made) over =
    let none = none_above k made (omega (arith, over)) in
    let next = next_counted k made in
    let other : one_if (k == made + 1) ≡ 0 = ap one_if (ne_eqb k (made + 1) (λ same. omega (arith, same, over))) in
    omega (arith, none, next, other)

pub once : (k made : ℕ) → count_by (is_it k) (numbers_to made) ≤ 1
once k zero = omega arith
once k (suc made) = by_number (k == made + 1) refl (once k made) where
  by_number : (b : Bool) → (k == made + 1) ≡ b → count_by (is_it k) (numbers_to made) ≤ 1 → count_by (is_it k) (numbers_to (suc made)) ≤ 1
  by_number true e few =
      let same = eqb-true k (made + 1) e in
      let none = none_above k made (omega (arith, same)) in
      let one : one_if (k == made + 1) ≡ 1 = ap one_if e in
      let next = next_counted k made in
      omega (arith, none, one, next)
  by_number false e few =
      let one : one_if (k == made + 1) ≡ 0 = ap one_if e in
      let next = next_counted k made in
      omega (arith, one, next, few)

-- ---- numbers that elements of a list name

pub sum_apart : (f g h : ℕ → ℕ) → ((n : ℕ) → h n ≡ f n + g n) → (ns : List ℕ) → sum_by h ns ≡ sum_by f ns + sum_by g ns
sum_apart f g h is [] = refl
sum_apart f g h is (n ∷ ns) =
    let a = sum_by-cons f n ns in
    let b = sum_by-cons g n ns in
    let c = sum_by-cons h n ns in
    let here = is n in
    let rest = sum_apart f g h is ns in
    omega (arith, a, b, c, here, rest)

no_sum : (ns : List ℕ) → sum_by (λ (n : ℕ). 0) ns ≡ 0
no_sum [] = refl
no_sum (n ∷ ns) = let more = sum_by-cons (λ (m : ℕ). 0) n ns in let rest = no_sum ns in omega (arith, more, rest)

pub named_once : {X : Type 0} (f : X → ℕ) (xs : List X) (made : ℕ) → sum_by (λ n. count_by (λ x. f x == n) xs) (numbers_to made) ≤ length xs
named_once f [] made = let none = no_sum (numbers_to made) in omega (arith, none)
named_once f (x ∷ xs) made =
    let apart = sum_apart (λ n. one_if (f x == n)) (λ n. count_by (λ y. f y == n) xs) (λ n. count_by (λ y. f y == n) (x ∷ xs))
    (λ n. sum_by-cons (λ y. one_if (f y == n)) x xs) (numbers_to made) in
    let here = once (f x) made in
    let rest = named_once f xs made in
    omega (arith, apart, here, rest)
