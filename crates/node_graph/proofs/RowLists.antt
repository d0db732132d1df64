-- Elements of lists by place and by number, after a write and after a push; rows of nodes of which one is filled.
use Rattle.std.proofs.Common.{◌≡◌, ◌≢◌, ℕ, zero, suc, ◌+◌, ◌-◌, ◌<◌, ◌≤◌, ◌==◌, true, false, eqb-true, List, [], ◌∷◌, ◌++◌, length, Option, Some, None, refl, ap, sym, ◌∙◌, arith, add-one}
use Rattle.std.specs.Prelude.{slice_get, slice_set}
use Rattle.std.specs.Option.{option_map, option_map_or, unwrap_or}
use Rattle.std.proofs.lemmas.Bool.Decides.{nat_tests}
use Rattle.node_graph.specs.Tree.{NodeRow, filled, row_of}

pub slice_get-set_same : {X : Type 0} (xs : List X) (i : ℕ) (v : X) → i < length xs → slice_get (slice_set xs i v) i ≡ Some v
slice_get-set_same [] i v within = absurd (omega arith)
slice_get-set_same (x ∷ xs) zero v within = refl
slice_get-set_same (x ∷ xs) (suc i) v within = slice_get-set_same xs i v (omega arith)

pub slice_get-set_other : {X : Type 0} (xs : List X) (i j : ℕ) (v : X) → j ≢ i → slice_get (slice_set xs i v) j ≡ slice_get xs j
slice_get-set_other [] i j v apart = refl
slice_get-set_other (x ∷ xs) zero zero v apart = absurd (apart refl)
slice_get-set_other (x ∷ xs) zero (suc j) v apart = refl
slice_get-set_other (x ∷ xs) (suc i) zero v apart = refl
slice_get-set_other (x ∷ xs) (suc i) (suc j) v apart = slice_get-set_other xs i j v (λ same. apart (ap suc same))

pub slice_get-push : {X : Type 0} (xs : List X) (x : X) → slice_get (xs ++ x ∷ []) (length xs) ≡ Some x
slice_get-push [] x = refl
slice_get-push (y ∷ xs) x = slice_get-push xs x

pub slice_get-push_other : {X : Type 0} (xs : List X) (x : X) (i : ℕ) → i ≢ length xs → slice_get (xs ++ x ∷ []) i ≡ slice_get xs i
slice_get-push_other [] x zero apart = absurd (apart refl)
slice_get-push_other [] x (suc i) apart = refl
slice_get-push_other (y ∷ xs) x zero apart = refl
slice_get-push_other (y ∷ xs) x (suc i) apart = slice_get-push_other xs x i (λ same. apart (ap suc same))

-- row by number
pub row_of-set_same : {X : Type 0} (xs : List X) (number : ℕ) (v : X) → 1 ≤ number → number ≤ length xs → row_of (slice_set xs (number - 1) v) number ≡ Some v
row_of-set_same xs zero v some within = absurd (omega arith)
row_of-set_same xs (suc i) v some within = let place : suc i - 1 ≡ i = omega arith in rw place (slice_get-set_same xs i v (omega arith))

pub row_of-set_other : {X : Type 0} (xs : List X) (number n : ℕ) (v : X) → 1 ≤ number → n ≢ number → row_of (slice_set xs (number - 1) v) n ≡ row_of xs n
row_of-set_other xs zero n v some apart = absurd (omega arith)
row_of-set_other xs (suc i) zero v some apart = refl
row_of-set_other xs (suc i) (suc n) v some apart = let place : suc i - 1 ≡ i = omega arith in rw place (slice_get-set_other xs i n v (λ same. apart (ap suc same)))

pub row_of-push_same : {X : Type 0} (xs : List X) (x : X) → row_of (xs ++ x ∷ []) (length xs + 1) ≡ Some x
row_of-push_same xs x = rw add-one (slice_get-push xs x)

pub row_of-push_other : {X : Type 0} (xs : List X) (x : X) (n : ℕ) → n ≢ length xs + 1 → row_of (xs ++ x ∷ []) n ≡ row_of xs n
row_of-push_other xs x zero apart = refl
row_of-push_other xs x (suc n) apart = slice_get-push_other xs x n (λ same. apart (ap suc same ∙ sym (add-one _)))

-- a row that is there has a number from 1 to the count
pub record IsWithin {X : Type 0} (xs : List X) (number : ℕ) : Type 0 where
  pub some : 1 ≤ number
  pub few : number ≤ length xs

slice_within : {X : Type 0} (xs : List X) (i : ℕ) (x : X) → slice_get xs i ≡ Some x → i < length xs
slice_within [] i x is = absurd (cc)
slice_within (y ∷ xs) zero x is = omega arith
slice_within (y ∷ xs) (suc i) x is = let rest = slice_within xs i x is in omega arith

pub row_within : {X : Type 0} (xs : List X) (number : ℕ) (x : X) → row_of xs number ≡ Some x → IsWithin xs number
row_within xs zero x is = absurd (cc)
row_within xs (suc i) x is = let within = slice_within xs i x is in record { some = omega arith; few = omega arith }

pub row_exists : {X : Type 0} (xs : List X) (number : ℕ) → 1 ≤ number → number ≤ length xs → (x : X) × (row_of xs number ≡ Some x)
row_exists [] number some few = absurd (omega arith)
row_exists (x ∷ xs) zero some few = absurd (omega arith)
row_exists (x ∷ xs) (suc zero) some few = (x, refl)
row_exists (x ∷ xs) (suc (suc i)) some few = row_exists xs (suc i) (omega arith) (omega arith)

pub row_past : {X : Type 0} (xs : List X) (number : ℕ) → length xs < number → row_of xs number ≡ None
row_past xs zero past = absurd (omega arith)
row_past [] (suc i) past = refl
row_past (x ∷ xs) (suc zero) past = absurd (omega arith)
row_past (x ∷ xs) (suc (suc i)) past = row_past xs (suc i) (omega arith)

-- what a mapped option is of
pub mapped : {A B : Type 0} (f : A → B) (o : Option A) (y : B) → option_map f o ≡ Some y → (x : A) × (o ≡ Some x) × (f x ≡ y)
mapped f None y is = absurd (cc)
mapped f (Some x) y is = (x, refl, ap (λ o. unwrap_or o y) is)

pub same_some : {A : Type 0} (x y : A) → Some x ≡ Some y → x ≡ y
same_some x y is = ap (λ o. unwrap_or o x) is

pub length-set_row : {X : Type 0} (xs : List X) (i : ℕ) (v : X) → length (slice_set xs i v) ≡ length xs
length-set_row [] i v = refl
length-set_row (x ∷ xs) zero v = refl
length-set_row (x ∷ xs) (suc i) v = ap suc (length-set_row xs i v)

-- a number is the one that changed, or another
pub data Cases (n number : ℕ) : Type 0 where
  same : n ≡ number → n == number ≡ true → Cases n number
  other : n ≢ number → n == number ≡ false → Cases n number

pub cases : (n number : ℕ) → Cases n number
cases n number =
    elim (n == number) as (λ b. n == number ≡ b → Cases n number) [
      | true ↦ λ e. same (eqb-true n number e) e
      | false ↦ λ e. other (grind (arith, nat_tests)) e
    ] refl

-- rows of which one has other bytes
pub filled_rows : (rows : List NodeRow) (number : ℕ) (row : NodeRow) (bytes : List ℕ) → row_of rows number ≡ Some row → filled rows number bytes ≡ slice_set rows (number - 1) (record { kind = row.kind; bytes = bytes })
filled_rows rows number row bytes there = ap (λ o. option_map_or (λ (r : NodeRow). slice_set rows (number - 1) (record { kind = r.kind; bytes = bytes })) o rows) there
