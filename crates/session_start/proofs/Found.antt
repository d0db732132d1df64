-- Lists: what is found in one, and what a filter keeps.
use Rattle.std.proofs.Common.{◌≡◌, ℕ, zero, suc, ◌+◌, ◌<◌, ◌≤◌, ◌==◌, Bool, true, false, not, cond, if◌then◌else◌, nat_lt, List, [], ◌∷◌, ◌++◌, length, map, filter, get_or, Option, Some, None, ◌⊎◌, All, Contains, refl, sym, ap, ◌∙◌, subst, inl, inr, arith}
use Rattle.std.specs.Prelude.{slice_get}
use Rattle.std.specs.List.{find, position, position_or_len, enumerate_from}
use Rattle.std.specs.Option.{option_or, is_none}
use Rattle.std.proofs.lemmas.Bool.{eqb-true, eqb-false, ltb-false, lt-ltb, le-ltb}
use Rattle.std.proofs.lemmas.List.{length_push}
use Rattle.std.proofs.lemmas.List.Elements.{All-nil, All-cons, All-contains}
use Rattle.std.proofs.lemmas.List.Folds.{find_at, position_or_len_push}
use Rattle.std.proofs.lemmas.List.Quantifiers.{position-Some}
use Rattle.std.proofs.lemmas.List.Sums.{prefix_len-le-length}
use Rattle.std.proofs.lemmas.Option.{slice_get_past, slice_get-get_or, get_or_from_slice_get, slice_get_within}

pub same_some : {A : Type 0} {x y : A} → Some x ≡ Some y → x ≡ y
same_some e = cc

pub from_none : {X : Type 0} (o : Option X) → is_none o ≡ true → o ≡ None
from_none None h = refl
from_none (Some x) h = absurd (cc)

-- ---- positions

pub position_there : {X : Type 0} (p : X → Bool) (xs : List X) (k : ℕ) → position p xs ≡ Some k → (x : X) × (slice_get xs k ≡ Some x) × (p x ≡ true)
position_there p [] k h = absurd (cc)
position_there p (x ∷ xs) k h = let at = position-Some p (x ∷ xs) k x h in (get_or (x ∷ xs) k x, slice_get-get_or (x ∷ xs) k x at.0, at.1)

last_cases : (last at count next : ℕ) (b : Bool) → at ≤ count → last ≡ cond (at == count) (count + cond b 0 1) at → next ≡ count + 1 →
    cond (nat_lt last next) (Some last) None ≡ option_or (cond (nat_lt at count) (Some at) None) (if b then Some count else None)
last_cases last at count next b few is more = by_place (at == count) refl b is where
  by_place : (same : Bool) → (at == count) ≡ same → (b : Bool) → last ≡ cond same (count + cond b 0 1) at →
      cond (nat_lt last next) (Some last) None ≡ option_or (cond (nat_lt at count) (Some at) None) (if b then Some count else None)
  by_place true end true last_is =
      let here : at ≡ count = eqb-true at count end in
      let last_here : last ≡ count = omega (arith, last_is) in
      rw (lt-ltb last next (omega arith), le-ltb at count (omega arith)) (ap Some last_here)
  by_place true end false last_is =
      let here : at ≡ count = eqb-true at count end in
      rw (le-ltb last next (omega (arith, last_is)), le-ltb at count (omega arith))
  by_place false end b last_is =
      let before : at < count = (let apart = eqb-false at count end in omega (arith, apart)) in
      rw (lt-ltb last next (omega (arith, last_is)), lt-ltb at count before) (ap Some last_is)

pub position_push : {X : Type 0} (p : X → Bool) (xs : List X) (y : X) → position p (xs ++ y ∷ []) ≡ option_or (position p xs) (if p y then Some (length xs) else None)
position_push p xs y = last_cases (position_or_len p (xs ++ y ∷ [])) (position_or_len p xs) (length xs) (length (xs ++ y ∷ [])) (p y) (prefix_len-le-length (λ x. not (p x)) xs) (position_or_len_push p xs y) (length_push xs y)

none_within : {X : Type 0} (p : X → Bool) (xs : List X) (at : ℕ) → at ≡ position_or_len p xs → (b : Bool) → nat_lt at (length xs) ≡ b → cond b (Some at) None ≡ None → slice_get xs at ≡ None
none_within p xs at is true e h = absurd (cc)
none_within p xs at is false e h = slice_get_past xs at (ltb-false at (length xs) e)

-- what isn't found stands nowhere
pub found_none : {X : Type 0} (p : X → Bool) (xs : List X) → position p xs ≡ None → find p xs ≡ None
found_none p xs h = find_at p xs ∙ none_within p xs (position_or_len p xs) refl (nat_lt (position_or_len p xs) (length xs)) refl h

some_within : {X : Type 0} (p : X → Bool) (xs : List X) (at k : ℕ) (b : Bool) → cond b (Some at) None ≡ Some k → slice_get xs at ≡ slice_get xs k
some_within p xs at k true h = let same : at ≡ k = cc in ap (slice_get xs) same
some_within p xs at k false h = absurd (cc)

pub found_at : {X : Type 0} (p : X → Bool) (xs : List X) (k : ℕ) → position p xs ≡ Some k → find p xs ≡ slice_get xs k
found_at p xs k h = find_at p xs ∙ some_within p xs (position_or_len p xs) k (nat_lt (position_or_len p xs) (length xs)) h

pub position_none : {X : Type 0} (p : X → Bool) (xs : List X) → find p xs ≡ None → position p xs ≡ None
position_none {X} p xs h = by_place (position p xs) refl where
  by_place : (o : Option ℕ) → position p xs ≡ o → position p xs ≡ None
  by_place None e = e
  by_place (Some k) e =
      let at = position_there p xs k e in
      let there : None ≡ Some at.0 = sym h ∙ found_at p xs k e ∙ at.1 in
      absurd (cc)

-- what isn't found passes nowhere
pub none_pass : {X : Type 0} (p : X → Bool) (xs : List X) → find p xs ≡ None → All (λ x. p x ≡ false) xs
none_pass p [] h = All-nil (λ x. p x ≡ false)
none_pass {X} p (x ∷ xs) h = by_test (p x) refl h (λ g. none_pass p xs g) where
  by_test : (b : Bool) → p x ≡ b → cond b (Some x) (find p xs) ≡ None → (find p xs ≡ None → All (λ y. p y ≡ false) xs) → All (λ y. p y ≡ false) (x ∷ xs)
  by_test true e h rest = absurd (cc)
  by_test false e h rest = All-cons (λ y. p y ≡ false) x xs e (rest h)

or_cond : {X : Type 0} (b : Bool) (o rest : Option X) (y : X) → cond b (Some y) (option_or o rest) ≡ option_or (cond b (Some y) o) rest
or_cond true o rest y = refl
or_cond false o rest y = refl

pub find_push : {X : Type 0} (p : X → Bool) (xs : List X) (x : X) → find p (xs ++ x ∷ []) ≡ option_or (find p xs) (cond (p x) (Some x) None)
find_push p [] x = refl
find_push p (y ∷ ys) x = ap (λ o. cond (p y) (Some y) o) (find_push p ys x) ∙ or_cond (p y) (find p ys) (cond (p x) (Some x) None) y

-- what stands in a list with one more is what stood there, or the last
pub push_at : {X : Type 0} (xs : List X) (y : X) (k : ℕ) (x : X) → slice_get (xs ++ y ∷ []) k ≡ Some x → (slice_get xs k ≡ Some x) ⊎ ((k ≡ length xs) × (y ≡ x))
push_at [] y zero x h = inr (refl, same_some h)
push_at [] y (suc k) x h = absurd (cc)
push_at (z ∷ zs) y zero x h = inl h
push_at (z ∷ zs) y (suc k) x h = elim (push_at zs y k x h) [ inl e ↦ inl e | inr p ↦ inr (ap suc p.0, p.1) ]

-- ---- what a list has

pub contains_at : {X : Type 0} (xs : List X) (i : ℕ) (x : X) → slice_get xs i ≡ Some x → Contains xs x
contains_at xs i x h = (i, slice_get_within xs i x h, get_or_from_slice_get xs i x x h)

pub contains_map : {X Y : Type 0} (f : X → Y) (xs : List X) (x : X) → Contains xs x → Contains (map f xs) (f x)
contains_map {X} {Y} f xs x h = All-contains (λ y. Contains (map f xs) (f y)) xs x (each xs) h where
  later : (y : Y) (ys : List Y) (z : Y) → Contains ys z → Contains (y ∷ ys) z
  later y ys z (k, within, is) = (suc k, omega arith, is)

  each : (xs : List X) → All (λ y. Contains (map f xs) (f y)) xs
  each [] = All-nil (λ y. Contains (map f []) (f y))
  each (y ∷ ys) = All-cons (λ z. Contains (f y ∷ map f ys) (f z)) y ys (zero, omega arith, refl) (λ k d l. later (f y) (map f ys) (f (get_or ys k d)) (each ys k d l))

pub contains_filter : {X : Type 0} (p : X → Bool) (xs : List X) (x : X) → Contains xs x → p x ≡ true → Contains (filter p xs) x
contains_filter {X} p xs x h passes = All-contains (λ y. p y ≡ true → Contains (filter p xs) y) xs x (each xs) h passes where
  later : (y : X) (ys : List X) (z : X) → Contains ys z → Contains (y ∷ ys) z
  later y ys z (k, within, is) = (suc k, omega arith, is)

  here : (y : X) (ys : List X) (b : Bool) → b ≡ true → Contains (cond b (y ∷ ys) ys) y
  here y ys true e = (zero, omega arith, refl)
  here y ys false e = absurd (cc)

  kept : (y : X) (ys : List X) (z : X) (b : Bool) → Contains ys z → Contains (cond b (y ∷ ys) ys) z
  kept y ys z true h = later y ys z h
  kept y ys z false h = h

  each : (xs : List X) → All (λ y. p y ≡ true → Contains (filter p xs) y) xs
  each [] = All-nil (λ y. p y ≡ true → Contains [] y)
  each (y ∷ ys) =
      All-cons (λ z. p z ≡ true → Contains (cond (p y) (y ∷ filter p ys) (filter p ys)) z) y ys (λ e. here y (filter p ys) (p y) e)
      (λ k d l e. kept y (filter p ys) (get_or ys k d) (p y) (each ys k d l e))

-- ---- each item with its index

pub enumerate_push : {X : Type 0} (n : ℕ) (xs : List X) (x : X) → enumerate_from n (xs ++ x ∷ []) ≡ enumerate_from n xs ++ (n + length xs, x) ∷ []
enumerate_push n [] x = let same : n ≡ n + 0 = omega arith in ap (λ (m : ℕ). (m, x) ∷ []) same
enumerate_push n (y ∷ ys) x =
    let same : n + 1 + length ys ≡ n + suc (length ys) = omega arith in
    ap (λ more. (n, y) ∷ more) (enumerate_push (n + 1) ys x ∙ ap (λ (m : ℕ). enumerate_from (n + 1) ys ++ (m, x) ∷ []) same)

-- each stands at its index behind the first
pub enumerate_at : {X : Type 0} (n : ℕ) (xs : List X) → All (λ item. (k : ℕ) × (item.0 ≡ n + k) × (slice_get xs k ≡ Some item.1)) (enumerate_from n xs)
enumerate_at {X} n [] = All-nil (λ (item : ℕ × X). (k : ℕ) × (item.0 ≡ n + k) × (slice_get [] k ≡ Some item.1))
enumerate_at {X} n (x ∷ xs) =
    All-cons (λ (item : ℕ × X). (k : ℕ) × (item.0 ≡ n + k) × (slice_get (x ∷ xs) k ≡ Some item.1)) (n, x) (enumerate_from (n + 1) xs) (zero, omega arith, refl)
    (λ k d l. let at = enumerate_at (n + 1) xs k d l in let is = at.1 in (suc at.0, omega (arith, is), at.2))

pub enumerate_has : {X : Type 0} (n : ℕ) (xs : List X) (k : ℕ) (x : X) → slice_get xs k ≡ Some x → Contains (enumerate_from n xs) (n + k, x)
enumerate_has n [] k x h = absurd (cc)
enumerate_has {X} n (y ∷ ys) zero x h =
    let same : y ≡ x = cc in
    let index : n ≡ n + 0 = omega arith in
    subst (λ (p : ℕ × X). Contains ((n, y) ∷ enumerate_from (n + 1) ys) p) (ap (λ (z : X). (n, z)) same ∙ ap (λ (m : ℕ). (m, x)) index) (zero, omega arith, refl)
enumerate_has {X} n (y ∷ ys) (suc k) x h =
    let rest = enumerate_has (n + 1) ys k x h in
    let index : n + 1 + k ≡ n + suc k = omega arith in
    subst (λ (m : ℕ). Contains ((n, y) ∷ enumerate_from (n + 1) ys) (m, x)) index (later (n, y) (enumerate_from (n + 1) ys) (n + 1 + k, x) rest)
  where
    later : (p : ℕ × X) (ps : List (ℕ × X)) (q : ℕ × X) → Contains ps q → Contains (p ∷ ps) q
    later p ps q (j, within, is) = (suc j, omega arith, is)
