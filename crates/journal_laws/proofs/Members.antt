-- Members of lists that are found or kept, and numbers among others.
use Rattle.std.proofs.Common.{◌≡◌, ℕ, zero, suc, ◌<◌, ◌||◌, ◌⊎◌, Bool, true, false, cond, List, [], ◌∷◌, length, slice_index_or, Some, None, filter, find, map, All, AllPairs, Contains, refl, sym, ap, ◌∙◌, subst, inl, inr, arith}
use Rattle.std.specs.List.{list_any}
use Rattle.journal_laws.proofs.Lists.{pairs-head, pairs-tail}
use Rattle.std.proofs.lemmas.List.Elements.{All-filter, All-contains, All-contains_itself, filter_passes}

pub contains_here : {X : Type 0} (x : X) (xs : List X) → Contains (x ∷ xs) x
contains_here x xs = (0, omega arith, refl)

pub contains_later : {X : Type 0} (x : X) (y : X) (xs : List X) → Contains xs x → Contains (y ∷ xs) x
contains_later x y xs h = (suc h.0, omega (arith, h.1), h.2)

-- a member is the first one or one of the others
pub contains_cases : {X : Type 0} (x : X) (y : X) (xs : List X) → Contains (y ∷ xs) x → (y ≡ x) ⊎ Contains xs x
contains_cases x y xs h = by_place h.0 h.1 h.2 where
  by_place : (k : ℕ) → k < suc (length xs) → slice_index_or (y ∷ xs) k x ≡ x → (y ≡ x) ⊎ Contains xs x
  by_place zero l e = inl e
  by_place (suc k) l e = inr (k, omega (arith, l), e)

pub contains_none : {X : Type 0} (x : X) → Contains [] x → ⊥
contains_none x h = omega (arith, h.1)

-- what a member is mapped to is a member
pub contains_map : {X Y : Type 0} (f : X → Y) (xs : List X) (x : X) → Contains xs x → Contains (map f xs) (f x)
contains_map f [] x h = absurd (contains_none x h)
contains_map f (y ∷ xs) x h = by_place (contains_cases x y xs h) (contains_map f xs x) where
  by_place : (y ≡ x) ⊎ Contains xs x → (Contains xs x → Contains (map f xs) (f x)) → Contains (f y ∷ map f xs) (f x)
  by_place (inl e) rest = subst (λ z. Contains (z ∷ map f xs) (f x)) (ap f (sym e)) (contains_here (f x) (map f xs))
  by_place (inr h) rest = contains_later (f x) (f y) (map f xs) (rest h)

-- a member of what is mapped is that of a member
pub mapped_member : {X Y : Type 0} (f : X → Y) (y : Y) (xs : List X) → Contains (map f xs) y → (x : X) × Contains xs x × (f x ≡ y)
mapped_member f y [] p = absurd (contains_none y p)
mapped_member {X} {Y} f y (x ∷ xs) p = by_place (mapped_member f y xs) (contains_cases y (f x) (map f xs) p) where
  by_place : (Contains (map f xs) y → (z : X) × Contains xs z × (f z ≡ y)) → (f x ≡ y) ⊎ Contains (map f xs) y → (z : X) × Contains (x ∷ xs) z × (f z ≡ y)
  by_place rest (inl e) = (x, contains_here x xs, e)
  by_place rest (inr q) = let later = rest q in (later.0, contains_later later.0 x xs later.1, later.2)

-- ---- what a filter keeps

pub kept_of : {X : Type 0} (p : X → Bool) (xs : List X) (x : X) → Contains (filter p xs) x → Contains xs x × (p x ≡ true)
kept_of p xs x h = (
  All-contains (Contains xs) (filter p xs) x (All-filter p (Contains xs) xs (All-contains_itself xs)) h,
  All-contains (λ y. p y ≡ true) (filter p xs) x (filter_passes p xs) h,
)

kept_by : {X : Type 0} (p : X → Bool) (x y : X) (xs : List X) → (y ≡ x) ⊎ Contains xs x → (Contains xs x → Contains (filter p xs) x) → p x ≡ true → (b : Bool) → p y ≡ b → Contains (cond b (y ∷ filter p xs) (filter p xs)) x
kept_by p x y xs (inl e) rest passes true is = subst (λ z. Contains (z ∷ filter p xs) x) (sym e) (contains_here x (filter p xs))
kept_by p x y xs (inl e) rest passes false is = let wrong : true ≡ false = sym passes ∙ ap p (sym e) ∙ is in absurd (cc)
kept_by p x y xs (inr h) rest passes true is = contains_later x y (filter p xs) (rest h)
kept_by p x y xs (inr h) rest passes false is = rest h

pub kept : {X : Type 0} (p : X → Bool) (xs : List X) (x : X) → Contains xs x → p x ≡ true → Contains (filter p xs) x
kept p [] x h passes = absurd (contains_none x h)
kept p (y ∷ xs) x h passes = kept_by p x y xs (contains_cases x y xs h) (λ g. kept p xs x g passes) passes (p y) refl

-- ---- what is found

found_by : {X : Type 0} (p : X → Bool) (x y : X) (xs : List X) → (find p xs ≡ Some x → Contains xs x × (p x ≡ true)) → (b : Bool) → p y ≡ b → cond b (Some y) (find p xs) ≡ Some x → Contains (y ∷ xs) x × (p x ≡ true)
found_by p x y xs rest true is h =
    let same : y ≡ x = cc in
    (subst (λ z. Contains (z ∷ xs) x) (sym same) (contains_here x xs), ap p (sym same) ∙ is)
found_by p x y xs rest false is h = (contains_later x y xs (rest h).0, (rest h).1)

pub found : {X : Type 0} (p : X → Bool) (xs : List X) (x : X) → find p xs ≡ Some x → Contains xs x × (p x ≡ true)
found p [] x h = absurd (cc)
found p (y ∷ xs) x h = found_by p x y xs (found p xs x) (p y) refl h

-- of those that pass the first one is found: each other one stands behind it
first_by : {X : Type 0} (R : X → X → Type 0) (p : X → Bool) (x y z : X) (xs : List X) → All (R y) xs → (find p xs ≡ Some x → Contains xs z → (x ≡ z) ⊎ R x z) → p z ≡ true →
    (b : Bool) → p y ≡ b → cond b (Some y) (find p xs) ≡ Some x → (y ≡ z) ⊎ Contains xs z → (x ≡ z) ⊎ R x z
first_by R p x y z xs behind rest passes true is h (inl e) = let same : y ≡ x = cc in inl (sym same ∙ e)
first_by R p x y z xs behind rest passes true is h (inr e) = let same : y ≡ x = cc in inr (subst (λ a. R a z) same (All-contains (R y) xs z behind e))
first_by R p x y z xs behind rest passes false is h (inl e) = let wrong : true ≡ false = sym passes ∙ ap p (sym e) ∙ is in absurd (cc)
first_by R p x y z xs behind rest passes false is h (inr e) = rest h e

pub first_found : {X : Type 0} (R : X → X → Type 0) (p : X → Bool) (xs : List X) (x z : X) → AllPairs R xs → find p xs ≡ Some x → Contains xs z → p z ≡ true → (x ≡ z) ⊎ R x z
first_found R p [] x z pairs h there passes = absurd (cc)
first_found R p (y ∷ xs) x z pairs h there passes =
    first_by R p x y z xs (pairs-head R y xs pairs) (λ f g. first_found R p xs x z (pairs-tail R y xs pairs) f g passes) passes (p y) refl h (contains_cases z y xs there)

-- where none is found, none passes
none_by : {X : Type 0} (p : X → Bool) (y z : X) (xs : List X) → (find p xs ≡ None → Contains xs z → p z ≡ false) → (b : Bool) → p y ≡ b → cond b (Some y) (find p xs) ≡ None → (y ≡ z) ⊎ Contains xs z → p z ≡ false
none_by p y z xs rest true is h at = absurd (cc)
none_by p y z xs rest false is h (inl e) = ap p (sym e) ∙ is
none_by p y z xs rest false is h (inr e) = rest h e

pub none_found : {X : Type 0} (p : X → Bool) (xs : List X) (z : X) → find p xs ≡ None → Contains xs z → p z ≡ false
none_found p [] z h there = absurd (contains_none z there)
none_found p (y ∷ xs) z h there = none_by p y z xs (λ f g. none_found p xs z f g) (p y) refl h (contains_cases z y xs there)

-- ---- tests of a list

any_by : {X : Type 0} (p : X → Bool) (y z : X) (xs : List X) → (list_any p xs ≡ false → Contains xs z → p z ≡ false) → (b : Bool) → p y ≡ b → (b || list_any p xs) ≡ false → (y ≡ z) ⊎ Contains xs z → p z ≡ false
any_by p y z xs rest true is h at = absurd (cc)
any_by p y z xs rest false is h (inl e) = ap p (sym e) ∙ is
any_by p y z xs rest false is h (inr e) = rest h e

-- where none passes, a member doesn't
pub none_passes : {X : Type 0} (p : X → Bool) (xs : List X) (z : X) → list_any p xs ≡ false → Contains xs z → p z ≡ false
none_passes p [] z h there = absurd (contains_none z there)
none_passes p (y ∷ xs) z h there = any_by p y z xs (λ f g. none_passes p xs z f g) (p y) refl h (contains_cases z y xs there)
