-- Lists in order, and what is kept of them.
use Rattle.std.proofs.Common.{◌≡◌, ℕ, suc, ◌+◌, All, AllPairs, map, arith, ◌==◌, ◌&&◌, Bool, true, false, cond, List, [], ◌∷◌, ◌++◌, reverse, Option, Some, None, filter, filter_map, option_to_list, refl, sym, ap, ◌∙◌}
use Rattle.std.specs.List.{enumerate_from}
use Rattle.std.proofs.lemmas.Bool.{eqb-true, eqb-false}
use Rattle.std.proofs.lemmas.List.{reverse-append}
use Rattle.std.proofs.lemmas.List.Elements.{All-append, All-cons, All-head, All-nil, All-tail, All-map, filter_map-append}
use Rattle.std.proofs.lemmas.List.Kept.{AllPairs-cons}

-- the newest one stands last when read in order
pub reverse_more : {X : Type 0} (x : X) (xs : List X) → reverse (x ∷ xs) ≡ reverse xs ++ x ∷ []
reverse_more x xs = reverse-append (x ∷ []) xs

one_kept : {X Y : Type 0} (h : X → Option Y) (x : X) (o : Option Y) → h x ≡ o → filter_map h (x ∷ []) ≡ option_to_list o
one_kept h x None e = rw e
one_kept h x (Some y) e = rw e

-- what is picked out of one more
pub filter_map-more : {X Y : Type 0} (h : X → Option Y) (x : X) (xs : List X) → filter_map h (reverse (x ∷ xs)) ≡ filter_map h (reverse xs) ++ option_to_list (h x)
filter_map-more h x xs =
    ap (filter_map h) (reverse_more x xs)
    ∙ filter_map-append h (reverse xs) (x ∷ [])
    ∙ ap (λ ys. filter_map h (reverse xs) ++ ys) (one_kept h x (h x) refl)

-- a filter of a filter
filter-filter_by : {X : Type 0} (p q : X → Bool) (x : X) (xs : List X) → filter p (filter q xs) ≡ filter (λ y. q y && p y) xs → (b : Bool) → q x ≡ b →
    filter p (cond (q x) (x ∷ filter q xs) (filter q xs)) ≡ cond (q x && p x) (x ∷ filter (λ y. q y && p y) xs) (filter (λ y. q y && p y) xs)
filter-filter_by p q x xs rest true e = rw (e, rest)
filter-filter_by p q x xs rest false e = rw (e, rest)

pub filter-filter : {X : Type 0} (p q : X → Bool) (xs : List X) → filter p (filter q xs) ≡ filter (λ y. q y && p y) xs
filter-filter p q [] = refl
filter-filter p q (x ∷ xs) = filter-filter_by p q x xs (filter-filter p q xs) (q x) refl

-- numbers are compared either way round
eqb-swapped : (a b : ℕ) (s t : Bool) → (a == b) ≡ s → (b == a) ≡ t → (a == b) ≡ (b == a)
eqb-swapped a b true true e f = e ∙ sym f
eqb-swapped a b false false e f = e ∙ sym f
eqb-swapped a b true false e f = absurd (eqb-false b a f (sym (eqb-true a b e)))
eqb-swapped a b false true e f = absurd (eqb-false a b e (sym (eqb-true b a f)))

pub eqb_sym : (a b : ℕ) → (a == b) ≡ (b == a)
eqb_sym a b = eqb-swapped a b (a == b) (b == a) refl refl

-- ---- what holds of each

pub both_hold : {X : Type 0} (P Q : X → Type 0) (xs : List X) → All P xs → All Q xs → All (λ x. P x × Q x) xs
both_hold P Q xs a b k d within = (a k d within, b k d within)

pub all_numbered : {X : Type 0} (P : X → Type 0) (first : ℕ) (xs : List X) → All P xs → All (λ (one : ℕ × X). P one.1) (enumerate_from first xs)
all_numbered P first [] h = All-nil (λ one. P one.1)
all_numbered P first (x ∷ xs) h = All-cons (λ one. P one.1) (first, x) (enumerate_from (first + 1) xs) (All-head P x xs h) (all_numbered P (first + 1) xs (All-tail P x xs h))

-- ---- pairs

pub pairs-tail : {X : Type 0} (R : X → X → Type 0) (y : X) (xs : List X) → AllPairs R (y ∷ xs) → AllPairs R xs
pairs-tail R y xs h = λ i j d l m. h (suc i) (suc j) d (omega arith) (omega arith)

pub pairs-head : {X : Type 0} (R : X → X → Type 0) (y : X) (xs : List X) → AllPairs R (y ∷ xs) → All (R y) xs
pairs-head R y xs h = λ k d l. h 0 (suc k) d (omega arith) (omega arith)

pub pairs-append : {X : Type 0} (R : X → X → Type 0) (xs ys : List X) → AllPairs R xs → AllPairs R ys → All (λ x. All (R x) ys) xs → AllPairs R (xs ++ ys)
pairs-append R [] ys a b c = b
pairs-append R (x ∷ xs) ys a b c =
    AllPairs-cons R x (xs ++ ys) (All-append (R x) xs ys (pairs-head R x xs a) (All-head (λ z. All (R z) ys) x xs c))
    (pairs-append R xs ys (pairs-tail R x xs a) b (All-tail (λ z. All (R z) ys) x xs c))

left_all : {X : Type 0} (P : X → Type 0) (xs ys : List X) → All P (xs ++ ys) → All P xs
left_all P [] ys h = All-nil P
left_all P (x ∷ xs) ys h = All-cons P x xs (All-head P x (xs ++ ys) h) (left_all P xs ys (All-tail P x (xs ++ ys) h))

pub pairs-left : {X : Type 0} (R : X → X → Type 0) (xs ys : List X) → AllPairs R (xs ++ ys) → AllPairs R xs
pairs-left R [] ys h = λ i j d a b. absurd (omega arith)
pairs-left R (x ∷ xs) ys h = AllPairs-cons R x xs (left_all (R x) xs ys (pairs-head R x (xs ++ ys) h)) (pairs-left R xs ys (pairs-tail R x (xs ++ ys) h))

pub pairs-map : {X Y : Type 0} (R : Y → Y → Type 0) (f : X → Y) (xs : List X) → AllPairs (λ a b. R (f a) (f b)) xs → AllPairs R (map f xs)
pairs-map R f [] a = λ i j d l m. absurd (omega arith)
pairs-map R f (x ∷ xs) a =
    AllPairs-cons R (f x) (map f xs) (All-map (R (f x)) f xs (pairs-head (λ b c. R (f b) (f c)) x xs a)) (pairs-map R f xs (pairs-tail (λ b c. R (f b) (f c)) x xs a))
