-- Lists of numbers that are apart, and how many they are.
use Rattle.std.proofs.Common.{◌≡◌, ◌≢◌, ℕ, suc, ◌<◌, ◌≤◌, ◌==◌, ◌||◌, ◌⊎◌, Bool, true, false, cond, List, [], ◌∷◌, ◌++◌, length, map, filter, All, AllPairs, Contains, refl, sym, ap, ◌∙◌, inl, inr, if◌then◌else◌, arith}
use Rattle.std.proofs.lemmas.Bool.{eqb-true, eq-eqb, or_parts, or_from, false_from_ne_true, true≢false}
use Rattle.std.proofs.lemmas.List.Elements.{All-nil, All-cons, All-contains}
use Rattle.std.proofs.lemmas.List.Kept.{AllPairs-cons, AllPairs-filter}
use Rattle.link_admission.specs.Numbering.{among}
use Rattle.vfs_journal.specs.Deaths.{spread}
use Rattle.vfs_journal.specs.Entries.{Sent, endpoints_in}
use Rattle.vfs_journal.specs.Starts.{Bound}
use Rattle.journal_laws.proofs.Among.{among_of, member_of}
use Rattle.journal_laws.proofs.Members.{contains_here, contains_later, kept_of}
use Rattle.journal_laws.proofs.Lists.{pairs-head, pairs-tail}
use Rattle.journal_laws.proofs.Spreading.{among-append, among_sides}

pub or-none : (b : Bool) → (b || false) ≡ b
or-none true = refl
or-none false = refl

-- none of these stands twice
abbrev pub Apart : List ℕ → Type 0
Apart [] = Unit {0}
Apart (x ∷ xs) = (among x xs ≡ false) × Apart xs

-- ---- as many of one as of another

abbrev removed : ℕ → List ℕ → List ℕ
removed x [] = []
removed x (y ∷ ys) = if y == x then ys else y ∷ removed x ys

removed_length : (x : ℕ) (ys : List ℕ) → among x ys ≡ true → suc (length (removed x ys)) ≡ length ys
removed_length x [] h = absurd (true≢false (sym h))
removed_length x (y ∷ ys) h = by_test (y == x) h (removed_length x ys) where
  by_test : (b : Bool) → (b || among x ys) ≡ true → (among x ys ≡ true → suc (length (removed x ys)) ≡ length ys) → suc (length (if b then ys else y ∷ removed x ys)) ≡ suc (length ys)
  by_test true h rest = refl
  by_test false h rest = ap suc (rest h)

removed_keeps : (x n : ℕ) (ys : List ℕ) → (x == n) ≡ false → among n ys ≡ true → among n (removed x ys) ≡ true
removed_keeps x n [] apart h = h
removed_keeps x n (y ∷ ys) apart h = by_test (y == x) refl (y == n) refl h (removed_keeps x n ys apart) where
  by_test : (b : Bool) → (y == x) ≡ b → (c : Bool) → (y == n) ≡ c → (c || among n ys) ≡ true → (among n ys ≡ true → among n (removed x ys) ≡ true) → among n (if b then ys else y ∷ removed x ys) ≡ true
  by_test true is true at h rest = absurd (true≢false (sym (ap (λ (m : ℕ). m == n) (sym (eqb-true y x is)) ∙ at) ∙ apart))
  by_test true is false at h rest = h
  by_test false is true at h rest = ap (λ (b : Bool). b || among n (removed x ys)) at
  by_test false is false at h rest = ap (λ (b : Bool). b || among n (removed x ys)) at ∙ rest h

apart_from : (x n : ℕ) (xs : List ℕ) → among x xs ≡ false → among n xs ≡ true → (x == n) ≡ false
apart_from x n xs none h = false_from_ne_true (x == n) (λ e. true≢false (sym h ∙ ap (λ (m : ℕ). among m xs) (sym (eqb-true x n e)) ∙ none))

pub first_among : (x : ℕ) (xs : List ℕ) → among x (x ∷ xs) ≡ true
first_among x xs = ap (λ (b : Bool). b || among x xs) (eq-eqb x x refl)

pub later_among : (n x : ℕ) (xs : List ℕ) → among n xs ≡ true → among n (x ∷ xs) ≡ true
later_among n x xs h = by_test (x == n) where
  by_test : (b : Bool) → (b || among n xs) ≡ true
  by_test true = refl
  by_test false = h

pub no_more : (xs ys : List ℕ) → Apart xs → ((n : ℕ) → among n xs ≡ true → among n ys ≡ true) → length xs ≤ length ys
no_more [] ys apart within = omega arith
no_more (x ∷ xs) ys apart within =
    let fewer = removed_length x ys (within x (first_among x xs)) in
    let rest = no_more xs (removed x ys) apart.1 (λ n h. removed_keeps x n ys (apart_from x n xs apart.0 h) (within n (later_among n x xs h))) in
    omega arith

-- ---- lists that are apart

pub apart_append : (xs ys : List ℕ) → Apart xs → Apart ys → ((n : ℕ) → among n xs ≡ true → among n ys ≡ false) → Apart (xs ++ ys)
apart_append [] ys left right none = right
apart_append (x ∷ xs) ys left right none = (
  among-append x xs ys ∙ or_from (among x xs) (among x ys) left.0 (none x (first_among x xs)),
  apart_append xs ys left.1 right (λ n h. none n (later_among n x xs h)),
)

pub apart_one : (x : ℕ) → Apart (x ∷ [])
apart_one x = (refl, tt)

-- a filter's members
kept_among : (p : ℕ → Bool) (n : ℕ) (xs : List ℕ) → among n (filter p xs) ≡ true → (among n xs ≡ true) × (p n ≡ true)
kept_among p n xs h = let at = kept_of p xs n (member_of n (filter p xs) h) in (among_of n xs at.0, at.1)

pub apart_filter : (p : ℕ → Bool) (xs : List ℕ) → Apart xs → Apart (filter p xs)
apart_filter p [] apart = tt
apart_filter p (x ∷ xs) apart = by_test (p x) (apart_filter p xs apart.1) where
  by_test : (b : Bool) → Apart (filter p xs) → Apart (cond b (x ∷ filter p xs) (filter p xs))
  by_test true rest = (false_from_ne_true (among x (filter p xs)) (λ h. true≢false (sym (kept_among p x xs h).0 ∙ apart.0)), rest)
  by_test false rest = rest

abbrev pub ends_of : List Bound → List ℕ
ends_of bounds = map (λ bound. bound.endpoint) bounds

-- as pairs
each_apart : (x : ℕ) (xs : List ℕ) → among x xs ≡ false → All (λ y. x ≢ y) xs
each_apart x [] h = All-nil (λ y. x ≢ y)
each_apart x (y ∷ ys) h =
    let parts = or_parts (y == x) (among x ys) h in
    All-cons (λ z. x ≢ z) y ys (λ e. true≢false (sym (eq-eqb y x (sym e)) ∙ parts.0)) (each_apart x ys parts.1)

pub apart_pairs : (xs : List ℕ) → Apart xs → AllPairs (λ x y. x ≢ y) xs
apart_pairs [] apart = λ i j d l m. absurd (omega arith)
apart_pairs (x ∷ xs) apart = AllPairs-cons (λ a b. a ≢ b) x xs (each_apart x xs apart.0) (apart_pairs xs apart.1)

pub from_pairs : (xs : List ℕ) → AllPairs (λ one other. one ≢ other) xs → Apart xs
from_pairs [] h = tt
from_pairs (x ∷ xs) h = (
  false_from_ne_true (among x xs) (λ g. All-contains (λ (y : ℕ). x ≢ y) xs x (pairs-head (λ (a b : ℕ). a ≢ b) x xs h) (member_of x xs g) refl),
  from_pairs xs (pairs-tail (λ (a b : ℕ). a ≢ b) x xs h),
)

-- ---- what entries carry

abbrev Before : Sent → Sent → Type 0
Before one other = one.place < other.place

-- the entries stand in order, none carries an endpoint twice, and no two carry the same
pub record AreOwn (ones : List Sent) : Type 0 where
  pub rises : AllPairs Before ones
  pub each : (one : Sent) → Contains ones one → Apart (endpoints_in one)
  pub once : (one other : Sent) (n : ℕ) → Contains ones one → Contains ones other → among n (endpoints_in one) ≡ true → among n (endpoints_in other) ≡ true → one ≡ other

own_tail : (x : Sent) (ones : List Sent) → AreOwn (x ∷ ones) → AreOwn ones
own_tail x ones own = record {
  rises = pairs-tail Before x ones own.rises;
  each = λ one p. own.each one (contains_later one x ones p);
  once = λ one other n p q. own.once one other n (contains_later one x ones p) (contains_later other x ones q);
}

pub own_filter : (p : Sent → Bool) (ones : List Sent) → AreOwn ones → AreOwn (filter p ones)
own_filter p ones own = record {
  rises = AllPairs-filter Before p ones own.rises;
  each = λ one h. own.each one (kept_of p ones one h).0;
  once = λ one other n h g. own.once one other n (kept_of p ones one h).0 (kept_of p ones other g).0;
}

-- what the first one carries no later one does
own_first : (x other : Sent) (ones : List Sent) (n : ℕ) → AreOwn (x ∷ ones) → Contains ones other → among n (endpoints_in x) ≡ true → among n (endpoints_in other) ≡ false
own_first x other ones n own p h = false_from_ne_true (among n (endpoints_in other))
    (λ g.
    let same : x ≡ other = own.once x other n (contains_here x ones) (contains_later other x ones p) h g in
    let after : x.place < other.place = All-contains (Before x) ones other (pairs-head Before x ones own.rises) p in
    let equal : x.place ≡ other.place = ap (λ (s : Sent). s.place) same in
    omega arith)

-- ---- deaths

-- none of these is carried by an entry
abbrev pub AreUncarried : List ℕ → List Sent → Type 0
AreUncarried dying ones = (n : ℕ) (one : Sent) → among n dying ≡ true → Contains ones one → among n (endpoints_in one) ≡ false

pub apart_spread : (dying : List ℕ) (ones : List Sent) → AreOwn ones → Apart dying → AreUncarried dying ones → Apart (spread dying ones)
apart_spread dying [] own apart none = apart
apart_spread dying (x ∷ ones) own apart none =
    by_test (among x.endpoint dying)
    (apart_spread (dying ++ endpoints_in x) ones (own_tail x ones own) more (λ n one h p. with_side n one p (among_sides n dying (endpoints_in x) h)))
    (apart_spread dying ones (own_tail x ones own) apart (λ n one h p. none n one h (contains_later one x ones p))) where
      more : Apart (dying ++ endpoints_in x)
      more = apart_append dying (endpoints_in x) apart (own.each x (contains_here x ones)) (λ n h. none n x h (contains_here x ones))

      with_side : (n : ℕ) (one : Sent) → Contains ones one → (among n dying ≡ true) ⊎ (among n (endpoints_in x) ≡ true) → among n (endpoints_in one) ≡ false
      with_side n one p (inl h) = none n one h (contains_later one x ones p)
      with_side n one p (inr h) = own_first x one ones n own p h

      by_test : (b : Bool) → Apart (spread (dying ++ endpoints_in x) ones) → Apart (spread dying ones) → Apart (spread (if b then dying ++ endpoints_in x else dying) ones)
      by_test true more' same = more'
      by_test false more' same = same
