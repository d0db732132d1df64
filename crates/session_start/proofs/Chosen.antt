-- Lists of what is chosen, as a loop goes on.
use Rattle.std.proofs.Common.{◌≡◌, ℕ, zero, suc, ◌+◌, ◌<◌, Bool, true, false, cond, List, [], ◌∷◌, ◌++◌, length, map, filter, take, drop, get_or, Some, None, All, refl, ap, ◌∙◌, arith}
use Rattle.std.specs.Prelude.{slice_get, find}
use Rattle.std.specs.List.{enumerate_from}
use Rattle.std.specs.Option.{option_map}
use Rattle.std.proofs.lemmas.List.{take_more, map-append}
use Rattle.std.proofs.lemmas.List.Elements.{All-head, All-tail, filter-append}
use Rattle.std.proofs.lemmas.Option.{slice_get_within, get_or_from_slice_get}

pub some_at : {X : Type 0} (xs : List X) (i : ℕ) → i < length xs → (x : X) × (slice_get xs i ≡ Some x)
some_at [] i within = absurd (omega arith)
some_at (x ∷ xs) zero within = (x, refl)
some_at (x ∷ xs) (suc i) within = some_at xs i (omega arith)

pub get_behind : {X : Type 0} (xs : List X) (y : X) (ys : List X) → slice_get (xs ++ y ∷ ys) (length xs) ≡ Some y
get_behind [] y ys = refl
get_behind (x ∷ xs) y ys = get_behind xs y ys

pub take_front : {X : Type 0} (xs ys : List X) → take (length xs) (xs ++ ys) ≡ xs
take_front [] ys = refl
take_front (x ∷ xs) ys = ap (λ rest. x ∷ rest) (take_front xs ys)

pub get_or_behind : {X : Type 0} (xs : List X) (y : X) (ys : List X) → get_or (xs ++ y ∷ ys) (length xs) y ≡ y
get_or_behind [] y ys = refl
get_or_behind (x ∷ xs) y ys = get_or_behind xs y ys

pub within_behind : {X : Type 0} (xs : List X) (y : X) (ys : List X) → length xs < length (xs ++ y ∷ ys)
within_behind [] y ys = omega arith
within_behind (x ∷ xs) y ys = let rest = within_behind xs y ys in omega (arith, rest)

pub get_or_before : {X : Type 0} (xs : List X) (ys : List X) (k : ℕ) (d : X) → k < length xs → get_or (xs ++ ys) k d ≡ get_or xs k d
get_or_before [] ys k d within = absurd (omega arith)
get_or_before (x ∷ xs) ys zero d within = refl
get_or_before (x ∷ xs) ys (suc k) d within = get_or_before xs ys k d (omega arith)

pub split_list : {X : Type 0} (xs : List X) (i : ℕ) (x : X) → slice_get xs i ≡ Some x → xs ≡ take i xs ++ x ∷ drop (suc i) xs
split_list [] i x there = absurd (let wrong : None ≡ Some x = there in cc)
split_list (y ∷ ys) zero x there = let same : y ≡ x = cc in ap (λ z. z ∷ ys) same
split_list (y ∷ ys) (suc i) x there = ap (λ rest. y ∷ rest) (split_list ys i x there)

module _ {X Y : Type 0} (f : X → Y) (p : X → Bool) (xs : List X) (i : ℕ) (x : X) (there : slice_get xs i ≡ Some x) where
  abbrev chosen : List X → List Y
  chosen ys = map f (filter p ys)

  one_more : take (i + 1) xs ≡ take i xs ++ x ∷ []
  one_more =
      take_more xs i x (slice_get_within xs i x there) ∙ ap (λ y. take i xs ++ y ∷ []) (get_or_from_slice_get xs i x x there)

  pub chosen_more : p x ≡ true → map f (filter p (take (i + 1) xs)) ≡ map f (filter p (take i xs)) ++ f x ∷ []
  chosen_more is =
      ap chosen one_more ∙ ap (map f) (filter-append p (take i xs) (x ∷ [])) ∙ map-append f (filter p (take i xs)) (filter p (x ∷ []))
      ∙ ap (λ b. chosen (take i xs) ++ map f (cond b (x ∷ []) [])) is

  pub chosen_same : p x ≡ false → map f (filter p (take (i + 1) xs)) ≡ map f (filter p (take i xs))
  chosen_same is =
      ap chosen one_more ∙ ap (map f) (filter-append p (take i xs) (x ∷ [])) ∙ map-append f (filter p (take i xs)) (filter p (x ∷ []))
      ∙ ap (λ b. chosen (take i xs) ++ map f (cond b (x ∷ []) [])) is ∙ nothing (chosen (take i xs))
    where
      nothing : (ys : List Y) → ys ++ [] ≡ ys
      nothing [] = refl
      nothing (y ∷ ys) = ap (λ rest. y ∷ rest) (nothing ys)

  pub chosen_split : p x ≡ true → map f (filter p xs) ≡ map f (filter p (take i xs)) ++ f x ∷ map f (filter p (drop (suc i) xs))
  chosen_split is =
      ap chosen (split_list xs i x there) ∙ ap (map f) (filter-append p (take i xs) (x ∷ drop (suc i) xs))
      ∙ map-append f (filter p (take i xs)) (filter p (x ∷ drop (suc i) xs))
      ∙ ap (λ b. chosen (take i xs) ++ map f (cond b (x ∷ filter p (drop (suc i) xs)) (filter p (drop (suc i) xs)))) is

pub enumerated : {X : Type 0} (n : ℕ) (xs : List X) (i : ℕ) (x : X) → slice_get xs i ≡ Some x → slice_get (enumerate_from n xs) i ≡ Some (n + i, x)
enumerated n [] i x there = absurd (let wrong : None ≡ Some x = there in cc)
enumerated n (y ∷ ys) zero x there =
    let same : y ≡ x = cc in
    let here : n ≡ n + 0 = omega arith in
    ap (λ z. Some (n, z)) same ∙ ap (λ m. Some (m, x)) here
enumerated n (y ∷ ys) (suc i) x there =
    let here : n + 1 + i ≡ n + suc i = omega arith in
    enumerated (n + 1) ys i x there ∙ ap (λ m. Some (m, x)) here

-- ---- filtering before mapping, or behind it

pub filter-map : {X Y : Type 0} (f : X → Y) (p : Y → Bool) (xs : List X) → filter p (map f xs) ≡ map f (filter (λ x. p (f x)) xs)
filter-map f p [] = refl
filter-map {X} {Y} f p (x ∷ xs) = by_test (p (f x)) (filter-map f p xs) where
  by_test : (b : Bool) → filter p (map f xs) ≡ map f (filter (λ x. p (f x)) xs) → cond b (f x ∷ filter p (map f xs)) (filter p (map f xs)) ≡ map f (cond b (x ∷ filter (λ x. p (f x)) xs) (filter (λ x. p (f x)) xs))
  by_test true rest = ap (λ ys. f x ∷ ys) rest
  by_test false rest = rest

pub found_none : {X : Type 0} (p : X → Bool) (xs : List X) → All (λ x. p x ≡ false) xs → find p xs ≡ None
found_none p [] h = refl
found_none p (x ∷ xs) h = rw (All-head (λ y. p y ≡ false) x xs h) (found_none p xs (All-tail (λ y. p y ≡ false) x xs h))

pub none_chosen : {X : Type 0} (p : X → Bool) (xs : List X) → All (λ x. p x ≡ false) xs → filter p xs ≡ []
none_chosen p [] h = refl
none_chosen p (x ∷ xs) h = rw (All-head (λ y. p y ≡ false) x xs h) (none_chosen p xs (All-tail (λ y. p y ≡ false) x xs h))

pub find-map : {X Y : Type 0} (f : X → Y) (p : Y → Bool) (xs : List X) → find p (map f xs) ≡ option_map f (find (λ x. p (f x)) xs)
find-map f p [] = refl
find-map f p (x ∷ xs) = by_test (p (f x)) (find-map f p xs) where
  by_test : (b : Bool) → find p (map f xs) ≡ option_map f (find (λ x. p (f x)) xs) → cond b (Some (f x)) (find p (map f xs)) ≡ option_map f (cond b (Some x) (find (λ x. p (f x)) xs))
  by_test true rest = refl
  by_test false rest = rest
