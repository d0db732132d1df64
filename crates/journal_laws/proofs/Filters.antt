-- What filters keep.
use Rattle.std.proofs.Common.{◌≡◌, ◌||◌, ◌∙◌, Bool, true, false, cond, List, [], ◌∷◌, ◌++◌, filter, find, map, slice_index_or, Some, All, Contains, refl, ap}
use Rattle.std.proofs.lemmas.List.Elements.{All-contains_itself, All-head, All-tail, filter-append}
use Rattle.std.proofs.lemmas.Bool.{or_parts}
use Rattle.std.specs.List.{flat_map, list_any}

-- where none passes none is kept, and all where each does
pub none_kept : {X : Type 0} (p : X → Bool) (xs : List X) → All (λ x. p x ≡ false) xs → filter p xs ≡ []
none_kept p [] h = refl
none_kept p (x ∷ xs) h =
    ap (λ (b : Bool). cond b (x ∷ filter p xs) (filter p xs)) (All-head (λ y. p y ≡ false) x xs h)
    ∙ none_kept p xs (All-tail (λ y. p y ≡ false) x xs h)

pub all_kept : {X : Type 0} (p : X → Bool) (xs : List X) → All (λ x. p x ≡ true) xs → filter p xs ≡ xs
all_kept p [] h = refl
all_kept p (x ∷ xs) h =
    ap (λ (b : Bool). cond b (x ∷ filter p xs) (filter p xs)) (All-head (λ y. p y ≡ true) x xs h)
    ∙ ap (λ ys. x ∷ ys) (all_kept p xs (All-tail (λ y. p y ≡ true) x xs h))

-- what holds of each member holds of all
pub all_of : {X : Type 0} (P : X → Type 0) (xs : List X) → ((x : X) → Contains xs x → P x) → All P xs
all_of P xs each = λ k d l. each (slice_index_or xs k d) (All-contains_itself xs k d l)

-- none is kept of what is mapped, or joined, where none is kept of each
pub none_mapped : {X Y : Type 0} (p : Y → Bool) (f : X → Y) (xs : List X) → ((x : X) → p (f x) ≡ false) → filter p (map f xs) ≡ []
none_mapped p f [] none = refl
none_mapped p f (x ∷ xs) none = ap (λ (b : Bool). cond b (f x ∷ filter p (map f xs)) (filter p (map f xs))) (none x) ∙ none_mapped p f xs none

pub none_joined : {X Y : Type 0} (p : Y → Bool) (f : X → List Y) (xs : List X) → ((x : X) → filter p (f x) ≡ []) → filter p (flat_map f xs) ≡ []
none_joined p f [] none = refl
none_joined p f (x ∷ xs) none = filter-append p (f x) (flat_map f xs) ∙ ap (λ ys. ys ++ filter p (flat_map f xs)) (none x) ∙ none_joined p f xs none

-- what is joined is the same where it is the same of each member
pub joined_same : {X Y : Type 0} (f g : X → List Y) (xs : List X) → All (λ x. f x ≡ g x) xs → flat_map f xs ≡ flat_map g xs
joined_same f g [] h = refl
joined_same f g (x ∷ xs) h =
    ap (λ ys. ys ++ flat_map f xs) (All-head (λ y. f y ≡ g y) x xs h) ∙ ap (λ ys. g x ++ ys) (joined_same f g xs (All-tail (λ y. f y ≡ g y) x xs h))

-- where none passes none of the first ones does
pub none_in_front : {X : Type 0} (p : X → Bool) (xs ys : List X) → list_any p (xs ++ ys) ≡ false → list_any p xs ≡ false
none_in_front p [] ys h = refl
none_in_front p (x ∷ xs) ys h =
    let parts = or_parts (p x) (list_any p (xs ++ ys)) h in
    ap (λ (b : Bool). b || list_any p xs) parts.0 ∙ none_in_front p xs ys parts.1

-- what is found is the first that is kept
abbrev pub KeptBehind : {X : Type 0} (p : X → Bool) (xs : List X) (x : X) → Type 0
KeptBehind {X} p xs x = (rest : List X) × (filter p xs ≡ x ∷ rest)

found_by : {X : Type 0} (p : X → Bool) (y x : X) (xs : List X) → (find p xs ≡ Some x → KeptBehind p xs x) → (b : Bool) → p y ≡ b → cond b (Some y) (find p xs) ≡ Some x → KeptBehind p (y ∷ xs) x
found_by p y x xs later true is h =
    let same : y ≡ x = cc in
    (filter p xs, ap (λ (b : Bool). cond b (y ∷ filter p xs) (filter p xs)) is ∙ ap (λ z. z ∷ filter p xs) same)
found_by p y x xs later false is h =
    let behind = later h in
    (behind.0, ap (λ (b : Bool). cond b (y ∷ filter p xs) (filter p xs)) is ∙ behind.1)

pub found_first : {X : Type 0} (p : X → Bool) (xs : List X) (x : X) → find p xs ≡ Some x → KeptBehind p xs x
found_first p [] x h = absurd (cc)
found_first p (y ∷ xs) x h = found_by p y x xs (found_first p xs x) (p y) refl h
