-- Parts of a list that stand at places of it.
use Rattle.std.proofs.Common.{◌≡◌, ℕ, zero, suc, ◌+◌, ◌-◌, ◌≤◌, List, [], ◌∷◌, ◌++◌, length, take, drop, slice_range, refl, ap, ◌∙◌, length-take, arith}
use Rattle.std.proofs.lemmas.List.{drop-drop, drop-take}
use Rattle.byteorder.specs.Numbers.{little_from-take}
use Rattle.fidl_names.specs.Numbers.{number_at}
pub use Rattle.wire_laws.specs.Meanings.{Begins}

pub begins_front : {A : Type 0} → (n : ℕ) (xs : List A) → Begins xs (take n xs)
begins_front zero xs = refl
begins_front (suc n) [] = refl
begins_front (suc n) (x ∷ xs) = ap (λ ys. x ∷ ys) (begins_front n xs)

pub begins_none : {A : Type 0} → (xs : List A) → Begins xs []
begins_none xs = refl

pub begins-append : {A : Type 0} → (a b xs : List A) → Begins xs a → Begins (drop (length a) xs) b → Begins xs (a ++ b)
begins-append [] b xs h k = k
begins-append (x ∷ a) b [] h k = cc
begins-append (x ∷ a) b (y ∷ ys) h k =
    let front : take (length a) ys ≡ a = cc in
    let same : y ≡ x = cc in
    rw same (ap (λ zs. x ∷ zs) (begins-append a b ys front k))

pub begins-append_first : {A : Type 0} → (a b xs : List A) → Begins xs (a ++ b) → Begins xs a
begins-append_first [] b xs h = refl
begins-append_first (x ∷ a) b [] h = cc
begins-append_first (x ∷ a) b (y ∷ ys) h =
    let both : take (length (a ++ b)) ys ≡ a ++ b = cc in
    let same : y ≡ x = cc in
    rw same (ap (λ zs. x ∷ zs) (begins-append_first a b ys both))

pub begins-append_rest : {A : Type 0} → (a b xs : List A) → Begins xs (a ++ b) → Begins (drop (length a) xs) b
begins-append_rest [] b xs h = h
begins-append_rest (x ∷ a) b [] h = cc
begins-append_rest (x ∷ a) b (y ∷ ys) h =
    let both : take (length (a ++ b)) ys ≡ a ++ b = cc in
    begins-append_rest a b ys both

-- a list is no shorter than what it begins with
pub begins-length : {A : Type 0} → (xs front : List A) → Begins xs front → length front ≤ length xs
begins-length xs front h = omega (arith, ap length h, length-take (length front) xs)

-- a number in a part is the one at its place in the whole
pub number_at-part : (size k n at : ℕ) (m : List ℕ) → k + size ≤ n → number_at size k (take n (drop at m)) ≡ number_at size (at + k) m
unfolding number_at
number_at-part size k n at m h =
    let rest : n ≡ k + (n - k) = omega arith in
    let part : drop k (take n (drop at m)) ≡ take (n - k) (drop (at + k) m) =
    ap (λ j. drop k (take j (drop at m))) rest ∙ drop-take k (n - k) (drop at m) ∙ ap (take (n - k)) (drop-drop k at m) in
    rw part (little_from-take 0 size (n - k) (drop (at + k) m) (omega arith))

pub slice_range-at : {A : Type 0} → (m : List A) (at n : ℕ) → slice_range m at (at + n) ≡ take n (drop at m)
slice_range-at m at n = let size : at + n - at ≡ n = omega arith in ap (λ k. take k (drop at m)) size
