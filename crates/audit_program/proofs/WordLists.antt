-- Lists of two words.
use Rattle.std.proofs.Common.{◌≡◌, ◌<◌, ◌≤◌, List, [], ◌∷◌, length, get_or, arith}

-- a list of two is its first and its second
pub two_items : {A : Type 0} (xs : List A) (a b : A) → 2 ≤ length xs → length xs < 3 → a ≡ get_or xs 0 a → b ≡ get_or xs 1 b → xs ≡ a ∷ b ∷ []
two_items [] a b p q ea eb = absurd (omega arith)
two_items (x ∷ []) a b p q ea eb = absurd (omega arith)
two_items (x ∷ y ∷ []) a b p q ea eb = cc
two_items (x ∷ y ∷ z ∷ zs) a b p q ea eb = absurd (omega arith)

-- two lists of two that are one have the same items
pub both_same : {A : Type 0} (a b x y : A) → a ∷ b ∷ [] ≡ x ∷ y ∷ [] → (a ≡ x) × (b ≡ y)
both_same a b x y e = (cc, cc)
