-- Lists of words of a known length.
use Rattle.std.proofs.Common.{◌≡◌, ◌<◌, ◌≤◌, List, [], ◌∷◌, length, get_or, arith}

-- a list of one is its first
pub one_item : {A : Type 0} (xs : List A) (a : A) → 1 ≤ length xs → length xs < 2 → a ≡ get_or xs 0 a → xs ≡ a ∷ []
one_item [] a p q e = absurd (omega arith)
one_item (x ∷ []) a p q e = cc
one_item (x ∷ y ∷ ys) a p q e = absurd (omega arith)

-- a list of two is its first and its second
pub two_items : {A : Type 0} (xs : List A) (a b : A) → 2 ≤ length xs → length xs < 3 → a ≡ get_or xs 0 a → b ≡ get_or xs 1 b → xs ≡ a ∷ b ∷ []
two_items [] a b p q ea eb = absurd (omega arith)
two_items (x ∷ []) a b p q ea eb = absurd (omega arith)
two_items (x ∷ y ∷ []) a b p q ea eb = cc
two_items (x ∷ y ∷ z ∷ zs) a b p q ea eb = absurd (omega arith)
