-- Words, and the numbers of clients.
use Rattle.std.proofs.Common.{◌≡◌, ◌<◌, ◌≤◌, ℕ, Bool, true, false, ap, sym, decimal, ◌∙◌, List, [], ◌∷◌, length, get_or, arith}
use Rattle.std.specs.Prelude.{nat_lt, ◌&&◌}
use Rattle.std.proofs.lemmas.Bool.{lt-ltb}
use Rattle.std.proofs.lemmas.Fmt.{decimal_injective}
use Rattle.fidl_names.specs.declared.limits.TheConstants as limit
use Rattle.fidl_names.specs.HandleNumber.{is_client}
use Rattle.mirror_program.specs.Words.{IsEndpoint, Means}

-- a list of one is its first
pub one_item : {A : Type 0} (xs : List A) (a : A) → 1 ≤ length xs → length xs < 2 → a ≡ get_or xs 0 a → xs ≡ a ∷ []
one_item [] a p q e = absurd (omega arith)
one_item (x ∷ []) a p q e = cc
one_item (x ∷ y ∷ ys) a p q e = absurd (omega arith)

pub client_number : (number : ℕ) → IsEndpoint number → is_client number ≡ true
client_number number is =
    ap (λ b. b && nat_lt number limit.FIRST_MOUNT_END) (lt-ltb 0 number (omega (arith, is.0))) ∙ lt-ltb number limit.FIRST_MOUNT_END is.1

pub apart : {b : Bool} → b ≡ true → b ≡ false → ⊥
apart y n = cc

-- the words say one endpoint
pub one_endpoint : (a b : ℕ) (words : List (List ℕ)) → Means words a → Means words b → a ≡ b
one_endpoint a b words m n =
    let both : decimal a ∷ [] ≡ decimal b ∷ [] = sym m.0 ∙ n.0 in
    let word : decimal a ≡ decimal b = cc in
    decimal_injective a b (omega (arith, m.1.1)) (omega (arith, n.1.1)) word
