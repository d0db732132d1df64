-- Padding, and the zeros that it is.
use Rattle.std.proofs.Common.{◌≡◌, ℕ, zero, suc, ◌-◌, ◌≤◌, false, not, cond, List, [], ◌∷◌, length, replicate, drop, slice_range, nat_lt, nat_eq, Option, Some, None, Ok, refl, ap, ◌∙◌, length-take, length-drop, arith}
use Rattle.std.proofs.lemmas.List.{length-replicate}
use Rattle.std.proofs.lemmas.Bool.Decides.{nat_tests}
use Rattle.std.specs.List.{position, prefix_len}
use Rattle.fidl_wire.specs.Reading.{blank_or, all_blank}

abbrev pub zeros_len : List ℕ → ℕ
zeros_len xs = prefix_len (λ b. not (not (nat_eq b 0))) xs

zeros_len-replicate : (n : ℕ) → zeros_len (replicate n 0) ≡ n
zeros_len-replicate zero = refl
zeros_len-replicate (suc n) = rw (zeros_len-replicate n) (omega arith)

not_zero : (b : ℕ) → nat_eq (suc b) 0 ≡ false
not_zero b = grind (arith, nat_tests)

pub zeros_len-used : (b : ℕ) (xs : List ℕ) → zeros_len (suc b ∷ xs) ≡ 0
zeros_len-used b xs = rw (not_zero b) refl

zeros_len-le : (xs : List ℕ) → zeros_len xs ≤ length xs
zeros_len-le [] = omega arith
zeros_len-le (zero ∷ xs) = omega (arith, zeros_len-le xs)
zeros_len-le (suc b ∷ xs) = omega (arith, zeros_len-used b xs)

all_zeros : (xs : List ℕ) → length xs ≤ zeros_len xs → xs ≡ replicate (length xs) 0
all_zeros [] h = refl
all_zeros (zero ∷ xs) h = ap (λ ys. 0 ∷ ys) (all_zeros xs (omega arith))
all_zeros (suc b ∷ xs) h = absurd (omega (arith, zeros_len-used b xs))

none_past : (n len : ℕ) → cond (nat_lt n len) (Some n) None ≡ None → len ≤ n
none_past n len h = grind (arith, nat_tests)

past_none : (n len : ℕ) → len ≤ n → cond (nat_lt n len) (Some n) None ≡ None
past_none n len h = grind (arith, nat_tests)

none_used : (xs : List ℕ) → position (λ b. not (nat_eq b 0)) xs ≡ None → xs ≡ replicate (length xs) 0
none_used xs h = all_zeros xs (none_past (zeros_len xs) (length xs) h)

used_none : (n : ℕ) → position (λ b. not (nat_eq b 0)) (replicate n 0) ≡ None
used_none n = past_none (zeros_len (replicate n 0)) (length (replicate n 0)) (omega (arith, zeros_len-replicate n, length-replicate {A = ℕ} n 0))

pub length-slice_range : (m : List ℕ) (from until : ℕ) → from ≤ until → until ≤ length m → length (slice_range m from until) ≡ until - from
length-slice_range m from until h k = omega (arith, length-take (until - from) (drop from m), length-drop from m)

blank_or_ok : (from : ℕ) (p : Option ℕ) (u : Unit {0}) → blank_or from p ≡ Ok u → p ≡ None
blank_or_ok from None u h = refl
blank_or_ok from (Some i) u h = absurd (cc)

-- what is blank is zeros, and zeros are blank
pub all_blank-zeros : (m : List ℕ) (from until : ℕ) (u : Unit {0}) → from ≤ until → until ≤ length m → all_blank m from until ≡ Ok u → slice_range m from until ≡ replicate (until - from) 0
unfolding all_blank
all_blank-zeros m from until u h k e =
    none_used (slice_range m from until) (blank_or_ok from (position (λ b. not (nat_eq b 0)) (slice_range m from until)) u e)
    ∙ ap (λ n. replicate n 0) (length-slice_range m from until h k)

pub zeros-all_blank : (m : List ℕ) (from until : ℕ) → slice_range m from until ≡ replicate (until - from) 0 → all_blank m from until ≡ Ok tt
unfolding all_blank
zeros-all_blank m from until h = ap (blank_or from) (ap (position (λ b. not (nat_eq b 0))) h ∙ used_none (until - from))
