-- Decimal numbers are numbers of a script, and so are the hexadecimal digits of their digits its bytes.
use Rattle.std.proofs.Common.{◌≡◌, ℕ, zero, suc, ◌+◌, ◌/◌, ◌%◌, ◌<◌, ◌≤◌, ◌^◌, ◌==◌, ◌&&◌, ◌||◌, Bool, true, false, List, [], ◌∷◌, length, slice_index, decimal, Some, refl, ap, ◌∙◌, arith, mod-lt}
use Rattle.std.specs.List.{list_all}
use Rattle.std.specs.Result.{result_ok}
use Rattle.std.specs.Str.{bytes_eq}
use Rattle.std.proofs.lemmas.Bool.{and_parts, lt-ltb}
use Rattle.std.proofs.lemmas.Bool.Decides.{nat_tests}
use Rattle.std.proofs.lemmas.List.Folds.{list_all-append}
use Rattle.std.proofs.lemmas.Fmt.{decimal_by_steps, decimal_is_IsNumeral, decimal_nonempty, decimal_digit, first_decimal}
use Rattle.hex.specs.Hex.{IsBytes, encode_lower, encode_with, lower_digits}
use Rattle.hex.proofs.HexLemmas.{decode_of-encode_lower, length-encode_with}
use Rattle.vfs_script.specs.Words.{has_prefix, is_decimal_digit, is_digit, is_led, none_word, number_in, number_of, bytes_of}

-- ---- digits

digit : (n : ℕ) → n < 10 → is_decimal_digit (48 + n) ≡ true
digit n small = grind (arith, nat_tests)

pub all_digits : (n : ℕ) → n < 2 ^ 64 → list_all is_decimal_digit (decimal n) ≡ true
all_digits n small =
    decimal_by_steps (λ _ ds. list_all is_decimal_digit ds ≡ true)
    (λ d low. rw (digit d low) refl)
    (λ m ds more all. list_all-append is_decimal_digit ds ((48 + m % 10) ∷ []) ∙ rw all (rw (digit (m % 10) (mod-lt m (omega arith))) refl))
    n small

digit_low : (c : ℕ) → is_decimal_digit c ≡ true → c < 58
digit_low c h = grind (arith, nat_tests)

digits_low : (word : List ℕ) (i : ℕ) → list_all is_decimal_digit word ≡ true → slice_index word i < 58
digits_low [] i h = omega arith
digits_low (c ∷ word) zero h = digit_low c (and_parts (is_decimal_digit c) (list_all is_decimal_digit word) h).0
digits_low (c ∷ word) (suc i) h = digits_low word i (and_parts (is_decimal_digit c) (list_all is_decimal_digit word) h).1

-- ---- numbers

other_than : (c d : ℕ) → c < d → (c == d) ≡ false
other_than c d low = grind (arith, nat_tests)

more_than : (c d : ℕ) → d < c → (c == d) ≡ false
more_than c d low = grind (arith, nat_tests)

and_no : (b : Bool) → (b && false) ≡ false
and_no true = refl
and_no false = refl

no_prefix : (word : List ℕ) → list_all is_decimal_digit word ≡ true → has_prefix word ≡ false
no_prefix word h = rw (other_than (slice_index word 1) 120 (let low = digits_low word 1 h in omega (arith, low))) (and_no (slice_index word 0 == 48))

or_yes : (b : Bool) → (b || true) ≡ true
or_yes true = refl
or_yes false = refl

led : (n : ℕ) → n < 2 ^ 64 → is_led (decimal n) ≡ true
unfolding is_led
led zero small = rw (decimal_digit 0 (omega arith)) refl
led (suc n) small =
    let some = decimal_nonempty (suc n) small in
    let high = first_decimal (suc n) (omega arith) small in
    rw (more_than (length (decimal (suc n))) 0 some) (rw (more_than (slice_index (decimal (suc n)) 0) 48 high) (or_yes (length (decimal (suc n)) == 1)))

number_is : (n : ℕ) → n < 2 ^ 64 → number_of (decimal n) ≡ Some n
unfolding number_of
number_is n small =
    let all = all_digits n small in
    rw (no_prefix (decimal n) all) (rw all (rw (led n small) (ap Some (decimal_is_IsNumeral n small).1)))

-- a decimal number is itself in a field that it fits
pub decimal_in : (bits n : ℕ) → n < 2 ^ 64 → n < 2 ^ bits → number_in bits (decimal n) ≡ Some n
unfolding number_in
decimal_in bits n small fits = rw (number_is n small) (rw (lt-ltb n (2 ^ bits) fits) refl)

-- ---- bytes

passes_at : (p : ℕ → Bool) (xs : List ℕ) (i : ℕ) → list_all p xs ≡ true → i < length xs → p (slice_index xs i) ≡ true
passes_at p [] i h within = absurd (omega arith)
passes_at p (x ∷ xs) zero h within = (and_parts (p x) (list_all p xs) h).0
passes_at p (x ∷ xs) (suc i) h within = passes_at p xs i (and_parts (p x) (list_all p xs) h).1 (omega arith)

hex_digit : (c : ℕ) → c < 16 → is_digit (slice_index lower_digits c) ≡ true
hex_digit c low = passes_at is_digit lower_digits c refl low

pub hex_digits : (bytes : List ℕ) → list_all is_decimal_digit bytes ≡ true → list_all is_digit (encode_lower bytes) ≡ true
unfolding encode_with
hex_digits [] h = refl
hex_digits (b ∷ bytes) h =
    let parts = and_parts (is_decimal_digit b) (list_all is_decimal_digit bytes) h in
    let low = digit_low b parts.0 in
    rw (hex_digit (b / 16) (omega (arith, low))) (rw (hex_digit (b % 16) (mod-lt b (omega arith))) (hex_digits bytes parts.1))

-- digits are bytes
digit_bytes : (word : List ℕ) → list_all is_decimal_digit word ≡ true → IsBytes word
digit_bytes word h i = let low = digits_low word i h in omega (arith, low)

-- two digits and more aren't the word for none
not_none : (word : List ℕ) → 2 ≤ length word → bytes_eq word none_word ≡ false
not_none [] long = absurd (omega (arith, long))
not_none (a ∷ []) long = absurd (omega (arith, long))
not_none (a ∷ b ∷ word) long = and_no (a == 45)

pub digits_in : (n : ℕ) → n < 2 ^ 64 → bytes_of (encode_lower (decimal n)) ≡ Some (decimal n)
unfolding bytes_of
digits_in n small =
    let all = all_digits n small in
    let some = decimal_nonempty n small in
    let size = length-encode_with lower_digits (decimal n) in
    rw (not_none (encode_lower (decimal n)) (omega (arith, size, some)))
    (rw (hex_digits (decimal n) all)
    (rw (lt-ltb 0 (length (encode_lower (decimal n))) (omega (arith, size, some)))
    (ap result_ok (decode_of-encode_lower (decimal n) (digit_bytes (decimal n) all)))))
