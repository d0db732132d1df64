-- Words as numbers.
use Rattle.std.proofs.Common.{not, ◌≡◌, ℕ, zero, suc, ◌+◌, ◌-◌, ◌*◌, ◌<◌, ◌≤◌, ◌^◌, nat_lt, nat_le, Bool, true, false, ◌&&◌, List, [], ◌∷◌, ◌++◌, length, map, get_or, take, drop, ◌==◌, slice_index, Option, Some, None, Result, Ok, Err, refl, sym, ap, ◌∙◌, arith, inl, inr, append_assoc, append-nil}
use Rattle.std.specs.Prelude.{IfSome, MatchResult}
use Rattle.std.specs.List.{list_all}
use Rattle.std.specs.Char.{digit_value}
use Rattle.std.specs.Option.{option_map}
use Rattle.std.specs.Result.{result_ok}
use Rattle.std.specs.Str.{IsUtf8, IsAscii}
use Rattle.std.specs.Str.Parse.{AllDigits, IsNumeral, digits_value}
use Rattle.std.proofs.lemmas.Bool.{and_parts, le-leb, le-ltb, leb-true, lt-ltb, ne_eqb, or_cases}
use Rattle.std.proofs.lemmas.Str.{IsUtf8-from_ascii}
use Rattle.std.proofs.lemmas.Str.Ascii.{IsAscii-nil, IsAscii-cons}
use Rattle.std.proofs.Math.Nat.{pow-le-pow_right}
use Rattle.std.proofs.lemmas.Int.Digits.{digits_value-lt, digits_value_more}
use Rattle.std.proofs.lemmas.List.{length-take-le, take_all}
use Rattle.std.proofs.lemmas.List.Folds.{list_all_more}
use Rattle.vfs_script.specs.Words.{◌>>=◌, all_given, comma, given, has_prefix, is_decimal, is_decimal_digit, is_digit, is_hexadecimal, is_led, number_in, number_of, numbers_of}
use Rattle.text_pieces.specs.Pieces.{pieces}

-- a digit is of ASCII and no sign
digit_low : (radix c : ℕ) → radix ≤ 36 → digit_value c < radix → c < 123
digit_low radix c high h = grind arith

digits_ascii : (radix : ℕ) (word : List ℕ) → radix ≤ 36 → AllDigits radix word → IsAscii word
digits_ascii radix [] high h = IsAscii-nil
digits_ascii radix (c ∷ word) high h =
    let low = digit_low radix c high h.0 in
    IsAscii-cons c word (omega (arith, low)) (digits_ascii radix word high h.1)

pub numeral_utf8 : (radix : ℕ) (word : List ℕ) → radix ≤ 36 → IsNumeral radix word → IsUtf8 word
numeral_utf8 radix word high h = IsUtf8-from_ascii word (digits_ascii radix word high h.1)

-- the tests of digits
decimal_value : (c : ℕ) → is_decimal_digit c ≡ true → digit_value c < 10
decimal_value c h = grind arith

decimal_code : (c : ℕ) → digit_value c < 10 → (48 ≤ c) × (digit_value c ≡ c - 48)
decimal_code c h = grind arith

letter_bounds : (c : ℕ) → nat_le 97 c && nat_le c 102 ≡ true → (97 ≤ c) × (c ≤ 102)
letter_bounds c h = let parts = and_parts (nat_le 97 c) (nat_le c 102) h in (leb-true 97 c parts.0, leb-true c 102 parts.1)

letter_value : (c : ℕ) → 97 ≤ c → c ≤ 102 → digit_value c < 16
letter_value c low high =
    rw (le-ltb c 48 (omega (arith, low)), le-ltb c 58 (omega (arith, low)), le-ltb c 65 (omega (arith, low)), le-ltb c 91 (omega (arith, low)), le-ltb c 97 low, lt-ltb c 123 (omega (arith, high)))
    (omega (arith, low, high))

digit_value_16 : (c : ℕ) → is_digit c ≡ true → digit_value c < 16
digit_value_16 c h =
    elim (or_cases (is_decimal_digit c) (nat_le 97 c && nat_le c 102) h) [
      | inl decimal ↦ let v = decimal_value c decimal in omega (arith, v)
      | inr letter ↦ let bounds = letter_bounds c letter in letter_value c bounds.0 bounds.1
    ]

all_decimal : (word : List ℕ) → list_all is_decimal_digit word ≡ true → AllDigits 10 word
all_decimal [] h = tt
all_decimal (c ∷ word) h =
    let parts = and_parts (is_decimal_digit c) (list_all is_decimal_digit word) h in
    (decimal_value c parts.0, all_decimal word parts.1)

all_hexadecimal : (word : List ℕ) → list_all is_digit word ≡ true → AllDigits 16 word
all_hexadecimal [] h = tt
all_hexadecimal (c ∷ word) h =
    let parts = and_parts (is_digit c) (list_all is_digit word) h in
    (digit_value_16 c parts.0, all_hexadecimal word parts.1)

-- ---- few digits, one behind the other

few_fit : (radix most : ℕ) (word : List ℕ) (i : ℕ) → 0 < radix → i ≤ most → radix ^ most ≤ 2 ^ 64 → i ≤ length word → AllDigits radix (take i word) →
    digits_value radix (take i word) < 2 ^ 64
few_fit radix most word i some few fits within all =
    let small = digits_value-lt radix (take i word) all in
    let size = length-take-le i word within in
    let bound : radix ^ length (take i word) ≤ radix ^ most = pow-le-pow_right some (omega (arith, size, few)) in
    omega (arith, small, bound, fits)

-- one digit more
pub decimal_step : (word : List ℕ) (i : ℕ) → i < 19 → list_all is_decimal_digit (take i word) ≡ true → i < length word → is_decimal_digit (get_or word i 0) ≡ true →
    (48 ≤ get_or word i 0)
    × (digits_value 10 (take (i + 1) word) ≡ digits_value 10 (take i word) * 10 + (get_or word i 0 - 48))
    × (digits_value 10 (take (i + 1) word) < 2 ^ 64)
    × (list_all is_decimal_digit (take (i + 1) word) ≡ true)
decimal_step word i few all within digit =
    let code = decimal_code (get_or word i 0) (decimal_value (get_or word i 0) digit) in
    let more : list_all is_decimal_digit (take (i + 1) word) ≡ true = list_all_more is_decimal_digit word i 0 within ∙ rw (all, digit) refl in (
      code.0,
      digits_value_more 10 word i within ∙ ap (λ d. digits_value 10 (take i word) * 10 + d) code.1,
      few_fit 10 19 word (i + 1) (omega arith) (omega (arith, few)) (omega arith) (omega (arith, within)) (all_decimal (take (i + 1) word) more),
      more,
    )

few_by : (word : List ℕ) (test : Bool) → list_all is_decimal_digit word ≡ test → is_led word ≡ true → length word ≤ 19 →
    given (list_all is_decimal_digit word) (digits_value 10 word) ≡ given (is_decimal word && nat_lt (digits_value 10 word) (2 ^ 64)) (digits_value 10 word)
few_by word true all led few =
    let fits : digits_value 10 word < 2 ^ 64 = let small = digits_value-lt 10 word (all_decimal word all) in
    let bound : 10 ^ length word ≤ 10 ^ 19 = pow-le-pow_right (omega arith) few in omega (arith, small, bound) in
    rw (all, led, lt-ltb (digits_value 10 word) (2 ^ 64) fits) refl
few_by word false all led few = rw all refl

-- few digits with no zero in front are read
pub few_read : (word : List ℕ) → is_led word ≡ true → length word ≤ 19 →
    given (list_all is_decimal_digit word) (digits_value 10 word) ≡ given (is_decimal word && nat_lt (digits_value 10 word) (2 ^ 64)) (digits_value 10 word)
few_read word led few = few_by word (list_all is_decimal_digit word) refl led few

-- ---- numbers that fit 64 bits

-- 16 hexadecimal digits fit
hexadecimal_fits : (word : List ℕ) → length word ≤ 16 → list_all is_digit word ≡ true → digits_value 16 word < 2 ^ 64
hexadecimal_fits word few all =
    let small = digits_value-lt 16 word (all_hexadecimal word all) in
    let bound : 16 ^ length word ≤ 16 ^ 16 = pow-le-pow_right (omega arith) few in
    omega (arith, small, bound)

pub hexadecimal_numeral : (word : List ℕ) → (length word == 0) ≡ false → list_all is_digit word ≡ true → IsNumeral 16 word
hexadecimal_numeral [] some h = cc
hexadecimal_numeral (c ∷ word) some h = (omega arith, all_hexadecimal (c ∷ word) h)

-- so they are read
pub hexadecimal_read : (word : List ℕ) → (length word == 0) ≡ false → length word ≤ 16 → list_all is_digit word ≡ true →
    given (nat_lt (digits_value 16 word) (2 ^ 64)) (digits_value 16 word) ≡ given (is_hexadecimal word) (digits_value 16 word)
hexadecimal_read word some few all =
    let numeral = hexadecimal_numeral word some all in
    rw (lt-ltb (digits_value 16 word) (2 ^ 64) (hexadecimal_fits word few all), all, lt-ltb 0 (length word) numeral.0, le-leb (length word) 16 few) refl

abbrev fitting : ℕ → Option ℕ
fitting number = given (nat_lt number (2 ^ 64)) number

fits_already : (found : Option ℕ) → IfSome found (λ number. number < 2 ^ 64) → found ≡ (found >>= fitting)
fits_already None small = refl
fits_already (Some number) small = rw (lt-ltb number (2 ^ 64) small) refl

both_tests : (test : Bool) (number : ℕ) → given (test && nat_lt number (2 ^ 64)) number ≡ (given test number >>= fitting)
both_tests true number = refl
both_tests false number = refl

pub number_prefixed : (word : List ℕ) (found : Option ℕ) → has_prefix word ≡ true → found ≡ given (is_hexadecimal (drop 2 word)) (digits_value 16 (drop 2 word)) →
    IfSome found (λ number. number < 2 ^ 64) → found ≡ number_in 64 word
unfolding number_in number_of
number_prefixed word found prefix e small = rw prefix (fits_already found small ∙ ap (λ f. f >>= fitting) e)

pub number_plain : (word : List ℕ) (found : Option ℕ) → has_prefix word ≡ false → found ≡ given (is_decimal word && nat_lt (digits_value 10 word) (2 ^ 64)) (digits_value 10 word) →
    found ≡ number_in 64 word
unfolding number_in number_of
number_plain word found prefix e = rw prefix (e ∙ both_tests (is_decimal word) (digits_value 10 word))

pub decimal_numeral : (word : List ℕ) → 0 < length word → list_all is_decimal_digit word ≡ true → IsNumeral 10 word
decimal_numeral word some h = (some, all_decimal word h)

pub led_some : (word : List ℕ) → is_led word ≡ true → 0 < length word
unfolding is_led
led_some [] h = absurd (cc)
led_some (c ∷ word) h = omega arith

-- the first of some digits decides
pub led_by_first : (word : List ℕ) → (length word ≡ 1 → ⊥) → (length word == 0) ≡ false → not (slice_index word 0 == 48) ≡ is_led word
unfolding is_led
led_by_first word more some = rw (ne_eqb (length word) 1 more, some) refl

-- a numeral is read as a text
pub numeral_read : {A E : Type 0} (r : Result A E) (word : List ℕ) (P : A → Type 0) (Q : E → Type 0) →
    MatchResult r (λ s. P s × IsUtf8 word) (λ e. (IsUtf8 word → ⊥) × Q e) → IsUtf8 word → result_ok r ≡ None → ⊥
numeral_read (Ok s) word P Q h utf8 e = cc
numeral_read (Err f) word P Q h utf8 e = h.0 utf8

-- ---- numbers joined by commas

-- numbers that were read, and the pieces that are left
abbrev pub so_far : List ℕ → List (List ℕ) → Option (List ℕ)
so_far numbers words = option_map (λ more. numbers ++ more) (all_given (map (number_in 32) words))

one_read : (numbers : List ℕ) (number : ℕ) (found : Option (List ℕ)) →
    option_map (λ more. numbers ++ more) (found >>= (λ values. Some (number ∷ values))) ≡ option_map (λ more. (numbers ++ number ∷ []) ++ more) found
one_read numbers number None = refl
one_read numbers number (Some values) = ap Some (sym (append_assoc numbers (number ∷ []) values))

same : (found : Option (List ℕ)) → option_map (λ more. more) found ≡ found
same None = refl
same (Some values) = refl

pub so_far-start : (word : List ℕ) → numbers_of word ≡ so_far [] (pieces comma word)
unfolding numbers_of
so_far-start word = sym (same (all_given (map (number_in 32) (pieces comma word))))

pub so_far-more : (numbers : List ℕ) (word : List ℕ) (words : List (List ℕ)) (number : ℕ) → number_in 32 word ≡ Some number →
    so_far numbers (word ∷ words) ≡ so_far (numbers ++ number ∷ []) words
so_far-more numbers word words number e = rw e (one_read numbers number (all_given (map (number_in 32) words)))

pub so_far-bad : (numbers : List ℕ) (word : List ℕ) (words : List (List ℕ)) → number_in 32 word ≡ None → so_far numbers (word ∷ words) ≡ None
so_far-bad numbers word words e = rw e refl

pub so_far-end : (numbers : List ℕ) → so_far numbers [] ≡ Some numbers
so_far-end numbers = ap Some (append-nil numbers)

-- ---- a test of each byte

and_false : (a : Bool) → a && false ≡ false
and_false true = refl
and_false false = refl

pub fails_at : (test : ℕ → Bool) (word : List ℕ) (i : ℕ) → i < length word → test (get_or word i 0) ≡ false → list_all test word ≡ false
fails_at test [] i within fails = absurd (omega (arith, within))
fails_at test (c ∷ word) zero within fails = rw fails refl
fails_at test (c ∷ word) (suc i) within fails = rw (fails_at test word i (omega (arith, within)) fails) (and_false (test c))

pub passes_more : (test : ℕ → Bool) (word : List ℕ) (i : ℕ) → i < length word → list_all test (take i word) ≡ true → test (get_or word i 0) ≡ true → list_all test (take (i + 1) word) ≡ true
passes_more test word i within before here = list_all_more test word i 0 within ∙ rw (before, here) refl

pub all_passed : (test : ℕ → Bool) (word : List ℕ) (i : ℕ) → length word ≤ i → list_all test (take i word) ≡ true → list_all test word ≡ true
all_passed test word i over before = ap (list_all test) (sym (take_all i word over)) ∙ before
