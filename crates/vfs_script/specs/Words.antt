-- The words of a line: numbers, bytes as hexadecimal digits, handles.
use Rattle.std.specs.Prelude.{ℕ, ℤ, pos, neg_ℤ, ◌==◌, ◌^◌, ◌&&◌, ◌||◌, nat_lt, nat_le, not, Bool, if◌then◌else◌, List, [], ◌∷◌, length, map, drop, slice_index, codes, Option, Some, None}
use Rattle.std.specs.List.{list_all}
use Rattle.std.specs.Result.{result_ok}
use Rattle.std.specs.Str.{bytes_eq, is_utf8}
use Rattle.std.specs.Str.Parse.{digits_value}
use Rattle.fidl_names.specs.declared.limits.TheConstants as limit
use Rattle.hex.specs.Hex.{decode_of}
use Rattle.text_pieces.specs.Pieces.{pieces}

-- the second step where the first one has a value
infixl 10 ◌>>=◌
abbrev pub ◌>>=◌ : {A B : Type 0} → Option A → (A → Option B) → Option B
None >>= f = None
Some a >>= f = f a

-- the value where a test holds
abbrev pub given : {A : Type 0} → Bool → A → Option A
given test value = if test then Some value else None

-- the values, where each one is there
abbrev pub all_given : {A : Type 0} → List (Option A) → Option (List A)
all_given [] = Some []
all_given (first ∷ others) = do
  value ← first
  values ← all_given others
  Some (value ∷ values)

-- the bytes that part lines, words and handles
abbrev pub newline : ℕ
newline = 10

abbrev pub space : ℕ
space = 32

abbrev pub comma : ℕ
comma = 44

-- the word for none
abbrev pub none_word : List ℕ
none_word = codes "-"

-- 0 to 9
abbrev pub is_decimal_digit : ℕ → Bool
is_decimal_digit byte = nat_le 48 byte && nat_le byte 57

-- 0 to 9 and a to f
abbrev pub is_digit : ℕ → Bool
is_digit byte = is_decimal_digit byte || (nat_le 97 byte && nat_le byte 102)

-- a zero stands in front only by itself
unfoldable pub is_led : List ℕ → Bool
is_led word = (length word == 1) || (not (length word == 0) && not (slice_index word 0 == 48))

-- one decimal digit or more, with no zero in front of others
abbrev pub is_decimal : List ℕ → Bool
is_decimal word = list_all is_decimal_digit word && is_led word

-- 1 to 16 hexadecimal digits
abbrev pub is_hexadecimal : List ℕ → Bool
is_hexadecimal word = list_all is_digit word && (nat_lt 0 (length word) && nat_le (length word) 16)

-- the word begins with `0x`
abbrev pub has_prefix : List ℕ → Bool
has_prefix word = (slice_index word 0 == 48) && (slice_index word 1 == 120)

-- the number that a word is: decimal, or hexadecimal behind `0x`
unfoldable pub number_of : List ℕ → Option ℕ
number_of word =
    if has_prefix word then given (is_hexadecimal (drop 2 word)) (digits_value 16 (drop 2 word))
    else given (is_decimal word) (digits_value 10 word)

-- the number that fits a field of so many bits
unfoldable pub number_in : ℕ → List ℕ → Option ℕ
number_in bits word = do
  number ← number_of word
  given (nat_lt number (2 ^ bits)) number

-- a decimal number behind `-`, which fits a field of 64 bits with a sign
unfoldable pub negative_of : List ℕ → Option ℤ
negative_of digits =
    given (is_decimal digits && nat_le (digits_value 10 digits) (2 ^ 63)) (neg_ℤ (pos (digits_value 10 digits)))

-- a number of 64 bits with a sign
unfoldable pub signed_of : List ℕ → Option ℤ
signed_of word =
    if slice_index word 0 == 45 then negative_of (drop 1 word)
    else (do
      number ← number_in 63 word
      Some (pos number))

-- bytes as pairs of digits; `-` for none
unfoldable pub bytes_of : List ℕ → Option (List ℕ)
bytes_of word =
    if bytes_eq word none_word then Some []
    else if list_all is_digit word && nat_lt 0 (length word) then result_ok (decode_of word)
    else None

-- the same, where the bytes are UTF-8
abbrev pub text_of : List ℕ → Option (List ℕ)
text_of word = do
  bytes ← bytes_of word
  given (is_utf8 bytes) bytes

-- numbers of 32 bits, joined by commas
unfoldable pub numbers_of : List ℕ → Option (List ℕ)
numbers_of word = all_given (map (number_in 32) (pieces comma word))

-- at most 64 handles, joined by commas; `-` for none
unfoldable pub handles_of : List ℕ → Option (List ℕ)
handles_of word =
    if bytes_eq word none_word then Some []
    else (do
      numbers ← numbers_of word
      given (nat_le (length numbers) limit.MAX_HANDLES) numbers)
