-- Each line of a workload is good, and short.
use Rattle.std.proofs.Common.{◌≡◌, ℕ, zero, suc, ◌+◌, ◌*◌, ◌/◌, ◌%◌, ◌<◌, ◌≤◌, ◌^◌, ◌==◌, Bool, true, false, if◌then◌else◌, List, [], ◌∷◌, ◌++◌, length, decimal, codes, Some, None, refl, ◌∙◌, arith, mod-lt, length-append}
use Rattle.std.proofs.lemmas.Fmt.{length-decimal-le}
use Rattle.std.proofs.lemmas.Bool.Decides.{nat_tests}
use Rattle.hex.specs.Hex.{encode_lower, lower_digits}
use Rattle.hex.proofs.HexLemmas.{length-encode_with}
use Rattle.io_messages.specs.Asked as asked
use Rattle.vfs_script.specs.Words.{number_in, number_of, is_led, is_decimal_digit, is_digit}
use Rattle.vfs_script.specs.Lines.{request, hang_up, verb_of}
use Rattle.workload.specs.Workload.{Words, acts, asks, directory, drawn, endpoint, file, opens, path, round, rounds_up_to}
use Rattle.workload.proofs.Numerals.{all_digits, decimal_in, digits_in, hex_digits}
use Rattle.workload.proofs.Plain.{IsPlain, all_both, all_by, is_word_byte}
use Rattle.workload.proofs.RequestSizes.{list_fits, open_fits, read_fits, unlink_fits, write_fits}
use Rattle.workload.proofs.GoodLines.{AllGood, IsGood, all_good, good_by}

-- ---- words

decimal_byte : (b : ℕ) → is_decimal_digit b ≡ true → is_word_byte b ≡ true
decimal_byte b h = grind (arith, nat_tests)

digit_byte : (b : ℕ) → is_digit b ≡ true → is_word_byte b ≡ true
digit_byte b h = grind (arith, nat_tests)

decimal_plain : (n : ℕ) → n < 2 ^ 64 → IsPlain (decimal n)
decimal_plain n small = all_by is_decimal_digit is_word_byte decimal_byte (decimal n) (all_digits n small)

hex_plain : (n : ℕ) → n < 2 ^ 64 → IsPlain (encode_lower (decimal n))
hex_plain n small = all_by is_digit is_word_byte digit_byte (encode_lower (decimal n)) (hex_digits (decimal n) (all_digits n small))

directory_plain : (v : ℕ) → IsPlain (directory v)
directory_plain v = by_test (v / 128 % 2 == 0) where
  by_test : (b : Bool) → IsPlain (if b then codes "d" else codes "m/d")
  by_test true = refl
  by_test false = refl

pub directory_short : (v : ℕ) → length (directory v) ≤ 3
directory_short v = by_test (v / 128 % 2 == 0) where
  by_test : (b : Bool) → length (if b then codes "d" else codes "m/d") ≤ 3
  by_test true = omega arith
  by_test false = omega arith

file_number : (v : ℕ) → v / 4 % 32 < 32
file_number v = mod-lt (v / 4) (omega arith)

file_plain : (v : ℕ) → IsPlain (file v)
file_plain v = let few = file_number v in decimal_plain (v / 4 % 32) (omega (arith, few))

pub file_short : (v : ℕ) → length (file v) ≤ 3
file_short v =
    let few = file_number v in
    let short = length-decimal-le 2 (v / 4 % 32) (omega arith) (omega (arith, few)) (omega (arith, few)) in
    omega (arith, short)

path_plain : (v : ℕ) → IsPlain (path v)
path_plain v = all_both is_word_byte (directory v ++ codes "/") (file v) (all_both is_word_byte (directory v) (codes "/") (directory_plain v) refl) (file_plain v)

pub path_short : (v : ℕ) → length (path v) ≤ 7
path_short v = let a = directory_short v in let b = file_short v in omega (arith, a, b, length-append (directory v ++ codes "/") (file v), length-append (directory v) (codes "/"))

-- ---- lines of the rounds up to 10,000

module _ (k : ℕ) (few : k ≤ 10000) where
  endpoint_plain : IsPlain (endpoint k)
  endpoint_plain = decimal_plain (k + 1) (omega (arith, few))

  endpoint_is : number_in 32 (endpoint k) ≡ Some (k + 1)
  endpoint_is = decimal_in 32 (k + 1) (omega (arith, few)) (omega (arith, few))

  pub endpoint_short : length (endpoint k) ≤ 5
  endpoint_short = length-decimal-le 5 (k + 1) (omega arith) (omega (arith, few)) (omega (arith, few))

  pub digits_short : length (encode_lower (decimal k)) ≤ 10
  digits_short =
      let short = length-decimal-le 5 k (omega arith) (omega (arith, few)) (omega (arith, few)) in
      omega (arith, short, length-encode_with lower_digits (decimal k))

  one_is : number_in 32 (codes "1") ≡ Some 1
  unfolding number_in number_of is_led
  one_is = refl

  open_good : (at flags : List ℕ) (bits : ℕ) → IsPlain at → IsPlain flags → length at ≤ 1000 → number_in 64 flags ≡ Some bits → IsGood (opens k at flags)
  unfolding verb_of
  open_good at flags bits plain plain_flags short is =
      good_by (codes "open") (codes "1" ∷ at ∷ flags ∷ endpoint k ∷ []) (request 1 (asked.open_path at bits None (k + 1)))
      (refl, (refl, (plain, (plain_flags, (endpoint_plain, tt))))) refl
      (rw one_is (rw is (rw endpoint_is refl)))
      (λ number. open_fits at bits (k + 1) short number 1)

  write_good : IsGood (asks k (codes "write") (encode_lower (decimal k) ∷ []))
  unfolding verb_of
  write_good =
      let small = length-decimal-le 5 k (omega arith) (omega (arith, few)) (omega (arith, few)) in
      good_by (codes "write") (endpoint k ∷ encode_lower (decimal k) ∷ []) (request (k + 1) (asked.write (decimal k)))
      (refl, (endpoint_plain, (hex_plain k (omega (arith, few)), tt))) refl
      (rw endpoint_is (rw (digits_in k (omega (arith, few))) refl))
      (λ number. write_fits (decimal k) (omega (arith, small)) number (k + 1))

  sixty_four : number_in 64 (codes "64") ≡ Some 64
  unfolding number_in number_of is_led
  sixty_four = refl

  read_good : IsGood (asks k (codes "read") (codes "64" ∷ []))
  unfolding verb_of
  read_good =
      good_by (codes "read") (endpoint k ∷ codes "64" ∷ []) (request (k + 1) (asked.read 64))
      (refl, (endpoint_plain, (refl, tt))) refl (rw endpoint_is (rw sixty_four refl)) (λ number. read_fits 64 number (k + 1))

  most_listed : number_in 64 (codes "8192") ≡ Some 8192
  unfolding number_in number_of is_led
  most_listed = refl

  list_good : IsGood (asks k (codes "list") (codes "8192" ∷ []))
  unfolding verb_of
  list_good =
      good_by (codes "list") (endpoint k ∷ codes "8192" ∷ []) (request (k + 1) (asked.read_dirents 8192))
      (refl, (endpoint_plain, (refl, tt))) refl (rw endpoint_is (rw most_listed refl)) (λ number. list_fits 8192 number (k + 1))

  no_flags : number_in 64 (codes "0") ≡ Some 0
  unfolding number_in number_of is_led
  no_flags = refl

  unlink_good : (v : ℕ) → IsGood (asks k (codes "unlink") (file v ∷ codes "0" ∷ []))
  unfolding verb_of
  unlink_good v =
      let short = file_short v in
      good_by (codes "unlink") (endpoint k ∷ file v ∷ codes "0" ∷ []) (request (k + 1) (asked.unlink (file v) 0))
      (refl, (endpoint_plain, (file_plain v, (refl, tt)))) refl (rw endpoint_is (rw no_flags refl))
      (λ number. unlink_fits (file v) (omega (arith, short)) number (k + 1))

  hang_up_good : IsGood (asks k (codes "hangup") [])
  unfolding verb_of
  hang_up_good =
      good_by (codes "hangup") (endpoint k ∷ []) (hang_up (k + 1)) (refl, (endpoint_plain, tt)) refl (rw endpoint_is refl) (λ number. refl)

  flags_are_0 : number_in 64 (codes "0x10800000006") ≡ Some 0x10800000006
  unfolding number_in number_of is_led
  flags_are_0 = refl

  flags_are_1 : number_in 64 (codes "0x2") ≡ Some 0x2
  unfolding number_in number_of is_led
  flags_are_1 = refl

  flags_are_2 : number_in 64 (codes "0x40") ≡ Some 0x40
  unfolding number_in number_of is_led
  flags_are_2 = refl

  flags_are_3 : number_in 64 (codes "0x100") ≡ Some 0x100
  unfolding number_in number_of is_led
  flags_are_3 = refl

  -- ---- a round

  acts_good : (v : ℕ) → AllGood (acts k v)
  unfolding acts
  acts_good v = by_tests (v % 4 == 0) (v % 4 == 1) (v % 4 == 2) where
    by_tests : (a b c : Bool) → AllGood (
        if a then opens k (path v) (codes "0x10800000006") ∷ asks k (codes "write") (encode_lower (decimal k) ∷ []) ∷ []
        else if b then opens k (path v) (codes "0x2") ∷ asks k (codes "read") (codes "64" ∷ []) ∷ []
        else if c then opens k (directory v) (codes "0x40") ∷ asks k (codes "list") (codes "8192" ∷ []) ∷ []
        else opens k (directory v) (codes "0x100") ∷ asks k (codes "unlink") (file v ∷ codes "0" ∷ []) ∷ [])
    by_tests true b c = let short = path_short v in (open_good (path v) (codes "0x10800000006") 0x10800000006 (path_plain v) refl (omega (arith, short)) flags_are_0, (write_good, tt))
    by_tests false true c = let short = path_short v in (open_good (path v) (codes "0x2") 0x2 (path_plain v) refl (omega (arith, short)) flags_are_1, (read_good, tt))
    by_tests false false true = let short = directory_short v in (open_good (directory v) (codes "0x40") 0x40 (directory_plain v) refl (omega (arith, short)) flags_are_2, (list_good, tt))
    by_tests false false false = let short = directory_short v in (open_good (directory v) (codes "0x100") 0x100 (directory_plain v) refl (omega (arith, short)) flags_are_3, (unlink_good v, tt))

  pub round_good : (v : ℕ) → AllGood (round k v)
  round_good v = all_good (acts k v) (asks k (codes "hangup") [] ∷ []) (acts_good v) (hang_up_good, tt)

-- ---- how many lines

acts_two : (k v : ℕ) → length (acts k v) ≡ 2
unfolding acts
acts_two k v = by_tests (v % 4 == 0) (v % 4 == 1) (v % 4 == 2) where
  by_tests : (a b c : Bool) → length {A = Words} (
      if a then opens k (path v) (codes "0x10800000006") ∷ asks k (codes "write") (encode_lower (decimal k) ∷ []) ∷ []
      else if b then opens k (path v) (codes "0x2") ∷ asks k (codes "read") (codes "64" ∷ []) ∷ []
      else if c then opens k (directory v) (codes "0x40") ∷ asks k (codes "list") (codes "8192" ∷ []) ∷ []
      else opens k (directory v) (codes "0x100") ∷ asks k (codes "unlink") (file v ∷ codes "0" ∷ []) ∷ []) ≡ 2
  by_tests true b c = refl
  by_tests false true c = refl
  by_tests false false true = refl
  by_tests false false false = refl

pub rounds_many : (rounds k : ℕ) → length (rounds_up_to rounds k) ≡ 3 * k
rounds_many rounds zero = refl
rounds_many rounds (suc k) =
    let two = acts_two (suc k) (drawn rounds (suc k)) in
    let before = rounds_many rounds k in
    let last : Words = asks (suc k) (codes "hangup") [] in
    omega (arith, before, two, length-append (rounds_up_to rounds k) (round (suc k) (drawn rounds (suc k))), length-append (acts (suc k) (drawn rounds (suc k))) (last ∷ []))

pub rounds_good : (rounds k : ℕ) → k ≤ 10000 → AllGood (rounds_up_to rounds k)
rounds_good rounds zero few = tt
rounds_good rounds (suc k) few =
    all_good (rounds_up_to rounds k) (round (suc k) (drawn rounds (suc k))) (rounds_good rounds k (omega (arith, few))) (round_good (suc k) few (drawn rounds (suc k)))
