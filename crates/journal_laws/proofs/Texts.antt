-- Texts are bytes, and so are their names.
use Rattle.std.proofs.Common.{◌≡◌, ℕ, ◌+◌, ◌/◌, ◌<◌, ◌≤◌, ◌⊎◌, ◌==◌, ◌-◌, Bool, true, false, cond, List, [], ◌∷◌, ◌++◌, length, reverse, refl, sym, subst, inl, inr, All, arith}
use Rattle.std.specs.List.{onto_first, slice_split}
use Rattle.std.specs.Prelude.{slice_get, unwrap_or}
use Rattle.std.specs.Str.{IsUtf8, bytes_eq}
use Rattle.std.proofs.lemmas.Bool.{and_parts}
use Rattle.std.proofs.lemmas.List.{get_or-reverse, length-reverse}
use Rattle.std.proofs.lemmas.List.Elements.{All-append, All-cons, All-head, All-nil, All-tail}
use lib.Dec.{ltb}
use lib.Utf8.{encode, encodes, next, scalar, scalars, scalar_cases}
use Rattle.fidl_names.specs.Numbers.{AreBytes}
use Rattle.path_walk.specs.Names.{IsName, dot, slash}
use Rattle.path_walk.specs.Parts.{last_name}
use Rattle.path_walk.specs.Paths.{names_of}
use Rattle.path_walk.proofs.PartLemmas.{name_short}
use Rattle.std.proofs.lemmas.Bool.{ltb-true}

-- ---- lists of bytes

pub none_written : AreBytes []
none_written = All-nil (λ b. b < 256)

pub first_written : (b : ℕ) (bytes : List ℕ) → b < 256 → AreBytes bytes → AreBytes (b ∷ bytes)
first_written b bytes = All-cons (λ x. x < 256) b bytes

pub both_written : (xs ys : List ℕ) → AreBytes xs → AreBytes ys → AreBytes (xs ++ ys)
both_written = All-append (λ x. x < 256)

-- ---- characters

next_small : (bits : ℕ) → next bits < 256
next_small bits = omega arith

character : (c : ℕ) → c < 1114112 → AreBytes (encode c)
unfolding encode
character c low = by_tests (ltb c 128) (ltb c 2048) (ltb c 65536) refl refl refl where
  by_tests : (a b d : Bool) → ltb c 128 ≡ a → ltb c 2048 ≡ b → ltb c 65536 ≡ d →
      AreBytes (cond a (c ∷ []) (cond b ((192 + c / 64) ∷ next c ∷ []) (cond d ((224 + c / 4096) ∷ next (c / 64) ∷ next c ∷ []) ((240 + c / 262144) ∷ next (c / 4096) ∷ next (c / 64) ∷ next c ∷ []))))
  by_tests true b d one two three = let small = ltb-true c 128 one in first_written c [] (omega (arith, small)) none_written
  by_tests false true d one two three =
      let small = ltb-true c 2048 two in
      first_written (192 + c / 64) (next c ∷ []) (omega (arith, small)) (first_written (next c) [] (next_small c) none_written)
  by_tests false false true one two three =
      let small = ltb-true c 65536 three in
      first_written (224 + c / 4096) (next (c / 64) ∷ next c ∷ []) (omega (arith, small)) (first_written (next (c / 64)) (next c ∷ []) (next_small (c / 64)) (first_written (next c) [] (next_small c) none_written))
  by_tests false false false one two three =
      first_written (240 + c / 262144) (next (c / 4096) ∷ next (c / 64) ∷ next c ∷ []) (omega (arith, low))
      (first_written (next (c / 4096)) (next (c / 64) ∷ next c ∷ []) (next_small (c / 4096)) (first_written (next (c / 64)) (next c ∷ []) (next_small (c / 64)) (first_written (next c) [] (next_small c) none_written)))

scalar_low : (c : ℕ) → scalar c ≡ true → c < 1114112
scalar_low c is = by_range (scalar_cases c is) where
  by_range : (c < 55296) ⊎ ((57344 ≤ c) × (c < 1114112)) → c < 1114112
  by_range (inl low) = omega arith
  by_range (inr high) = high.1

characters : (cs : List ℕ) → scalars cs ≡ true → AreBytes (encodes cs)
characters [] is = none_written
characters (c ∷ cs) is =
    let both = and_parts (scalar c) (scalars cs) is in
    both_written (encode c) (encodes cs) (character c (scalar_low c both.0)) (characters cs both.1)

pub text_in_bytes : (text : List ℕ) → IsUtf8 text → AreBytes text
text_in_bytes text (cs, (is, same)) = subst AreBytes same (characters cs is)

-- ---- names

onto_one : (x : ℕ) (parts : List (List ℕ)) → x < 256 → All AreBytes parts → All AreBytes (onto_first x parts)
onto_one x [] low h = All-cons AreBytes (x ∷ []) [] (first_written x [] low none_written) (All-nil AreBytes)
onto_one x (part ∷ parts) low h = All-cons AreBytes (x ∷ part) parts (first_written x part low (All-head AreBytes part parts h)) (All-tail AreBytes part parts h)

split_in_bytes : (p : ℕ → Bool) (text : List ℕ) → AreBytes text → All AreBytes (slice_split p text)
split_in_bytes p [] h = All-cons AreBytes [] [] none_written (All-nil AreBytes)
split_in_bytes p (x ∷ xs) h = by_test (p x) (All-head (λ b. b < 256) x xs h) (split_in_bytes p xs (All-tail (λ b. b < 256) x xs h)) where
  by_test : (b : Bool) → x < 256 → All AreBytes (slice_split p xs) → All AreBytes (cond b ([] ∷ slice_split p xs) (onto_first x (slice_split p xs)))
  by_test true low rest = All-cons AreBytes [] (slice_split p xs) none_written rest
  by_test false low rest = onto_one x (slice_split p xs) low rest

-- the names of a path of bytes
pub names_in_bytes : (path : List ℕ) → AreBytes path → All AreBytes (names_of path)
unfolding names_of
names_in_bytes path h = by_test (bytes_eq path dot) where
  by_test : (b : Bool) → All AreBytes (cond b [] (slice_split (λ byte. byte == slash) path))
  by_test true = All-nil AreBytes
  by_test false = split_in_bytes (λ byte. byte == slash) path h

reversed : (names : List (List ℕ)) → All AreBytes names → All AreBytes (reverse names)
reversed names h k d l =
    let many = length-reverse names in
    subst AreBytes (sym (get_or-reverse names k d (omega (arith, l, many)))) (h (length names - 1 - k) d (omega (arith, l, many)))

first_in_bytes : (names : List (List ℕ)) → All AreBytes names → AreBytes (unwrap_or (slice_get names 0) [])
first_in_bytes [] h = none_written
first_in_bytes (name ∷ names) h = All-head AreBytes name names h

pub last_in_bytes : (path : List ℕ) → AreBytes path → AreBytes (last_name path)
last_in_bytes path h = first_in_bytes (reverse (names_of path)) (reversed (names_of path) (names_in_bytes path h))

-- ---- names that are told

-- a name of bytes, whose length is a byte
pub record IsShortName (name : List ℕ) : Type 0 where
  pub bytes : AreBytes name
  pub short : length name ≤ 255

pub short_name : (name : List ℕ) → IsName name → AreBytes name → IsShortName name
short_name name is h = record { bytes = h; short = (name_short name is).1 }
