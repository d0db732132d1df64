-- Numbers of 32 bits, written and read.
use Rattle.std.proofs.Common.{◌≡◌, ◌<◌, ◌≤◌, ◌+◌, ◌*◌, ◌^◌, ◌/◌, ℕ, zero, suc, List, [], ◌∷◌, ◌++◌, length, take, drop, get_or, refl, sym, ap, ◌∙◌, arith, length-append, length-drop, append_assoc, zero-add, suc-add, Fits, w8}
use Rattle.std.specs.Prelude.{All}
use Rattle.std.specs.List.{flat_map}
use Rattle.std.specs.Int.{w32, byte_at, from_le_bytes}
use Rattle.std.proofs.lemmas.List.{take_all, take-append-drop, length-take-le, drop-append-le, drop-drop}
use Rattle.std.proofs.lemmas.List.Elements.{All-nil, All-cons, All-take, All-drop, All-append, All-head, All-tail, All-from_get_or}
use Rattle.std.proofs.lemmas.Nat.{le_bytes_4}
use Rattle.byteorder.specs.Endian.{little_number}
use Rattle.byteorder.specs.Numbers.{little_number-reads_back, little_from-append, little_from-lt, length-bytes_low_first}
use Rattle.fidl_names.specs.Numbers.{AreBytes, number_at, number_bytes}
use Rattle.link_frames.specs.Numbers.{word_of, half_in, word_in, words_in}

-- a number has four bytes
pub length-word_of : (x : ℕ) → length (word_of x) ≡ 4
unfolding number_bytes
length-word_of x = length-bytes_low_first 0 4 x

AreBytes-four : (a b c d : ℕ) → a < 256 → b < 256 → c < 256 → d < 256 → AreBytes (a ∷ b ∷ c ∷ d ∷ [])
AreBytes-four a b c d p q r s =
    let P : ℕ → Type 0 = λ x. x < 256 in
    All-cons P a (b ∷ c ∷ d ∷ []) p (All-cons P b (c ∷ d ∷ []) q (All-cons P c (d ∷ []) r (All-cons P d [] s (All-nil P))))

-- the bytes of a number are bytes
pub AreBytes-word_of : (x : ℕ) → AreBytes (word_of x)
unfolding number_bytes
AreBytes-word_of x =
    AreBytes-four (byte_at 0 x) (byte_at 1 x) (byte_at 2 x) (byte_at 3 x) (omega arith) (omega arith) (omega arith) (omega arith)

-- what was written is read
pub word_in-word_of : (x : ℕ) (rest : List ℕ) → x < 2 ^ 32 → word_in (word_of x ++ rest) ≡ x
unfolding number_bytes number_at
word_in-word_of x rest h = little_number-reads_back 4 x rest h

-- the four bytes in front are passed
pub drop-word_of : (x : ℕ) (rest : List ℕ) → drop 4 (word_of x ++ rest) ≡ rest
unfolding number_bytes
drop-word_of x rest = refl

-- a byte of bytes, or 0 past their end
pub byte_below : (b : List ℕ) → AreBytes b → (k : ℕ) → get_or b k 0 < 256
byte_below [] h k = omega arith
byte_below (x ∷ xs) h zero = All-head (λ y. y < 256) x xs h
byte_below (x ∷ xs) h (suc k) = byte_below xs (All-tail (λ y. y < 256) x xs h) k

-- a number of four bytes is below 2 ^ 32
pub word_in-lt : (b : List ℕ) → AreBytes b → word_in b < 2 ^ 32
unfolding number_at
word_in-lt b h = little_from-lt 0 4 b (byte_below b h)

-- only the four bytes in front are read
pub word_in-append : (b more : List ℕ) → 4 ≤ length b → word_in (b ++ more) ≡ word_in b
unfolding number_at
word_in-append b more h = little_from-append 4 b more h

pub half_in-append : (b more : List ℕ) → 2 ≤ length b → half_in (b ++ more) ≡ half_in b
unfolding number_at
half_in-append b more h = little_from-append 2 b more h

-- what was read is written
pub word_of-word_in : (b : List ℕ) → AreBytes b → 4 ≤ length b → word_of (word_in b) ≡ take 4 b
unfolding number_bytes number_at
word_of-word_in b h long =
    let front = All-take (λ y. y < 256) 4 b h in
    let same : little_number 4 b ≡ little_number 4 (take 4 b) =
    ap (λ (l : List ℕ). little_number 4 l) (sym (take-append-drop 4 b)) ∙ little_from-append 4 (take 4 b) (drop 4 b) (omega (arith, length-take-le 4 b long)) in
    let sum : little_number 4 (take 4 b) ≡ from_le_bytes w32 (take 4 b) = omega arith in
    le_bytes_4 (take 4 b) (little_number 4 b) (length-take-le 4 b long) (byte_below (take 4 b) front) (same ∙ sum)

-- numbers that are written one after another are read
pub words_in-flat_map : (xs rest : List ℕ) → All (λ x. x < 2 ^ 32) xs → words_in (length xs) (flat_map word_of xs ++ rest) ≡ xs
words_in-flat_map [] rest h = refl
words_in-flat_map (x ∷ xs) rest h =
    let joined = append_assoc (word_of x) (flat_map word_of xs) rest in
    rw (joined, word_in-word_of x (flat_map word_of xs ++ rest) (All-head (λ y. y < 2 ^ 32) x xs h), drop-word_of x (flat_map word_of xs ++ rest))
    (ap (λ (l : List ℕ). x ∷ l) (words_in-flat_map xs rest (All-tail (λ y. y < 2 ^ 32) x xs h)))

pub length-flat_map_word_of : (xs : List ℕ) → length (flat_map word_of xs) ≡ 4 * length xs
length-flat_map_word_of [] = refl
length-flat_map_word_of (x ∷ xs) =
    omega (arith, length-append (word_of x) (flat_map word_of xs), length-word_of x, length-flat_map_word_of xs)

pub AreBytes-flat_map_word_of : (xs : List ℕ) → AreBytes (flat_map word_of xs)
AreBytes-flat_map_word_of [] = All-nil (λ b. b < 256)
AreBytes-flat_map_word_of (x ∷ xs) =
    All-append (λ b. b < 256) (word_of x) (flat_map word_of xs) (AreBytes-word_of x) (AreBytes-flat_map_word_of xs)

pub length-words_in : (n : ℕ) (b : List ℕ) → length (words_in n b) ≡ n
length-words_in zero b = refl
length-words_in (suc n) b = ap suc (length-words_in n (drop 4 b))

pub words_in-lt : (n : ℕ) (b : List ℕ) → AreBytes b → All (λ x. x < 2 ^ 32) (words_in n b)
words_in-lt zero b h = All-nil (λ x. x < 2 ^ 32)
words_in-lt (suc n) b h =
    All-cons (λ x. x < 2 ^ 32) _ _ (word_in-lt b h) (words_in-lt n (drop 4 b) (All-drop (λ y. y < 256) 4 b h))

-- one piece and the next are one piece
pub take-add : (m n : ℕ) (b : List ℕ) → take (m + n) b ≡ take m b ++ take n (drop m b)
take-add zero n b = rw (zero-add n) refl
take-add (suc m) n [] = rw (suc-add m n) (sym (take_all n [] (omega arith)))
take-add (suc m) n (x ∷ b) = rw (suc-add m n) (ap (λ (l : List ℕ). x ∷ l) (take-add m n b))

-- what was read one after another is written
pub flat_map-words_in : (n : ℕ) (b : List ℕ) → AreBytes b → 4 * n ≤ length b → flat_map word_of (words_in n b) ≡ take (4 * n) b
flat_map-words_in zero b h long = refl
flat_map-words_in (suc n) b h long =
    let rest = flat_map-words_in n (drop 4 b) (All-drop (λ y. y < 256) 4 b h) (omega (arith, length-drop 4 b)) in
    let first = word_of-word_in b h (omega arith) in
    let e : 4 * suc n ≡ 4 + 4 * n = omega arith in
    rw (first, rest, e) (sym (take-add 4 (4 * n) b))

-- one of the numbers that stand one after another
pub get_or-words_in : (n i : ℕ) (b : List ℕ) (d : ℕ) → i < n → get_or (words_in n b) i d ≡ word_in (drop (4 * i) b)
get_or-words_in zero i b d h = absurd (omega arith)
get_or-words_in (suc n) zero b d h = refl
get_or-words_in (suc n) (suc i) b d h =
    let e : 4 * suc i ≡ 4 + 4 * i = omega arith in
    rw e (get_or-words_in n i (drop 4 b) d (omega arith) ∙ ap word_in (drop-drop (4 * i) 4 b))

-- only so many numbers' bytes are read
pub words_in-append : (n : ℕ) (b more : List ℕ) → 4 * n ≤ length b → words_in n (b ++ more) ≡ words_in n b
words_in-append zero b more h = refl
words_in-append (suc n) b more h =
    let long : 4 ≤ length b = omega arith in
    let first = word_in-append b more long in
    let rest = ap (words_in n) (drop-append-le 4 b more long) ∙ words_in-append n (drop 4 b) more (omega (arith, length-drop 4 b)) in
    rw (first, rest) refl

pub words_in-take : (n : ℕ) (b : List ℕ) → 4 * n ≤ length b → words_in n (take (4 * n) b) ≡ words_in n b
words_in-take n b h =
    sym (words_in-append n (take (4 * n) b) (drop (4 * n) b) (omega (arith, length-take-le (4 * n) b h))) ∙ ap (words_in n) (take-append-drop (4 * n) b)

-- a quarter of four times as many
pub quarter : (n : ℕ) → 4 * n / 4 ≡ n
quarter n = omega arith

-- what is known of a slice of bytes
pub are_bytes : (b : List ℕ) → ((i : ℕ) → Fits w8 (get_or b i 0)) → AreBytes b
are_bytes b h = All-from_get_or (λ x. x < 256) b 0 (λ i _. let f = h i in omega arith)
