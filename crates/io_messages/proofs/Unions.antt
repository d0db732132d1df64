-- The bytes of unions and of small objects.
use Rattle.std.proofs.lemmas.List.{append-nil}
use Rattle.std.proofs.Common.{◌≡◌, ℕ, ◌+◌, ◌%◌, ◌≤◌, List, [], ◌∷◌, ◌++◌, length, refl, ap, ◌∙◌, append_assoc, length-append, add-zero, replicate, sym, ◌<◌, Option, Some, MatchOption, subst, arith}
use Rattle.fidl_names.specs.declared.limits.TheConstants as limit
use Rattle.fidl_wire.specs.Grammar.{Part, join, nothing}
use Rattle.fidl_names.specs.Numbers.{number_bytes}
use Rattle.fidl_wire.specs.Numbers.{padding_after, padded}
use Rattle.fidl_wire.specs.Spelling.{envelope_bytes, object_bytes, inline_part, list_part_of, table_part, given, count_bytes}
use Rattle.fidl_wire.specs.Written.{padded_bytes}
use Rattle.io_messages.specs.declared.fields.Field.{Field}
use Rattle.io_messages.specs.Members.{numbers}
use Rattle.io_messages.specs.Fields.{list_object, parts_of, parts_size, slots_of}
use Rattle.io_messages.proofs.Lengths.{length-count, length-table, numbers-most, length-number, length-envelope, length-padded, length-object, padded_none}

-- one list behind another
pub cat : (a b : List ℕ) (m n : ℕ) → length a ≡ m → length b ≡ n → length (a ++ b) ≡ m + n
cat a b m n h k = omega (arith, length-append a b)

pub object_length : (p : Part) (n m : ℕ) → length p.inline ≡ n → length p.outside ≡ m → length (object_bytes p) ≡ padded n + m
object_length p n m h k = omega (arith, length-append (padded_bytes p.inline) p.outside, length-padded p.inline, ap padded h)

-- a small object
pub padded_few : (n : ℕ) → padded n ≤ n + 7
unfolding padding_after
padded_few n = omega arith

-- where an object is aligned, it has the size of its fields
pub aligned_size : (fs : List Field) → length (parts_of fs).inline % 8 ≡ 0 → parts_size fs ≡ length (object_bytes (parts_of fs))
aligned_size fs h = omega (arith, length-object fs, padded_none (length (parts_of fs).inline) h)

-- ---- unions

pub union_length : (ordinal n handles : ℕ) (value : List ℕ) → length (number_bytes 8 ordinal ++ envelope_bytes n handles 0 ++ value) ≡ 16 + length value
union_length ordinal n handles value =
    omega (arith, length-append (number_bytes 8 ordinal ++ envelope_bytes n handles 0) value, length-append (number_bytes 8 ordinal) (envelope_bytes n handles 0), length-number 8 ordinal, length-envelope n handles 0)

no_counts : number_bytes 4 0 ≡ number_bytes 2 0 ++ number_bytes 2 0
unfolding number_bytes
no_counts = refl

inlined_flag : number_bytes 4 0x0001_0000 ≡ number_bytes 2 0 ++ number_bytes 2 1
unfolding number_bytes
inlined_flag = refl

outside_groups : (out a b x y value : List ℕ) → (((out ++ a) ++ b) ++ (x ++ y)) ++ value ≡ out ++ ((a ++ ((b ++ x) ++ y)) ++ value)
outside_groups out a b x y value = simp append_assoc

inlined_groups : (out a b x y : List ℕ) → ((out ++ a) ++ b) ++ (x ++ y) ≡ out ++ (a ++ ((b ++ x) ++ y))
inlined_groups out a b x y = simp append_assoc

pub outside_is : (out first second third fourth value : List ℕ) (ordinal size n : ℕ) → size ≡ n → first ≡ out ++ number_bytes 8 ordinal → second ≡ first ++ number_bytes 4 size →
    third ≡ second ++ number_bytes 4 0 → fourth ≡ third ++ value → fourth ≡ out ++ (number_bytes 8 ordinal ++ envelope_bytes n 0 0 ++ value)
outside_is out first second third fourth value ordinal size n same h1 h2 h3 h4 =
    let two = h2 ∙ ap (λ (v : List ℕ). v ++ number_bytes 4 size) h1 in
    let three = h3 ∙ ap (λ (v : List ℕ). v ++ number_bytes 4 0) two in
    let four = h4 ∙ ap (λ (v : List ℕ). v ++ value) three in
    four ∙ ap (λ (k : ℕ). (((out ++ number_bytes 8 ordinal) ++ number_bytes 4 k) ++ number_bytes 4 0) ++ value) same
    ∙ ap (λ (z : List ℕ). (((out ++ number_bytes 8 ordinal) ++ number_bytes 4 n) ++ z) ++ value) no_counts
    ∙ outside_groups out (number_bytes 8 ordinal) (number_bytes 4 n) (number_bytes 2 0) (number_bytes 2 0) value

pub inlined_is : (out first second third : List ℕ) (ordinal value : ℕ) → first ≡ out ++ number_bytes 8 ordinal → second ≡ first ++ number_bytes 4 value →
    third ≡ second ++ number_bytes 4 0x0001_0000 → third ≡ out ++ (number_bytes 8 ordinal ++ envelope_bytes value 0 1)
inlined_is out first second third ordinal value h1 h2 h3 =
    let two = h2 ∙ ap (λ (v : List ℕ). v ++ number_bytes 4 value) h1 in
    let three = h3 ∙ ap (λ (v : List ℕ). v ++ number_bytes 4 0x0001_0000) two in
    three ∙ ap (λ (z : List ℕ). ((out ++ number_bytes 8 ordinal) ++ number_bytes 4 value) ++ z) inlined_flag
    ∙ inlined_groups out (number_bytes 8 ordinal) (number_bytes 4 value) (number_bytes 2 0) (number_bytes 2 1)

-- the size that was found
pub size_found : (o : Option ℕ) (x size : ℕ) → o ≡ Some x → MatchOption o (limit.MAX_BYTES < 16 + size) (λ n. (n ≡ size) × (16 + n ≤ limit.MAX_BYTES)) → x ≡ size
size_found o x size e h =
    let here = subst (λ (v : Option ℕ). MatchOption v (limit.MAX_BYTES < 16 + size) (λ n. (n ≡ size) × (16 + n ≤ limit.MAX_BYTES))) e h in here.0

pub padded_nothing : length (padded_bytes []) ≡ 0
padded_nothing = length-padded [] ∙ padded_none 0 refl

-- ---- objects with one list

pub list_length : (xs : List ℕ) → length (object_bytes (join (list_part_of xs) nothing)) ≡ 16 + padded (length xs)
list_length xs =
    omega (arith, object_length (join (list_part_of xs) nothing) 16 (padded (length xs)) (cat (count_bytes (length xs)) [] 16 0 (length-count (length xs)) refl) (cat (padded_bytes xs) [] (padded (length xs)) 0 (length-padded xs) refl ∙ add-zero (padded (length xs))), padded_none 16 refl)

aligned_bytes : (bytes : List ℕ) → length bytes ≡ 16 → padded_bytes bytes ≡ bytes
unfolding padding_after
aligned_bytes bytes h = ap (λ (n : ℕ). bytes ++ replicate (padding_after n) 0) h ∙ append-nil bytes

list_is : (xs : List ℕ) → list_object xs ≡ count_bytes (length xs) ++ padded_bytes xs
list_is xs =
    ap (λ (v : List ℕ). padded_bytes v ++ (padded_bytes xs ++ [])) (append-nil (count_bytes (length xs)))
    ∙ ap (λ (v : List ℕ). v ++ (padded_bytes xs ++ [])) (aligned_bytes (count_bytes (length xs)) (length-count (length xs)))
    ∙ ap (λ (v : List ℕ). count_bytes (length xs) ++ v) (append-nil (padded_bytes xs))

list_has_size : (xs : List ℕ) → 16 + length xs + padding_after (length xs) ≡ length (list_object xs)
list_has_size xs = omega (arith, list_length xs)

parts : (out a b c d : List ℕ) → (out ++ (a ++ b ++ c)) ++ d ≡ out ++ (a ++ b ++ (c ++ d))
parts out a b c d = simp append_assoc

-- the head of a success, and then the bytes with their padding
pub success_is : (out first last xs : List ℕ) → first ≡ out ++ (number_bytes 8 1 ++ envelope_bytes (16 + length xs + padding_after (length xs)) 0 0 ++ count_bytes (length xs)) →
    last ≡ first ++ padded_bytes xs → last ≡ out ++ (number_bytes 8 1 ++ envelope_bytes (length (list_object xs)) 0 0 ++ list_object xs)
success_is out first last xs h k =
    k ∙ ap (λ (v : List ℕ). v ++ padded_bytes xs) h
    ∙ ap (λ (n : ℕ). (out ++ (number_bytes 8 1 ++ envelope_bytes n 0 0 ++ count_bytes (length xs))) ++ padded_bytes xs) (list_has_size xs)
    ∙ parts out (number_bytes 8 1) (envelope_bytes (length (list_object xs)) 0 0) (count_bytes (length xs)) (padded_bytes xs)
    ∙ ap (λ (v : List ℕ). out ++ (number_bytes 8 1 ++ envelope_bytes (length (list_object xs)) 0 0 ++ v)) (sym (list_is xs))

pub listing_length : (word : List ℕ) (xs : List ℕ) → length word ≡ 4 →
    length (object_bytes (join (inline_part word) (join (inline_part (0 ∷ 0 ∷ 0 ∷ 0 ∷ [])) (join (list_part_of xs) nothing)))) ≡ 24 + padded (length xs)
listing_length word xs h =
    omega (
      arith,
      object_length (join (inline_part word) (join (inline_part (0 ∷ 0 ∷ 0 ∷ 0 ∷ [])) (join (list_part_of xs) nothing))) 24 (padded (length xs))
          (cat word _ 4 20 h (cat (0 ∷ 0 ∷ 0 ∷ 0 ∷ []) _ 4 16 refl (cat (count_bytes (length xs)) [] 16 0 (length-count (length xs)) refl)))
          (cat (padded_bytes xs) [] (padded (length xs)) 0 (length-padded xs) refl ∙ add-zero (padded (length xs))),
      padded_none 24 refl,
    )

-- the two tables of the attributes
pub tables_most : (vs : List (Option ℕ)) → length vs ≤ 6 → length (object_bytes (join (table_part []) (join (table_part (numbers vs)) nothing))) ≤ 128
tables_most vs h =
    let ms = numbers vs in
    let p = join (table_part []) (join (table_part ms) nothing) in
    let count = length (given ms) in
    let outside : length p.outside ≡ slots_of (given ms) = cat (table_part ms).outside [] (slots_of (given ms)) 0 (length-table ms) refl ∙ add-zero (slots_of (given ms)) in
    omega (arith, object_length p 32 (slots_of (given ms)) (cat (count_bytes 0) _ 16 16 (length-count 0) (cat (count_bytes count) [] 16 0 (length-count count) refl)) outside, padded_none 32 refl, numbers-most vs)
