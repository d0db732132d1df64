-- Words without spaces, and lines of them: what stands between the spaces and the ends of lines of their text.
use Rattle.std.proofs.Common.{◌≡◌, ℕ, ◌<◌, ◌==◌, ◌&&◌, nat_lt, Bool, true, false, List, [], ◌∷◌, ◌++◌, map, All, refl, ap, ◌∙◌, append_assoc, arith}
use Rattle.std.specs.Prelude.{⊤}
use Rattle.std.specs.List.{join_with_byte, list_all}
use Rattle.std.specs.Str.{is_utf8}
use Rattle.std.proofs.lemmas.Bool.{and_parts}
use Rattle.std.proofs.lemmas.Bool.Decides.{nat_tests}
use Rattle.std.proofs.lemmas.List.Elements.{All-weaker}
use Rattle.std.proofs.lemmas.List.Folds.{list_all-append}
use Rattle.std.proofs.lemmas.List.Splits.{slice_split_at, slice_split_none}
use Rattle.std.proofs.lemmas.List.Sums.{AllPass-from_list_all}
use Rattle.std.proofs.lemmas.Str.{IsUtf8-from_ascii, is_utf8-from_IsUtf8}
use Rattle.std.proofs.lemmas.Str.Ascii.{IsAscii-from_all}
use Rattle.vfs_script.specs.Words.{newline, space}
use Rattle.text_pieces.specs.Pieces.{pieces}
use Rattle.workload.specs.Workload.{Words, texts}

-- a byte of ASCII behind the space; and one from the space on
abbrev pub is_word_byte : ℕ → Bool
is_word_byte b = nat_lt 32 b && nat_lt b 128

abbrev pub is_line_byte : ℕ → Bool
is_line_byte b = nat_lt 31 b && nat_lt b 128

abbrev pub IsPlain : List ℕ → Type 0
IsPlain word = list_all is_word_byte word ≡ true

abbrev pub ArePlain : Words → Type 0
ArePlain [] = ⊤
ArePlain (word ∷ words) = IsPlain word × ArePlain words

abbrev pub joined : Words → List ℕ
joined words = join_with_byte space words

-- ---- tests that one passes with another

pub all_by : (p q : ℕ → Bool) → ((b : ℕ) → p b ≡ true → q b ≡ true) → (xs : List ℕ) → list_all p xs ≡ true → list_all q xs ≡ true
all_by p q each [] h = refl
all_by p q each (x ∷ xs) h =
    let parts = and_parts (p x) (list_all p xs) h in
    rw (each x parts.0) (all_by p q each xs parts.1)

pub all_both : (p : ℕ → Bool) (xs ys : List ℕ) → list_all p xs ≡ true → list_all p ys ≡ true → list_all p (xs ++ ys) ≡ true
all_both p xs ys a b = list_all-append p xs ys ∙ rw a b

-- ---- spaces

no_space : (word : List ℕ) → IsPlain word → All (λ b. (b == space) ≡ false) word
no_space word plain =
    All-weaker (λ b. is_word_byte b ≡ true) (λ b. (b == space) ≡ false) (λ b h. grind (arith, nat_tests)) word (AllPass-from_list_all is_word_byte word plain)

pub spaces_part : (word : List ℕ) (words : Words) → ArePlain (word ∷ words) → pieces space (joined (word ∷ words)) ≡ word ∷ words
spaces_part word [] plain = slice_split_none (λ b. b == space) word (no_space word plain.0)
spaces_part word (next ∷ words) plain =
    slice_split_at (λ b. b == space) word space (joined (next ∷ words)) (no_space word plain.0) refl ∙ ap (λ ws. word ∷ ws) (spaces_part next words plain.1)

-- ---- lines

word_in_line : (b : ℕ) → is_word_byte b ≡ true → is_line_byte b ≡ true
word_in_line b h = grind (arith, nat_tests)

pub plain_line : (words : Words) → ArePlain words → list_all is_line_byte (joined words) ≡ true
plain_line [] plain = refl
plain_line (word ∷ []) plain = all_by is_word_byte is_line_byte word_in_line word plain.0
plain_line (word ∷ next ∷ words) plain =
    all_both is_line_byte word (space ∷ joined (next ∷ words)) (all_by is_word_byte is_line_byte word_in_line word plain.0) (plain_line (next ∷ words) plain.1)

no_newline : (line : List ℕ) → list_all is_line_byte line ≡ true → All (λ b. (b == newline) ≡ false) line
no_newline line plain =
    All-weaker (λ b. is_line_byte b ≡ true) (λ b. (b == newline) ≡ false) (λ b h. grind (arith, nat_tests)) line (AllPass-from_list_all is_line_byte line plain)

abbrev pub AllPlain : List Words → Type 0
AllPlain [] = ⊤
AllPlain (words ∷ lines) = ArePlain words × AllPlain lines

-- behind the last line's end stands an empty one more
pub lines_part : (lines : List Words) → AllPlain lines → pieces newline (texts lines) ≡ map joined lines ++ [] ∷ []
lines_part [] plain = refl
lines_part (words ∷ lines) plain =
    ap (pieces newline) (append_assoc (joined words) (newline ∷ []) (texts lines))
    ∙ slice_split_at (λ b. b == newline) (joined words) newline (texts lines) (no_newline (joined words) (plain_line words plain.0)) refl
    ∙ ap (λ ls. joined words ∷ ls) (lines_part lines plain.1)

line_ascii : (b : ℕ) → is_line_byte b ≡ true → b < 128
line_ascii b h = grind (arith, nat_tests)

pub plain_utf8 : (line : List ℕ) → list_all is_line_byte line ≡ true → is_utf8 line ≡ true
plain_utf8 line plain =
    is_utf8-from_IsUtf8 line
    (IsUtf8-from_ascii line (IsAscii-from_all line (All-weaker (λ b. is_line_byte b ≡ true) (λ b. b < 128) line_ascii line (AllPass-from_list_all is_line_byte line plain))))
