-- A text of good lines is a script: none of its lines is bad, and each says something.
use Rattle.std.proofs.Common.{◌≡◌, ℕ, suc, ◌+◌, ◌==◌, not, Bool, true, false, List, [], ◌∷◌, ◌++◌, length, map, Option, Some, None, is_none, refl, ap, ◌∙◌, arith, codes}
use Rattle.std.specs.Prelude.{⊤}
use Rattle.std.specs.Str.{is_utf8}
use Rattle.std.proofs.lemmas.Bool.Decides.{nat_tests}
use Rattle.fidl_names.specs.First.{first_of}
use Rattle.link_frames.specs.declared.kinds.Mode.TheVariants as mode
use Rattle.vfs_script.specs.Words.{space}
use Rattle.vfs_script.specs.Lines.{Line, line_in, line_of, fits_at}
use Rattle.vfs_script.specs.Scripts.{Numbered, bad_in, bad_line, bad_lines, is_bad, is_skipped, lines_of, mode_of, numbered_from, script_lines, script_mode, spoken, spoken_in}
use Rattle.workload.specs.Workload.{Words, texts}
use Rattle.workload.proofs.Plain.{AllPlain, ArePlain, joined, lines_part, plain_line, plain_utf8, spaces_part}

abbrev pub numbered : ℕ → Words → Numbered
numbered number words = record { number = number; bytes = joined words }

-- a line of plain words, which says something that fits
pub record IsGood (words : Words) : Type 0 where
  pub plain : ArePlain words
  pub told : is_skipped (joined words) ≡ false
  pub line : Line
  pub says : line_of (joined words) ≡ Some line
  pub fits : (number : ℕ) → fits_at number line ≡ true

abbrev pub AllGood : List Words → Type 0
AllGood [] = ⊤
AllGood (words ∷ lines) = IsGood words × AllGood lines

-- a word that begins with another byte than `#`
abbrev pub begins : List ℕ → Bool
begins [] = false
begins (b ∷ word) = not (b == 35)

not_no : (b : Bool) → not b ≡ true → b ≡ false
not_no true h = cc
not_no false h = refl

some_bytes : (b : ℕ) (rest : List ℕ) → (length (b ∷ rest) == 0) ≡ false
some_bytes b rest = grind (arith, nat_tests)

not_skipped : (word : List ℕ) (words : Words) → begins word ≡ true → is_skipped (joined (word ∷ words)) ≡ false
not_skipped [] words h = cc
not_skipped (b ∷ word) [] h = rw (some_bytes b word) (not_no (b == 35) h)
not_skipped (b ∷ word) (next ∷ words) h = rw (some_bytes b (word ++ space ∷ joined (next ∷ words))) (not_no (b == 35) h)

pub good_by : (word : List ℕ) (words : Words) (line : Line) → ArePlain (word ∷ words) → begins word ≡ true → line_in (word ∷ words) ≡ Some line →
    ((number : ℕ) → fits_at number line ≡ true) → IsGood (word ∷ words)
good_by word words line plain told says fits =
    record { plain = plain; told = not_skipped word words told; line = line; says = ap line_in (spaces_part word words plain) ∙ says; fits = fits }

pub all_good : (a b : List Words) → AllGood a → AllGood b → AllGood (a ++ b)
all_good [] b p q = q
all_good (words ∷ a) b p q = (p.0, all_good a b p.1 q)

pub good_plain : (lines : List Words) → AllGood lines → AllPlain lines
good_plain [] good = tt
good_plain (words ∷ lines) good = (good.0.plain, good_plain lines good.1)

-- ---- a line

speaks : (number : ℕ) (words : Words) (good : IsGood words) → spoken (numbered number words) ≡ Some (record { number = number; line = good.line })
unfolding spoken
speaks number words good = rw good.says (rw (good.fits number) refl)

fine : (number : ℕ) (words : Words) → IsGood words → is_bad (numbered number words) ≡ false
fine number words good =
    rw (plain_utf8 (joined words) (plain_line words good.plain)) (rw good.told (ap (λ o. is_none o) (speaks number words good)))

-- ---- lines

abbrev pub rows : ℕ → List Words → List Numbered
rows number lines = numbered_from number (map joined lines ++ [] ∷ [])

empty_utf8 : is_utf8 [] ≡ true
empty_utf8 = plain_utf8 [] refl

pub none_bad : (number : ℕ) (lines : List Words) → AllGood lines → bad_lines (rows number lines) ≡ None
none_bad number [] good = rw empty_utf8 refl
none_bad number (words ∷ lines) good = rw (fine number words good.0) (none_bad (number + 1) lines good.1)

pub all_speak : (number : ℕ) (lines : List Words) → AllGood lines → length (spoken_in (rows number lines)) ≡ length lines
all_speak number [] good = refl
all_speak number (words ∷ lines) good = rw good.0.told (rw (speaks number words good.0) (ap suc (all_speak (number + 1) lines good.1)))

-- ---- the text

auto_mode : mode_of (codes "auto") ≡ Some mode.Auto
unfolding mode_of
auto_mode = refl

module _ (lines : List Words) (good : AllGood lines) where
  abbrev pub script : List ℕ
  script = texts ((codes "auto" ∷ []) ∷ lines)

  rows_are : lines_of script ≡ record { number = 1; bytes = codes "auto" } ∷ rows 2 lines
  unfolding lines_of
  rows_are = ap (numbered_from 1) (lines_part ((codes "auto" ∷ []) ∷ lines) ((refl, tt), good_plain lines good))

  pub is_fine : bad_line script ≡ None
  unfolding bad_line
  is_fine = ap bad_in rows_are ∙ rw auto_mode (ap (λ (o : Option ℕ). first_of (o ∷ [])) (none_bad 2 lines good))

  pub is_auto : script_mode script ≡ Some mode.Auto
  unfolding script_mode
  is_auto = rw rows_are auto_mode

  pub speaks_all : length (script_lines script) ≡ length lines
  unfolding script_lines
  speaks_all = rw rows_are (all_speak 2 lines good)
