-- That the pieces of a text are UTF-8 where it is.
use Rattle.std.proofs.Common.{◌≡◌, ℕ, zero, suc, ◌+◌, ◌<◌, ◌≤◌, false, List, [], ◌∷◌, length, get_or, drop, sym, ap, subst, arith, inl, inr}
use Rattle.std.specs.List.{position_or_len}
use Rattle.std.specs.Str.{IsUtf8}
use Rattle.std.proofs.lemmas.Bool.{cases_lt, eqb-true}
use Rattle.std.proofs.lemmas.List.{length-drop}
use Rattle.std.proofs.lemmas.List.Elements.{All-from_get_or}
use Rattle.std.proofs.lemmas.List.Splits.{slice_split_none, slice_split_first}
use Rattle.std.proofs.lemmas.List.Sums.{fails_before_first, passes_at_first}
use Rattle.std.proofs.lemmas.Str.{IsUtf8-take, IsUtf8-drop, IsCharBoundary-before_ascii, IsCharBoundary-after_ascii}
use Rattle.vfs_script.specs.Parsed.{AreTexts}
use Rattle.text_pieces.specs.Pieces.{pieces}
use Rattle.text_pieces.proofs.PieceLemmas.{is_by}

-- a text without such a byte
texts_none : (by : ℕ) (text : List ℕ) → IsUtf8 text → length text ≤ position_or_len (is_by by) text → AreTexts (pieces by text)
texts_none by text utf8 far =
    let whole : pieces by text ≡ text ∷ [] =
    slice_split_none (is_by by) text
    (All-from_get_or (λ x. is_by by x ≡ false) text 0 (λ k lt. fails_before_first (is_by by) text k 0 (omega arith))) in
    subst AreTexts (sym whole) (utf8, tt)

-- the first such byte is of ASCII
ascii_at_first : (by : ℕ) (text : List ℕ) → by < 128 → position_or_len (is_by by) text < length text → get_or text (position_or_len (is_by by) text) 0 < 128
ascii_at_first by text low within =
    let is : get_or text (position_or_len (is_by by) text) 0 ≡ by = eqb-true (get_or text (position_or_len (is_by by) text) 0) by (passes_at_first (is_by by) text 0 within) in
    rw is low

-- what follows it is UTF-8 and shorter
behind_utf8 : (by : ℕ) (text : List ℕ) → by < 128 → IsUtf8 text → position_or_len (is_by by) text < length text → IsUtf8 (drop (position_or_len (is_by by) text + 1) text)
behind_utf8 by text low utf8 within =
    IsUtf8-drop text (position_or_len (is_by by) text + 1) utf8
    (IsCharBoundary-after_ascii text (position_or_len (is_by by) text) utf8 within (ascii_at_first by text low within))

behind_less : (size by : ℕ) (text : List ℕ) → length text ≤ suc size → position_or_len (is_by by) text < length text → length (drop (position_or_len (is_by by) text + 1) text) ≤ size
behind_less size by text few within =
    let size-drop = length-drop (position_or_len (is_by by) text + 1) text in
    omega (arith, size-drop, few, within)

-- the text up to the first such byte, and the pieces of what follows it
texts_first : (by : ℕ) (text : List ℕ) → by < 128 → IsUtf8 text → position_or_len (is_by by) text < length text →
    AreTexts (pieces by (drop (position_or_len (is_by by) text + 1) text)) → AreTexts (pieces by text)
texts_first by text low utf8 within rest =
    subst AreTexts (sym (slice_split_first (is_by by) text 0 within)) (
      IsUtf8-take text (position_or_len (is_by by) text) utf8
          (IsCharBoundary-before_ascii text (position_or_len (is_by by) text) within (ascii_at_first by text low within)),
      rest,
    )

texts_up_to : (size by : ℕ) (text : List ℕ) → by < 128 → length text ≤ size → IsUtf8 text → AreTexts (pieces by text)
texts_up_to zero by text low few utf8 = texts_none by text utf8 (omega (arith, few))
texts_up_to (suc size) by text low few utf8 =
    elim (cases_lt (position_or_len (is_by by) text) (length text)) [
      | inl within ↦
          texts_first by text low utf8 within
          (texts_up_to size by (drop (position_or_len (is_by by) text + 1) text) low (behind_less size by text few within) (behind_utf8 by text low utf8 within))
      | inr far ↦ texts_none by text utf8 far
    ]

-- the pieces of a text between bytes of ASCII are texts
pub pieces_are_texts : (by : ℕ) (text : List ℕ) → by < 128 → IsUtf8 text → AreTexts (pieces by text)
pieces_are_texts by text low utf8 = texts_up_to (length text) by text low (omega arith) utf8

-- the words behind the first one are texts
pub texts_behind : (words : List (List ℕ)) (first : List ℕ) (others : List (List ℕ)) → words ≡ first ∷ others → AreTexts words → AreTexts others
texts_behind [] first others e h = cc
texts_behind (word ∷ words) first others e h = subst AreTexts (ap (drop 1) e) h.1
