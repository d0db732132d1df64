-- The first piece of a text, and how many there are.
use Rattle.std.proofs.Common.{◌≡◌, ℕ, ◌+◌, ◌-◌, ◌<◌, ◌≤◌, ◌==◌, Bool, true, false, List, [], ◌∷◌, length, get_or, take, drop, Some, None, sym, ap, ◌∙◌, subst, arith, cond}
use Rattle.std.specs.List.{onto_first, position_or_len}
use Rattle.std.proofs.lemmas.Bool.{false_from_ne_true}
use Rattle.std.proofs.lemmas.List.{length-drop, take_all}
use Rattle.std.proofs.lemmas.List.Elements.{All-from_get_or}
use Rattle.std.proofs.lemmas.List.Splits.{slice_split_none, slice_split_first, length-slice_split}
use Rattle.std.proofs.lemmas.List.Sums.{position_or_len_is}
use Rattle.memchr.specs.Find.{IsFirstByte, is_byte}
use Rattle.text_pieces.specs.Pieces.{pieces}

-- a byte is the one between pieces
abbrev pub is_by : ℕ → ℕ → Bool
is_by by byte = byte == by

first_at : (by : ℕ) (text : List ℕ) (at : ℕ) → IsFirstByte (is_byte by) text (Some at) → position_or_len (is_by by) text ≡ at
first_at by text at h =
    let within : at < length text = h.0.high in
    position_or_len_is (is_by by) text at 0 (omega arith)
    (λ k lt. false_from_ne_true (is_by by (get_or text k 0)) (λ yes. h.0.before k (omega arith) lt yes))
    (λ lt. h.1)

pub pieces_found : (by : ℕ) (text : List ℕ) (at : ℕ) → IsFirstByte (is_byte by) text (Some at) → pieces by text ≡ take at text ∷ pieces by (drop (at + 1) text)
pieces_found by text at h =
    let e = first_at by text at h in
    let within : position_or_len (is_by by) text < length text = rw e h.0.high in
    subst (λ k. pieces by text ≡ take k text ∷ pieces by (drop (k + 1) text)) e (slice_split_first (is_by by) text 0 within)

pub pieces_none : (by : ℕ) (text : List ℕ) → IsFirstByte (is_byte by) text None → pieces by text ≡ text ∷ []
pieces_none by text h =
    slice_split_none (is_by by) text
    (All-from_get_or (λ x. is_by by x ≡ false) text 0 (λ k lt. false_from_ne_true (is_by by (get_or text k 0)) (λ yes. h k (omega arith) lt yes)))

more_pieces : (yes : Bool) (byte : ℕ) (parts : List (List ℕ)) (size : ℕ) → length parts ≤ size → 0 < length parts → length (cond yes ([] ∷ parts) (onto_first byte parts)) ≤ size + 1
more_pieces true byte parts size few some = omega arith
more_pieces false byte [] size few some = absurd (omega arith)
more_pieces false byte (part ∷ parts) size few some = omega arith

pub pieces_few : (by : ℕ) (text : List ℕ) → length (pieces by text) ≤ length text + 1
pieces_few by [] = omega arith
pieces_few by (byte ∷ text) =
    let some : 0 < length (pieces by text) = rw (length-slice_split (is_by by) text) (omega arith) in
    let few : length (cond (is_by by byte) ([] ∷ pieces by text) (onto_first byte (pieces by text))) ≤ (length text + 1) + 1 =
    more_pieces (is_by by byte) byte (pieces by text) (length text + 1) (pieces_few by text) some in
    omega (arith, few)

pub tail_is : (n : ℕ) (xs : List ℕ) → take (length xs - n) (drop n xs) ≡ drop n xs
tail_is n xs = take_all (length xs - n) (drop n xs) (let size = length-drop n xs in omega (arith, size))

-- the first piece, and the pieces of what follows it
pub cut_found : (by : ℕ) (text : List ℕ) (at : ℕ) (others : List (List ℕ)) → IsFirstByte (is_byte by) text (Some at) →
    others ≡ pieces by (take (length text - (at + 1)) (drop (at + 1) text)) → pieces by text ≡ take at text ∷ others
cut_found by text at others found are =
    pieces_found by text at found ∙ ap (λ rest. take at text ∷ rest) (sym (are ∙ ap (pieces by) (tail_is (at + 1) text)))
