-- Texts, the names between their slashes, and the first fault.
use Rattle.std.proofs.Common.{◌≡◌, ◌≢◌, ℕ, ◌+◌, ◌<◌, ◌≤◌, ◌==◌, Bool, true, false, not, List, [], ◌∷◌, ◌++◌, length, get_or, take, drop, Option, Some, None, refl, sym, ap, ◌∙◌, subst, rules, nat_lt, arith, inl, inr, length-append}
use Rattle.std.specs.Prelude.{All, IsUtf8, Result, Ok, Err, MatchResult, is_err, unwrap_or}
use Rattle.std.specs.Option.{option_or}
use Rattle.std.specs.List.{slice_split, join_with_byte, position_or_len, slice_get}
use Rattle.std.specs.Str.{bytes_eq, is_utf8}
use Rattle.std.specs.Cmp.Lexicographic.{same_text}
use Rattle.std.proofs.lemmas.Bool.{cases_Bool, cases_lt, or_parts, or_from, ltb-false, le-ltb, ne_eqb, eqb-true, false_from_ne_true}
use Rattle.std.proofs.lemmas.List.Elements.{All-nil, All-cons, All-head, All-tail, All-from_get_or}
use Rattle.std.proofs.lemmas.List.Folds.{list_any-append, list_any_none}
use Rattle.std.proofs.lemmas.List.Splits.{slice_split_none, slice_split_at, slice_split_first, join_with_byte-slice_split, length-slice_split}
use Rattle.std.proofs.lemmas.List.Sums.{fails_before_first, passes_at_first, position_or_len_is}
use Rattle.std.proofs.lemmas.List.{take-append-drop, length-drop, length-take, get_or-take}
use Rattle.std.proofs.Math.Seq.{take-length}
use Rattle.std.proofs.lemmas.Str.{IsUtf8-from_is_utf8, is_utf8-from_IsUtf8, IsUtf8-drop, IsCharBoundary-after_ascii, IsUtf8-from_ascii}
use Rattle.std.proofs.lemmas.Str.Ascii.{IsAscii-from_all}
use Rattle.memchr.specs.Find.{IsFirstByte, is_byte}
use Rattle.fidl_names.specs.First.{cause_if, first_of}
use Rattle.fidl_names.specs.declared.limits.TheConstants as limit
use Rattle.fidl_names.proofs.FirstLaws.{first_of-append, first_of-head, first_of-none, cause_if-none}
use Rattle.path_walk.specs.declared.faults.PathFault.{PathFault}
use Rattle.path_walk.specs.declared.faults.PathFault.TheVariants as fault
use Rattle.path_walk.specs.Names.{slash, dot, dots, holds, name_fault, IsName}
use Rattle.path_walk.specs.Paths.{text_of, IsPath, names_of, text_faults, name_faults, path_fault}
use Rattle.path_walk.proofs.NameLemmas.{or_at_some, or_at_none, or_none_left, or_none_right, name-some, name-no_zero, name-no_slash, name_fault-later, later-dot, empty_is_no_name, dot_is_no_name}

abbrev pub is_slash : ℕ → Bool
is_slash byte = byte == slash

abbrev pub pieces : List ℕ → List (List ℕ)
pieces text = slice_split is_slash text

-- the first bad name
abbrev pub first_bad_name : List (List ℕ) → Option PathFault
first_bad_name names = first_of (name_faults names)

-- the first bad piece of a text
abbrev pub piece_fault : List ℕ → Option PathFault
piece_fault text = first_bad_name (pieces text)

-- ---- names with and without a fault

pub no_bad_name : (names : List (List ℕ)) → first_of (name_faults names) ≡ None → All IsName names
no_bad_name [] e = All-nil IsName
no_bad_name (name ∷ names) e =
    let both = first_of-none (name_fault name) (name_faults names) e in
    All-cons IsName name names both.0 (no_bad_name names both.1)

pub first_bad_name-none : (names : List (List ℕ)) → All IsName names → first_of (name_faults names) ≡ None
first_bad_name-none [] h = refl
first_bad_name-none (name ∷ names) h =
    first_of-head (name_fault name) (name_faults names)
    ∙ or_at_none _ _ (All-head IsName name names h)
    ∙ first_bad_name-none names (All-tail IsName name names h)

-- ---- a text without a byte, and its parts

pub holds-front : (byte : ℕ) (a b : List ℕ) → holds byte (a ++ b) ≡ false → holds byte a ≡ false
holds-front byte a b h = (or_parts (holds byte a) (holds byte b) (sym (list_any-append (λ x. x == byte) a b) ∙ h)).0

pub holds-back : (byte : ℕ) (a b : List ℕ) → holds byte (a ++ b) ≡ false → holds byte b ≡ false
holds-back byte a b h = (or_parts (holds byte a) (holds byte b) (sym (list_any-append (λ x. x == byte) a b) ∙ h)).1

all_other : (byte : ℕ) (text : List ℕ) → holds byte text ≡ false → All (λ b. (b == byte) ≡ false) text
all_other byte [] h = All-nil (λ b. (b == byte) ≡ false)
all_other byte (b ∷ text) h =
    let both = or_parts (b == byte) (holds byte text) h in
    All-cons (λ x. (x == byte) ≡ false) b text both.0 (all_other byte text both.1)

-- ---- the names of a text

pub same_bytes : (a b : List ℕ) → bytes_eq a b ≡ true → a ≡ b
same_bytes a b e = same_text a b (sym e)

text_of-some : (name : List ℕ) (names : List (List ℕ)) → text_of (name ∷ names) ≡ join_with_byte slash (name ∷ names)
unfolding text_of
text_of-some name names = refl

pub pieces-single : (name : List ℕ) → holds slash name ≡ false → pieces name ≡ name ∷ []
pieces-single name h = slice_split_none is_slash name (all_other slash name h)

pub pieces-join : (name : List ℕ) (names : List (List ℕ)) → All IsName (name ∷ names) → pieces (join_with_byte slash (name ∷ names)) ≡ name ∷ names
pieces-join name [] h = pieces-single name (name-no_slash name (All-head IsName name [] h))
pieces-join name (next ∷ names) h =
    slice_split_at is_slash name slash (join_with_byte slash (next ∷ names))
    (all_other slash name (name-no_slash name (All-head IsName name (next ∷ names) h)))
    refl
    ∙ ap (λ rest. name ∷ rest) (pieces-join next names (All-tail IsName name (next ∷ names) h))

pub names_of-dot : names_of dot ≡ []
unfolding names_of
names_of-dot = refl

pub names_of-other : (text : List ℕ) → bytes_eq text dot ≡ false → names_of text ≡ pieces text
unfolding names_of
names_of-other text e = rw e refl

-- names joined are no dot
joined_is_no_dot : (name : List ℕ) (names : List (List ℕ)) → All IsName (name ∷ names) → bytes_eq (join_with_byte slash (name ∷ names)) dot ≡ false
joined_is_no_dot name names h =
    elim (cases_Bool (bytes_eq (join_with_byte slash (name ∷ names)) dot)) [
      | inl same ↦
          let one : name ∷ names ≡ dot ∷ [] =
          sym (pieces-join name names h) ∙ ap pieces (same_bytes (join_with_byte slash (name ∷ names)) dot same) in
          absurd (dot_is_no_name (All-head IsName dot [] (subst (All IsName) one h)))
      | inr other ↦ other
    ]

names_of-text_of-nil : names_of (text_of []) ≡ []
unfolding text_of
names_of-text_of-nil = names_of-dot

pub names_of-text_of : (names : List (List ℕ)) → All IsName names → names_of (text_of names) ≡ names
names_of-text_of [] h = names_of-text_of-nil
names_of-text_of (name ∷ names) h =
    ap names_of (text_of-some name names)
    ∙ names_of-other (join_with_byte slash (name ∷ names)) (joined_is_no_dot name names h)
    ∙ pieces-join name names h

pub text_of-nil : text_of [] ≡ dot
unfolding text_of
text_of-nil = refl

pub text_of-joined : (names : List (List ℕ)) → 0 < length names → text_of names ≡ join_with_byte slash names
text_of-joined [] h = absurd (omega arith)
text_of-joined (name ∷ names) h = text_of-some name names

text_of-pieces : (text : List ℕ) → text_of (pieces text) ≡ text
text_of-pieces text =
    text_of-joined (pieces text) (rw (length-slice_split is_slash text) (omega arith))
    ∙ join_with_byte-slice_split slash text

pub text_of-names_of : (text : List ℕ) → text_of (names_of text) ≡ text
text_of-names_of text =
    elim (cases_Bool (bytes_eq text dot)) [
      | inl same ↦
          let is_dot : text ≡ dot = same_bytes text dot same in
          ap (λ t. text_of (names_of t)) is_dot ∙ ap text_of names_of-dot ∙ text_of-nil ∙ sym is_dot
      | inr other ↦ ap text_of (names_of-other text other) ∙ text_of-pieces text
    ]

-- ---- the parts of a text with no fault

pub record TextParts (text : List ℕ) : Type 0 where
  pub some : (length text == 0) ≡ false
  pub short : nat_lt limit.MAX_PATH (length text) ≡ false
  pub utf8 : is_utf8 text ≡ true
  pub no_zero : holds 0 text ≡ false
  pub names : All IsName (names_of text)

from_not : (b : Bool) → not b ≡ false → b ≡ true
from_not true e = refl
from_not false e = cc

abbrev fault_some : List ℕ → Option PathFault
fault_some text = cause_if (length text == 0) fault.Empty

abbrev fault_short : List ℕ → Option PathFault
fault_short text = cause_if (nat_lt limit.MAX_PATH (length text)) fault.TooLong

abbrev fault_utf8 : List ℕ → Option PathFault
fault_utf8 text = cause_if (not (is_utf8 text)) fault.NotUtf8

abbrev fault_zero : List ℕ → Option PathFault
fault_zero text = cause_if (holds 0 text) fault.ZeroByte

pub parts_of : (text : List ℕ) → first_of (text_faults text) ≡ None → All IsName (names_of text) → TextParts text
parts_of text e h =
    let one = first_of-none (fault_some text) (fault_short text ∷ fault_utf8 text ∷ fault_zero text ∷ []) e in
    let two = first_of-none (fault_short text) (fault_utf8 text ∷ fault_zero text ∷ []) one.1 in
    let three = first_of-none (fault_utf8 text) (fault_zero text ∷ []) two.1 in
    let four = first_of-none (fault_zero text) [] three.1 in
    record {
      some = cause_if-none (length text == 0) fault.Empty one.0;
      short = cause_if-none (nat_lt limit.MAX_PATH (length text)) fault.TooLong two.0;
      utf8 = from_not (is_utf8 text) (cause_if-none (not (is_utf8 text)) fault.NotUtf8 three.0);
      no_zero = cause_if-none (holds 0 text) fault.ZeroByte four.0;
      names = h;
    }

-- the whole text first, then name by name
pub path_fault-parts : (text : List ℕ) → path_fault text ≡ option_or (first_of (text_faults text)) (first_of (name_faults (names_of text)))
unfolding path_fault
path_fault-parts text = first_of-append (text_faults text) (name_faults (names_of text))

pub parts : (text : List ℕ) → path_fault text ≡ None → TextParts text
parts text e =
    let none = sym (path_fault-parts text) ∙ e in
    parts_of text (or_none_left _ _ none) (no_bad_name (names_of text) (or_none_right _ _ none))

-- a text whose first fault is the third, or the fourth
pub text-not_utf8 : (text : List ℕ) → (length text == 0) ≡ false → nat_lt limit.MAX_PATH (length text) ≡ false → is_utf8 text ≡ false → first_of (text_faults text) ≡ Some fault.NotUtf8
text-not_utf8 text some short utf8 = rw (some, short, utf8) refl

pub text-zero : (text : List ℕ) → (length text == 0) ≡ false → nat_lt limit.MAX_PATH (length text) ≡ false → is_utf8 text ≡ true → holds 0 text ≡ true → first_of (text_faults text) ≡ Some fault.ZeroByte
text-zero text some short utf8 no_zero = rw (some, short, utf8, no_zero) refl

pub text-none : (text : List ℕ) → (length text == 0) ≡ false → nat_lt limit.MAX_PATH (length text) ≡ false → is_utf8 text ≡ true → holds 0 text ≡ false → first_of (text_faults text) ≡ None
text-none text some short utf8 no_zero = rw (some, short, utf8, no_zero) refl

-- what a call of `from_utf8` tells
pub utf8_at_ok : {T E : Type 0} (r : Result T E) (bytes : List ℕ) (P : T → Type 0) (Q : E → Type 0) → MatchResult r (λ s. P s × IsUtf8 bytes) (λ e. (IsUtf8 bytes → ⊥) × Q e) → is_err r ≡ false → is_utf8 bytes ≡ true
utf8_at_ok (Ok s) bytes P Q h e = is_utf8-from_IsUtf8 bytes h.1
utf8_at_ok (Err f) bytes P Q h e = cc

pub utf8_at_err : {T E : Type 0} (r : Result T E) (bytes : List ℕ) (P : T → Type 0) (Q : E → Type 0) → MatchResult r (λ s. P s × IsUtf8 bytes) (λ e. (IsUtf8 bytes → ⊥) × Q e) → is_err r ≡ true → is_utf8 bytes ≡ false
utf8_at_err (Ok s) bytes P Q h e = cc
utf8_at_err (Err f) bytes P Q h e =
    false_from_ne_true (is_utf8 bytes) (λ yes. h.0 (IsUtf8-from_is_utf8 bytes yes))

pub from_parts : (text : List ℕ) → TextParts text → path_fault text ≡ None
from_parts text p = path_fault-parts text ∙ or_at_none _ _ (text-none text p.some p.short p.utf8 p.no_zero) ∙ first_bad_name-none (names_of text) p.names

-- ---- the grammar and the first fault

pub path_sound : (text : List ℕ) → path_fault text ≡ None → IsPath text (names_of text)
path_sound text e =
    let p = parts text e in
    record {
      spelled = sym (text_of-names_of text);
      valid = p.names;
      short = ltb-false limit.MAX_PATH (length text) p.short;
      utf8 = IsUtf8-from_is_utf8 text p.utf8;
    }

no_zero-joined : (name : List ℕ) (names : List (List ℕ)) → All IsName (name ∷ names) → holds 0 (join_with_byte slash (name ∷ names)) ≡ false
no_zero-joined name [] h = name-no_zero name (All-head IsName name [] h)
no_zero-joined name (next ∷ names) h =
    list_any-append (λ x. x == 0) name (slash ∷ join_with_byte slash (next ∷ names))
    ∙ or_from _ _
    (name-no_zero name (All-head IsName name (next ∷ names) h))
    (no_zero-joined next names (All-tail IsName name (next ∷ names) h))

some-joined : (name : List ℕ) (names : List (List ℕ)) → All IsName (name ∷ names) → 0 < length (join_with_byte slash (name ∷ names))
some-joined name [] h = name-some name (All-head IsName name [] h)
some-joined name (next ∷ names) h =
    rw (length-append name (slash ∷ join_with_byte slash (next ∷ names)))
    (let some : 0 < length name = name-some name (All-head IsName name (next ∷ names) h) in omega arith)

no_zero-text : (names : List (List ℕ)) → All IsName names → holds 0 (text_of names) ≡ false
unfolding text_of
no_zero-text [] h = refl
no_zero-text (name ∷ names) h = no_zero-joined name names h

some-text : (names : List (List ℕ)) → All IsName names → 0 < length (text_of names)
unfolding text_of
some-text [] h = omega arith
some-text (name ∷ names) h = some-joined name names h

pub path_complete : (text : List ℕ) (names : List (List ℕ)) → IsPath text names → (path_fault text ≡ None) × (names_of text ≡ names)
path_complete text names p =
    let same : names_of text ≡ names = ap names_of p.spelled ∙ names_of-text_of names p.valid in
    let some : 0 < length text = subst (λ t. 0 < length t) (sym p.spelled) (some-text names p.valid) in (
      from_parts text
          (record {
            some = ne_eqb (length text) 0 (λ e. omega arith);
            short = le-ltb limit.MAX_PATH (length text) p.short;
            utf8 = is_utf8-from_IsUtf8 text p.utf8;
            no_zero = ap (holds 0) p.spelled ∙ no_zero-text names p.valid;
            names = subst (All IsName) (sym same) p.valid;
          }),
      same,
    )

pub path_unique : (a b : List (List ℕ)) → All IsName a → All IsName b → text_of a ≡ text_of b → a ≡ b
path_unique a b p q same = sym (names_of-text_of a p) ∙ ap names_of same ∙ names_of-text_of b q

-- ---- the first name and what follows it

pub slash_after : (text : List ℕ) → position_or_len is_slash text < length text → pieces text ≡ take (position_or_len is_slash text) text ∷ pieces (drop (position_or_len is_slash text + 1) text)
slash_after text within = slice_split_first is_slash text 0 within

pub no_slash_after : (text : List ℕ) → position_or_len is_slash text ≡ length text → pieces text ≡ text ∷ []
no_slash_after text e =
    slice_split_none is_slash text
    (All-from_get_or (λ x. is_slash x ≡ false) text 0
    (λ k h. fails_before_first is_slash text k 0 (omega arith)))

pub front_no_slash : (text : List ℕ) → holds slash (take (position_or_len is_slash text) text) ≡ false
front_no_slash text =
    let p = position_or_len is_slash text in
    list_any_none is_slash (take p text)
    (All-from_get_or (λ x. is_slash x ≡ false) (take p text) 0
    (λ k h.
    let lt : k < p = omega (arith, length-take p text) in
    rw (get_or-take p text k 0 lt) (fails_before_first is_slash text k 0 lt)))

not_dot_at_slash : (text : List ℕ) → position_or_len is_slash text < length text → bytes_eq text dot ≡ false
not_dot_at_slash text within =
    elim (cases_Bool (bytes_eq text dot)) [
      | inl same ↦
          absurd
          (let at_end = subst (λ t. position_or_len is_slash t < length t) (same_bytes text dot same) within in
          let small : 1 < 1 = at_end in omega arith)
      | inr other ↦ other
    ]

-- names that are all valid come from a text with a byte, other than `.`
pieces_some : (text : List ℕ) → All IsName (pieces text) → 0 < length text
pieces_some [] h = absurd (empty_is_no_name (All-head IsName [] [] h))
pieces_some (byte ∷ text) h = omega arith

pieces_no_dot : (text : List ℕ) → All IsName (pieces text) → bytes_eq text dot ≡ false
pieces_no_dot text h =
    elim (cases_Bool (bytes_eq text dot)) [
      | inl same ↦
          absurd (dot_is_no_name (All-head IsName dot [] (subst (λ t. All IsName (pieces t)) (same_bytes text dot same) h)))
      | inr other ↦ other
    ]

-- what follows the first slash of a path is a path, of the names but the first
pub after_slash : (text : List ℕ) → path_fault text ≡ None → position_or_len is_slash text < length text → (path_fault (drop (position_or_len is_slash text + 1) text) ≡ None) × (names_of (drop (position_or_len is_slash text + 1) text) ≡ drop 1 (names_of text))
after_slash text e within =
    let p = position_or_len is_slash text in
    let after = drop (p + 1) text in
    let of_text : TextParts text = parts text e in
    let cut : names_of text ≡ take p text ∷ pieces after =
    names_of-other text (not_dot_at_slash text within) ∙ slash_after text within in
    let valid : All IsName (pieces after) =
    All-tail IsName (take p text) (pieces after) (subst (All IsName) cut of_text.names) in
    let some : 0 < length after = pieces_some after valid in
    let other : bytes_eq after dot ≡ false = pieces_no_dot after valid in
    let same : names_of after ≡ pieces after = names_of-other after other in
    let at : get_or text p 0 ≡ slash = eqb-true (get_or text p 0) slash (passes_at_first is_slash text 0 within) in
    let low : get_or text p 0 < 128 = omega arith in
    let long : length text ≤ limit.MAX_PATH = ltb-false limit.MAX_PATH (length text) of_text.short in
    let text_utf8 : IsUtf8 text = IsUtf8-from_is_utf8 text of_text.utf8 in (
      from_parts after
          (record {
            some = ne_eqb (length after) 0 (λ none. omega arith);
            short = le-ltb limit.MAX_PATH (length after) (omega (arith, length-drop (p + 1) text));
            utf8 =
                is_utf8-from_IsUtf8 after
                (IsUtf8-drop text (p + 1) text_utf8 (IsCharBoundary-after_ascii text p text_utf8 within low));
            no_zero =
                holds-back 0 (take (p + 1) text) after (ap (holds 0) (take-append-drop (p + 1) text) ∙ of_text.no_zero);
            names = subst (All IsName) (sym same) valid;
          }),
      same ∙ sym (ap (drop 1) cut),
    )

-- the place that a search for a slash finds
pub first_slash : (text : List ℕ) (found : Option ℕ) → IsFirstByte (is_byte 47) text found → unwrap_or found (length text) ≡ position_or_len is_slash text
first_slash text None h =
    sym (position_or_len_is is_slash text (length text) 0 (omega arith) (λ k lt. false_from_ne_true (is_slash (get_or text k 0)) (λ yes. h k (omega arith) lt yes)) (λ lt. absurd (omega arith)))
first_slash text (Some at) h =
    let within : at < length text = h.0.high in
    sym
    (position_or_len_is is_slash text at 0 (omega arith)
    (λ k lt. false_from_ne_true (is_slash (get_or text k 0)) (λ yes. h.0.before k (omega arith) lt yes))
    (λ lt. h.1))

-- ---- what the calls on a path give

pub names_of-at_dot : (text : List ℕ) → bytes_eq text dot ≡ true → names_of text ≡ []
names_of-at_dot text same = ap names_of (same_bytes text dot same) ∙ names_of-dot

pub path_fault-dot : path_fault dot ≡ None
path_fault-dot =
    from_parts dot
    (record { some = refl; short = refl; utf8 = is_utf8-from_IsUtf8 dot (IsUtf8-from_ascii dot (search rules)); no_zero = refl; names = subst (All IsName) (sym names_of-dot) (All-nil IsName) })

-- the names from the first on
pub pieces-cut : (text : List ℕ) (end : ℕ) → end ≡ position_or_len is_slash text → end ≤ length text → (rest : List (List ℕ)) × (pieces text ≡ take end text ∷ rest)
pieces-cut text end e h =
    elim (cases_lt end (length text)) [
      | inl within ↦ (
        pieces (drop (end + 1) text),
        rw e (slash_after text (subst (λ k. k < length text) e within)),
      )
      | inr past ↦
          let at_end : end ≡ length text = omega arith in
          ([], no_slash_after text (sym e ∙ at_end) ∙ ap (λ name. name ∷ []) (sym (rw at_end (take-length text))))
    ]

pub head_of : (text : List ℕ) (end : ℕ) → bytes_eq text dot ≡ false → end ≡ position_or_len is_slash text → end ≤ length text → slice_get (names_of text) 0 ≡ Some (take end text)
head_of text end other e h =
    let cut = pieces-cut text end e h in
    ap (λ names. slice_get names 0) (names_of-other text other ∙ cut.1)

pub head_name : (text : List ℕ) (end : ℕ) → path_fault text ≡ None → bytes_eq text dot ≡ false → end ≡ position_or_len is_slash text → end ≤ length text → IsName (take end text)
head_name text end sound other e h =
    let cut = pieces-cut text end e h in
    All-head IsName (take end text) cut.0
    (subst (All IsName) (names_of-other text other ∙ cut.1) (parts text sound).names)

pub rest_at_end : (text : List ℕ) → position_or_len is_slash text ≡ length text → drop 1 (names_of text) ≡ []
rest_at_end text e =
    elim (cases_Bool (bytes_eq text dot)) [
      | inl same ↦ ap (drop 1) (names_of-at_dot text same)
      | inr other ↦ ap (drop 1) (names_of-other text other ∙ no_slash_after text e)
    ]

-- ---- a plain name

-- a byte of ASCII that is neither zero nor a slash
abbrev pub IsPlain : ℕ → Type 0
IsPlain byte = (byte ≢ 0) × (byte ≢ slash) × (byte < 128)

-- no byte of a text is this one
no_byte : (text : List ℕ) (byte : ℕ) → ((k : ℕ) → k < length text → get_or text k 0 ≢ byte) → holds byte text ≡ false
no_byte text byte h =
    list_any_none (λ x. x == byte) text (All-from_get_or (λ x. (x == byte) ≡ false) text 0 (λ k within. ne_eqb (get_or text k 0) byte (h k within)))

no_dot_at_head : (text other : List ℕ) → get_or text 0 0 ≢ 46 → get_or other 0 0 ≡ 46 → bytes_eq text other ≡ false
no_dot_at_head text other head there =
    elim (cases_Bool (bytes_eq text other)) [
      | inl same ↦ absurd (head (ap (λ t. get_or t 0 0) (same_bytes text other same) ∙ there))
      | inr differs ↦ differs
    ]

plain_is_name : (text : List ℕ) → (length text == 0) ≡ false → length text ≤ limit.MAX_NAME → get_or text 0 0 ≢ 46 → holds 0 text ≡ false → holds slash text ≡ false → IsName text
plain_is_name text some few head no_zero no_slash =
    let short : nat_lt limit.MAX_NAME (length text) ≡ false = le-ltb limit.MAX_NAME (length text) few in
    let not_dot : bytes_eq text dot ≡ false = no_dot_at_head text dot head refl in
    let not_dots : bytes_eq text dots ≡ false = no_dot_at_head text dots head refl in
    name_fault-later text (rw (some, short) refl) ∙ later-dot text no_zero no_slash ∙ rw (not_dot, not_dots) refl

-- no byte of it is a slash
pub plain_one : (text : List ℕ) → ((k : ℕ) → k < length text → IsPlain (get_or text k 0)) → position_or_len is_slash text ≡ length text
plain_one text plain =
    position_or_len_is is_slash text (length text) 0 (omega arith) (λ k within. ne_eqb (get_or text k 0) slash (plain k within).1) (λ within. absurd (omega arith))

-- it is a path
pub plain_path : (text : List ℕ) → (length text == 0) ≡ false → length text ≤ limit.MAX_NAME → get_or text 0 0 ≢ 46 → ((k : ℕ) → k < length text → IsPlain (get_or text k 0)) → path_fault text ≡ None
plain_path text some few head plain =
    let no_zero = no_byte text 0 (λ k within. (plain k within).0) in
    let no_slash = no_byte text slash (λ k within. (plain k within).1) in
    let alone : names_of text ≡ text ∷ [] = names_of-other text (no_dot_at_head text dot head refl) ∙ no_slash_after text (plain_one text plain) in
    from_parts text
    (record {
      some = some;
      short = le-ltb limit.MAX_PATH (length text) (omega (arith, few));
      utf8 = is_utf8-from_IsUtf8 text (IsUtf8-from_ascii text (IsAscii-from_all text (All-from_get_or (λ byte. byte < 128) text 0 (λ k within. (plain k within).2))));
      no_zero = no_zero;
      names = subst (All IsName) (sym alone) (All-cons IsName text [] (plain_is_name text some few head no_zero no_slash) (All-nil IsName));
    })

-- ---- piece by piece

pub piece_bad : (text : List ℕ) (end : ℕ) (found : PathFault) → end ≡ position_or_len is_slash text → end ≤ length text → name_fault (take end text) ≡ Some found → piece_fault text ≡ Some found
piece_bad text end found e h bad =
    let cut = pieces-cut text end e h in
    ap first_bad_name cut.1
    ∙ first_of-head (name_fault (take end text)) (name_faults cut.0)
    ∙ or_at_some (name_fault (take end text)) (first_bad_name cut.0) found bad

pub last_piece_good : (text : List ℕ) → position_or_len is_slash text ≡ length text → name_fault text ≡ None → piece_fault text ≡ None
last_piece_good text e good =
    ap first_bad_name (no_slash_after text e) ∙ first_of-head (name_fault text) [] ∙ or_at_none (name_fault text) None good

pub piece_good : (text : List ℕ) (end : ℕ) → end ≡ position_or_len is_slash text → end < length text → name_fault (take end text) ≡ None → piece_fault text ≡ piece_fault (drop (end + 1) text)
piece_good text end e within good =
    let cut : pieces text ≡ take end text ∷ pieces (drop (end + 1) text) =
    rw e (slash_after text (subst (λ k. k < length text) e within)) in
    ap first_bad_name cut
    ∙ first_of-head (name_fault (take end text)) (name_faults (pieces (drop (end + 1) text)))
    ∙ or_at_none (name_fault (take end text)) (piece_fault (drop (end + 1) text)) good

pub take_no_zero : (text : List ℕ) (n : ℕ) → holds 0 text ≡ false → holds 0 (take n text) ≡ false
take_no_zero text n h = holds-front 0 (take n text) (drop n text) (ap (holds 0) (take-append-drop n text) ∙ h)

pub drop_no_zero : (text : List ℕ) (n : ℕ) → holds 0 text ≡ false → holds 0 (drop n text) ≡ false
drop_no_zero text n h = holds-back 0 (take n text) (drop n text) (ap (holds 0) (take-append-drop n text) ∙ h)

-- ---- the first fault, from its parts

pub path_fault-text : (text : List ℕ) (found : PathFault) → first_of (text_faults text) ≡ Some found → path_fault text ≡ Some found
path_fault-text text found e = path_fault-parts text ∙ or_at_some _ _ found e

pub path_fault-pieces : (text : List ℕ) → first_of (text_faults text) ≡ None → bytes_eq text dot ≡ false → path_fault text ≡ piece_fault text
path_fault-pieces text e other = path_fault-parts text ∙ or_at_none _ _ e ∙ ap first_bad_name (names_of-other text other)

pub path_fault-at_dot : (text : List ℕ) → bytes_eq text dot ≡ true → path_fault text ≡ None
path_fault-at_dot text same = ap path_fault (same_bytes text dot same) ∙ path_fault-dot

pub no_path : (text : List ℕ) (names : List (List ℕ)) (found : PathFault) → path_fault text ≡ Some found → IsPath text names → ⊥
no_path text names found e p =
    let none : path_fault text ≡ None = (path_complete text names p).0 in
    let wrong : None ≡ Some found = sym none ∙ e in
    cc
