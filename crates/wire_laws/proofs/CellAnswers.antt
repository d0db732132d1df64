-- What is meant as a fault of a cell is answered.
use Rattle.std.proofs.Common.{◌≡◌, ℕ, zero, suc, ◌+◌, ◌-◌, ◌*◌, ◌<◌, ◌≤◌, inl, inr, max, Bool, true, false, not, ◌||◌, ◌&&◌, cond, List, [], ◌∷◌, length, drop, get_or, slice_range, nat_lt, nat_le, nat_eq, ◌==◌, Option, Some, None, Ok, Err, refl, sym, ap, ◌∙◌, subst, length-append, length-drop, add-zero, arith}
use Rattle.std.proofs.Math.Nat.{sub-zero}
use Rattle.std.specs.Str.{is_utf8}
use Rattle.std.proofs.lemmas.Str.{IsUtf8-from_is_utf8, is_utf8-from_IsUtf8}
use Rattle.std.proofs.lemmas.Bool.Decides.{nat_tests}
use Rattle.fidl_names.specs.declared.methods.Handle.{Handle}
use Rattle.fidl_names.specs.Numbers.{number_at}
use Rattle.fidl_wire.specs.declared.reading.Outside.{Outside}
use Rattle.fidl_wire.specs.declared.faults.WireFault.{WireFault}
use Rattle.fidl_wire.specs.declared.faults.WireWhat.{WireWhat}
use Rattle.fidl_wire.specs.declared.faults.WireWhat.TheVariants.{Padding, Presence, Count, Utf8, Envelope, Handles}
use Rattle.fidl_wire.specs.declared.kinds.HandleKind.{HandleKind}
use Rattle.fidl_wire.specs.declared.kinds.MemberKind.{MemberKind}
use Rattle.fidl_wire.specs.declared.kinds.MemberKind.TheVariants as kind
use Rattle.fidl_wire.specs.Headers.{fault}
use Rattle.fidl_wire.specs.Numbers.{padded}
use Rattle.fidl_wire.specs.Layout.{Cell, Member, number, pad, handle, text, vector, table, next_kind, later, has_required, size_of}
use Rattle.fidl_wire.specs.Cursor.{Cursor}
use Rattle.fidl_wire.specs.Reading.{◌>>=◌, passed, check, blank_or, all_blank, next_handle, present_word, present_list, count_at, list_part, list_cell, bytes_at, handles_at, flags_at, is_outside, enough_handles, entered, skipped, before_list, number_member, bytes_member, present_member, member_at, members_at, cell_at}
use Rattle.fidl_wire.specs.Grammar.{Part, join, AreMembers}
use Rattle.wire_laws.specs.Meanings.{Stands, IsFirstUsed, PadFault, HandleFault, HasNone, IsText, IsThere, ListFault, HasForm, IsEntered, EntryFault, NumberFault, IsMiscounted, BytesFault, UnknownFault, PresentFault, MemberFault, MembersFault, LacksMember, HeadFault, TableFault, CellFault}
use Rattle.wire_laws.proofs.Slices.{begins-length}
use Rattle.wire_laws.proofs.Steps.{inline_at-ok, check-true, eq_true, true_eq, false_eq, true_le}
use Rattle.wire_laws.proofs.Blanks.{zeros_len, zeros_len-used, length-slice_range}
use Rattle.wire_laws.proofs.Parts.{stands-join_first, stands-join_rest}
use Rattle.wire_laws.proofs.TableCells.{behind_part, list_taken, member_read, outside_true, enough_ok}
use Rattle.wire_laws.proofs.WholeTables.{length-member, members_read}
use Rattle.wire_laws.proofs.FaultSteps.{byte_at}
use Rattle.wire_laws.proofs.CellFaults.{spot_of}
use Rattle.wire_laws.proofs.TableFaults.{drop_later, member_same, outside_form, sixteen_fit}

pub check-false : (b : Bool) (e : WireFault) → b ≡ false → check b e ≡ Err e
check-false b e h = rw h refl

pub false_le : (m n : ℕ) → n < m → nat_le m n ≡ false
false_le m n h = grind (arith, nat_tests)

-- ---- padding

zeros_len_at : (xs : List ℕ) (n : ℕ) → n < length xs → ((j : ℕ) → j < n → get_or xs j 0 ≡ 0) → (get_or xs n 0 ≡ 0 → ⊥) → zeros_len xs ≡ n
zeros_len_at [] n below before used = absurd (omega arith)
zeros_len_at (zero ∷ xs) zero below before used = absurd (used refl)
zeros_len_at (zero ∷ xs) (suc n) below before used = omega (arith, zeros_len_at xs n (omega arith) (λ j h. before (suc j) (omega arith)) used)
zeros_len_at (suc b ∷ xs) zero below before used = zeros_len-used b xs
zeros_len_at (suc b ∷ xs) (suc n) below before used = absurd (omega (arith, before 0 (omega arith)))

some_at : (n k len : ℕ) → k ≡ n → n < len → cond (nat_lt k len) (Some k) None ≡ Some n
some_at n k len same below = rw (same, below_true n len below) refl
  where
    below_true : (a b : ℕ) → a < b → nat_lt a b ≡ true
    below_true a b h = grind (arith, nat_tests)

pub blank_answer : (m : List ℕ) (from until at : ℕ) → until ≤ length m → IsFirstUsed m from until at → all_blank m from until ≡ Err (fault at Padding)
unfolding all_blank
blank_answer m from until at within f =
    let part = slice_range m from until in
    let order : from ≤ at = f.order in
    let below : at < until = f.within in
    let n = at - from in
    let size : length part ≡ until - from = length-slice_range m from until (omega arith) within in
    let here : from + (at - from) ≡ at = omega arith in
    let zeros : zeros_len part ≡ n = zeros_len_at part n (omega (arith, size))
    (λ j h. byte_at m from until j (omega (arith, h)) ∙ f.blank (from + j) (omega arith) (omega (arith, h)))
    (λ z. f.used (ap (λ k. get_or m k 0) (sym here) ∙ sym (byte_at m from until n (omega arith)) ∙ z)) in
    ap (blank_or from) (some_at n (zeros_len part) (length part) zeros (omega (arith, size))) ∙ ap (λ k. Err (fault k Padding)) here

pad_answer : (size : ℕ) (c : Cursor) (at : ℕ) (w : WireWhat) → c.end ≤ length c.message → c.place + size ≤ c.end → PadFault size (spot_of c) at w → cell_at (pad size) c ≡ Err (fault at w)
unfolding cell_at
pad_answer size c at Padding within fits f = rw (inline_at-ok size c fits, blank_answer c.message c.place (c.place + size) at (omega arith) f) refl
pad_answer size c at w within fits f = absurd f

-- ---- handles

no_mark : (mark : ℕ) (nullable : Bool) → (nullable ≡ true → mark ≡ 0 → ⊥) → (nat_eq mark 0 && nullable) ≡ false
no_mark mark true h = rw (false_eq mark 0 (h refl)) refl
no_mark mark false h = elim (nat_eq mark 0) as (λ b. (b && false) ≡ false) [ true ↦ refl | false ↦ refl ]

next_answer : (kind : HandleKind) (at : ℕ) (hs : List Handle) (c : Cursor) → HasNone kind hs → next_handle kind at hs c ≡ Err (fault at Handles)
next_answer kind at [] c none = refl
next_answer kind at (h ∷ hs) c none = rw none refl

handle_answer : (kind : HandleKind) (nullable : Bool) (c : Cursor) (at : ℕ) (w : WireWhat) → c.place + 4 ≤ c.end → HandleFault kind nullable (spot_of c) at w → cell_at (handle kind nullable) c ≡ Err (fault at w)
unfolding cell_at
handle_answer kind nullable c at Presence fits f =
    rw (f.0, inline_at-ok 4 c fits, false_eq (number_at 4 c.place c.message) present_word f.1.present, no_mark (number_at 4 c.place c.message) nullable f.1.absent) refl
handle_answer kind nullable c at Handles fits f =
    rw (f.0, inline_at-ok 4 c fits, true_eq (number_at 4 c.place c.message) present_word f.1, next_answer kind c.place c.handles (passed 4 c) f.2) refl
handle_answer kind nullable c at w fits f = absurd f

-- ---- strings and vectors

text_test : (is_text : Bool) (bytes : List ℕ) → IsText is_text bytes → (not is_text || is_utf8 bytes) ≡ true
text_test true bytes t = is_utf8-from_IsUtf8 bytes t
text_test false bytes t = refl

text_fails : (is_text : Bool) (bytes : List ℕ) → (IsText is_text bytes → ⊥) → (not is_text || is_utf8 bytes) ≡ false
text_fails true bytes none =
    elim (is_utf8 bytes) as (λ b. is_utf8 bytes ≡ b → b ≡ false) [
      | true ↦ λ yes. absurd (none (IsUtf8-from_is_utf8 bytes yes))
      | false ↦ λ e. refl
    ] refl
text_fails false bytes none = absurd (none tt)

mark_answer : (c : Cursor) → (number_at 8 (c.place + 8) c.message ≡ present_list → ⊥) → count_at c.place c ≡ Err (fault c.place Presence)
mark_answer c none = rw (check-false (nat_eq (number_at 8 (c.place + 8) c.message) present_list) (fault c.place Presence) (false_eq (number_at 8 (c.place + 8) c.message) present_list none)) refl

mark_passes : (c : Cursor) → number_at 8 (c.place + 8) c.message ≡ present_list → count_at c.place c ≡ Ok (number_at 8 c.place c.message)
mark_passes c mark = rw (check-true (nat_eq (number_at 8 (c.place + 8) c.message) present_list) (fault c.place Presence) (true_eq (number_at 8 (c.place + 8) c.message) present_list mark)) refl

list_answer : (is_text : Bool) (c : Cursor) (at : ℕ) (w : WireWhat) → c.place + 16 ≤ c.end → ListFault is_text (spot_of c) at w → list_cell is_text c ≡ Err (fault at w)
list_answer is_text c at Presence fits f = rw (f.0, inline_at-ok 16 c fits, mark_answer c f.1) refl
list_answer is_text c at Count fits f =
    let n = number_at 8 c.place c.message in
    rw (f.0, inline_at-ok 16 c fits, mark_passes c f.1, check-false (nat_le (c.out + padded n) (length c.message)) (fault c.place Count) (false_le (c.out + padded n) (length c.message) f.2)) refl
list_answer is_text c at Utf8 fits f =
    let n = number_at 8 c.place c.message in
    let there : IsThere (spot_of c) (padded n) = f.1 in
    rw (
      f.0,
      inline_at-ok 16 c fits,
      mark_passes c there.mark,
      check-true (nat_le (c.out + padded n) (length c.message)) (fault c.place Count) (true_le (c.out + padded n) (length c.message) there.fits),
      check-false (not is_text || is_utf8 (list_part c.place n c)) (fault c.place Utf8) (text_fails is_text (list_part c.place n c) f.2),
    ) refl
list_answer is_text c at Padding fits f =
    let n = number_at 8 c.place c.message in
    let there : IsThere (spot_of c) (padded n) = f.0 in
    rw (
      inline_at-ok 16 c fits,
      mark_passes c there.mark,
      check-true (nat_le (c.out + padded n) (length c.message)) (fault c.place Count) (true_le (c.out + padded n) (length c.message) there.fits),
      check-true (not is_text || is_utf8 (list_part c.place n c)) (fault c.place Utf8) (text_test is_text (list_part c.place n c) f.1),
      blank_answer c.message (c.out + n) (c.out + padded n) at there.fits f.2,
    ) refl
list_answer is_text c at w fits f = absurd f

text_answer : (c : Cursor) (at : ℕ) (w : WireWhat) → c.place + 16 ≤ c.end → ListFault true (spot_of c) at w → cell_at text c ≡ Err (fault at w)
unfolding cell_at
text_answer c at w fits f = rw (list_answer true c at w fits f) refl

vector_answer : (c : Cursor) (at : ℕ) (w : WireWhat) → c.place + 16 ≤ c.end → ListFault false (spot_of c) at w → cell_at vector c ≡ Err (fault at w)
unfolding cell_at
vector_answer c at w fits f = rw (list_answer false c at w fits f) refl

-- ---- an envelope out of line

form_false : (at : ℕ) (m : List ℕ) → (HasForm at m → ⊥) → is_outside at m ≡ false
form_false at m none =
    elim (is_outside at m) as (λ b. is_outside at m ≡ b → b ≡ false) [
      | true ↦ λ yes. absurd (none (outside_form at m yes))
      | false ↦ λ e. refl
    ] refl

form_true : (at : ℕ) (m : List ℕ) → HasForm at m → is_outside at m ≡ true
form_true at m f = outside_true at m f.flags f.some f.aligned

few_answer : (at : ℕ) (m : List ℕ) (o : Outside) → o.left < handles_at at m → enough_handles at m o ≡ Err (fault at Handles)
few_answer at m o h = check-false (nat_le (handles_at at m) o.left) (fault at Handles) (false_le (handles_at at m) o.left h)

pub entry_answer : (size at : ℕ) (m : List ℕ) (o : Outside) (w : WireWhat) → EntryFault size at o.out o.left m w → entered at size m o ≡ Err (fault at w)
entry_answer size at m o Envelope (inl none) = rw (form_false at m none) refl
entry_answer size at m o Envelope (inr long) =
    let reach = o.out + max (bytes_at at m) (padded size) in
    elim (is_outside at m) as (λ b. (check b (fault at Envelope) >>= λ _. check (nat_le reach (length m)) (fault at Envelope) >>= λ _. enough_handles at m o) ≡ Err (fault at Envelope)) [
      | true ↦ rw (check-false (nat_le reach (length m)) (fault at Envelope) (false_le reach (length m) long)) refl
      | false ↦ refl
    ]
entry_answer size at m o Handles f =
    let reach = o.out + max (bytes_at at m) (padded size) in
    rw (form_true at m f.0, check-true (nat_le reach (length m)) (fault at Envelope) (true_le reach (length m) f.1), few_answer at m o f.2) refl
entry_answer size at m o w f = absurd f

pub enters : (size at : ℕ) (m : List ℕ) (o : Outside) → IsEntered size at o.out o.left m → entered at size m o ≡ Ok tt
enters size at m o f =
    let reach = o.out + max (bytes_at at m) (padded size) in
    rw (form_true at m f.form, check-true (nat_le reach (length m)) (fault at Envelope) (true_le reach (length m) f.fits), enough_ok at m o f.enough) refl

-- ---- members

counts_fail : (a b : ℕ) → (a ≡ 8 → b ≡ 0 → ⊥) → ((a == 8) && (b == 0)) ≡ false
counts_fail a b none =
    elim (a == 8) as (λ t. (a == 8) ≡ t → (t && (b == 0)) ≡ false) [
      | true ↦ λ same. false_eq b 0 (none (eq_true a 8 same))
      | false ↦ λ e. refl
    ] refl

number_answer : (at : ℕ) (m : List ℕ) (o : Outside) (w : WireWhat) → NumberFault at o.out o.left m w → number_member at m o ≡ Err (fault at w)
number_answer at m o Envelope (inl entry) = rw (entry_answer 8 at m o Envelope entry) refl
number_answer at m o Envelope (inr other) = rw (enters 8 at m o other.entered, counts_fail (bytes_at at m) (handles_at at m) other.counts) refl
number_answer at m o w f = rw (entry_answer 8 at m o w f) refl

unknown_answer : (at : ℕ) (m : List ℕ) (o : Outside) (w : WireWhat) → UnknownFault at o.out o.left m w → skipped at m o ≡ Err (fault at w)
unknown_answer at m o Handles (inl f) = rw (true_eq (flags_at at m) 1 f.inlined, few_answer at m o f.few) refl
unknown_answer at m o Handles (inr f) = rw (false_eq (flags_at at m) 1 f.0, entry_answer 0 at m o Handles f.1) refl
unknown_answer at m o w f = rw (false_eq (flags_at at m) 1 f.0, entry_answer 0 at m o w f.1) refl

counts_differ : (a b x y : ℕ) → x + 16 ≤ y → (a ≡ 16 + (y - (x + 16)) → b ≡ 0 → ⊥) → ((x + a == y) && (b == 0)) ≡ false
counts_differ a b x y within none =
    elim (x + a == y) as (λ t. (x + a == y) ≡ t → (t && (b == 0)) ≡ false) [
      | true ↦ λ same. false_eq b 0 (none (behind_both a x y within (eq_true (x + a) y same)))
      | false ↦ λ e. refl
    ] refl
  where
    behind_both : (a x y : ℕ) → x + 16 ≤ y → x + a ≡ y → a ≡ 16 + (y - (x + 16))
    behind_both a x y h same = omega arith

miscounted_answer : (at : ℕ) (m : List ℕ) (o : Outside) → IsMiscounted at o.out o.left m → bytes_member at m o ≡ Err (fault at Envelope)
miscounted_answer at m o f =
    let v = f.part in
    let room = sixteen_fit at o.out o.left m f.entered in
    let read = list_taken f.bytes v m o.out room f.is_list f.stands in
    let differ : ((o.out + bytes_at at m == o.out + 16 + length v.outside) && (handles_at at m == 0)) ≡ false =
    counts_differ (bytes_at at m) (handles_at at m) o.out (o.out + 16 + length v.outside) (omega arith)
    (λ a b. f.counts (sizes (bytes_at at m) o.out v.inline v.outside f.is_list.count.size_is a) b) in
    rw (enters 16 at m o f.entered, read, check-false ((o.out + bytes_at at m == o.out + 16 + length v.outside) && (handles_at at m == 0)) (fault at Envelope) differ) refl
  where
    sizes : (a x : ℕ) (inline outside : List ℕ) → length inline ≡ 16 → a ≡ 16 + (x + 16 + length outside - (x + 16)) → a ≡ length inline + length outside
    sizes a x inline outside h k = omega arith

bytes_answer : (envelope : ℕ) (m : List ℕ) (o : Outside) (at : ℕ) (w : WireWhat) → BytesFault envelope o.out o.left m at w → bytes_member envelope m o ≡ Err (fault at w)
bytes_answer envelope m o at w (inl f) = rw (f.0, entry_answer 16 envelope m o w f.1) refl
bytes_answer envelope m o at w (inr (inl f)) =
    rw (enters 16 envelope m o f.0, list_answer false (before_list m o.out) at w (least_refl (o.out + 16)) f.1) refl
  where
    least_refl : (n : ℕ) → n ≤ n
    least_refl n = omega arith
bytes_answer envelope m o at w (inr (inr f)) = rw (f.0, f.1) (miscounted_answer envelope m o f.2)

present_answer : (k : MemberKind) (envelope : ℕ) (m : List ℕ) (o : Outside) (at : ℕ) (w : WireWhat) → PresentFault k envelope o.out o.left m at w → present_member k envelope m o ≡ Err (fault at w)
present_answer kind.Unknown envelope m o at w f = rw (f.0, unknown_answer envelope m o w f.1) refl
present_answer (kind.Number required) envelope m o at w f = rw (f.0, number_answer envelope m o w f.1) refl
present_answer (kind.Bytes required) envelope m o at w f = bytes_answer envelope m o at w f

member_answer : (k : MemberKind) (envelope : ℕ) (m : List ℕ) (o : Outside) (at : ℕ) (w : WireWhat) → MemberFault k envelope o.out o.left m at w → member_at k envelope m o ≡ Err (fault at w)
unfolding member_at
member_answer k envelope m o at w f = rw (false_eq (number_at 8 envelope m) 0 f.0, present_answer k envelope m o at w f.1) refl

-- behind members that are spelled
members_answer : (kinds : List MemberKind) (before : ℕ) (values : List (Option Member)) (p : Part) (n : ℕ) (m : List ℕ) (first : ℕ) (hs : List Handle) (o : Outside) (at : ℕ) (w : WireWhat) →
    before < n → length hs ≡ o.left → o.out ≤ length m → AreMembers kinds values before p → Stands m first o.out hs p →
    MemberFault (next_kind (drop before kinds)) (first + length p.inline) (o.out + length p.outside) (length hs - length p.handles) m at w → members_at kinds first n m o ≡ Err (fault at w)
members_answer kinds before values p zero m first hs o at w below left within are stands means = absurd (omega arith)
members_answer kinds zero values p (suc n) m first hs o at w below left within are stands means =
    let here : first + length p.inline ≡ first = ap (λ (q : Part). first + length q.inline) are.1 ∙ add-zero first in
    let out : o.out + length p.outside ≡ o.out = ap (λ (q : Part). o.out + length q.outside) are.1 ∙ add-zero o.out in
    let all : length hs - length p.handles ≡ o.left = ap (λ (q : Part). length hs - length q.handles) are.1 ∙ sub-zero (length hs) ∙ left in
    let one = member_same (next_kind kinds) (next_kind kinds) _ _ _ _ _ _ m at w refl here out all means in
    rw (member_answer (next_kind kinds) first m o at w one) refl
members_answer kinds (suc before) values p (suc n) m first hs o at w below left within (v, vs, q, rest, e, member, others, same) stands means =
    let both : Stands m first o.out hs (join q rest) = subst (λ (x : Part). Stands m first o.out hs x) same stands in
    let s1 = stands-join_first m first o.out hs q rest both in
    let s2 = stands-join_rest m first o.out hs q rest both in
    let eight : length q.inline ≡ 8 = length-member (next_kind kinds) v q member in
    let hs2 = drop (length q.handles) hs in
    let s3 : Stands m (first + 8) (o.out + length q.outside) hs2 rest = subst (λ (k : ℕ). Stands m (first + k) (o.out + length q.outside) hs2 rest) eight s2 in
    let rest_left : length hs2 ≡ o.left - length q.handles = omega (arith, length-drop (length q.handles) hs) in
    let rest_within : o.out + length q.outside ≤ length m = omega (arith, begins-length (drop o.out m) q.outside s1.outside, length-drop o.out m) in
    let key : next_kind (drop (suc before) kinds) ≡ next_kind (drop before (later kinds)) = ap next_kind (sym (drop_later before kinds)) in
    let here : first + length p.inline ≡ first + 8 + length rest.inline = omega (arith, eight, ap (λ (x : Part). length x.inline) same, length-append q.inline rest.inline) in
    let out : o.out + length p.outside ≡ o.out + length q.outside + length rest.outside = omega (arith, ap (λ (x : Part). length x.outside) same, length-append q.outside rest.outside) in
    let few : length hs - length p.handles ≡ length hs2 - length rest.handles = omega (arith, length-drop (length q.handles) hs, ap (λ (x : Part). length x.handles) same, length-append q.handles rest.handles) in
    let ih = members_answer (later kinds) before vs rest n m (first + 8) hs2 (behind_part o q) at w (omega arith) rest_left rest_within others s3
    (member_same (next_kind (drop (suc before) kinds)) (next_kind (drop before (later kinds))) _ _ _ _ _ _ m at w key here out few means) in
    rw (member_read (next_kind kinds) v q m first hs o left within member s1, ih) refl

-- ---- the table

head_answer : (kinds : List MemberKind) (c : Cursor) (at : ℕ) (w : WireWhat) → c.place + 16 ≤ c.end → HeadFault (spot_of c) at w → cell_at (table kinds) c ≡ Err (fault at w)
unfolding cell_at
head_answer kinds c at Presence fits f = rw (f.0, inline_at-ok 16 c fits, mark_answer c f.1) refl
head_answer kinds c at Count fits f =
    let n = number_at 8 c.place c.message in
    rw (f.0, inline_at-ok 16 c fits, mark_passes c f.1, check-false (nat_le (c.out + 8 * n) (length c.message)) (fault c.place Count) (false_le (c.out + 8 * n) (length c.message) f.2)) refl
head_answer kinds c at w fits f = absurd f

members_fail : (kinds : List MemberKind) (c : Cursor) (at : ℕ) (w : WireWhat) → c.place + 16 ≤ c.end → IsThere (spot_of c) (8 * number_at 8 c.place c.message) →
    MembersFault kinds (number_at 8 c.place c.message) c.out (c.out + 8 * number_at 8 c.place c.message) c.handles c.message at w → cell_at (table kinds) c ≡ Err (fault at w)
unfolding cell_at
members_fail kinds c at w fits there f =
    let n = number_at 8 c.place c.message in
    let o : Outside = record { out = c.out + 8 * n; left = length c.handles } in
    let bad = members_answer kinds f.before f.values f.part n c.message c.out c.handles o at w f.below refl there.fits f.members_are f.stands f.means in
    rw (
      inline_at-ok 16 c fits,
      mark_passes c there.mark,
      check-true (nat_le (c.out + 8 * n) (length c.message)) (fault c.place Count) (true_le (c.out + 8 * n) (length c.message) there.fits),
      bad,
    ) refl

lacks_fail : (kinds : List MemberKind) (c : Cursor) → c.place + 16 ≤ c.end → IsThere (spot_of c) (8 * number_at 8 c.place c.message) →
    LacksMember kinds (number_at 8 c.place c.message) c.out (c.out + 8 * number_at 8 c.place c.message) c.handles c.message → cell_at (table kinds) c ≡ Err (fault c.place Envelope)
unfolding cell_at
lacks_fail kinds c fits there f =
    let n = number_at 8 c.place c.message in
    let o : Outside = record { out = c.out + 8 * n; left = length c.handles } in
    let read = members_read kinds f.values n f.part c.message c.out c.handles o refl there.fits f.members_are f.stands in
    rw (
      inline_at-ok 16 c fits,
      mark_passes c there.mark,
      check-true (nat_le (c.out + 8 * n) (length c.message)) (fault c.place Count) (true_le (c.out + 8 * n) (length c.message) there.fits),
      read,
      check-false (has_required kinds f.values) (fault c.place Envelope) f.lacks,
    ) refl

table_answer : (kinds : List MemberKind) (c : Cursor) (at : ℕ) (w : WireWhat) → c.place + 16 ≤ c.end → TableFault kinds (spot_of c) at w → cell_at (table kinds) c ≡ Err (fault at w)
table_answer kinds c at w fits (inl f) = head_answer kinds c at w fits f
table_answer kinds c at w fits (inr (there, inl f)) = members_fail kinds c at w fits there f
table_answer kinds c at w fits (inr (there, inr f)) = rw (f.0, f.1) (lacks_fail kinds c fits there f.2)

pub cell_answer : (cell : Cell) (c : Cursor) (at : ℕ) (w : WireWhat) → c.end ≤ length c.message → c.place + size_of cell ≤ c.end → CellFault cell (spot_of c) at w → cell_at cell c ≡ Err (fault at w)
cell_answer (number size) c at w within fits f = absurd f
cell_answer (pad size) c at w within fits f = pad_answer size c at w within fits f
cell_answer (handle kind nullable) c at w within fits f = handle_answer kind nullable c at w fits f
cell_answer text c at w within fits f = text_answer c at w fits f
cell_answer vector c at w within fits f = vector_answer c at w fits f
cell_answer (table kinds) c at w within fits f = table_answer kinds c at w fits f
