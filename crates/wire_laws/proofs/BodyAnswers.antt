-- What is meant as a fault of a body is answered.
use Rattle.std.proofs.Common.{◌≡◌, ℕ, zero, suc, ◌+◌, ◌-◌, ◌%◌, ◌<◌, ◌≤◌, inl, inr, true, false, cond, ◌&&◌, List, [], ◌∷◌, ◌++◌, length, drop, get_or, slice_range, nat_lt, nat_le, ◌==◌, Option, Some, None, Result, Ok, Err, refl, sym, ap, ◌∙◌, subst, length-drop, arith}
use Rattle.fidl_names.specs.declared.methods.Handle.{Handle}
use Rattle.fidl_names.specs.Numbers.{number_at}
use Rattle.fidl_wire.specs.declared.reading.Branch.{Branch}
use Rattle.fidl_wire.specs.declared.reading.Opened.{Opened}
use Rattle.fidl_wire.specs.declared.faults.WireFault.{WireFault}
use Rattle.fidl_wire.specs.declared.faults.WireWhat.{WireWhat}
use Rattle.fidl_wire.specs.declared.faults.WireWhat.TheVariants.{Padding, Envelope, Handles, Trailing}
use Rattle.fidl_wire.specs.Headers.{fault}
use Rattle.fidl_wire.specs.Numbers.{padded}
use Rattle.fidl_wire.specs.Layout.{Cell, Item, Variant, Layout, empty, word, object, struct, union, fields, branch, size_of, sizes_of, variant_of}
use Rattle.fidl_wire.specs.Cursor.{Cursor, start, start_of, outside_of}
use Rattle.fidl_wire.specs.Reading.{◌>>=◌, check, blank_or, all_blank, bytes_at, handles_at, flags_at, inlined_word, branch_of, ordinal_at, closed, finish_of, cells_at, object_items, word_items, variant_items, known_variant, body_of}
use Rattle.fidl_wire.specs.Grammar.{Part, join, Lays}
use Rattle.wire_laws.specs.Meanings.{Stands, Spot, behind, AreBlank, CellFault, CellsFault, IsCounted, IsEnded, EndFault, EndsFault, ObjectFault, EntryFault, IsEntered, IsInlined, InlinedFault, OutsideFault, VariantFault, BranchFault, IsShort, BodyFault, IsFaultOf}
use Rattle.wire_laws.specs.Meanings as meant
use Rattle.fidl_wire.proofs.Sizes.{padding_after-add}
use Rattle.wire_laws.proofs.Slices.{begins-length}
use Rattle.wire_laws.proofs.Steps.{check-true, eq_true, true_eq, false_eq, true_le, true_lt, not_lt}
use Rattle.wire_laws.proofs.Blanks.{zeros_len, length-slice_range}
use Rattle.wire_laws.proofs.Endings.{before_object}
use Rattle.wire_laws.proofs.Parts.{moved, moved-nothing, moved-join, stands-join_first, stands-join_rest}
use Rattle.wire_laws.proofs.Cells.{Took}
use Rattle.wire_laws.proofs.Objects.{cell_read, cells_read, length-cell, length-lays}
use Rattle.wire_laws.proofs.TableCells.{enough_ok}
use Rattle.wire_laws.proofs.Bodies.{start_ok, padding_sixteen, blank_union, ordinal_read, within_is, opened_by}
use Rattle.wire_laws.proofs.FaultSteps.{byte_at}
use Rattle.wire_laws.proofs.CellFaults.{spot_of}
use Rattle.wire_laws.proofs.ObjectFaults.{reach}
use Rattle.wire_laws.proofs.BodyFaults.{out_is}
use Rattle.wire_laws.proofs.CellAnswers.{check-false, false_le, blank_answer, cell_answer, entry_answer, enters}

-- ---- padding

zeros_all : (xs : List ℕ) → ((j : ℕ) → j < length xs → get_or xs j 0 ≡ 0) → zeros_len xs ≡ length xs
zeros_all [] all = refl
zeros_all (zero ∷ xs) all = omega (arith, zeros_all xs (λ j h. all (suc j) (omega arith)))
zeros_all (suc b ∷ xs) all = absurd (omega (arith, all 0 (omega arith)))

none_at : (k len : ℕ) → k ≡ len → cond (nat_lt k len) (Some k) None ≡ None
none_at k len same = rw (not_lt k len (omega arith)) refl

blank_passes : (m : List ℕ) (from until : ℕ) → from ≤ until → until ≤ length m → AreBlank m from until → all_blank m from until ≡ Ok tt
unfolding all_blank
blank_passes m from until order within blank =
    let part = slice_range m from until in
    let size : length part ≡ until - from = length-slice_range m from until order within in
    let zeros : zeros_len part ≡ length part = zeros_all part (λ j h. byte_at m from until j (omega (arith, size)) ∙ blank (from + j) (omega arith) (omega (arith, size))) in
    ap (blank_or from) (none_at (zeros_len part) (length part) zeros)

-- ---- cells one after another

cells_answer : (before : List Cell) (xs : List Item) (p : Part) (cell : Cell) (later : List Cell) (c : Cursor) (at : ℕ) (w : WireWhat) → c.end ≤ length c.message → c.out ≤ length c.message →
    c.place + sizes_of (before ++ cell ∷ later) ≤ c.end → Lays before xs p → Stands c.message c.place c.out c.handles p → CellFault cell (behind (spot_of c) p) at w → cells_at (before ++ cell ∷ later) c ≡ Err (fault at w)
cells_answer [] [] p cell later c at w end out fits lays stands f =
    let here : behind (spot_of c) p ≡ spot_of c = ap (λ (q : Part). behind (spot_of c) q) lays ∙ ap spot_of (moved-nothing c) in
    rw (cell_answer cell c at w end (omega arith) (subst (λ (s : Spot). CellFault cell s at w) here f)) refl
cells_answer (b ∷ before) (x ∷ xs) p cell later c at w end out fits (first, rest, spells, lays, same) stands f =
    let both : Stands c.message c.place c.out c.handles (join first rest) = subst (λ (q : Part). Stands c.message c.place c.out c.handles q) same stands in
    let s1 = stands-join_first c.message c.place c.out c.handles first rest both in
    let s2 = stands-join_rest c.message c.place c.out c.handles first rest both in
    let size : length first.inline ≡ size_of b = length-cell b x first spells in
    let t : Took b c x first = record { spells = spells; stands = s1; size = size; fits = omega arith } in
    let there : behind (spot_of c) p ≡ behind (spot_of (moved c first)) rest = ap (λ (q : Part). behind (spot_of c) q) same ∙ sym (ap spot_of (moved-join c first rest)) in
    let ih = cells_answer before xs rest cell later (moved c first) at w end (reach c first out s1.outside) (omega (arith, size)) lays s2 (subst (λ (s : Spot). CellFault cell s at w) there f) in
    rw (cell_read b x c first out t, ih) refl
cells_answer [] (x ∷ xs) p cell later c at w end out fits lays stands f = absurd lays
cells_answer (b ∷ before) [] p cell later c at w end out fits lays stands f = absurd lays

-- ---- the end

record Answers (envelope : Option ℕ) (opened : Option Opened) (m : List ℕ) (last : Cursor) (p : Part) : Type 0 where
  pub good : IsCounted envelope m p → closed opened last ≡ Ok tt
  pub bad : (at : ℕ) → envelope ≡ Some at → (IsCounted envelope m p → ⊥) → closed opened last ≡ Err (fault at Envelope)

ended_answer : (envelope : Option ℕ) (opened : Option Opened) (m : List ℕ) (hs : List Handle) (from size : ℕ) (p : Part) (at : ℕ) (w : WireWhat) → from % 8 ≡ 0 → from + padded size ≤ length m →
    Answers envelope opened m (moved (before_object m hs from size opened) p) p →
    EndFault envelope (meant.before_object m hs from size) p at w → finish_of (moved (before_object m hs from size opened) p) ≡ Err (fault at w)
unfolding finish_of
ended_answer envelope opened m hs from size p at Envelope aligned fits answers f = rw (answers.bad at f.0 f.1) refl
ended_answer envelope opened m hs from size p at Padding aligned fits answers f =
    let until : padded (from + size) ≡ from + padded size = omega (arith, padding_after-add from size aligned) in
    rw (answers.good f.0, blank_answer m (from + size) (padded (from + size)) at (omega (arith, until)) f.1) refl
ended_answer envelope opened m hs from size p at Trailing aligned fits answers f =
    let until : padded (from + size) ≡ from + padded size = omega (arith, padding_after-add from size aligned) in
    let out = from + padded size + length p.outside in
    let ended : IsEnded envelope (meant.before_object m hs from size) p = f.0 in
    rw (
      answers.good ended.counted,
      blank_passes m (from + size) (padded (from + size)) (omega arith) (omega (arith, until)) ended.blank,
      check-false (nat_le (length m) out) (fault out Trailing) (false_le (length m) out (omega (arith, f.1, f.2))),
      f.1,
    ) refl
ended_answer envelope opened m hs from size p at Handles aligned fits answers f =
    let until : padded (from + size) ≡ from + padded size = omega (arith, padding_after-add from size aligned) in
    let out = from + padded size + length p.outside in
    let ended : IsEnded envelope (meant.before_object m hs from size) p = f.0 in
    let left = length (drop (length p.handles) hs) in
    rw (
      answers.good ended.counted,
      blank_passes m (from + size) (padded (from + size)) (omega arith) (omega (arith, until)) ended.blank,
      check-true (nat_le (length m) out) (fault out Trailing) (true_le (length m) out (omega (arith, f.1, f.2))),
      check-false (left == 0) (fault (length m) Handles) (false_eq left 0 (λ z. omega (arith, length-drop (length p.handles) hs, f.3))),
      f.1,
    ) refl
ended_answer envelope opened m hs from size p at w aligned fits answers f = absurd f

object_answer : (envelope : Option ℕ) (opened : Option Opened) (cells : List Cell) (m : List ℕ) (hs : List Handle) (from : ℕ) (at : ℕ) (w : WireWhat) → from % 8 ≡ 0 → from + padded (sizes_of cells) ≤ length m →
    ((xs : List Item) (p : Part) → Lays cells xs p → Stands m from (from + padded (sizes_of cells)) hs p → Answers envelope opened m (moved (before_object m hs from (sizes_of cells) opened) p) p) →
    ObjectFault envelope cells (meant.before_object m hs from (sizes_of cells)) at w → object_items cells (before_object m hs from (sizes_of cells) opened) ≡ Err (fault at w)
object_answer envelope opened cells m hs from at w aligned fits answers (inl f) =
    let size : sizes_of (f.before ++ f.cell ∷ f.later) ≡ sizes_of cells = ap sizes_of (sym f.cells_are) in
    let bad = cells_answer f.before f.items f.part f.cell f.later (before_object m hs from (sizes_of cells) opened) at w (omega arith) fits (omega (arith, size)) f.lays f.stands f.means in
    let whole : cells_at cells (before_object m hs from (sizes_of cells) opened) ≡ Err (fault at w) = ap (λ (v : List Cell). cells_at v (before_object m hs from (sizes_of cells) opened)) f.cells_are ∙ bad in
    rw whole refl
object_answer envelope opened cells m hs from at w aligned fits answers (inr f) =
    let c = before_object m hs from (sizes_of cells) opened in
    let read = cells_read cells f.items c f.part fits (omega arith) f.lays f.stands in
    let done = ended_answer envelope opened m hs from (sizes_of cells) f.part at w aligned fits (answers f.items f.part f.lays f.stands) f.means in
    rw (read, done) refl

-- ---- structs

short_answer : {B : Type 0} → (size : ℕ) (m : List ℕ) (hs : List Handle) (at : ℕ) (w : WireWhat) (g : Cursor → Result B WireFault) → IsShort size m at w → (start_of m hs size >>= g) ≡ Err (fault at w)
short_answer size m hs at w g f = rw (true_lt (length m) (16 + padded size) f.short, f.reason, f.place) refl

struct_answer : (cells : List Cell) (m : List ℕ) (hs : List Handle) (at : ℕ) (w : WireWhat) → BodyFault (struct cells) m hs at w → body_of (struct cells) m hs ≡ Err (fault at w)
struct_answer cells m hs at w (inl f) = short_answer (sizes_of cells) m hs at w (λ c. object_items cells c >>= λ xs. Ok (fields xs)) f
struct_answer cells m hs at w (inr f) =
    let bad : object_items cells (start m hs (sizes_of cells)) ≡ Err (fault at w) = object_answer None None cells m hs 16 at w refl f.0 (λ xs p lays stands. record { good = λ h. refl; bad = λ k none wrong. absurd (wrong tt) }) f.1 in
    rw (start_ok m hs (sizes_of cells) f.0, bad) refl

-- ---- a value in its envelope

word_passes : (size : ℕ) (m : List ℕ) (hs : List Handle) → size ≤ 4 → 32 ≤ length m → IsInlined size m hs → handles_at 24 m ≡ 0 → inlined_word size 24 (start m hs 16) ≡ Ok (number_at 4 24 m)
word_passes size m hs small room v none =
    rw (true_eq (flags_at 24 m) 1 v.flags, enough_ok 24 m (outside_of (start m hs 16)) v.enough, blank_passes m (24 + size) 28 (omega arith) (omega arith) v.blank, true_eq (handles_at 24 m) 0 none) refl

inlined_answer : (size : ℕ) (g : Branch × Cursor → List Item) (m : List ℕ) (hs : List Handle) (at : ℕ) (w : WireWhat) → size ≤ 4 → 32 ≤ length m → InlinedFault size m hs at w →
    (branch_of size (start m hs 16) >>= λ b. finish_of b.1 >>= λ _. Ok (g b)) ≡ Err (fault at w)
unfolding branch_of finish_of
inlined_answer size g m hs at Envelope small room (here, inl f) =
    rw (here, not_lt 4 size small, false_eq (flags_at 24 m) 1 f) refl
inlined_answer size g m hs at Envelope small room (here, inr f) =
    rw (here, not_lt 4 size small, true_eq (flags_at 24 m) 1 f.0.flags, enough_ok 24 m (outside_of (start m hs 16)) f.0.enough, blank_passes m (24 + size) 28 (omega arith) (omega arith) f.0.blank, false_eq (handles_at 24 m) 0 f.1) refl
inlined_answer size g m hs at Padding small room f =
    rw (not_lt 4 size small, true_eq (flags_at 24 m) 1 f.0, enough_ok 24 m (outside_of (start m hs 16)) f.1, blank_answer m (24 + size) 28 at (omega arith) f.2) refl
inlined_answer size g m hs at Trailing small room f =
    let out = 16 + padded 16 in
    rw (
      f.2,
      not_lt 4 size small,
      word_passes size m hs small room f.0 f.1,
      blank_union m,
      check-false (nat_le (length m) out) (fault out Trailing) (false_le (length m) out (omega (arith, f.3, out_is))),
      padding_sixteen,
    ) refl
inlined_answer size g m hs at Handles small room (inl f) =
    rw (f.0, not_lt 4 size small, true_eq (flags_at 24 m) 1 f.1, check-false (nat_le (handles_at 24 m) (length hs)) (fault 24 Handles) (false_le (handles_at 24 m) (length hs) f.2)) refl
inlined_answer size g m hs at Handles small room (inr f) =
    let out = 16 + padded 16 in
    rw (
      f.2,
      not_lt 4 size small,
      word_passes size m hs small room f.0 f.1,
      blank_union m,
      check-true (nat_le (length m) out) (fault out Trailing) (true_le (length m) out (omega (arith, f.3, out_is))),
      check-false (length hs == 0) (fault (length m) Handles) (false_eq (length hs) 0 (λ z. f.4 (length_none hs z))),
    ) refl
  where
    length_none : {A : Type 0} → (xs : List A) → length xs ≡ 0 → xs ≡ []
    length_none [] z = refl
    length_none (x ∷ xs) z = absurd (omega arith)
inlined_answer size g m hs at w small room f = absurd f

-- ---- a value out of line

closed_union : (cells : List Cell) (m : List ℕ) (hs : List Handle) → handles_at 24 m ≤ length hs → (xs : List Item) (p : Part) → Lays cells xs p → Stands m 32 (32 + padded (sizes_of cells)) hs p →
    Answers (Some 24) (Some (opened_by m hs)) m (moved (before_object m hs 32 (sizes_of cells) (Some (opened_by m hs))) p) p
closed_union cells m hs enough xs p lays stands =
    let last = moved (before_object m hs 32 (sizes_of cells) (Some (opened_by m hs))) p in
    let until = 32 + bytes_at 24 m in
    let left = length hs - handles_at 24 m in
    let size : length p.inline ≡ sizes_of cells = length-lays cells xs p lays in
    let few : length p.handles ≤ length hs = begins-length hs p.handles stands.handles in
    record {
      good = λ counts.
          rw (true_eq last.out until (omega (arith, counts.0, ap padded size)), true_eq (length last.handles) left (omega (arith, counts.1, length-drop (length p.handles) hs))) refl;
      bad = λ at here wrong.
          let same : 24 ≡ at = cc in
          ap (λ (e : WireFault). check ((last.out == until) && (length last.handles == left)) e) (ap (λ k. fault k Envelope) same)
          ∙ check-false ((last.out == until) && (length last.handles == left)) (fault at Envelope)
          (not_both last.out until (length last.handles) left (λ x y. wrong (omega (arith, x, ap padded size), omega (arith, y, length-drop (length p.handles) hs))));
    }
  where
    not_both : (a b c d : ℕ) → (a ≡ b → c ≡ d → ⊥) → ((a == b) && (c == d)) ≡ false
    not_both a b c d none =
        elim (a == b) as (λ t. (a == b) ≡ t → (t && (c == d)) ≡ false) [
          | true ↦ λ same. false_eq c d (none (eq_true a b same))
          | false ↦ λ e. refl
        ] refl

outside_answer : (cells : List Cell) (m : List ℕ) (hs : List Handle) (at : ℕ) (w : WireWhat) → 32 ≤ length m → OutsideFault cells m hs at w → variant_items (object cells) (start m hs 16) ≡ Err (fault at w)
unfolding branch_of
outside_answer cells m hs at w room (inl f) = rw (f.0, f.1, not_lt 4 (sizes_of cells) f.2) refl
outside_answer cells m hs at w room (inr (inl f)) =
    let c = start m hs 16 in
    let bad = entry_answer (sizes_of cells) 24 m (outside_of c) w (subst (λ (k : ℕ). EntryFault (sizes_of cells) 24 k (length hs) m w) (sym out_is) f.2) in
    rw (f.1, true_lt 4 (sizes_of cells) f.0, bad) refl
outside_answer cells m hs at w room (inr (inr f)) =
    let c = start m hs 16 in
    let entry : IsEntered (sizes_of cells) 24 32 (length hs) m = f.1 in
    let good = enters (sizes_of cells) 24 m (outside_of c) (subst (λ (k : ℕ). IsEntered (sizes_of cells) 24 k (length hs) m) (sym out_is) entry) in
    let fits : 32 + padded (sizes_of cells) ≤ length m = omega (arith, entry.fits) in
    let bad = object_answer (Some 24) (Some (opened_by m hs)) cells m hs 32 at w refl fits (closed_union cells m hs entry.enough) f.2 in
    rw (true_lt 4 (sizes_of cells) f.0, good, blank_union m, within_is (sizes_of cells) m hs, bad) refl

-- ---- all unions, and all bodies

variant_answer : (v : Variant) (m : List ℕ) (hs : List Handle) (at : ℕ) (w : WireWhat) → 32 ≤ length m → VariantFault v m hs at w → variant_items v (start m hs 16) ≡ Err (fault at w)
variant_answer empty m hs at w room f = inlined_answer 0 (λ b. []) m hs at w (omega arith) room f
variant_answer word m hs at w room f = inlined_answer 4 (λ b. word_items b.0.inlined) m hs at w (omega arith) room f
variant_answer (object cells) m hs at w room f = outside_answer cells m hs at w room f

branch_answer : (found : Option Variant) (m : List ℕ) (hs : List Handle) (at : ℕ) (w : WireWhat) → 32 ≤ length m → BranchFault found m hs at w → known_variant found (start m hs 16) ≡ Err (fault at w)
branch_answer None m hs at w room f = rw (f.0, f.1) refl
branch_answer (Some v) m hs at w room f = variant_answer v m hs at w room f

union_answer : (variants : List (ℕ × Variant)) (m : List ℕ) (hs : List Handle) (at : ℕ) (w : WireWhat) → BodyFault (union variants) m hs at w → body_of (union variants) m hs ≡ Err (fault at w)
union_answer variants m hs at w (inl f) = short_answer 16 m hs at w (λ c. ordinal_at c >>= λ ordinal. known_variant (variant_of variants ordinal) c >>= λ xs. Ok (branch ordinal xs)) f
union_answer variants m hs at w (inr f) =
    rw (start_ok m hs 16 (omega (arith, f.0, out_is)), ordinal_read m hs, branch_answer (variant_of variants (number_at 8 16 m)) m hs at w f.0 f.1) refl

body_answer : (layout : Layout) (m : List ℕ) (hs : List Handle) (at : ℕ) (w : WireWhat) → BodyFault layout m hs at w → body_of layout m hs ≡ Err (fault at w)
body_answer (struct cells) m hs at w f = struct_answer cells m hs at w f
body_answer (union variants) m hs at w f = union_answer variants m hs at w f

-- what is meant is answered
pub meant_is_answered : (layout : Layout) (m : List ℕ) (hs : List Handle) (e : WireFault) → IsFaultOf layout m hs e → body_of layout m hs ≡ Err e
meant_is_answered layout m hs e f = body_answer layout m hs e.at e.what f.means

pub meant_once : (layout : Layout) (m : List ℕ) (hs : List Handle) (a b : WireFault) → IsFaultOf layout m hs a → IsFaultOf layout m hs b → a ≡ b
meant_once layout m hs a b f g =
    let first = meant_is_answered layout m hs a f in
    let second = meant_is_answered layout m hs b g in
    cc
