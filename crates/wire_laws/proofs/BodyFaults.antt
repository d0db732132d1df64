-- The faults of whole bodies: each is what it says, and no value is spelled there.
use Rattle.std.proofs.Common.{◌≡◌, ℕ, ◌+◌, ◌-◌, ◌<◌, ◌≤◌, ◌⊎◌, inl, inr, true, false, cond, ◌&&◌, List, [], length, nat_lt, nat_le, ◌==◌, Option, Some, None, Result, Ok, Err, refl, sym, ap, ◌∙◌, subst, length-drop, arith}
use Rattle.fidl_names.specs.declared.methods.Handle.{Handle}
use Rattle.fidl_names.specs.Numbers.{number_at}
use Rattle.fidl_wire.specs.declared.reading.Branch.{Branch}
use Rattle.fidl_wire.specs.declared.faults.WireFault.{WireFault}
use Rattle.fidl_wire.specs.declared.faults.WireWhat.{WireWhat}
use Rattle.fidl_wire.specs.declared.faults.WireWhat.TheVariants.{Short, Padding, Envelope, Ordinal, Handles, Trailing}
use Rattle.fidl_wire.specs.Headers.{fault}
use Rattle.fidl_wire.specs.Numbers.{padded}
use Rattle.fidl_wire.specs.Layout.{Cell, Item, Variant, Layout, empty, word, object, struct, union, fields, branch, sizes_of, variant_of}
use Rattle.fidl_wire.specs.Cursor.{Cursor, start, start_of, outside_of}
use Rattle.fidl_wire.specs.Reading.{◌>>=◌, passed, check, all_blank, bytes_at, handles_at, flags_at, is_inlined, enough_handles, entered, inlined_word, within_branch, object_at, branch_of, ordinal_at, finish_of, object_items, word_items, variant_items, known_variant, body_of}
use Rattle.fidl_wire.specs.Grammar.{Part, Lays}
use Rattle.wire_laws.specs.Meanings.{Stands, EntryFault, IsEntered, IsInlined, InlinedFault, OutsideFault, VariantFault, BranchFault, IsShort, BodyFault, IsFaultOf}
use Rattle.wire_laws.proofs.Slices.{begins-length}
use Rattle.wire_laws.proofs.Steps.{bind_ok, unit_bind, check_bind, check_ok, both_true, eq_true, true_eq, lt_true, lt_false, not_lt, le_true}
use Rattle.wire_laws.proofs.Endings.{before_object}
use Rattle.wire_laws.proofs.Parts.{moved}
use Rattle.wire_laws.proofs.Objects.{length-lays}
use Rattle.wire_laws.proofs.TableCells.{enough_says}
use Rattle.wire_laws.proofs.Bodies.{padding_sixteen, blank_union, ordinal_read, within_is, opened_by, spelled_read}
use Rattle.wire_laws.proofs.FaultSteps.{bind_err, last_err, check_err, check_bind_err, unit_bind_err, le_false, lt_err, eq_no, blank_err, blank_ok}
use Rattle.wire_laws.proofs.CellFaults.{as_fault}
use Rattle.wire_laws.proofs.TableFaults.{entered_err, entered_is}
use Rattle.wire_laws.proofs.ObjectFaults.{Closes, object_fault}

-- what lies out of line begins behind the union
pub out_is : 16 + padded 16 ≡ 32
out_is = omega (arith, padding_sixteen)

start_err : {B : Type 0} → (m : List ℕ) (hs : List Handle) (size : ℕ) (f : Cursor → Result B WireFault) (e : WireFault) → (start_of m hs size >>= f) ≡ Err e →
    IsShort size m e.at e.what ⊎ ((16 + padded size ≤ length m) × (f (start m hs size) ≡ Err e))
start_err m hs size f e =
    elim (nat_lt (length m) (16 + padded size)) as (λ t. nat_lt (length m) (16 + padded size) ≡ t → (cond t (Err (fault (length m) Short)) (Ok (start m hs size)) >>= f) ≡ Err e → IsShort size m e.at e.what ⊎ ((16 + padded size ≤ length m) × (f (start m hs size) ≡ Err e))) [
      | true ↦ λ short h.
          let same : fault (length m) Short ≡ e = cc in
          inl (as_fault (IsShort size m) (fault (length m) Short) e same (record { reason = refl; place = refl; short = lt_err (length m) (16 + padded size) short }))
      | false ↦ λ long h. inr (lt_false (length m) (16 + padded size) long, h)
    ] refl

-- ---- structs

struct_fault : (cells : List Cell) (m : List ℕ) (hs : List Handle) (e : WireFault) → body_of (struct cells) m hs ≡ Err e → BodyFault (struct cells) m hs e.at e.what
struct_fault cells m hs e h =
    elim (start_err m hs (sizes_of cells) (λ c. object_items cells c >>= λ xs. Ok (fields xs)) e h) [
      | inl short ↦ inl short
      | inr (room, rest) ↦
          let items = last_err (object_items cells (start m hs (sizes_of cells))) fields e rest in
          inr (room, object_fault None None cells m hs 16 e refl room (λ xs p lays stands. record { good = λ h. tt; bad = λ d h. absurd (cc) }) items)
    ]

-- ---- a value in its envelope

inlined_word_err : (size : ℕ) (m : List ℕ) (hs : List Handle) (e : WireFault) → size ≤ 4 → 32 ≤ length m → inlined_word size 24 (start m hs 16) ≡ Err e → InlinedFault size m hs e.at e.what
inlined_word_err size m hs e small room h =
    let c = start m hs 16 in
    let M : ℕ → WireWhat → Type 0 = InlinedFault size m hs in
    let o = outside_of c in
    elim (check_bind_err (is_inlined 24 m) (fault 24 Envelope) (λ _. enough_handles 24 m o >>= λ _. all_blank m (24 + size) 28 >>= λ _. check (handles_at 24 m == 0) (fault 24 Envelope) >>= λ _. Ok (number_at 4 24 m)) e h) [
      | inl bad ↦ as_fault M (fault 24 Envelope) e bad.1 (refl, inl (eq_no (flags_at 24 m) 1 bad.0))
      | inr form ↦
          let flags = eq_true (flags_at 24 m) 1 form.0 in
          elim (unit_bind_err (enough_handles 24 m o) (λ _. all_blank m (24 + size) 28 >>= λ _. check (handles_at 24 m == 0) (fault 24 Envelope) >>= λ _. Ok (number_at 4 24 m)) e form.1) [
            | inl bad ↦
                let few = check_err (nat_le (handles_at 24 m) (length hs)) (fault 24 Handles) e bad in
                as_fault M (fault 24 Handles) e few.1 (inl (refl, flags, le_false (handles_at 24 m) (length hs) few.0))
            | inr enough ↦
                let fits = enough_says 24 m o enough.0 in
                elim (unit_bind_err (all_blank m (24 + size) 28) (λ _. check (handles_at 24 m == 0) (fault 24 Envelope) >>= λ _. Ok (number_at 4 24 m)) e enough.1) [
                  | inl bad ↦
                      let b = blank_err m (24 + size) 28 e (omega arith) (omega arith) bad in
                      as_fault M (fault b.0 Padding) e b.1 (flags, fits, b.2)
                  | inr blank ↦
                      let some = check_err (handles_at 24 m == 0) (fault 24 Envelope) e (last_err (check (handles_at 24 m == 0) (fault 24 Envelope)) (λ _. number_at 4 24 m) e blank.1) in
                      let value : IsInlined size m hs = record { flags = flags; enough = fits; blank = blank_ok m (24 + size) 28 (omega arith) (omega arith) blank.0 } in
                      as_fault M (fault 24 Envelope) e some.1 (refl, inr (value, eq_no (handles_at 24 m) 0 some.0))
                ]
          ]
    ]

-- a value in its envelope that was read
record IsValue (size : ℕ) (m : List ℕ) (hs : List Handle) : Type 0 where
  pub value : IsInlined size m hs
  pub none : handles_at 24 m ≡ 0

inlined_word_is : (size x : ℕ) (m : List ℕ) (hs : List Handle) → size ≤ 4 → 32 ≤ length m → inlined_word size 24 (start m hs 16) ≡ Ok x → IsValue size m hs
inlined_word_is size x m hs small room h =
    let c = start m hs 16 in
    let o = outside_of c in
    let form = check_bind (is_inlined 24 m) (fault 24 Envelope) (λ _. enough_handles 24 m o >>= λ _. all_blank m (24 + size) 28 >>= λ _. check (handles_at 24 m == 0) (fault 24 Envelope) >>= λ _. Ok (number_at 4 24 m)) x h in
    let enough = unit_bind (enough_handles 24 m o) (λ _. all_blank m (24 + size) 28 >>= λ _. check (handles_at 24 m == 0) (fault 24 Envelope) >>= λ _. Ok (number_at 4 24 m)) x form.1 in
    let blank = unit_bind (all_blank m (24 + size) 28) (λ _. check (handles_at 24 m == 0) (fault 24 Envelope) >>= λ _. Ok (number_at 4 24 m)) x enough.1 in
    let counts = check_bind (handles_at 24 m == 0) (fault 24 Envelope) (λ _. Ok (number_at 4 24 m)) x blank.1 in
    record {
      value = record { flags = eq_true (flags_at 24 m) 1 form.0; enough = enough_says 24 m o enough.0; blank = blank_ok m (24 + size) 28 (omega arith) (omega arith) blank.0 };
      none = eq_true (handles_at 24 m) 0 counts.0;
    }

inlined_end : (size : ℕ) (m : List ℕ) (hs : List Handle) (e : WireFault) → IsValue size m hs → finish_of (passed 16 (start m hs 16)) ≡ Err e → InlinedFault size m hs e.at e.what
unfolding finish_of
inlined_end size m hs e v h =
    let M : ℕ → WireWhat → Type 0 = InlinedFault size m hs in
    let out = 16 + padded 16 in
    let rest : (check (nat_le (length m) out) (fault out Trailing) >>= λ _. check (length hs == 0) (fault (length m) Handles)) ≡ Err e = rw (blank_union m) at h in
    elim (check_bind_err (nat_le (length m) out) (fault out Trailing) (λ _. check (length hs == 0) (fault (length m) Handles)) e rest) [
      | inl bad ↦ as_fault M (fault out Trailing) e bad.1 (v.value, v.none, out_is, omega (arith, le_false (length m) out bad.0, out_is))
      | inr (all, left) ↦
          let some = check_err (length hs == 0) (fault (length m) Handles) e left in
          let over : hs ≡ [] → ⊥ = λ none. eq_no (length hs) 0 some.0 (ap length none) in
          as_fault M (fault (length m) Handles) e some.1 (inr (v.value, v.none, refl, omega (arith, le_true (length m) out all, out_is), over))
    ]

inlined_fault : (size : ℕ) (g : Branch × Cursor → List Item) (m : List ℕ) (hs : List Handle) (e : WireFault) → size ≤ 4 → 32 ≤ length m →
    (branch_of size (start m hs 16) >>= λ b. finish_of b.1 >>= λ _. Ok (g b)) ≡ Err e → InlinedFault size m hs e.at e.what
unfolding branch_of
inlined_fault size g m hs e small room h =
    let c = start m hs 16 in
    let large : nat_lt 4 size ≡ false = not_lt 4 size small in
    let last : ℕ → Branch × Cursor = λ value. (record { ordinal = number_at 8 16 m; inlined = Some value }, passed 16 c) in
    elim (bind_err (branch_of size c) (λ b. finish_of b.1 >>= λ _. Ok (g b)) e h) [
      | inl bad ↦
          let wrong : (inlined_word size 24 c >>= λ value. Ok (last value)) ≡ Err e = rw large at bad in
          inlined_word_err size m hs e small room (last_err (inlined_word size 24 c) last e wrong)
      | inr (b, ok, rest) ↦
          let taken : (inlined_word size 24 c >>= λ value. Ok (last value)) ≡ Ok b = rw large at ok in
          let value = bind_ok (inlined_word size 24 c) (λ value. Ok (last value)) b taken in
          let whole : last value.0 ≡ b = cc in
          let done = last_err (finish_of b.1) (λ _. g b) e rest in
          inlined_end size m hs e (inlined_word_is size value.0 m hs small room value.1) (ap (λ (x : Branch × Cursor). finish_of x.1) whole ∙ done)
    ]

-- ---- a value out of line

no_whole : (a b c d : ℕ) → ((a == b) && (c == d)) ≡ false → a ≡ b → c ≡ d → ⊥
no_whole a b c d h x y = let yes : ((a == b) && (c == d)) ≡ true = rw (true_eq a b x, true_eq c d y) refl in cc

closes_union : (cells : List Cell) (m : List ℕ) (hs : List Handle) → handles_at 24 m ≤ length hs → (xs : List Item) (p : Part) → Lays cells xs p → Stands m 32 (32 + padded (sizes_of cells)) hs p →
    Closes (Some 24) (Some (opened_by m hs)) m (moved (before_object m hs 32 (sizes_of cells) (Some (opened_by m hs))) p) p
closes_union cells m hs enough xs p lays stands =
    let last = moved (before_object m hs 32 (sizes_of cells) (Some (opened_by m hs))) p in
    let until = 32 + bytes_at 24 m in
    let left = length hs - handles_at 24 m in
    let size : length p.inline ≡ sizes_of cells = length-lays cells xs p lays in
    let few : length p.handles ≤ length hs = begins-length hs p.handles stands.handles in
    record {
      good = λ h.
          let whole = both_true (last.out == until) (length last.handles == left) (check_ok ((last.out == until) && (length last.handles == left)) (fault 24 Envelope) tt h) in
          (omega (arith, eq_true last.out until whole.0, ap padded size), omega (arith, eq_true (length last.handles) left whole.1, length-drop (length p.handles) hs));
      bad = λ e h.
          let wrong = check_err ((last.out == until) && (length last.handles == left)) (fault 24 Envelope) e h in (
            24,
            wrong.1,
            refl,
            λ counts. no_whole last.out until (length last.handles) left wrong.0 (omega (arith, counts.0, ap padded size)) (omega (arith, counts.1, length-drop (length p.handles) hs)),
          );
    }

outside_fault : (cells : List Cell) (m : List ℕ) (hs : List Handle) (e : WireFault) → 32 ≤ length m → variant_items (object cells) (start m hs 16) ≡ Err e → OutsideFault cells m hs e.at e.what
unfolding branch_of
outside_fault cells m hs e room h =
    let c = start m hs 16 in
    let size = sizes_of cells in
    let last : Cursor → Branch × Cursor = λ within. (record { ordinal = number_at 8 16 m; inlined = None }, within) in
    let behind : Unit {0} → Result Cursor WireFault = λ _. all_blank m 32 (padded 32) >>= λ _. Ok (within_branch size 24 c) in
    elim (check_bind_err (nat_lt 4 size) (fault 16 Envelope) (λ _. branch_of size c >>= λ b. object_items cells b.1) e h) [
      | inl bad ↦ as_fault (OutsideFault cells m hs) (fault 16 Envelope) e bad.1 (inl (refl, refl, lt_false 4 size bad.0))
      | inr (is_large, rest) ↦
          let large : 4 < size = lt_true 4 size is_large in
          elim (bind_err (branch_of size c) (λ b. object_items cells b.1) e rest) [
            | inl bad ↦
                let wrong : (object_at size 16 c >>= λ within. Ok (last within)) ≡ Err e = rw is_large at bad in
                elim (unit_bind_err (entered 24 size m (outside_of c)) behind e (last_err (object_at size 16 c) last e wrong)) [
                  | inl entry ↦
                      let b = entered_err 24 size m (outside_of c) e entry in
                      inr (inl (large, b.0, subst (λ (k : ℕ). EntryFault size 24 k (length hs) m e.what) out_is b.1))
                  | inr (fine, more) ↦ let never : behind tt ≡ Ok (within_branch size 24 c) = rw (blank_union m) refl in absurd (cc)
                ]
            | inr (b, ok, items) ↦
                let taken : (object_at size 16 c >>= λ within. Ok (last within)) ≡ Ok b = rw is_large at ok in
                let within = bind_ok (object_at size 16 c) (λ within. Ok (last within)) b taken in
                let enters = unit_bind (entered 24 size m (outside_of c)) behind within.0 within.1 in
                let blank = unit_bind (all_blank m 32 (padded 32)) (λ _. Ok (within_branch size 24 c)) within.0 enters.1 in
                let entry : IsEntered size 24 32 (length hs) m = subst (λ (k : ℕ). IsEntered size 24 k (length hs) m) out_is (entered_is 24 size m (outside_of c) enters.0) in
                let fine = blank.1 in
                let here : within_branch size 24 c ≡ within.0 = cc in
                let whole : last within.0 ≡ b = cc in
                let there : before_object m hs 32 size (Some (opened_by m hs)) ≡ b.1 = sym (within_is size m hs) ∙ here ∙ ap (λ (x : Branch × Cursor). x.1) whole in
                let fits : 32 + padded size ≤ length m = omega (arith, entry.fits) in
                inr (inr (large, entry, object_fault (Some 24) (Some (opened_by m hs)) cells m hs 32 e refl fits (closes_union cells m hs entry.enough) (ap (object_items cells) there ∙ items)))
          ]
    ]

-- ---- all unions, and all bodies

variant_fault : (v : Variant) (m : List ℕ) (hs : List Handle) (e : WireFault) → 32 ≤ length m → variant_items v (start m hs 16) ≡ Err e → VariantFault v m hs e.at e.what
variant_fault empty m hs e room h = inlined_fault 0 (λ b. []) m hs e (omega arith) room h
variant_fault word m hs e room h = inlined_fault 4 (λ b. word_items b.0.inlined) m hs e (omega arith) room h
variant_fault (object cells) m hs e room h = outside_fault cells m hs e room h

branch_fault : (found : Option Variant) (m : List ℕ) (hs : List Handle) (e : WireFault) → 32 ≤ length m → known_variant found (start m hs 16) ≡ Err e → BranchFault found m hs e.at e.what
branch_fault None m hs e room h = let same : fault 16 Ordinal ≡ e = cc in as_fault (BranchFault None m hs) (fault 16 Ordinal) e same (refl, refl)
branch_fault (Some v) m hs e room h = variant_fault v m hs e room h

union_fault : (variants : List (ℕ × Variant)) (m : List ℕ) (hs : List Handle) (e : WireFault) → body_of (union variants) m hs ≡ Err e → BodyFault (union variants) m hs e.at e.what
union_fault variants m hs e h =
    elim (start_err m hs 16 (λ c. ordinal_at c >>= λ ordinal. known_variant (variant_of variants ordinal) c >>= λ xs. Ok (branch ordinal xs)) e h) [
      | inl short ↦ inl short
      | inr (room, rest) ↦
          let c = start m hs 16 in
          let fits : 32 ≤ length m = omega (arith, room, out_is) in
          let known : (known_variant (variant_of variants (number_at 8 16 m)) c >>= λ xs. Ok (branch (number_at 8 16 m) xs)) ≡ Err e = rw (ordinal_read m hs) at rest in
          inr (fits, branch_fault (variant_of variants (number_at 8 16 m)) m hs e fits (last_err (known_variant (variant_of variants (number_at 8 16 m)) c) (branch (number_at 8 16 m)) e known))
    ]

meaning : (layout : Layout) (m : List ℕ) (hs : List Handle) (e : WireFault) → body_of layout m hs ≡ Err e → BodyFault layout m hs e.at e.what
meaning (struct cells) m hs e h = struct_fault cells m hs e h
meaning (union variants) m hs e h = union_fault variants m hs e h

-- a fault is what it says, and no value is spelled there
pub fault_is_meant : (layout : Layout) (m : List ℕ) (hs : List Handle) (e : WireFault) → body_of layout m hs ≡ Err e → IsFaultOf layout m hs e
fault_is_meant layout m hs e h = record {
  means = meaning layout m hs e h;
  none = λ content s. let read = spelled_read layout content m hs s in cc;
}
