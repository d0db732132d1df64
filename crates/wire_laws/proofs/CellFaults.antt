-- The faults of cells without tables: each is what it says.
use Rattle.std.proofs.Common.{◌≡◌, ℕ, ◌+◌, ◌≤◌, inl, inr, Bool, true, false, not, ◌||◌, ◌&&◌, cond, List, [], ◌∷◌, length, nat_le, nat_eq, Some, None, Ok, Err, refl, sym, subst, arith}
use Rattle.std.specs.Str.{is_utf8}
use Rattle.std.proofs.lemmas.Str.{IsUtf8-from_is_utf8, is_utf8-from_IsUtf8}
use Rattle.fidl_names.specs.declared.methods.Handle.{Handle}
use Rattle.fidl_names.specs.Numbers.{number_at}
use Rattle.fidl_wire.specs.declared.faults.WireFault.{WireFault}
use Rattle.fidl_wire.specs.declared.faults.WireWhat.{WireWhat}
use Rattle.fidl_wire.specs.declared.faults.WireWhat.TheVariants.{Padding, Presence, Count, Utf8, Handles}
use Rattle.fidl_wire.specs.declared.kinds.HandleKind.{HandleKind}
use Rattle.fidl_wire.specs.Headers.{fault}
use Rattle.fidl_wire.specs.Numbers.{padded}
use Rattle.fidl_wire.specs.Layout.{pad, handle, text, vector, blank, held, seq, is_kind}
use Rattle.fidl_wire.specs.Cursor.{Cursor}
use Rattle.fidl_wire.specs.Reading.{◌>>=◌, passed, check, all_blank, pad_cell, next_handle, handle_word, handle_cell, present_word, present_list, count_at, list_part, list_at, list_cell, cell_at}
use Rattle.wire_laws.specs.Meanings.{Spot, PadFault, HandleFault, HasNone, IsText, IsThere, ListFault}
use Rattle.wire_laws.proofs.Steps.{check_bind, eq_true, true_eq, le_true}
use Rattle.wire_laws.proofs.FaultSteps.{bind_err, last_err, check_bind_err, inline_bind_err, le_false, eq_no, blank_err}

abbrev pub spot_of : Cursor → Spot
spot_of c = record { message = c.message; handles = c.handles; place = c.place; end = c.end; out = c.out }

-- what holds of a fault's offset and reason holds of an equal one's
pub as_fault : (M : ℕ → WireWhat → Type 0) (d e : WireFault) → d ≡ e → M d.at d.what → M e.at e.what
as_fault M d e same h = subst (λ (f : WireFault). M f.at f.what) same h

pub pad_fault : (size : ℕ) (c : Cursor) (e : WireFault) → c.end ≤ length c.message → c.place + size ≤ c.end → cell_at (pad size) c ≡ Err e → PadFault size (spot_of c) e.at e.what
unfolding cell_at
pad_fault size c e within fits h =
    let cell = last_err (pad_cell size c) (λ x. (blank, x.1)) e h in
    let here = inline_bind_err size c (λ at. all_blank c.message at (at + size) >>= λ _. Ok (tt, passed size c)) e fits cell in
    let bad = last_err (all_blank c.message c.place (c.place + size)) (λ _. (tt, passed size c)) e here in
    let b = blank_err c.message c.place (c.place + size) e (omega arith) (omega arith) bad in
    as_fault (PadFault size (spot_of c)) (fault b.0 Padding) e b.1 b.2

-- ---- handles

if_err : {A : Type 0} → (b : Bool) (a : A) (d e : WireFault) → cond b (Ok a) (Err d) ≡ Err e → (b ≡ false) × (d ≡ e)
if_err true a d e h = absurd (cc)
if_err false a d e h = let same : d ≡ e = cc in (refl, same)

next_err : (kind : HandleKind) (at : ℕ) (hs : List Handle) (c : Cursor) (e : WireFault) → next_handle kind at hs c ≡ Err e → (fault at Handles ≡ e) × HasNone kind hs
next_err kind at [] c e h = let same : fault at Handles ≡ e = cc in (same, tt)
next_err kind at (g ∷ hs) c e h =
    let other = if_err (is_kind kind g) (Some g, record c { handles = hs }) (fault at Handles) e h in
    (other.1, other.0)

no_absent : (mark : ℕ) (nullable : Bool) → (nat_eq mark 0 && nullable) ≡ false → nullable ≡ true → mark ≡ 0 → ⊥
no_absent mark nullable h may zero = let yes : (nat_eq mark 0 && nullable) ≡ true = rw (true_eq mark 0 zero, may) refl in cc

word_fault : (kind : HandleKind) (nullable : Bool) (c : Cursor) (e : WireFault) → handle_word kind nullable c.place (number_at 4 c.place c.message) c ≡ Err e → HandleFault kind nullable (spot_of c) e.at e.what
word_fault kind nullable c e =
    let at = c.place in
    let mark = number_at 4 c.place c.message in
    elim (nat_eq mark present_word) as (λ b. nat_eq mark present_word ≡ b → cond b (next_handle kind at c.handles (passed 4 c)) (cond (nat_eq mark 0 && nullable) (Ok (None, passed 4 c)) (Err (fault at Presence))) ≡ Err e → HandleFault kind nullable (spot_of c) e.at e.what) [
      | true ↦ λ same h.
          let bad = next_err kind at c.handles (passed 4 c) e h in
          as_fault (HandleFault kind nullable (spot_of c)) (fault at Handles) e bad.0 (refl, eq_true mark present_word same, bad.1)
      | false ↦ λ other h.
          let bad = if_err (nat_eq mark 0 && nullable) (None, passed 4 c) (fault at Presence) e h in
          as_fault (HandleFault kind nullable (spot_of c)) (fault at Presence) e bad.1 (refl, record { present = eq_no mark present_word other; absent = no_absent mark nullable bad.0 })
    ] refl

pub handle_fault : (kind : HandleKind) (nullable : Bool) (c : Cursor) (e : WireFault) → c.place + 4 ≤ c.end → cell_at (handle kind nullable) c ≡ Err e → HandleFault kind nullable (spot_of c) e.at e.what
unfolding cell_at
handle_fault kind nullable c e fits h =
    let cell = last_err (handle_cell kind nullable c) (λ x. (held x.0, x.1)) e h in
    word_fault kind nullable c e (inline_bind_err 4 c (λ at. handle_word kind nullable at (number_at 4 at c.message) c) e fits cell)

-- ---- strings and vectors

pub count_err : (at : ℕ) (c : Cursor) (e : WireFault) → count_at at c ≡ Err e → (fault at Presence ≡ e) × (number_at 8 (at + 8) c.message ≡ present_list → ⊥)
count_err at c e h =
    let mark = number_at 8 (at + 8) c.message in
    elim (check_bind_err (nat_eq mark present_list) (fault at Presence) (λ _. Ok (number_at 8 at c.message)) e h) [
      | inl bad ↦ (bad.1, eq_no mark present_list bad.0)
      | inr good ↦ let wrong = good.1 in absurd (cc)
    ]

pub count_is : (at n : ℕ) (c : Cursor) → count_at at c ≡ Ok n → (number_at 8 (at + 8) c.message ≡ present_list) × (number_at 8 at c.message ≡ n)
count_is at n c h =
    let mark = check_bind (nat_eq (number_at 8 (at + 8) c.message) present_list) (fault at Presence) (λ _. Ok (number_at 8 at c.message)) n h in
    let wanted = mark.1 in
    let same : number_at 8 at c.message ≡ n = cc in
    (eq_true (number_at 8 (at + 8) c.message) present_list mark.0, same)

utf8_no : (is_text : Bool) (bytes : List ℕ) → (not is_text || is_utf8 bytes) ≡ false → IsText is_text bytes → ⊥
utf8_no true bytes h t = let yes = is_utf8-from_IsUtf8 bytes t in cc
utf8_no false bytes h t = cc

utf8_yes : (is_text : Bool) (bytes : List ℕ) → (not is_text || is_utf8 bytes) ≡ true → IsText is_text bytes
utf8_yes true bytes h = IsUtf8-from_is_utf8 bytes h
utf8_yes false bytes h = tt

list_at_fault : (is_text : Bool) (c : Cursor) (e : WireFault) → number_at 8 (c.place + 8) c.message ≡ present_list → c.out ≤ length c.message →
    list_at is_text c.place (number_at 8 c.place c.message) c ≡ Err e → ListFault is_text (spot_of c) e.at e.what
list_at_fault is_text c e mark out h =
    let at = c.place in
    let m = c.message in
    let n = number_at 8 c.place c.message in
    let part = list_part at n c in
    let s = spot_of c in
    let last : List ℕ × Cursor = (list_part at n c, record (passed 16 c) { out = c.out + padded n }) in
    elim (check_bind_err (nat_le (c.out + padded n) (length m)) (fault at Count) (λ _. check (not is_text || is_utf8 part) (fault at Utf8) >>= λ _. all_blank m (c.out + n) (c.out + padded n) >>= λ _. Ok last) e h) [
      | inl long ↦ as_fault (ListFault is_text s) (fault at Count) e long.1 (refl, mark, le_false (c.out + padded n) (length m) long.0)
      | inr room ↦
          let fits : c.out + padded n ≤ length m = le_true (c.out + padded n) (length m) room.0 in
          let there : IsThere s (padded n) = record { mark = mark; fits = fits } in
          elim (check_bind_err (not is_text || is_utf8 part) (fault at Utf8) (λ _. all_blank m (c.out + n) (c.out + padded n) >>= λ _. Ok last) e room.1) [
            | inl bad ↦ as_fault (ListFault is_text s) (fault at Utf8) e bad.1 (refl, there, utf8_no is_text part bad.0)
            | inr good ↦
                let pads = last_err (all_blank m (c.out + n) (c.out + padded n)) (λ _. last) e good.1 in
                let b = blank_err m (c.out + n) (c.out + padded n) e (omega arith) fits pads in
                as_fault (ListFault is_text s) (fault b.0 Padding) e b.1 (there, utf8_yes is_text part good.0, b.2)
          ]
    ]

pub list_fault : (is_text : Bool) (c : Cursor) (e : WireFault) → c.out ≤ length c.message → c.place + 16 ≤ c.end → list_cell is_text c ≡ Err e → ListFault is_text (spot_of c) e.at e.what
list_fault is_text c e out fits h =
    let at = c.place in
    let here = inline_bind_err 16 c (λ at. count_at at c >>= λ count. list_at is_text at count c) e fits h in
    elim (bind_err (count_at at c) (λ count. list_at is_text at count c) e here) [
      | inl bad ↦ let b = count_err at c e bad in as_fault (ListFault is_text (spot_of c)) (fault at Presence) e b.0 (refl, b.1)
      | inr read ↦
          let n = count_is at read.0 c read.1 in
          list_at_fault is_text c e n.0 out (subst (λ (k : ℕ). list_at is_text at k c ≡ Err e) (sym n.1) read.2)
    ]

pub text_fault : (c : Cursor) (e : WireFault) → c.out ≤ length c.message → c.place + 16 ≤ c.end → cell_at text c ≡ Err e → ListFault true (spot_of c) e.at e.what
unfolding cell_at
text_fault c e out fits h = list_fault true c e out fits (last_err (list_cell true c) (λ x. (seq x.0, x.1)) e h)

pub vector_fault : (c : Cursor) (e : WireFault) → c.out ≤ length c.message → c.place + 16 ≤ c.end → cell_at vector c ≡ Err e → ListFault false (spot_of c) e.at e.what
unfolding cell_at
vector_fault c e out fits h = list_fault false c e out fits (last_err (list_cell false c) (λ x. (seq x.0, x.1)) e h)
