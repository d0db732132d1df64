-- Strings and vectors: each is read exactly where it is spelled.
use Rattle.std.proofs.Common.{◌≡◌, ℕ, ◌+◌, ◌-◌, ◌≤◌, Bool, true, false, not, ◌||◌, List, [], ◌++◌, length, replicate, take, drop, slice_range, nat_le, nat_eq, Ok, refl, sym, ap, ◌∙◌, length-drop, length-take, add-zero, arith}
use Rattle.std.proofs.lemmas.List.{length-replicate, drop-drop}
use Rattle.std.proofs.Math.Seq.{take-add}
use Rattle.std.specs.Str.{IsUtf8, is_utf8}
use Rattle.std.proofs.lemmas.Str.{IsUtf8-from_is_utf8, is_utf8-from_IsUtf8}
use Rattle.fidl_wire.specs.declared.faults.WireWhat.TheVariants.{Presence, Count, Utf8}
use Rattle.fidl_wire.specs.Headers.{fault}
use Rattle.fidl_names.specs.Numbers.{number_at}
use Rattle.fidl_wire.specs.Numbers.{padding_after, padded}
use Rattle.fidl_wire.specs.Written.{padded_bytes}
use Rattle.fidl_wire.specs.Layout.{Item, text, vector, seq}
use Rattle.fidl_wire.specs.Cursor.{Cursor}
use Rattle.fidl_wire.specs.Reading.{◌>>=◌, passed, check, all_blank, present_list, count_at, list_part, list_at, list_cell, cell_at}
use Rattle.fidl_wire.specs.Grammar.{Part, IsCount, IsList}
use Rattle.wire_laws.proofs.Slices.{Begins, begins_front, begins-length, begins-append_first, begins-append_rest, slice_range-at}
use Rattle.wire_laws.proofs.Steps.{bind_ok, inline_bind, check_bind, unit_bind, inline_at-ok, check-true, eq_true, true_eq, le_true, true_le}
use Rattle.wire_laws.proofs.Blanks.{all_blank-zeros, zeros-all_blank}
use Rattle.wire_laws.proofs.Parts.{Stands, moved}
use Rattle.wire_laws.proofs.Cells.{Sound, Took, number_at-stands, number_at-front, number_at-within, length-front}
use Rattle.fidl_wire.proofs.Padded.{length-padded_bytes}

-- ---- the count

pub count_read : (n : ℕ) (c : Cursor) (front : List ℕ) → Begins (drop c.place c.message) front → IsCount n front → count_at c.place c ≡ Ok n
count_read n c front h count =
    let mark : number_at 8 (c.place + 8) c.message ≡ present_list =
    sym (number_at-stands 8 8 c.place c.message front h (omega (arith, count.size_is))) ∙ count.mark_is in
    let value : number_at 8 c.place c.message ≡ n =
    ap (λ k. number_at 8 k c.message) (sym (add-zero c.place)) ∙ sym (number_at-stands 8 0 c.place c.message front h (omega (arith, count.size_is))) ∙ count.count_is in
    rw (check-true (nat_eq (number_at 8 (c.place + 8) c.message) present_list) (fault c.place Presence) (true_eq (number_at 8 (c.place + 8) c.message) present_list mark), value) refl

pub count_sound : (n : ℕ) (c : Cursor) → c.end ≤ length c.message → c.place + 16 ≤ c.end → count_at c.place c ≡ Ok n → IsCount n (take 16 (drop c.place c.message))
count_sound n c within fits h =
    let mark = check_bind (nat_eq (number_at 8 (c.place + 8) c.message) present_list) (fault c.place Presence) (λ _. Ok (number_at 8 c.place c.message)) n h in
    let count : number_at 8 c.place c.message ≡ n = cc in
    record {
      size_is = length-front 16 c within fits;
      count_is = number_at-front 8 16 c.place c.message (omega arith) ∙ count;
      mark_is = number_at-within 8 8 16 c.place c.message (omega arith) ∙ eq_true (number_at 8 (c.place + 8) c.message) present_list mark.0;
    }

-- ---- the bytes

list_at-ok : (is_text : Bool) (at : ℕ) (xs : List ℕ) (c : Cursor) → c.out ≤ length c.message → Begins (drop c.out c.message) (padded_bytes xs) →
    (not is_text || is_utf8 xs) ≡ true → list_at is_text at (length xs) c ≡ Ok (xs, record (passed 16 c) { out = c.out + padded (length xs) })
list_at-ok is_text at xs c within h good =
    let zeros : List ℕ = replicate (padding_after (length xs)) 0 in
    let part : list_part at (length xs) c ≡ xs =
    slice_range-at c.message c.out (length xs) ∙ begins-append_first xs zeros (drop c.out c.message) h in
    let room : c.out + padded (length xs) ≤ length c.message =
    omega (arith, length-padded_bytes xs, begins-length (drop c.out c.message) (padded_bytes xs) h, length-drop c.out c.message) in
    let same : c.out + padded (length xs) - (c.out + length xs) ≡ padding_after (length xs) = omega arith in
    let until : c.out + padded (length xs) ≡ c.out + length xs + padding_after (length xs) = omega arith in
    let behind : Begins (drop (length xs) (drop c.out c.message)) zeros = begins-append_rest xs zeros (drop c.out c.message) h in
    let blank : slice_range c.message (c.out + length xs) (c.out + padded (length xs)) ≡ replicate (c.out + padded (length xs) - (c.out + length xs)) 0 =
    ap (λ n. slice_range c.message (c.out + length xs) n) until ∙ slice_range-at c.message (c.out + length xs) (padding_after (length xs))
    ∙ ap (take (padding_after (length xs))) (sym (drop-drop (length xs) c.out c.message))
    ∙ ap (λ n. take n (drop (length xs) (drop c.out c.message))) (sym (length-replicate {A = ℕ} (padding_after (length xs)) 0)) ∙ behind ∙ ap (λ n. replicate n 0) (sym same) in
    rw (
      check-true (nat_le (c.out + padded (length xs)) (length c.message)) (fault at Count) (true_le (c.out + padded (length xs)) (length c.message) room),
      part,
      check-true (not is_text || is_utf8 xs) (fault at Utf8) good,
      zeros-all_blank c.message (c.out + length xs) (c.out + padded (length xs)) blank,
    ) refl

pub list_read : (is_text : Bool) (xs : List ℕ) (c : Cursor) (p : Part) → c.out ≤ length c.message → c.place + 16 ≤ c.end → Stands c.message c.place c.out c.handles p →
    IsList xs p → (not is_text || is_utf8 xs) ≡ true → list_cell is_text c ≡ Ok (xs, moved c p)
list_read is_text xs c p within fits stands list good =
    let outside : Begins (drop c.out c.message) (padded_bytes xs) = rw list.outside_is at stands.outside in
    let after : record (passed 16 c) { out = c.out + padded (length xs) } ≡ moved c p =
    rw (list.handles_are, list.outside_is, length-padded_bytes xs, list.count.size_is) refl in
    rw (inline_at-ok 16 c fits, count_read (length xs) c p.inline stands.inline list.count, list_at-ok is_text c.place xs c within outside good, after) refl

-- ---- sound

pub record SoundList (is_text : Bool) (c : Cursor) : Type 0 where
  pub xs : List ℕ
  pub part : Part
  pub list : IsList xs part
  pub good : (not is_text || is_utf8 xs) ≡ true
  pub stands : Stands c.message c.place c.out c.handles part
  pub fits : c.place + 16 ≤ c.end

pub list_sound : (is_text : Bool) (c : Cursor) (r : List ℕ × Cursor) → c.end ≤ length c.message → list_cell is_text c ≡ Ok r → SoundList is_text c
list_sound is_text c r within h =
    let place = inline_bind 16 c (λ at. count_at at c >>= λ count. list_at is_text at count c) r h in
    let count = bind_ok (count_at c.place c) (λ count. list_at is_text c.place count c) r place.1 in
    let n = count.0 in
    let m = c.message in
    let room = check_bind (nat_le (c.out + padded n) (length m)) (fault c.place Count) (λ _. check (not is_text || is_utf8 (list_part c.place n c)) (fault c.place Utf8) >>= λ _. all_blank m (c.out + n) (c.out + padded n) >>= λ _. Ok (list_part c.place n c, record (passed 16 c) { out = c.out + padded n })) r count.2 in
    let good = check_bind (not is_text || is_utf8 (list_part c.place n c)) (fault c.place Utf8) (λ _. all_blank m (c.out + n) (c.out + padded n) >>= λ _. Ok (list_part c.place n c, record (passed 16 c) { out = c.out + padded n })) r room.1 in
    let blank = unit_bind (all_blank m (c.out + n) (c.out + padded n)) (λ _. Ok (list_part c.place n c, record (passed 16 c) { out = c.out + padded n })) r good.1 in
    let fits : c.out + padded n ≤ length m = le_true (c.out + padded n) (length m) room.0 in
    let size : length (list_part c.place n c) ≡ n = ap length (slice_range-at m c.out n) ∙ omega (arith, length-take n (drop c.out m), length-drop c.out m) in
    let same : c.out + padded n - (c.out + n) ≡ padding_after n = omega arith in
    let until : c.out + padded n ≡ c.out + n + padding_after n = omega arith in
    let zeros : take (padding_after n) (drop n (drop c.out m)) ≡ replicate (padding_after n) 0 =
    ap (take (padding_after n)) (drop-drop n c.out m) ∙ sym (slice_range-at m (c.out + n) (padding_after n))
    ∙ ap (λ k. slice_range m (c.out + n) k) (sym until) ∙ all_blank-zeros m (c.out + n) (c.out + padded n) tt (omega arith) fits blank.0 ∙ ap (λ k. replicate k 0) same in
    let outside : take (padded n) (drop c.out m) ≡ padded_bytes (list_part c.place n c) =
    take-add n (padding_after n) (drop c.out m) ∙ ap (λ zs. take n (drop c.out m) ++ zs) zeros
    ∙ ap (λ xs. xs ++ replicate (padding_after n) 0) (sym (slice_range-at m c.out n)) ∙ ap (λ k. list_part c.place n c ++ replicate (padding_after k) 0) (sym size) in
    record {
      xs = list_part c.place n c;
      part = record { inline = take 16 (drop c.place m); outside = take (padded n) (drop c.out m); handles = [] };
      list = record {
        count = count_sound (length (list_part c.place n c)) c within place.0 (count.1 ∙ ap Ok (sym size));
        outside_is = outside;
        handles_are = refl;
      };
      good = good.0;
      stands = record { inline = begins_front 16 (drop c.place m); outside = begins_front (padded n) (drop c.out m); handles = refl };
      fits = place.0;
    }

-- ---- the cells

is_good : (xs : List ℕ) → IsUtf8 xs → (not true || is_utf8 xs) ≡ true
is_good xs h = is_utf8-from_IsUtf8 xs h

pub text_read : (xs : List ℕ) (c : Cursor) (p : Part) → c.out ≤ length c.message → Took text c (seq xs) p → cell_at text c ≡ Ok (seq xs, moved c p)
unfolding cell_at
text_read xs c p within t = rw (list_read true xs c p within t.fits t.stands t.spells.1 (is_good xs t.spells.0)) refl

pub vector_read : (xs : List ℕ) (c : Cursor) (p : Part) → c.out ≤ length c.message → Took vector c (seq xs) p → cell_at vector c ≡ Ok (seq xs, moved c p)
unfolding cell_at
vector_read xs c p within t = rw (list_read false xs c p within t.fits t.stands t.spells refl) refl

pub text_sound : (c : Cursor) (r : Item × Cursor) → c.end ≤ length c.message → cell_at text c ≡ Ok r → Sound text c
unfolding cell_at
text_sound c r within h =
    let cell = bind_ok (list_cell true c) (λ x. Ok (seq x.0, x.1)) r h in
    let s = list_sound true c cell.0 within cell.1 in
    (seq s.xs, s.part, record { spells = (IsUtf8-from_is_utf8 s.xs s.good, s.list); stands = s.stands; size = s.list.count.size_is; fits = s.fits })

pub vector_sound : (c : Cursor) (r : Item × Cursor) → c.end ≤ length c.message → cell_at vector c ≡ Ok r → Sound vector c
unfolding cell_at
vector_sound c r within h =
    let cell = bind_ok (list_cell false c) (λ x. Ok (seq x.0, x.1)) r h in
    let s = list_sound false c cell.0 within cell.1 in
    (seq s.xs, s.part, record { spells = s.list; stands = s.stands; size = s.list.count.size_is; fits = s.fits })
