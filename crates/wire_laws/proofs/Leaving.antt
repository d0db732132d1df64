-- What reading each cell of a message leaves of it.
use Rattle.std.proofs.Common.{◌≡◌, ℕ, ◌+◌, ◌≤◌, Bool, true, false, not, ◌&&◌, ◌||◌, cond, List, [], ◌∷◌, length, slice_range, nat_le, nat_lt, nat_eq, Option, Some, None, is_some, Result, Ok, Err, refl, sym, ap, ◌∙◌, subst, option_map, arith}
use Rattle.std.proofs.lemmas.Bool.Decides.{nat_tests}
use Rattle.std.proofs.lemmas.Grind.{common_steps}
use Rattle.std.specs.Str.{is_utf8}
use Rattle.fidl_names.specs.declared.methods.Handle.{Handle}
use Rattle.fidl_names.specs.declared.methods.Handle.TheVariants.{Token}
use Rattle.fidl_wire.specs.declared.faults.WireFault.{WireFault}
use Rattle.fidl_wire.specs.declared.kinds.HandleKind.{HandleKind}
use Rattle.fidl_wire.specs.Cursor.{Cursor, start_of, start}
use Rattle.fidl_wire.specs.Layout.{Item, handle, pad, text, blank, held, seq, is_kind}
use Rattle.fidl_names.specs.Numbers.{number_at}
use Rattle.fidl_wire.specs.Numbers.{padded}
use Rattle.fidl_wire.specs.Reading.{◌>>=◌, inline_at, count_at, passed, next_handle, handle_word, handle_cell, all_blank, list_part, list_at, list_cell, pad_cell, cell_at, Step}
pub use Rattle.wire_laws.proofs.Steps.{bind_ok, check_bind}

pub chosen : (b : Bool) (e : WireFault) (x c : Cursor) → cond b (Err e) (Ok x) ≡ Ok c → x ≡ c
chosen true e x c h = absurd (cc)
chosen false e x c h = cc

-- nothing out of line was read
pub record Keeps (c d : Cursor) : Type 0 where
  pub message : d.message ≡ c.message
  pub out : d.out ≡ c.out

-- a text of so many bytes was read out of line
pub record Passes (size : ℕ) (c d : Cursor) : Type 0 where
  pub message : d.message ≡ c.message
  pub out : d.out ≡ c.out + padded size

pub fits_if : (b : Bool) (e : WireFault) (x c : Cursor) → cond b (Err e) (Ok x) ≡ Ok c → b ≡ false
fits_if true e x c h = absurd (cc)
fits_if false e x c h = refl

-- the primary object lies within the message
pub started : (m : List ℕ) (hs : List Handle) (size : ℕ) (c : Cursor) → Ok c ≡ start_of m hs size → c.out ≤ length c.message
started m hs size c h =
    let b : nat_lt (length m) (16 + padded size) ≡ false = fits_if _ _ (start m hs size) c (sym h) in
    let e : start m hs size ≡ c = chosen (nat_lt (length m) (16 + padded size)) _ (start m hs size) c (sym h) in
    let within : 16 + padded size ≤ length m = grind (arith, nat_tests) in
    subst (λ (v : Cursor). v.out ≤ length v.message) e within

-- ---- what each cell leaves

abbrev gives : Item → Cursor → Step Item
gives x c = Ok (x, c)

-- one reading ends at one place, with one item
same_cursor : (x y : Item) (c d : Cursor) → gives x c ≡ gives y d → c ≡ d
same_cursor x y c d h = let same : (let r : Item × Cursor = (x, c) in r) ≡ (y, d) = cc in ap (λ (v : Item × Cursor). v.1) same

same_item : (x y : Item) (c d : Cursor) → gives x c ≡ gives y d → x ≡ y
same_item x y c d h = let same : (let r : Item × Cursor = (x, c) in r) ≡ (y, d) = cc in ap (λ (v : Item × Cursor). v.0) same

same_held : (x y : Option Handle) → held x ≡ held y → x ≡ y
same_held x y h = cc

same_seq : (x y : List ℕ) → seq x ≡ seq y → x ≡ y
same_seq x y h = cc

pad_rest : (size : ℕ) (c : Cursor) (at : ℕ) (y : Unit {0} × Cursor) → (all_blank c.message at (at + size) >>= λ _. Ok (tt, passed size c)) ≡ Ok y → Keeps c y.1
pad_rest size c at y h =
    let last = (bind_ok (all_blank c.message at (at + size)) _ y h).2 in
    let left : Unit {0} × Cursor = (tt, passed size c) in
    let same : left ≡ y = cc last in
    subst (λ (v : Unit {0} × Cursor). Keeps c v.1) same (record { message = refl; out = refl })

-- padding leaves what stands out of line
pub blank_keeps : (size : ℕ) (c : Cursor) (y : Item × Cursor) → cell_at (pad size) c ≡ Ok y → Keeps c y.1
unfolding cell_at
blank_keeps size c y h =
    let cell = bind_ok (pad_cell size c) _ y h in
    let place = bind_ok (inline_at size c) _ cell.0 cell.1 in
    let left : Item × Cursor = (blank, cell.0.1) in
    let same : left ≡ y = cc cell.2 in
    subst (λ (v : Item × Cursor). Keeps c v.1) same (pad_rest size c place.0 cell.0 place.2)

pub pad_keeps : (size : ℕ) (c d : Cursor) → cell_at (pad size) c ≡ Ok (blank, d) → Keeps c d
pad_keeps size c d h = blank_keeps size c (blank, d) h

-- a handle was taken, or none where that may be absent
record Takes (nullable : Bool) (c : Cursor) (y : Option Handle × Cursor) : Type 0 where
  pub keeps : Keeps c y.1
  pub some : nullable ≡ false → is_some y.0 ≡ true

takes_if : (nullable : Bool) (c : Cursor) (h : Handle) (hs : List Handle) (b : Bool) (e : WireFault) (y : Option Handle × Cursor) → cond b (Ok (Some h, record (passed 4 c) { handles = hs })) (Err e) ≡ Ok y → Takes nullable c y
takes_if nullable c h hs true e y p =
    let taken : Option Handle × Cursor = (Some h, record (passed 4 c) { handles = hs }) in
    let same : taken ≡ y = cc in
    subst (λ (v : Option Handle × Cursor). Takes nullable c v) same (record { keeps = record { message = refl; out = refl }; some = λ _. refl })
takes_if nullable c h hs false e y p = absurd (cc)

takes_next : (nullable : Bool) (kind : HandleKind) (at : ℕ) (hs : List Handle) (c : Cursor) (y : Option Handle × Cursor) → next_handle kind at hs (passed 4 c) ≡ Ok y → Takes nullable c y
takes_next nullable kind at [] c y h = absurd (cc)
takes_next nullable kind at (x ∷ hs) c y h = takes_if nullable c x hs (is_kind kind x) _ y h

takes_none : (c : Cursor) (y : Option Handle × Cursor) → (let r : Result (Option Handle × Cursor) WireFault = Ok (None, passed 4 c) in r) ≡ Ok y → Takes true c y
takes_none c y h =
    let left : Option Handle × Cursor = (None, passed 4 c) in
    let same : left ≡ y = cc in
    subst (λ (v : Option Handle × Cursor). Takes true c v) same (record { keeps = record { message = refl; out = refl }; some = λ clash. absurd (cc) })

takes_cases : (kind : HandleKind) (at : ℕ) (nullable zero present : Bool) (e : WireFault) (c : Cursor) (y : Option Handle × Cursor) →
    cond present (next_handle kind at c.handles (passed 4 c)) (cond (zero && nullable) (Ok (None, passed 4 c)) (Err e)) ≡ Ok y → Takes nullable c y
takes_cases kind at nullable zero true e c y h = takes_next nullable kind at c.handles c y h
takes_cases kind at true true false e c y h = takes_none c y h
takes_cases kind at false true false e c y h = absurd (cc)
takes_cases kind at nullable false false e c y h = absurd (cc)

word_takes : (kind : HandleKind) (nullable : Bool) (at mark : ℕ) (c : Cursor) (y : Option Handle × Cursor) → handle_word kind nullable at mark c ≡ Ok y → Takes nullable c y
word_takes kind nullable at mark c y h = takes_cases kind at nullable (nat_eq mark 0) (nat_eq mark 0xffff_ffff) _ c y h

handle_takes : (kind : HandleKind) (nullable : Bool) (c d : Cursor) (x : Option Handle) → cell_at (handle kind nullable) c ≡ Ok (held x, d) → Takes nullable c (x, d)
unfolding cell_at
handle_takes kind nullable c d x h =
    let cell = bind_ok (handle_cell kind nullable c) _ (held x, d) h in
    let place = bind_ok (inline_at 4 c) _ cell.0 cell.1 in
    let takes = word_takes kind nullable place.0 (number_at 4 place.0 c.message) c cell.0 place.2 in
    let cursors = same_cursor (held cell.0.0) (held x) cell.0.1 d cell.2 in
    let handles = same_held cell.0.0 x (same_item (held cell.0.0) (held x) cell.0.1 d cell.2) in
    record {
      keeps = subst (λ (v : Cursor). Keeps c v) cursors takes.keeps;
      some = λ absent. subst (λ (v : Option Handle). is_some v ≡ true) handles (takes.some absent);
    }

pub handle_keeps : (kind : HandleKind) (nullable : Bool) (c d : Cursor) (x : Option Handle) → cell_at (handle kind nullable) c ≡ Ok (held x, d) → Keeps c d
handle_keeps kind nullable c d x h = (handle_takes kind nullable c d x h).keeps

-- a token that may not be absent is there
pub token_there : (kind : HandleKind) (c d : Cursor) (n : Option ℕ) → cell_at (handle kind false) c ≡ Ok (held (option_map Token n), d) → is_some n ≡ true
token_there kind c d None h = (handle_takes kind false c d None h).some refl
token_there kind c d (Some n) h = refl

pub list_size : (c : Cursor) (count : ℕ) → nat_le (c.out + padded count) (length c.message) ≡ true → length (slice_range c.message c.out (c.out + count)) ≡ count
list_size c count h = grind (arith, nat_tests, common_steps)

-- a text was read
text_rest : (at count : ℕ) (c : Cursor) (y : List ℕ × Cursor) → c.out ≤ length c.message → list_at true at count c ≡ Ok y → Passes (length y.0) c y.1
text_rest at count c y within h =
    let fits = check_bind (nat_le (c.out + padded count) (length c.message)) _ _ y h in
    let utf8 = check_bind (not true || is_utf8 (list_part at count c)) _ _ y fits.1 in
    let last = (bind_ok (all_blank c.message (c.out + count) (c.out + padded count)) _ y utf8.1).2 in
    let left : List ℕ × Cursor = (list_part at count c, record (passed 16 c) { out = c.out + padded count }) in
    let same : left ≡ y = cc last in
    let size : length (list_part at count c) ≡ count = list_size c count fits.0 in
    subst (λ (v : List ℕ × Cursor). Passes (length v.0) c v.1) same (record { message = refl; out = ap (λ (n : ℕ). c.out + padded n) (sym size) })

pub text_passes : (c d : Cursor) (xs : List ℕ) → c.out ≤ length c.message → cell_at text c ≡ Ok (seq xs, d) → Passes (length xs) c d
unfolding cell_at
text_passes c d xs within h =
    let cell = bind_ok (list_cell true c) _ (seq xs, d) h in
    let place = bind_ok (inline_at 16 c) _ cell.0 cell.1 in
    let count = bind_ok (count_at place.0 c) _ cell.0 place.2 in
    let passes = text_rest place.0 count.0 c cell.0 within count.2 in
    let cursors = same_cursor (seq cell.0.0) (seq xs) cell.0.1 d cell.2 in
    let lists = same_seq cell.0.0 xs (same_item (seq cell.0.0) (seq xs) cell.0.1 d cell.2) in
    subst (λ (v : Cursor). Passes (length xs) c v) cursors (subst (λ (v : List ℕ). Passes (length v) c cell.0.1) lists passes)

pub passes_keeps : (size : ℕ) (c d e : Cursor) → Passes size c d → Keeps d e → Passes size c e
passes_keeps size c d e p k = record { message = k.message ∙ p.message; out = k.out ∙ p.out }

-- what lies between two names leaves the place of the second
pub between_names : (a b d e : Cursor) (src : List ℕ) (kind : HandleKind) (x : Option Handle) (size : ℕ) → a.out ≤ length a.message →
    cell_at text a ≡ Ok (seq src, b) → cell_at (handle kind false) b ≡ Ok (held x, d) → cell_at (pad size) d ≡ Ok (blank, e) → Passes (length src) a e
between_names a b d e src kind x size within h k l =
    passes_keeps _ a d e (passes_keeps _ a b d (text_passes a b src within h) (handle_keeps kind false b d x k)) (pad_keeps size d e l)
