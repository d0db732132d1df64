-- The cells without lists: each is read exactly where it is spelled.
use Rattle.std.proofs.Common.{◌≡◌, ℕ, ◌+◌, ◌-◌, ◌≤◌, ◌⊎◌, inl, inr, nat_eq, cond, ◌&&◌, Bool, true, false, List, [], ◌∷◌, length, replicate, take, drop, Option, Some, None, Ok, Err, refl, sym, ap, ◌∙◌, length-drop, add-zero, length-take, arith}
use Rattle.fidl_names.specs.declared.methods.Handle.{Handle}
use Rattle.fidl_wire.specs.declared.kinds.HandleKind.{HandleKind}
use Rattle.fidl_wire.specs.declared.faults.WireWhat.TheVariants.{Handles, Presence}
use Rattle.fidl_wire.specs.Headers.{fault}
use Rattle.fidl_names.specs.Numbers.{number_at}
use Rattle.fidl_wire.specs.Layout.{Cell, Item, number, pad, handle, num, blank, held, is_kind, size_of}
use Rattle.fidl_wire.specs.Cursor.{Cursor}
use Rattle.fidl_wire.specs.Reading.{◌>>=◌, passed, all_blank, number_cell, pad_cell, handle_cell, handle_word, next_handle, present_word, cell_at}
use Rattle.fidl_wire.specs.Grammar.{Part, IsNumber, Spells}
use Rattle.wire_laws.proofs.Slices.{Begins, begins_front, number_at-part, slice_range-at}
use Rattle.wire_laws.proofs.Steps.{bind_ok, inline_bind, unit_bind, inline_at-ok, if_ok, both_true, eq_true}
use Rattle.wire_laws.proofs.Blanks.{all_blank-zeros, zeros-all_blank}
use Rattle.wire_laws.proofs.Parts.{Stands, moved, moved-inline}

-- what a cell took: a part that spells its item, and that stands where it was read
pub record Took (cell : Cell) (c : Cursor) (x : Item) (p : Part) : Type 0 where
  pub spells : Spells cell x p
  pub stands : Stands c.message c.place c.out c.handles p
  pub size : length p.inline ≡ size_of cell
  pub fits : c.place + size_of cell ≤ c.end

-- something was taken
abbrev pub Sound : Cell → Cursor → Type 0
Sound cell c = (x : Item) × (p : Part) × Took cell c x p

-- so many inline bytes
abbrev pub front_part : ℕ → Cursor → Part
front_part size c = record { inline = take size (drop c.place c.message); outside = []; handles = [] }

pub length-front : (size : ℕ) (c : Cursor) → c.end ≤ length c.message → c.place + size ≤ c.end → length (take size (drop c.place c.message)) ≡ size
length-front size c within fits = omega (arith, length-take size (drop c.place c.message), length-drop c.place c.message)

pub stands-front : (size : ℕ) (c : Cursor) → Stands c.message c.place c.out c.handles (front_part size c)
stands-front size c = record { inline = begins_front size (drop c.place c.message); outside = refl; handles = refl }

pub number_at-front : (size n at : ℕ) (m : List ℕ) → size ≤ n → number_at size 0 (take n (drop at m)) ≡ number_at size at m
number_at-front size n at m h = number_at-part size 0 n at m (omega arith) ∙ ap (λ k. number_at size k m) (add-zero at)

pub number_at-within : (size k n at : ℕ) (m : List ℕ) → k + size ≤ n → number_at size k (take n (drop at m)) ≡ number_at size (at + k) m
number_at-within size k n at m h = number_at-part size k n at m h

-- what stands at a place has its numbers there
pub number_at-stands : (size k at : ℕ) (m front : List ℕ) → Begins (drop at m) front → k + size ≤ length front → number_at size k front ≡ number_at size (at + k) m
number_at-stands size k at m front h fits =
    ap (number_at size k) (sym h) ∙ number_at-part size k (length front) at m fits

pub number_at-here : (size at : ℕ) (m front : List ℕ) → Begins (drop at m) front → size ≤ length front → number_at size 0 front ≡ number_at size at m
number_at-here size at m front h fits = number_at-stands size 0 at m front h (omega arith) ∙ ap (λ k. number_at size k m) (add-zero at)

-- ---- numbers

pub number_took : (size : ℕ) (c : Cursor) → c.end ≤ length c.message → c.place + size ≤ c.end → Took (number size) c (num (number_at size c.place c.message)) (front_part size c)
number_took size c within fits = record {
  spells = (record { size_is = length-front size c within fits; value_is = number_at-front size size c.place c.message (omega arith) }, record { outside_is = refl; handles_are = refl });
  stands = stands-front size c;
  size = length-front size c within fits;
  fits = fits;
}

-- the number at the place
pub number_stands : (size x at : ℕ) (m front : List ℕ) → Begins (drop at m) front → IsNumber size x front → number_at size at m ≡ x
number_stands size x at m front h n =
    ap (λ k. number_at size k m) (sym (add-zero at)) ∙ sym (number_at-stands size 0 at m front h (omega (arith, n.size_is))) ∙ n.value_is

pub number_read : (size x : ℕ) (c : Cursor) (p : Part) → Took (number size) c (num x) p → cell_at (number size) c ≡ Ok (num x, moved c p)
unfolding cell_at
number_read size x c p t =
    rw (inline_at-ok size c t.fits, number_stands size x c.place c.message p.inline t.stands.inline t.spells.0, moved-inline c p size t.spells.1 t.size) refl

pub number_sound : (size : ℕ) (c : Cursor) (r : Item × Cursor) → c.end ≤ length c.message → cell_at (number size) c ≡ Ok r → Sound (number size) c
unfolding cell_at
number_sound size c r within h =
    let cell = bind_ok (number_cell size c) (λ x. Ok (num x.0, x.1)) r h in
    let place = inline_bind size c (λ at. Ok (number_at size at c.message, passed size c)) cell.0 cell.1 in
    (num (number_at size c.place c.message), front_part size c, number_took size c within place.0)

-- ---- padding

pub pad_read : (size : ℕ) (c : Cursor) (p : Part) → Took (pad size) c blank p → cell_at (pad size) c ≡ Ok (blank, moved c p)
unfolding cell_at
pad_read size c p t =
    let zeros : take size (drop c.place c.message) ≡ replicate size 0 =
    ap (λ n. take n (drop c.place c.message)) (sym t.size) ∙ t.stands.inline ∙ t.spells.0 in
    let same : c.place + size - c.place ≡ size = omega arith in
    let blanks : all_blank c.message c.place (c.place + size) ≡ Ok tt =
    zeros-all_blank c.message c.place (c.place + size) (slice_range-at c.message c.place size ∙ zeros ∙ ap (λ n. replicate n 0) (sym same)) in
    rw (inline_at-ok size c t.fits, blanks, moved-inline c p size t.spells.1 t.size) refl

pub pad_sound : (size : ℕ) (c : Cursor) (r : Item × Cursor) → c.end ≤ length c.message → cell_at (pad size) c ≡ Ok r → Sound (pad size) c
unfolding cell_at
pad_sound size c r within h =
    let cell = bind_ok (pad_cell size c) (λ x. Ok (blank, x.1)) r h in
    let place = inline_bind size c (λ at. all_blank c.message at (at + size) >>= λ _. Ok (tt, passed size c)) cell.0 cell.1 in
    let fits : c.place + size ≤ c.end = place.0 in
    let blanks = unit_bind (all_blank c.message c.place (c.place + size)) (λ _. Ok (tt, passed size c)) cell.0 place.1 in
    let same : c.place + size - c.place ≡ size = omega arith in
    let zeros = all_blank-zeros c.message c.place (c.place + size) tt (omega arith) (omega arith) blanks.0 in (
      blank,
      front_part size c,
      record {
        spells = (sym (slice_range-at c.message c.place size) ∙ zeros ∙ ap (λ n. replicate n 0) same, record { outside_is = refl; handles_are = refl });
        stands = stands-front size c;
        size = length-front size c within fits;
        fits = fits;
      },
    )

-- ---- handles

next_read : (kind : HandleKind) (at : ℕ) (hs : List Handle) (c : Cursor) (h : Handle) → take 1 hs ≡ h ∷ [] → is_kind kind h ≡ true →
    next_handle kind at hs c ≡ Ok (Some h, record c { handles = drop 1 hs })
next_read kind at [] c h first allowed = absurd (cc)
next_read kind at (g ∷ hs) c h first allowed = let same : g ≡ h = cc in rw (same, allowed) refl

-- a handle of the kind is the next one
abbrev IsNext : HandleKind → List Handle → Type 0
IsNext kind hs = (h : Handle) × (take 1 hs ≡ h ∷ []) × (is_kind kind h ≡ true)

abbrev MarkSays : HandleKind → Bool → ℕ → List Handle → Type 0
MarkSays kind nullable mark hs = ((mark ≡ present_word) × IsNext kind hs) ⊎ ((mark ≡ 0) × (nullable ≡ true))

next_ok : (kind : HandleKind) (at : ℕ) (hs : List Handle) (c : Cursor) (r : Option Handle × Cursor) → next_handle kind at hs c ≡ Ok r → IsNext kind hs
next_ok kind at [] c r e = absurd (cc)
next_ok kind at (h ∷ hs) c r e = (h, refl, if_ok (is_kind kind h) (Some h, record c { handles = hs }) r (fault at Handles) e)

handle_word_ok : (kind : HandleKind) (nullable : Bool) (at mark : ℕ) (c : Cursor) (r : Option Handle × Cursor) → handle_word kind nullable at mark c ≡ Ok r →
    MarkSays kind nullable mark c.handles
handle_word_ok kind nullable at mark c r =
    elim (nat_eq mark present_word) as (λ b. nat_eq mark present_word ≡ b → cond b (next_handle kind at c.handles (passed 4 c)) (cond (nat_eq mark 0 && nullable) (Ok (None, passed 4 c)) (Err (fault at Presence))) ≡ Ok r → MarkSays kind nullable mark c.handles) [
      | true ↦ λ same e. inl (eq_true mark present_word same, next_ok kind at c.handles (passed 4 c) r e)
      | false ↦ λ other e.
          let zero_and = both_true (nat_eq mark 0) nullable (if_ok (nat_eq mark 0 && nullable) (None, passed 4 c) r (fault at Presence) e) in
          inr (eq_true mark 0 zero_and.0, zero_and.1)
    ] refl

pub handle_read : (kind : HandleKind) (nullable : Bool) (h : Option Handle) (c : Cursor) (p : Part) → Took (handle kind nullable) c (held h) p →
    cell_at (handle kind nullable) c ≡ Ok (held h, moved c p)
unfolding cell_at
handle_read kind nullable None c p t =
    let mark : number_at 4 c.place c.message ≡ 0 = number_stands 4 0 c.place c.message p.inline t.stands.inline t.spells.1 in
    rw (inline_at-ok 4 c t.fits, mark, t.spells.0, moved-inline c p 4 t.spells.2 t.size) refl
handle_read kind nullable (Some h) c p t =
    let mark : number_at 4 c.place c.message ≡ present_word = number_stands 4 present_word c.place c.message p.inline t.stands.inline t.spells.1.mark in
    let one : length p.handles ≡ 1 = ap length t.spells.1.handles_are in
    let first : take 1 c.handles ≡ h ∷ [] = ap (λ n. take n c.handles) (sym one) ∙ t.stands.handles ∙ t.spells.1.handles_are in
    let after : record (passed 4 c) { handles = drop 1 c.handles } ≡ moved c p = rw (t.spells.1.handles_are, t.spells.1.outside_is, t.size) (simp add-zero) in
    rw (inline_at-ok 4 c t.fits, mark, next_read kind c.place c.handles (passed 4 c) h first t.spells.0, after) refl

handle_took : (kind : HandleKind) (nullable : Bool) (c : Cursor) → c.end ≤ length c.message → c.place + 4 ≤ c.end → MarkSays kind nullable (number_at 4 c.place c.message) c.handles → Sound (handle kind nullable) c
handle_took kind nullable c within fits (inl says) =
    let one : take 1 c.handles ≡ says.1.0 ∷ [] = says.1.1 in (
      held (Some says.1.0),
      record { inline = take 4 (drop c.place c.message); outside = []; handles = says.1.0 ∷ [] },
      record {
        spells = (
          says.1.2,
          record {
            mark = record { size_is = length-front 4 c within fits; value_is = number_at-front 4 4 c.place c.message (omega arith) ∙ says.0 };
            outside_is = refl;
            handles_are = refl;
          },
        );
        stands = record { inline = begins_front 4 (drop c.place c.message); outside = refl; handles = one };
        size = length-front 4 c within fits;
        fits = fits;
      },
    )
handle_took kind nullable c within fits (inr says) = (
  held None,
  front_part 4 c,
  record {
    spells = (says.1, record { size_is = length-front 4 c within fits; value_is = number_at-front 4 4 c.place c.message (omega arith) ∙ says.0 }, record { outside_is = refl; handles_are = refl });
    stands = stands-front 4 c;
    size = length-front 4 c within fits;
    fits = fits;
  },
)

pub handle_sound : (kind : HandleKind) (nullable : Bool) (c : Cursor) (r : Item × Cursor) → c.end ≤ length c.message → cell_at (handle kind nullable) c ≡ Ok r → Sound (handle kind nullable) c
unfolding cell_at
handle_sound kind nullable c r within h =
    let cell = bind_ok (handle_cell kind nullable c) (λ x. Ok (held x.0, x.1)) r h in
    let place = inline_bind 4 c (λ at. handle_word kind nullable at (number_at 4 at c.message) c) cell.0 cell.1 in
    handle_took kind nullable c within place.0 (handle_word_ok kind nullable c.place (number_at 4 c.place c.message) c cell.0 place.1)
