-- An object that a message ends with, read exactly where it is spelled.
use Rattle.std.proofs.Common.{◌≡◌, ℕ, ◌+◌, ◌-◌, ◌%◌, ◌≤◌, subst, List, [], ◌∷◌, ◌++◌, length, replicate, take, drop, nat_le, ◌==◌, Option, Ok, refl, sym, ap, ◌∙◌, length-append, length-drop, arith}
use Rattle.std.proofs.lemmas.List.{drop-drop, take_all, length-replicate}
use Rattle.fidl_names.specs.declared.methods.Handle.{Handle}
use Rattle.fidl_wire.specs.declared.reading.Opened.{Opened}
use Rattle.fidl_wire.specs.declared.faults.WireWhat.TheVariants.{Trailing, Handles}
use Rattle.fidl_wire.specs.Headers.{fault}
use Rattle.fidl_wire.specs.Numbers.{padding_after, padded}
use Rattle.fidl_wire.specs.Written.{padded_bytes}
use Rattle.fidl_wire.specs.Layout.{Cell, Item, sizes_of}
use Rattle.fidl_wire.specs.Cursor.{Cursor}
use Rattle.fidl_wire.specs.Reading.{◌>>=◌, check, all_blank, cells_at, closed, finish_of, object_items}
use Rattle.fidl_wire.specs.Grammar.{Part, Lays, IsObject}
use Rattle.fidl_wire.proofs.Sizes.{padding_after-add}
use Rattle.wire_laws.proofs.Slices.{Begins, begins-length, begins-append, begins-append_first, begins-append_rest, slice_range-at}
use Rattle.wire_laws.proofs.Steps.{bind_ok, unit_bind, check_bind, check_ok, check-true, le_true, true_le, eq_true, true_eq}
use Rattle.wire_laws.proofs.Blanks.{all_blank-zeros, zeros-all_blank}
use Rattle.wire_laws.proofs.Parts.{Stands, moved}
use Rattle.fidl_wire.proofs.Padded.{length-padded_bytes}
use Rattle.wire_laws.proofs.Objects.{cells_read, cells_sound, length-lays}

-- before an object of so many bytes at a place
abbrev pub before_object : List ℕ → List Handle → ℕ → ℕ → Option Opened → Cursor
before_object m hs at size opened =
    record { message = m; handles = hs; place = at; end = at + size; out = at + padded size; opened = opened }

-- a list that begins with one and is no longer is that one
begins_all : {A : Type 0} → (xs front : List A) → Begins xs front → length xs ≤ length front → xs ≡ front
begins_all xs front h short = sym (take_all (length front) xs short) ∙ h

begins_whole : {A : Type 0} → (xs ys : List A) → xs ≡ ys → Begins xs ys
begins_whole xs ys h = rw h (take_all (length ys) ys (omega arith))

drop_all : {A : Type 0} → (xs : List A) → drop (length xs) xs ≡ []
drop_all [] = refl
drop_all (x ∷ xs) = drop_all xs

-- the padding behind an object
padding_read : (m : List ℕ) (at size : ℕ) → at % 8 ≡ 0 → Begins (drop (at + size) m) (replicate (padding_after size) 0) → all_blank m (at + size) (padded (at + size)) ≡ Ok tt
padding_read m at size aligned h =
    let pad : padding_after (at + size) ≡ padding_after size = padding_after-add at size aligned in
    let zeros : take (padding_after size) (drop (at + size) m) ≡ replicate (padding_after size) 0 = subst (λ (n : ℕ). take n (drop (at + size) m) ≡ replicate (padding_after size) 0) (length-replicate {A = ℕ} (padding_after size) 0) h in
    let same : padded (at + size) - (at + size) ≡ padding_after size = omega arith in
    zeros-all_blank m (at + size) (padded (at + size)) (slice_range-at m (at + size) (padding_after (at + size)) ∙ ap (λ n. take n (drop (at + size) m)) pad ∙ zeros ∙ ap (λ n. replicate n 0) (sym same))

padding_sound : (m : List ℕ) (at size : ℕ) → at % 8 ≡ 0 → at + padded size ≤ length m → all_blank m (at + size) (padded (at + size)) ≡ Ok tt → Begins (drop (at + size) m) (replicate (padding_after size) 0)
padding_sound m at size aligned fits h =
    let pad : padding_after (at + size) ≡ padding_after size = padding_after-add at size aligned in
    let same : padded (at + size) - (at + size) ≡ padding_after size = omega arith in
    let zeros = all_blank-zeros m (at + size) (padded (at + size)) tt (omega arith) (omega (arith, pad)) h in
    let front : take (padding_after size) (drop (at + size) m) ≡ replicate (padding_after size) 0 =
    ap (λ n. take n (drop (at + size) m)) (sym pad) ∙ sym (slice_range-at m (at + size) (padding_after (at + size))) ∙ zeros ∙ ap (λ n. replicate n 0) same in
    subst (λ (n : ℕ). take n (drop (at + size) m) ≡ replicate (padding_after size) 0) (sym (length-replicate {A = ℕ} (padding_after size) 0)) front

pub finish_ok : (c : Cursor) → closed c.opened c ≡ Ok tt → all_blank c.message c.end (padded c.end) ≡ Ok tt → c.out ≡ length c.message → c.handles ≡ [] → finish_of c ≡ Ok tt
unfolding finish_of
finish_ok c whole blank out handles =
    rw (
      whole,
      blank,
      check-true (nat_le (length c.message) c.out) (fault c.out Trailing) (true_le (length c.message) c.out (omega arith)),
      check-true (length c.handles == 0) (fault (length c.message) Handles) (true_eq (length c.handles) 0 (ap length handles)),
    ) refl

pub record Finished (c : Cursor) : Type 0 where
  pub whole : closed c.opened c ≡ Ok tt
  pub blank : all_blank c.message c.end (padded c.end) ≡ Ok tt
  pub out : length c.message ≤ c.out
  pub handles : length c.handles ≡ 0

pub finish_says : (c : Cursor) (u : Unit {0}) → finish_of c ≡ Ok u → Finished c
unfolding finish_of
finish_says c u h =
    let whole = unit_bind (closed c.opened c) (λ _. all_blank c.message c.end (padded c.end) >>= λ _. check (nat_le (length c.message) c.out) (fault c.out Trailing) >>= λ _. check (length c.handles == 0) (fault (length c.message) Handles)) u h in
    let blank = unit_bind (all_blank c.message c.end (padded c.end)) (λ _. check (nat_le (length c.message) c.out) (fault c.out Trailing) >>= λ _. check (length c.handles == 0) (fault (length c.message) Handles)) u whole.1 in
    let out = check_bind (nat_le (length c.message) c.out) (fault c.out Trailing) (λ _. check (length c.handles == 0) (fault (length c.message) Handles)) u blank.1 in
    record {
      whole = whole.0;
      blank = blank.0;
      out = le_true (length c.message) c.out out.0;
      handles = eq_true (length c.handles) 0 (check_ok (length c.handles == 0) (fault (length c.message) Handles) u out.1);
    }

pub object_read : (cells : List Cell) (xs : List Item) (m : List ℕ) (hs : List Handle) (at : ℕ) (opened : Option Opened) → at % 8 ≡ 0 → at ≤ length m → IsObject cells xs (drop at m) hs →
    ((c : Cursor) → c.out ≡ length m → c.handles ≡ [] → closed opened c ≡ Ok tt) → object_items cells (before_object m hs at (sizes_of cells) opened) ≡ Ok xs
object_read cells xs m hs at opened aligned within o right =
    let p = o.part in
    let size : length p.inline ≡ sizes_of cells = length-lays cells xs p o.lays in
    let zeros : List ℕ = replicate (padding_after (length p.inline)) 0 in
    let whole : Begins (drop at m) (padded_bytes p.inline ++ p.outside) = begins_whole (drop at m) (padded_bytes p.inline ++ p.outside) o.bytes_are in
    let front = begins-append_first (padded_bytes p.inline) p.outside (drop at m) whole in
    let inline = begins-append_first p.inline zeros (drop at m) front in
    let pads : Begins (drop (at + length p.inline) m) zeros = rw (drop-drop (length p.inline) at m) at (begins-append_rest p.inline zeros (drop at m) front) in
    let long : length (drop at m) ≡ padded (length p.inline) + length p.outside = ap length o.bytes_are ∙ omega (arith, length-append (padded_bytes p.inline) p.outside, length-padded_bytes p.inline) in
    let outside : Begins (drop (at + padded (length p.inline)) m) p.outside =
    rw (drop-drop (padded (length p.inline)) at m) at (subst (λ (n : ℕ). Begins (drop n (drop at m)) p.outside) (length-padded_bytes p.inline) (begins-append_rest (padded_bytes p.inline) p.outside (drop at m) whole)) in
    let total : at + padded (length p.inline) + length p.outside ≡ length m = omega (arith, length-drop at m) in
    let none : drop (length p.handles) hs ≡ [] = rw o.handles_are (drop_all p.handles) in
    let c = before_object m hs at (length p.inline) opened in
    let s : Stands m at (at + padded (length p.inline)) hs p = record { inline = inline; outside = outside; handles = begins_whole hs p.handles o.handles_are } in
    let read : cells_at cells c ≡ Ok (xs, moved c p) = cells_read cells xs c p (omega arith) (omega arith) o.lays s in
    let done : finish_of (moved c p) ≡ Ok tt = finish_ok (moved c p) (right (moved c p) total none) (padding_read m at (length p.inline) aligned pads) total none in
    rw (sym size, read, done) refl

pub record TookObject (cells : List Cell) (m : List ℕ) (hs : List Handle) (at : ℕ) (opened : Option Opened) (xs : List Item) : Type 0 where
  pub object : IsObject cells xs (drop at m) hs
  pub last : Cursor
  pub out : last.out ≡ length m
  pub handles : last.handles ≡ []
  pub whole : closed opened last ≡ Ok tt

pub length_zero : {A : Type 0} → (xs : List A) → length xs ≡ 0 → xs ≡ []
length_zero [] h = refl
length_zero (x ∷ xs) h = absurd (omega arith)

object_ended : (cells : List Cell) (xs : List Item) (m : List ℕ) (hs : List Handle) (at : ℕ) (opened : Option Opened) (p : Part) → at % 8 ≡ 0 → at + padded (sizes_of cells) ≤ length m →
    Lays cells xs p → Stands m at (at + padded (sizes_of cells)) hs p → finish_of (moved (before_object m hs at (sizes_of cells) opened) p) ≡ Ok tt → TookObject cells m hs at opened xs
object_ended cells xs m hs at opened p aligned fits lays s h =
    let last : Cursor = moved (before_object m hs at (sizes_of cells) opened) p in
    let f : Finished last = finish_says last tt h in
    let n = sizes_of cells in
    let size : length p.inline ≡ n = length-lays cells xs p lays in
    let pads : Begins (drop (at + n) m) (replicate (padding_after n) 0) = padding_sound m at n aligned fits f.blank in
    let zeros : List ℕ = replicate (padding_after (length p.inline)) 0 in
    let pads_behind : Begins (drop (length p.inline) (drop at m)) zeros =
    rw (drop-drop (length p.inline) at m) (subst (λ (k : ℕ). Begins (drop (at + k) m) (replicate (padding_after k) 0)) (sym size) pads) in
    let front : Begins (drop at m) (padded_bytes p.inline) = begins-append p.inline zeros (drop at m) s.inline pads_behind in
    let long : length (padded_bytes p.inline) ≡ padded n = length-padded_bytes p.inline ∙ ap (λ k. padded k) size in
    let outside_behind : Begins (drop (length (padded_bytes p.inline)) (drop at m)) p.outside =
    rw (drop-drop (length (padded_bytes p.inline)) at m, long) s.outside in
    let whole : Begins (drop at m) (padded_bytes p.inline ++ p.outside) = begins-append (padded_bytes p.inline) p.outside (drop at m) front outside_behind in
    let out_within : at + padded n + length p.outside ≤ length m = omega (arith, begins-length (drop (at + padded n) m) p.outside s.outside, length-drop (at + padded n) m) in
    let left : length (drop (length p.handles) hs) ≡ 0 = f.handles in
    let out_reach : length m ≤ at + padded n + length p.outside = f.out in
    record {
      object = record {
        part = p;
        lays = lays;
        bytes_are = begins_all (drop at m) (padded_bytes p.inline ++ p.outside) whole (omega (arith, length-drop at m, length-append (padded_bytes p.inline) p.outside));
        handles_are = begins_all hs p.handles s.handles (omega (arith, length-drop (length p.handles) hs));
      };
      last = last;
      out = omega arith;
      handles = length_zero (drop (length p.handles) hs) left;
      whole = f.whole;
    }

pub object_sound : (cells : List Cell) (xs : List Item) (m : List ℕ) (hs : List Handle) (at : ℕ) (opened : Option Opened) → at % 8 ≡ 0 → at + padded (sizes_of cells) ≤ length m →
    object_items cells (before_object m hs at (sizes_of cells) opened) ≡ Ok xs → TookObject cells m hs at opened xs
object_sound cells xs m hs at opened aligned fits h =
    let c = before_object m hs at (sizes_of cells) opened in
    let within : at + sizes_of cells ≤ length m = omega arith in
    let read = bind_ok (cells_at cells c) (λ r. finish_of r.1 >>= λ _. Ok r.0) xs h in
    let t = cells_sound cells c read.0 within fits (omega arith) read.1 in
    let done = unit_bind (finish_of read.0.1) (λ _. Ok read.0.0) xs read.2 in
    let same : read.0.0 ≡ xs = cc in
    object_ended cells xs m hs at opened t.part aligned fits (subst (λ (ys : List Item). Lays cells ys t.part) same t.lays) t.stands (ap finish_of (sym t.after) ∙ done.0)
