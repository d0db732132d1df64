-- The faults of an object that a message ends with: each is what it says.
use Rattle.std.proofs.Common.{◌≡◌, ℕ, ◌+◌, ◌%◌, ◌<◌, ◌≤◌, inl, inr, List, [], ◌∷◌, length, drop, nat_le, ◌==◌, Option, Some, Ok, Err, refl, sym, ap, ◌∙◌, subst, length-drop, arith}
use Rattle.fidl_names.specs.declared.methods.Handle.{Handle}
use Rattle.fidl_wire.specs.declared.reading.Opened.{Opened}
use Rattle.fidl_wire.specs.declared.faults.WireFault.{WireFault}
use Rattle.fidl_wire.specs.declared.faults.WireWhat.{WireWhat}
use Rattle.fidl_wire.specs.declared.faults.WireWhat.TheVariants.{Padding, Envelope, Trailing, Handles}
use Rattle.fidl_wire.specs.Headers.{fault}
use Rattle.fidl_wire.specs.Numbers.{padded}
use Rattle.fidl_wire.specs.Layout.{Cell, Item, number, pad, handle, text, vector, table, num, size_of, sizes_of}
use Rattle.fidl_wire.specs.Cursor.{Cursor}
use Rattle.fidl_wire.specs.Reading.{◌>>=◌, check, all_blank, number_cell, number_cell, passed, cell_at, cells_at, closed, finish_of, object_items}
use Rattle.fidl_names.specs.Numbers.{number_at}
use Rattle.fidl_wire.specs.Grammar.{Part, nothing, join, Lays}
use Rattle.wire_laws.specs.Meanings.{Spot, behind, IsInFront, NoneSpells, CellFault, CellsFault, IsCounted, IsEnded, EndFault, EndsFault, ObjectFault, AreBlank, Stands}
use Rattle.wire_laws.specs.Meanings as meant
use Rattle.fidl_wire.proofs.Sizes.{padding_after-add}
use Rattle.wire_laws.proofs.Slices.{Begins, begins-length}
use Rattle.wire_laws.proofs.Steps.{le_true}
use Rattle.wire_laws.proofs.Parts.{moved, moved-nothing, moved-join, stands-nothing, stands-join}
use Rattle.wire_laws.proofs.Cells.{Took}
use Rattle.wire_laws.proofs.Objects.{cell_read, cell_sound, cells_sound, length-cell}
use Rattle.wire_laws.proofs.Endings.{before_object}
use Rattle.wire_laws.proofs.FaultSteps.{bind_err, last_err, check_err, check_bind_err, unit_bind_err, inline_bind_err, le_false, eq_no, blank_err, blank_ok}
use Rattle.wire_laws.proofs.CellFaults.{spot_of, as_fault, pad_fault, handle_fault, text_fault, vector_fault}
use Rattle.wire_laws.proofs.TableFaults.{table_fault}

-- ---- one cell

number_never : (size : ℕ) (c : Cursor) (e : WireFault) → c.place + size ≤ c.end → cell_at (number size) c ≡ Err e → ⊥
unfolding cell_at
number_never size c e fits h =
    let cell = last_err (number_cell size c) (λ x. (num x.0, x.1)) e h in
    let here = inline_bind_err size c (λ at. Ok (number_at size at c.message, passed size c)) e fits cell in
    cc

cell_fault : (cell : Cell) (c : Cursor) (e : WireFault) → c.end ≤ length c.message → c.out ≤ length c.message → c.place + size_of cell ≤ c.end → cell_at cell c ≡ Err e → CellFault cell (spot_of c) e.at e.what
cell_fault (number size) c e within out fits h = number_never size c e fits h
cell_fault (pad size) c e within out fits h = pad_fault size c e within fits h
cell_fault (handle kind nullable) c e within out fits h = handle_fault kind nullable c e fits h
cell_fault text c e within out fits h = text_fault c e out fits h
cell_fault vector c e within out fits h = vector_fault c e out fits h
cell_fault (table kinds) c e within out fits h = table_fault kinds c e out fits h

none_spells : (cell : Cell) (c : Cursor) (e : WireFault) → c.out ≤ length c.message → cell_at cell c ≡ Err e → NoneSpells cell (spot_of c)
none_spells cell c e out h x p front spells =
    let size : length p.inline ≡ size_of cell = length-cell cell x p spells in
    let t : Took cell c x p = record { spells = spells; stands = front.stands; size = size; fits = omega (arith, front.fits) } in
    let read = cell_read cell x c p out t in
    cc

-- ---- cells one after another

pub reach : (c : Cursor) (p : Part) → c.out ≤ length c.message → Begins (drop c.out c.message) p.outside → c.out + length p.outside ≤ length c.message
reach c p within h = omega (arith, begins-length (drop c.out c.message) p.outside h, length-drop c.out c.message)

pub cells_fault : (cells : List Cell) (c : Cursor) (e : WireFault) → c.end ≤ length c.message → c.out ≤ length c.message → c.place + sizes_of cells ≤ c.end → cells_at cells c ≡ Err e → CellsFault cells (spot_of c) e.at e.what
cells_fault [] c e end out fits h = absurd (cc)
cells_fault (cell ∷ cells) c e end out fits h =
    elim (bind_err (cell_at cell c) (λ first. cells_at cells first.1 >>= λ rest. Ok (first.0 ∷ rest.0, rest.1)) e h) [
      | inl bad ↦
          let here : spot_of c ≡ behind (spot_of c) nothing = sym (ap spot_of (moved-nothing c)) in
          record {
            before = [];
            cell = cell;
            later = cells;
            cells_are = refl;
            items = [];
            part = nothing;
            lays = refl;
            stands = stands-nothing c.message c.place c.out c.handles;
            means = subst (λ (s : Spot). CellFault cell s e.at e.what) here (cell_fault cell c e end out (omega arith) bad);
            none = subst (λ (s : Spot). NoneSpells cell s) here (none_spells cell c e out bad);
          }
      | inr (got, ok, others) ↦
          let s = cell_sound cell c got end ok in
          let first = s.1 in
          let read = cell_read cell s.0 c first out s.2 in
          let same : got ≡ (s.0, moved c first) = cc in
          let rest = last_err (cells_at cells got.1) (λ rest. (got.0 ∷ rest.0, rest.1)) e others in
          let after : cells_at cells (moved c first) ≡ Err e = ap (λ (x : Item × Cursor). cells_at cells x.1) (sym same) ∙ rest in
          let t = cells_fault cells (moved c first) e end (reach c first out s.2.stands.outside) (omega (arith, s.2.size)) after in
          let there : behind (spot_of (moved c first)) t.part ≡ behind (spot_of c) (join first t.part) = ap spot_of (moved-join c first t.part) in
          record {
            before = cell ∷ t.before;
            cell = t.cell;
            later = t.later;
            cells_are = ap (λ (v : List Cell). cell ∷ v) t.cells_are;
            items = s.0 ∷ t.items;
            part = join first t.part;
            lays = (first, t.part, s.2.spells, t.lays, refl);
            stands = stands-join c.message c.place c.out c.handles first t.part s.2.stands t.stands;
            means = subst (λ (x : Spot). CellFault t.cell x e.at e.what) there t.means;
            none = subst (λ (x : Spot). NoneSpells t.cell x) there t.none;
          }
    ]

-- ---- the end

-- what closing an object says of the envelope before it
pub record Closes (envelope : Option ℕ) (opened : Option Opened) (m : List ℕ) (last : Cursor) (p : Part) : Type 0 where
  pub good : closed opened last ≡ Ok tt → IsCounted envelope m p
  pub bad : (e : WireFault) → closed opened last ≡ Err e → (at : ℕ) × (fault at Envelope ≡ e) × (envelope ≡ Some at) × (IsCounted envelope m p → ⊥)

ended_fault : (envelope : Option ℕ) (opened : Option Opened) (m : List ℕ) (hs : List Handle) (at size : ℕ) (p : Part) (e : WireFault) → at % 8 ≡ 0 → at + padded size ≤ length m →
    Stands m at (at + padded size) hs p → Closes envelope opened m (moved (before_object m hs at size opened) p) p →
    finish_of (moved (before_object m hs at size opened) p) ≡ Err e → EndFault envelope (meant.before_object m hs at size) p e.at e.what
unfolding finish_of
ended_fault envelope opened m hs at size p e aligned fits stands closes h =
    let last = moved (before_object m hs at size opened) p in
    let s = meant.before_object m hs at size in
    let M : ℕ → WireWhat → Type 0 = EndFault envelope s p in
    let until : padded (at + size) ≡ at + padded size = omega (arith, padding_after-add at size aligned) in
    elim (unit_bind_err (closed opened last) (λ _. all_blank m last.end (padded last.end) >>= λ _. check (nat_le (length m) last.out) (fault last.out Trailing) >>= λ _. check (length last.handles == 0) (fault (length m) Handles)) e h) [
      | inl bad ↦ let b = closes.bad e bad in as_fault M (fault b.0 Envelope) e b.1 (b.2, b.3)
      | inr (whole, pads) ↦
          let counted = closes.good whole in
          elim (unit_bind_err (all_blank m last.end (padded last.end)) (λ _. check (nat_le (length m) last.out) (fault last.out Trailing) >>= λ _. check (length last.handles == 0) (fault (length m) Handles)) e pads) [
            | inl bad ↦
                let b = blank_err m (at + size) (padded (at + size)) e (omega arith) (omega (arith, until)) bad in
                as_fault M (fault b.0 Padding) e b.1 (counted, b.2)
            | inr (blank, more) ↦
                let zeros = blank_ok m (at + size) (padded (at + size)) (omega arith) (omega (arith, until)) blank in
                let ended : IsEnded envelope s p = record { counted = counted; blank = zeros } in
                elim (check_bind_err (nat_le (length m) last.out) (fault last.out Trailing) (λ _. check (length last.handles == 0) (fault (length m) Handles)) e more) [
                  | inl bad ↦ as_fault M (fault last.out Trailing) e bad.1 (ended, refl, le_false (length m) last.out bad.0)
                  | inr (all, left) ↦
                      let some = check_err (length last.handles == 0) (fault (length m) Handles) e left in
                      let over : length p.handles < length hs = omega (arith, eq_no (length last.handles) 0 some.0, length-drop (length p.handles) hs) in
                      as_fault M (fault (length m) Handles) e some.1 (ended, refl, le_true (length m) last.out all, over)
                ]
          ]
    ]

pub object_fault : (envelope : Option ℕ) (opened : Option Opened) (cells : List Cell) (m : List ℕ) (hs : List Handle) (at : ℕ) (e : WireFault) → at % 8 ≡ 0 → at + padded (sizes_of cells) ≤ length m →
    ((xs : List Item) (p : Part) → Lays cells xs p → Stands m at (at + padded (sizes_of cells)) hs p → Closes envelope opened m (moved (before_object m hs at (sizes_of cells) opened) p) p) →
    object_items cells (before_object m hs at (sizes_of cells) opened) ≡ Err e → ObjectFault envelope cells (meant.before_object m hs at (sizes_of cells)) e.at e.what
object_fault envelope opened cells m hs at e aligned fits closes h =
    let c = before_object m hs at (sizes_of cells) opened in
    elim (bind_err (cells_at cells c) (λ r. finish_of r.1 >>= λ _. Ok r.0) e h) [
      | inl bad ↦ inl (cells_fault cells c e (omega arith) fits (omega arith) bad)
      | inr (got, ok, rest) ↦
          let t = cells_sound cells c got (omega arith) fits (omega arith) ok in
          let done = last_err (finish_of got.1) (λ _. got.0) e rest in
          inr (record {
            items = got.0;
            part = t.part;
            lays = t.lays;
            stands = t.stands;
            means = ended_fault envelope opened m hs at (sizes_of cells) t.part e aligned fits t.stands (closes got.0 t.part t.lays t.stands) (ap finish_of (sym t.after) ∙ done);
          })
    ]
