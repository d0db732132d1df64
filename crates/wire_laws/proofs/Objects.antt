-- Cells one after another, and the object that they are: read exactly where they are spelled.
use Rattle.std.proofs.Common.{◌≡◌, ℕ, zero, suc, ◌+◌, ◌%◌, ◌≤◌, inl, inr, subst, List, [], ◌∷◌, length, drop, Option, Some, None, Ok, refl, sym, ap, ◌∙◌, length-append, length-drop, arith}
use Rattle.std.proofs.lemmas.List.{length-replicate}
use Rattle.fidl_wire.specs.declared.kinds.MemberKind.{MemberKind}
use Rattle.fidl_wire.specs.Numbers.{padding_after}
use Rattle.fidl_wire.specs.Layout.{Cell, Item, Member, a_number, a_vector, number, pad, handle, text, vector, table, num, blank, held, seq, members, size_of, sizes_of, next_kind, later}
use Rattle.fidl_wire.specs.Cursor.{Cursor}
use Rattle.fidl_wire.specs.Reading.{◌>>=◌, cell_at, cells_at}
use Rattle.fidl_wire.specs.Grammar.{Part, nothing, join, IsBytesMember, IsMember, AreMembers, Spells, Lays}
use Rattle.fidl_wire.proofs.Sizes.{padded-mod}
use Rattle.wire_laws.proofs.Slices.{Begins, begins-length}
use Rattle.wire_laws.proofs.Steps.{bind_ok}
use Rattle.wire_laws.proofs.Parts.{Stands, moved, moved-nothing, moved-join, stands-nothing, stands-join, stands-join_first, stands-join_rest}
use Rattle.wire_laws.proofs.Cells.{Sound, Took, number_read, number_sound, pad_read, pad_sound, handle_read, handle_sound}
use Rattle.wire_laws.proofs.Vectors.{text_read, text_sound, vector_read, vector_sound}
use Rattle.fidl_wire.proofs.Padded.{length-padded_bytes}
use Rattle.wire_laws.proofs.WholeTables.{table_read, table_sound, length-member}

-- ---- one cell

pub cell_read : (cell : Cell) (x : Item) (c : Cursor) (p : Part) → c.out ≤ length c.message → Took cell c x p → cell_at cell c ≡ Ok (x, moved c p)
cell_read (number size) (num x) c p within t = number_read size x c p t
cell_read (pad size) blank c p within t = pad_read size c p t
cell_read (handle kind nullable) (held h) c p within t = handle_read kind nullable h c p t
cell_read text (seq xs) c p within t = text_read xs c p within t
cell_read vector (seq xs) c p within t = vector_read xs c p within t
cell_read (table kinds) (members vs) c p within t = table_read kinds vs c p within t
cell_read _ _ c p within t = absurd t.spells

pub cell_sound : (cell : Cell) (c : Cursor) (r : Item × Cursor) → c.end ≤ length c.message → cell_at cell c ≡ Ok r → Sound cell c
cell_sound (number size) c r within h = number_sound size c r within h
cell_sound (pad size) c r within h = pad_sound size c r within h
cell_sound (handle kind nullable) c r within h = handle_sound kind nullable c r within h
cell_sound text c r within h = text_sound c r within h
cell_sound vector c r within h = vector_sound c r within h
cell_sound (table kinds) c r within h = table_sound kinds c r within h

pub length-cell : (cell : Cell) (x : Item) (p : Part) → Spells cell x p → length p.inline ≡ size_of cell
length-cell (number size) (num x) p s = s.0.size_is
length-cell (pad size) blank p s = ap length s.0 ∙ length-replicate {A = ℕ} size 0
length-cell (handle kind nullable) (held None) p s = s.1.size_is
length-cell (handle kind nullable) (held (Some h)) p s = s.1.mark.size_is
length-cell text (seq xs) p s = s.1.count.size_is
length-cell vector (seq xs) p s = s.count.size_is
length-cell (table kinds) (members vs) p s = s.head.size_is
length-cell _ _ p s = absurd s

-- what is out of line is a multiple of eight
aligned-bytes : (xs : List ℕ) (p : Part) → IsBytesMember xs p → length p.outside % 8 ≡ 0
unfolding padding_after
aligned-bytes xs p b =
    omega (arith, ap length b.outside_is, length-append b.vector.inline b.vector.outside, b.is_list.count.size_is, ap length b.is_list.outside_is, length-padded_bytes xs)

aligned-member : (k : MemberKind) (v : Option Member) (p : Part) → IsMember k v p → length p.outside % 8 ≡ 0
aligned-member k None p (inl absent) = rw absent.rest.outside_is refl
aligned-member k None p (inr unknown) = elim unknown.1 [ inl short ↦ rw short.outside_is refl | inr long ↦ long.aligned ]
aligned-member k (Some (a_number x)) p n = rw n.2.value.size_is refl
aligned-member k (Some (a_vector xs)) p n = aligned-bytes xs p n.2

aligned-members : (kinds : List MemberKind) (vs : List (Option Member)) (n : ℕ) (p : Part) → AreMembers kinds vs n p → (length p.inline + length p.outside) % 8 ≡ 0
aligned-members kinds vs zero p h = rw h.1 refl
aligned-members kinds vs (suc n) p (v, ws, first, rest, e, member, others, same) =
    rw (same, length-append, length-append) (omega (arith, length-member (next_kind kinds) v first member, aligned-member (next_kind kinds) v first member, aligned-members (later kinds) ws n rest others))

pub aligned-cell : (cell : Cell) (x : Item) (p : Part) → Spells cell x p → length p.outside % 8 ≡ 0
aligned-cell (number size) (num x) p s = rw s.1.outside_is refl
aligned-cell (pad size) blank p s = rw s.1.outside_is refl
aligned-cell (handle kind nullable) (held None) p s = rw s.2.outside_is refl
aligned-cell (handle kind nullable) (held (Some h)) p s = rw s.1.outside_is refl
aligned-cell text (seq xs) p s = rw (s.1.outside_is, length-padded_bytes xs) (padded-mod (length xs))
aligned-cell vector (seq xs) p s = rw (s.outside_is, length-padded_bytes xs) (padded-mod (length xs))
aligned-cell (table kinds) (members vs) p s = rw (s.outside_is, length-append) (aligned-members kinds vs s.count s.slots s.members_are)
aligned-cell _ _ p s = absurd s

pub aligned-lays : (cells : List Cell) (xs : List Item) (p : Part) → Lays cells xs p → length p.outside % 8 ≡ 0
aligned-lays [] [] p h = rw h refl
aligned-lays (cell ∷ cells) (x ∷ xs) p (first, rest, spells, lays, same) =
    rw (same, length-append) (omega (arith, aligned-cell cell x first spells, aligned-lays cells xs rest lays))
aligned-lays _ _ p h = absurd h

pub length-lays : (cells : List Cell) (xs : List Item) (p : Part) → Lays cells xs p → length p.inline ≡ sizes_of cells
length-lays [] [] p h = rw h refl
length-lays (cell ∷ cells) (x ∷ xs) p (first, rest, spells, lays, same) =
    rw (same, length-append) (omega (arith, length-cell cell x first spells, length-lays cells xs rest lays))
length-lays _ _ p h = absurd h

-- ---- cells one after another

moved_within : (c : Cursor) (p : Part) → c.out ≤ length c.message → Begins (drop c.out c.message) p.outside → c.out + length p.outside ≤ length c.message
moved_within c p within h = omega (arith, begins-length (drop c.out c.message) p.outside h, length-drop c.out c.message)

pub cells_read : (cells : List Cell) (xs : List Item) (c : Cursor) (p : Part) → c.out ≤ length c.message → c.place + sizes_of cells ≤ c.end → Lays cells xs p →
    Stands c.message c.place c.out c.handles p → cells_at cells c ≡ Ok (xs, moved c p)
cells_read [] [] c p within fits h s = rw (h, moved-nothing c) refl
cells_read (cell ∷ cells) (x ∷ xs) c p within fits (first, rest, spells, lays, same) s =
    let both : Stands c.message c.place c.out c.handles (join first rest) = subst (λ (q : Part). Stands c.message c.place c.out c.handles q) same s in
    let s1 = stands-join_first c.message c.place c.out c.handles first rest both in
    let s2 = stands-join_rest c.message c.place c.out c.handles first rest both in
    let size : length first.inline ≡ size_of cell = length-cell cell x first spells in
    let t : Took cell c x first = record { spells = spells; stands = s1; size = size; fits = omega arith } in
    let rest_fits : c.place + length first.inline + sizes_of cells ≤ c.end = omega arith in
    let ih = cells_read cells xs (moved c first) rest (moved_within c first within s1.outside) rest_fits lays s2 in
    rw (cell_read cell x c first within t, ih, same, moved-join c first rest) refl
cells_read _ _ c p within fits h s = absurd h

pub record TookCells (cells : List Cell) (c : Cursor) (r : List Item × Cursor) : Type 0 where
  pub part : Part
  pub lays : Lays cells r.0 part
  pub stands : Stands c.message c.place c.out c.handles part
  pub fits : c.place + sizes_of cells ≤ c.end
  pub after : r.1 ≡ moved c part

pub cells_sound : (cells : List Cell) (c : Cursor) (r : List Item × Cursor) → c.end ≤ length c.message → c.out ≤ length c.message → c.place ≤ c.end → cells_at cells c ≡ Ok r → TookCells cells c r
cells_sound [] c r end out place h =
    let same : ([], c) ≡ r = cc in
    subst (λ (q : List Item × Cursor). TookCells [] c q) same (record {
      part = nothing;
      lays = refl;
      stands = stands-nothing c.message c.place c.out c.handles;
      fits = omega arith;
      after = sym (moved-nothing c);
    })
cells_sound (cell ∷ cells) c r end out place h =
    let step = bind_ok (cell_at cell c) (λ first. cells_at cells first.1 >>= λ rest. Ok (first.0 ∷ rest.0, rest.1)) r h in
    let s = cell_sound cell c step.0 end step.1 in
    let first = s.1 in
    let read = cell_read cell s.0 c first out s.2 in
    let same : step.0 ≡ (s.0, moved c first) = cc in
    let others = bind_ok (cells_at cells step.0.1) (λ rest. Ok (step.0.0 ∷ rest.0, rest.1)) r step.2 in
    let after : cells_at cells (moved c first) ≡ Ok others.0 = ap (λ (x : Item × Cursor). cells_at cells x.1) (sym same) ∙ others.1 in
    let t = cells_sound cells (moved c first) others.0 end (moved_within c first out s.2.stands.outside) (omega (arith, s.2.size, s.2.fits)) after in
    let item : step.0.0 ≡ s.0 = ap (λ (x : Item × Cursor). x.0) same in
    let whole : (s.0 ∷ others.0.0, others.0.1) ≡ r = cc in
    subst (λ (q : List Item × Cursor). TookCells (cell ∷ cells) c q) whole (record {
      part = join first t.part;
      lays = (first, t.part, s.2.spells, t.lays, refl);
      stands = stands-join c.message c.place c.out c.handles first t.part s.2.stands t.stands;
      fits = omega (arith, s.2.size, s.2.fits, t.fits);
      after = t.after ∙ moved-join c first t.part;
    })
