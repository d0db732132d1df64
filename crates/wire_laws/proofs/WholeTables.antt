-- All members of a table, and the table itself: read exactly where they are spelled.
use Rattle.std.proofs.Common.{◌≡◌, ℕ, zero, suc, ◌+◌, ◌-◌, ◌*◌, ◌≤◌, inl, inr, subst, List, ◌++◌, length, replicate, take, drop, nat_le, Option, Some, None, Ok, refl, sym, ap, ◌∙◌, length-append, length-drop, add-zero, arith}
use Rattle.std.proofs.lemmas.List.{drop-drop}
use Rattle.std.proofs.Math.Nat.{sub-zero}
use Rattle.fidl_names.specs.declared.methods.Handle.{Handle}
use Rattle.fidl_wire.specs.declared.reading.Outside.{Outside}
use Rattle.fidl_wire.specs.declared.faults.WireWhat.TheVariants.{Count, Envelope}
use Rattle.fidl_wire.specs.declared.kinds.MemberKind.{MemberKind}
use Rattle.fidl_wire.specs.Headers.{fault}
use Rattle.fidl_wire.specs.Layout.{Item, Member, a_number, a_vector, table, members, next_kind, later, with_member, has_required}
use Rattle.fidl_wire.specs.Cursor.{Cursor}
use Rattle.fidl_wire.specs.Reading.{◌>>=◌, check, passed, count_at, member_at, members_at, table_at, table_cell, cell_at}
use Rattle.fidl_wire.specs.Grammar.{Part, nothing, join, IsMember, AreMembers}
use Rattle.wire_laws.proofs.Slices.{Begins, begins_front, begins-length, begins-append, begins-append_first, begins-append_rest}
use Rattle.wire_laws.proofs.Steps.{bind_ok, inline_bind, check_bind, inline_at-ok, check-true, le_true, true_le}
use Rattle.wire_laws.proofs.Parts.{Stands, moved, stands-nothing, stands-join, stands-join_first, stands-join_rest}
use Rattle.wire_laws.proofs.Cells.{Sound, Took}
use Rattle.wire_laws.proofs.Vectors.{count_read, count_sound}
use Rattle.wire_laws.proofs.TableCells.{behind_part, member_read, member_sound, ok_same}

-- a member has an envelope of eight bytes
pub length-member : (k : MemberKind) (v : Option Member) (p : Part) → IsMember k v p → length p.inline ≡ 8
length-member k None p (inl absent) = absent.envelope.size_is
length-member k None p (inr unknown) = elim unknown.1 [ inl short ↦ short.envelope.size_is | inr long ↦ long.envelope.size_is ]
length-member k (Some (a_number x)) p n = n.2.envelope.size_is
length-member k (Some (a_vector xs)) p n = n.2.envelope.size_is

-- and so many members have so many
pub length-members : (kinds : List MemberKind) (vs : List (Option Member)) (n : ℕ) (p : Part) → AreMembers kinds vs n p → length p.inline ≡ 8 * n
length-members kinds vs zero p h = rw h.1 refl
length-members kinds vs (suc n) p (v, ws, first, rest, e, member, others, same) =
    rw (same, length-append) (omega (arith, length-member (next_kind kinds) v first member, length-members (later kinds) ws n rest others))

-- behind two parts
behind-join : (o : Outside) (p q : Part) → behind_part (behind_part o p) q ≡ behind_part o (join p q)
behind-join o p q =
    let out : o.out + length p.outside + length q.outside ≡ o.out + length (p.outside ++ q.outside) = omega (arith, length-append p.outside q.outside) in
    let left : o.left - length p.handles - length q.handles ≡ o.left - length (p.handles ++ q.handles) = omega (arith, length-append p.handles q.handles) in
    rw (out, left) refl

-- ---- what is spelled is read

pub members_read : (kinds : List MemberKind) (vs : List (Option Member)) (n : ℕ) (p : Part) (m : List ℕ) (at : ℕ) (hs : List Handle) (o : Outside) → length hs ≡ o.left → o.out ≤ length m →
    AreMembers kinds vs n p → Stands m at o.out hs p → members_at kinds at n m o ≡ Ok (vs, behind_part o p)
members_read kinds vs zero p m at hs o left within h s = rw (h.0, h.1) (simp (add-zero, sub-zero))
members_read kinds vs (suc n) p m at hs o left within (v, ws, first, rest, e, member, others, same) s =
    let both : Stands m at o.out hs (join first rest) = subst (λ (q : Part). Stands m at o.out hs q) same s in
    let s1 = stands-join_first m at o.out hs first rest both in
    let s2 = stands-join_rest m at o.out hs first rest both in
    let eight : length first.inline ≡ 8 = length-member (next_kind kinds) v first member in
    let s3 : Stands m (at + 8) (o.out + length first.outside) (drop (length first.handles) hs) rest = subst (λ (k : ℕ). Stands m (at + k) (o.out + length first.outside) (drop (length first.handles) hs) rest) eight s2 in
    let rest_left : length (drop (length first.handles) hs) ≡ o.left - length first.handles = omega (arith, length-drop (length first.handles) hs) in
    let rest_within : o.out + length first.outside ≤ length m = omega (arith, begins-length (drop o.out m) first.outside s1.outside, length-drop o.out m) in
    let ih = members_read (later kinds) ws n rest m (at + 8) (drop (length first.handles) hs) (behind_part o first) rest_left rest_within others s3 in
    rw (member_read (next_kind kinds) v first m at hs o left within member s1, ih, e, same, behind-join o first rest) refl

-- ---- what is read is spelled

pub record TookMembers (kinds : List MemberKind) (n : ℕ) (m : List ℕ) (at : ℕ) (hs : List Handle) (o : Outside) : Type 0 where
  pub values : List (Option Member)
  pub part : Part
  pub members_are : AreMembers kinds values n part
  pub stands : Stands m at o.out hs part

pub members_sound : (kinds : List MemberKind) (n : ℕ) (m : List ℕ) (at : ℕ) (hs : List Handle) (o : Outside) (r : List (Option Member) × Outside) → at + 8 * n ≤ length m → length hs ≡ o.left →
    o.out ≤ length m → members_at kinds at n m o ≡ Ok r → TookMembers kinds n m at hs o
members_sound kinds zero m at hs o r fits left within h = record {
  values = replicate (length kinds) None;
  part = nothing;
  members_are = (refl, refl);
  stands = stands-nothing m at o.out hs;
}
members_sound kinds (suc n) m at hs o r fits left within h =
    let step = bind_ok (member_at (next_kind kinds) at m o) (λ first. members_at (later kinds) (at + 8) n m first.1 >>= λ rest. Ok (with_member kinds first.0 rest.0, rest.1)) r h in
    let s = member_sound (next_kind kinds) m at hs o step.0 (omega arith) left step.1 in
    let first = s.1 in
    let read = member_read (next_kind kinds) s.0 first m at hs o left within s.2.member s.2.stands in
    let same : step.0 ≡ (s.0, behind_part o first) = cc in
    let others = bind_ok (members_at (later kinds) (at + 8) n m step.0.1) (λ rest. Ok (with_member kinds step.0.0 rest.0, rest.1)) r step.2 in
    let after : members_at (later kinds) (at + 8) n m (behind_part o first) ≡ Ok others.0 = ap (λ (x : Option Member × Outside). members_at (later kinds) (at + 8) n m x.1) (sym same) ∙ others.1 in
    let rest_left : length (drop (length first.handles) hs) ≡ o.left - length first.handles = omega (arith, length-drop (length first.handles) hs) in
    let rest_within : o.out + length first.outside ≤ length m = omega (arith, begins-length (drop o.out m) first.outside s.2.stands.outside, length-drop o.out m) in
    let rest_fits : at + 8 + 8 * n ≤ length m = omega arith in
    let t = members_sound (later kinds) n m (at + 8) (drop (length first.handles) hs) (behind_part o first) others.0 rest_fits rest_left rest_within after in
    let moved_rest : Stands m (at + length first.inline) (o.out + length first.outside) (drop (length first.handles) hs) t.part =
    subst (λ (k : ℕ). Stands m (at + k) (o.out + length first.outside) (drop (length first.handles) hs) t.part) (sym s.2.size) t.stands in
    record {
      values = with_member kinds s.0 t.values;
      part = join first t.part;
      members_are = (s.0, t.values, first, t.part, refl, s.2.member, t.members_are, refl);
      stands = stands-join m at o.out hs first t.part s.2.stands moved_rest;
    }

-- ---- the table

drop_rest : {A : Type 0} → (k : ℕ) (hs : List A) → k ≤ length hs → drop (length hs - (length hs - k)) hs ≡ drop k hs
drop_rest k hs h = let same : length hs - (length hs - k) ≡ k = omega arith in rw same refl

pub table_read : (kinds : List MemberKind) (vs : List (Option Member)) (c : Cursor) (p : Part) → c.out ≤ length c.message → Took (table kinds) c (members vs) p →
    cell_at (table kinds) c ≡ Ok (members vs, moved c p)
unfolding cell_at
table_read kinds vs c p within t =
    let tab = t.spells in
    let q = tab.slots in
    let size : length q.inline ≡ 8 * tab.count = length-members kinds vs tab.count q tab.members_are in
    let outside : Begins (drop c.out c.message) (q.inline ++ q.outside) = subst (λ (xs : List ℕ). Begins (drop c.out c.message) xs) tab.outside_is t.stands.outside in
    let envelopes = begins-append_first q.inline q.outside (drop c.out c.message) outside in
    let behind : Begins (drop (c.out + 8 * tab.count) c.message) q.outside =
    rw (drop-drop (length q.inline) c.out c.message, size) at (begins-append_rest q.inline q.outside (drop c.out c.message) outside) in
    let handles : Begins c.handles q.handles = subst (λ (hs : List Handle). Begins c.handles hs) tab.handles_are t.stands.handles in
    let room : c.out + 8 * tab.count ≤ length c.message = omega (arith, begins-length (drop c.out c.message) q.inline envelopes, length-drop c.out c.message) in
    let s : Stands c.message c.out (c.out + 8 * tab.count) c.handles q = record { inline = envelopes; outside = behind; handles = handles } in
    let start : Outside = record { out = c.out + 8 * tab.count; left = length c.handles } in
    let read : members_at kinds c.out tab.count c.message start ≡ Ok (vs, behind_part start q) =
    members_read kinds vs tab.count q c.message c.out c.handles start refl room tab.members_are s in
    let few : length q.handles ≤ length c.handles = begins-length c.handles q.handles handles in
    let out : c.out + 8 * tab.count + length q.outside ≡ c.out + length p.outside = omega (arith, ap length tab.outside_is, length-append q.inline q.outside) in
    rw (
      inline_at-ok 16 c t.fits,
      count_read tab.count c p.inline t.stands.inline tab.head,
      check-true (nat_le (c.out + 8 * tab.count) (length c.message)) (fault c.place Count) (true_le (c.out + 8 * tab.count) (length c.message) room),
      read,
      check-true (has_required kinds vs) (fault c.place Envelope) tab.required,
      drop_rest (length q.handles) c.handles few,
      out,
      t.size,
      tab.handles_are,
    ) refl

pub table_sound : (kinds : List MemberKind) (c : Cursor) (r : Item × Cursor) → c.end ≤ length c.message → cell_at (table kinds) c ≡ Ok r → Sound (table kinds) c
unfolding cell_at
table_sound kinds c r within h =
    let cell = bind_ok (table_cell kinds c) (λ x. Ok (members x.0, x.1)) r h in
    let place = inline_bind 16 c (λ at. count_at at c >>= λ count. table_at kinds at count c) cell.0 cell.1 in
    let count = bind_ok (count_at c.place c) (λ count. table_at kinds c.place count c) cell.0 place.1 in
    let n = count.0 in
    let m = c.message in
    let start : Outside = record { out = c.out + 8 * n; left = length c.handles } in
    let last : List (Option Member) × Outside → List (Option Member) × Cursor = λ x. (x.0, record (passed 16 c) { out = x.1.out; handles = drop (length c.handles - x.1.left) c.handles }) in
    let room = check_bind (nat_le (c.out + 8 * n) (length m)) (fault c.place Count) (λ _. members_at kinds c.out n m start >>= λ x. check (has_required kinds x.0) (fault c.place Envelope) >>= λ _. Ok (last x)) cell.0 count.2 in
    let fits : c.out + 8 * n ≤ length m = le_true (c.out + 8 * n) (length m) room.0 in
    let read = bind_ok (members_at kinds c.out n m start) (λ x. check (has_required kinds x.0) (fault c.place Envelope) >>= λ _. Ok (last x)) cell.0 room.1 in
    let needed = check_bind (has_required kinds read.0.0) (fault c.place Envelope) (λ _. Ok (last read.0)) cell.0 read.2 in
    let t = members_sound kinds n m c.out c.handles start read.0 fits refl fits read.1 in
    let q = t.part in
    let again = members_read kinds t.values n q m c.out c.handles start refl fits t.members_are t.stands in
    let same : read.0.0 ≡ t.values = ap (λ (x : List (Option Member) × Outside). x.0) (ok_same read.0 (t.values, behind_part start q) (members_at kinds c.out n m start) read.1 again) in
    let size : length q.inline ≡ 8 * n = length-members kinds t.values n q t.members_are in
    let behind : Begins (drop (length q.inline) (drop c.out m)) q.outside = rw (drop-drop (length q.inline) c.out m, size) t.stands.outside in (
      members t.values,
      record { inline = take 16 (drop c.place m); outside = q.inline ++ q.outside; handles = q.handles },
      record {
        spells = record {
          count = n;
          slots = q;
          head = count_sound n c within place.0 count.1;
          members_are = t.members_are;
          required = ap (has_required kinds) (sym same) ∙ needed.0;
          outside_is = refl;
          handles_are = refl;
        };
        stands = record { inline = begins_front 16 (drop c.place m); outside = begins-append q.inline q.outside (drop c.out m) t.stands.inline behind; handles = t.stands.handles };
        size = (count_sound n c within place.0 count.1).size_is;
        fits = place.0;
      },
    )
