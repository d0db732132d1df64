-- The faults of tables: each is what it says.
use Rattle.std.proofs.Common.{◌≡◌, ℕ, zero, suc, ◌+◌, ◌-◌, ◌*◌, ◌%◌, ◌<◌, ◌≤◌, inl, inr, max, Bool, true, false, not, ◌&&◌, cond, List, [], ◌∷◌, ◌++◌, length, drop, replicate, nat_le, ◌==◌, Option, Some, None, Ok, Err, refl, sym, ap, ◌∙◌, subst, length-append, length-drop, add-zero, arith}
use Rattle.std.proofs.Math.Nat.{sub-zero}
use Rattle.std.proofs.Math.Seq.{drop-nil}
use Rattle.std.proofs.lemmas.List.{drop-drop}
use Rattle.fidl_names.specs.declared.methods.Handle.{Handle}
use Rattle.fidl_names.specs.Numbers.{number_at}
use Rattle.fidl_wire.specs.declared.reading.Outside.{Outside}
use Rattle.fidl_wire.specs.declared.faults.WireFault.{WireFault}
use Rattle.fidl_wire.specs.declared.faults.WireWhat.{WireWhat}
use Rattle.fidl_wire.specs.declared.faults.WireWhat.TheVariants.{Presence, Count, Envelope, Handles}
use Rattle.fidl_wire.specs.declared.kinds.MemberKind.{MemberKind}
use Rattle.fidl_wire.specs.declared.kinds.MemberKind.TheVariants as kind
use Rattle.fidl_wire.specs.Headers.{fault}
use Rattle.fidl_wire.specs.Numbers.{padding_after, padded}
use Rattle.fidl_wire.specs.Layout.{Member, a_number, a_vector, table, members, next_kind, later, with_member, has_required}
use Rattle.fidl_wire.specs.Cursor.{Cursor}
use Rattle.fidl_wire.specs.Reading.{◌>>=◌, passed, check, bytes_at, handles_at, flags_at, is_absent, is_inlined, is_outside, enough_handles, entered, skipped, before_list, list_cell, number_member, bytes_member, present_member, member_at, members_at, count_at, table_at, table_cell, cell_at}
use Rattle.fidl_wire.specs.Grammar.{nothing, join}
use Rattle.wire_laws.specs.Meanings.{Stands, HasForm, IsEntered, EntryFault, NumberFault, BytesFault, UnknownFault, PresentFault, MemberFault, NoneIsMember, MembersFault, IsThere, HeadFault, TableFault}
use Rattle.wire_laws.proofs.Slices.{Begins, begins-length}
use Rattle.wire_laws.proofs.Steps.{check_bind, both_true, eq_true, true_eq, eq_false, not_true, le_true}
use Rattle.wire_laws.proofs.Parts.{moved, stands-nothing, stands-join}
use Rattle.wire_laws.proofs.Vectors.{list_sound}
use Rattle.wire_laws.proofs.TableCells.{behind_part, list_taken, ok_same, member_read, member_sound, outside_true, enough_says}
use Rattle.wire_laws.proofs.WholeTables.{members_read, members_sound}
use Rattle.wire_laws.proofs.FaultSteps.{bind_err, last_err, check_err, check_bind_err, unit_bind_err, inline_bind_err, le_false, eq_no}
use Rattle.wire_laws.proofs.CellFaults.{spot_of, as_fault, count_err, count_is, list_fault}

-- ---- an envelope out of line

pub outside_form : (at : ℕ) (m : List ℕ) → is_outside at m ≡ true → HasForm at m
outside_form at m h =
    let front = both_true ((flags_at at m == 0) && not (bytes_at at m == 0)) (bytes_at at m % 8 == 0) h in
    let flags = both_true (flags_at at m == 0) (not (bytes_at at m == 0)) front.0 in
    let some : bytes_at at m ≡ 0 → ⊥ = eq_false (bytes_at at m) 0 (not_true (bytes_at at m == 0) flags.1) in
    record { flags = eq_true (flags_at at m) 0 flags.0; some = omega (arith, some); aligned = eq_true (bytes_at at m % 8) 0 front.1 }

no_form : (at : ℕ) (m : List ℕ) → is_outside at m ≡ false → HasForm at m → ⊥
no_form at m h f = let yes = outside_true at m f.flags f.some f.aligned in cc

-- the fault of the envelope at a place
abbrev At : ℕ → (WireWhat → Type 0) → ℕ → WireWhat → Type 0
At place M at what = (at ≡ place) × M what

enough_err : (at : ℕ) (m : List ℕ) (o : Outside) (e : WireFault) → enough_handles at m o ≡ Err e → (fault at Handles ≡ e) × (o.left < handles_at at m)
enough_err at m o e h =
    let bad = check_err (nat_le (handles_at at m) o.left) (fault at Handles) e h in
    (bad.1, le_false (handles_at at m) o.left bad.0)

pub entered_err : (at size : ℕ) (m : List ℕ) (o : Outside) (e : WireFault) → entered at size m o ≡ Err e → (e.at ≡ at) × EntryFault size at o.out o.left m e.what
entered_err at size m o e h =
    let M : ℕ → WireWhat → Type 0 = At at (EntryFault size at o.out o.left m) in
    let reach = o.out + max (bytes_at at m) (padded size) in
    elim (check_bind_err (is_outside at m) (fault at Envelope) (λ _. check (nat_le reach (length m)) (fault at Envelope) >>= λ _. enough_handles at m o) e h) [
      | inl bad ↦ as_fault M (fault at Envelope) e bad.1 (refl, inl (no_form at m bad.0))
      | inr form ↦
          elim (check_bind_err (nat_le reach (length m)) (fault at Envelope) (λ _. enough_handles at m o) e form.1) [
            | inl bad ↦ as_fault M (fault at Envelope) e bad.1 (refl, inr (le_false reach (length m) bad.0))
            | inr room ↦
                let few = enough_err at m o e room.1 in
                as_fault M (fault at Handles) e few.0 (refl, (outside_form at m form.0, le_true reach (length m) room.0, few.1))
          ]
    ]

pub entered_is : (at size : ℕ) (m : List ℕ) (o : Outside) → entered at size m o ≡ Ok tt → IsEntered size at o.out o.left m
entered_is at size m o h =
    let reach = o.out + max (bytes_at at m) (padded size) in
    let form = check_bind (is_outside at m) (fault at Envelope) (λ _. check (nat_le reach (length m)) (fault at Envelope) >>= λ _. enough_handles at m o) tt h in
    let room = check_bind (nat_le reach (length m)) (fault at Envelope) (λ _. enough_handles at m o) tt form.1 in
    record { form = outside_form at m form.0; fits = le_true reach (length m) room.0; enough = enough_says at m o room.1 }

-- ---- a member

number_fault : (at out left : ℕ) (m : List ℕ) (w : WireWhat) → EntryFault 8 at out left m w → NumberFault at out left m w
number_fault at out left m Envelope h = inl h
number_fault at out left m w h = h

no_number : (a b : ℕ) → ((a == 8) && (b == 0)) ≡ false → a ≡ 8 → b ≡ 0 → ⊥
no_number a b h x y = let yes : ((a == 8) && (b == 0)) ≡ true = rw (true_eq a 8 x, true_eq b 0 y) refl in cc

number_err : (at : ℕ) (m : List ℕ) (o : Outside) (e : WireFault) → number_member at m o ≡ Err e → (e.at ≡ at) × NumberFault at o.out o.left m e.what
number_err at m o e h =
    let last : Option Member × Outside = (Some (a_number (number_at 8 o.out m)), record o { out = o.out + 8 }) in
    elim (unit_bind_err (entered at 8 m o) (λ _. check ((bytes_at at m == 8) && (handles_at at m == 0)) (fault at Envelope) >>= λ _. Ok last) e h) [
      | inl bad ↦ let b = entered_err at 8 m o e bad in (b.0, number_fault at o.out o.left m e.what b.1)
      | inr good ↦
          let counts = check_err ((bytes_at at m == 8) && (handles_at at m == 0)) (fault at Envelope) e (last_err (check ((bytes_at at m == 8) && (handles_at at m == 0)) (fault at Envelope)) (λ _. last) e good.1) in
          as_fault (At at (NumberFault at o.out o.left m)) (fault at Envelope) e counts.1
          (refl, inr (record { entered = entered_is at 8 m o good.0; counts = no_number (bytes_at at m) (handles_at at m) counts.0 }))
    ]

padded_sixteen : padded 16 ≡ 16
unfolding padding_after
padded_sixteen = refl

-- an entered value of sixteen bytes lies within the message
pub sixteen_fit : (at out left : ℕ) (m : List ℕ) → IsEntered 16 at out left m → out + 16 ≤ length m
sixteen_fit at out left m f = omega (arith, f.fits, padded_sixteen)

no_counts : (a b x y : ℕ) → ((x + a == y) && (b == 0)) ≡ false → a ≡ 16 + (y - (x + 16)) → x + 16 ≤ y → b ≡ 0 → ⊥
no_counts a b x y h same within none = let yes : ((x + a == y) && (b == 0)) ≡ true = rw (true_eq (x + a) y (omega arith), true_eq b 0 none) refl in cc

bytes_err : (at : ℕ) (m : List ℕ) (o : Outside) (e : WireFault) → o.out ≤ length m → bytes_member at m o ≡ Err e → BytesFault at o.out o.left m e.at e.what
bytes_err at m o e within h =
    let counted : List ℕ × Cursor → Bool = λ list. (o.out + bytes_at at m == list.1.out) && (handles_at at m == 0) in
    let last : List ℕ × Cursor → Option Member × Outside = λ list. (Some (a_vector list.0), record o { out = list.1.out }) in
    elim (unit_bind_err (entered at 16 m o) (λ _. list_cell false (before_list m o.out) >>= λ list. check (counted list) (fault at Envelope) >>= λ _. Ok (last list)) e h) [
      | inl bad ↦ inl (entered_err at 16 m o e bad)
      | inr good ↦
          let entry = entered_is at 16 m o good.0 in
          let room = sixteen_fit at o.out o.left m entry in
          elim (bind_err (list_cell false (before_list m o.out)) (λ list. check (counted list) (fault at Envelope) >>= λ _. Ok (last list)) e good.1) [
            | inl bad ↦ inr (inl (entry, list_fault false (before_list m o.out) e room (least_refl (o.out + 16)) bad))
            | inr (got, read, rest) ↦
                let s = list_sound false (before_list m o.out) got room read in
                let again = list_taken s.xs s.part m o.out room s.list s.stands in
                let out : got.1.out ≡ o.out + 16 + length s.part.outside = ap (λ (x : List ℕ × Cursor). x.1.out) (ok_same got (s.xs, moved (before_list m o.out) s.part) (list_cell false (before_list m o.out)) read again) in
                let bad = check_err (counted got) (fault at Envelope) e (last_err (check (counted got) (fault at Envelope)) (λ _. last got) e rest) in
                let what : e.what ≡ Envelope = ap (λ (f : WireFault). f.what) (sym bad.1) in
                let place : e.at ≡ at = ap (λ (f : WireFault). f.at) (sym bad.1) in
                inr (inr (
                  place,
                  what,
                  record {
                    entered = entry;
                    bytes = s.xs;
                    part = s.part;
                    is_list = s.list;
                    stands = s.stands;
                    counts = λ a b. no_counts (bytes_at at m) (handles_at at m) o.out got.1.out bad.0 (size_of_list (bytes_at at m) o.out got.1.out s.part.inline s.part.outside a out s.list.count.size_is) (omega (arith, out)) b;
                  },
                ))
          ]
    ]
  where
    least_refl : (n : ℕ) → n ≤ n
    least_refl n = omega arith

    size_of_list : (a x y : ℕ) (inline outside : List ℕ) → a ≡ length inline + length outside → y ≡ x + 16 + length outside → length inline ≡ 16 → a ≡ 16 + (y - (x + 16))
    size_of_list a x y inline outside h k size = omega arith

unknown_fault : (at out left : ℕ) (m : List ℕ) (w : WireWhat) → (flags_at at m ≡ 1 → ⊥) → EntryFault 0 at out left m w → UnknownFault at out left m w
unknown_fault at out left m Handles n h = inr (n, h)
unknown_fault at out left m w n h = (n, h)

skipped_err : (at : ℕ) (m : List ℕ) (o : Outside) (e : WireFault) → skipped at m o ≡ Err e → (e.at ≡ at) × UnknownFault at o.out o.left m e.what
skipped_err at m o e =
    elim (is_inlined at m) as (λ b. is_inlined at m ≡ b → cond b (enough_handles at m o >>= λ _. Ok (record o { left = o.left - handles_at at m })) (entered at 0 m o >>= λ _. Ok (record { out = o.out + bytes_at at m; left = o.left - handles_at at m })) ≡ Err e → (e.at ≡ at) × UnknownFault at o.out o.left m e.what) [
      | true ↦ λ short h.
          let few = enough_err at m o e (last_err (enough_handles at m o) (λ _. record o { left = o.left - handles_at at m }) e h) in
          as_fault (At at (UnknownFault at o.out o.left m)) (fault at Handles) e few.0 (refl, inl (record { inlined = eq_true (flags_at at m) 1 short; few = few.1 }))
      | false ↦ λ long h.
          let b = entered_err at 0 m o e (last_err (entered at 0 m o) (λ _. record { out = o.out + bytes_at at m; left = o.left - handles_at at m }) e h) in
          (b.0, unknown_fault at o.out o.left m e.what (eq_no (flags_at at m) 1 long) b.1)
    ] refl

present_err : (k : MemberKind) (at : ℕ) (m : List ℕ) (o : Outside) (e : WireFault) → o.out ≤ length m → present_member k at m o ≡ Err e → PresentFault k at o.out o.left m e.at e.what
present_err (kind.Number required) at m o e within h = number_err at m o e h
present_err (kind.Bytes required) at m o e within h = bytes_err at m o e within h
present_err kind.Unknown at m o e within h =
    let none : Outside → Option Member × Outside = λ rest. (None, rest) in
    skipped_err at m o e (last_err (skipped at m o) none e h)

member_err : (k : MemberKind) (at : ℕ) (m : List ℕ) (o : Outside) (e : WireFault) → o.out ≤ length m → member_at k at m o ≡ Err e → MemberFault k at o.out o.left m e.at e.what
unfolding member_at
member_err k at m o e within =
    elim (is_absent at m) as (λ b. is_absent at m ≡ b → cond b (Ok (None, o)) (present_member k at m o) ≡ Err e → MemberFault k at o.out o.left m e.at e.what) [
      | true ↦ λ absent h. absurd (cc)
      | false ↦ λ there h. (eq_no (number_at 8 at m) 0 there, present_err k at m o e within h)
    ] refl

none_member : (k : MemberKind) (at : ℕ) (m : List ℕ) (hs : List Handle) (o : Outside) (e : WireFault) → length hs ≡ o.left → o.out ≤ length m → member_at k at m o ≡ Err e → NoneIsMember k m at o.out hs
none_member k at m hs o e left within h v p stands member = let read = member_read k v p m at hs o left within member stands in cc

-- ---- members

-- the same member, its places told in another way
pub member_same : (k k2 : MemberKind) (envelope envelope2 out out2 left left2 : ℕ) (m : List ℕ) (at : ℕ) (w : WireWhat) → k ≡ k2 → envelope ≡ envelope2 → out ≡ out2 → left ≡ left2 →
    MemberFault k envelope out left m at w → MemberFault k2 envelope2 out2 left2 m at w
member_same k k2 envelope envelope2 out out2 left left2 m at w a b c d h =
    subst (λ (x : MemberKind). MemberFault x envelope2 out2 left2 m at w) a
    (subst (λ (x : ℕ). MemberFault k x out2 left2 m at w) b (subst (λ (x : ℕ). MemberFault k envelope x left2 m at w) c (subst (λ (x : ℕ). MemberFault k envelope out x m at w) d h)))

none_same : (k k2 : MemberKind) (m : List ℕ) (at at2 out out2 : ℕ) (hs hs2 : List Handle) → k ≡ k2 → at ≡ at2 → out ≡ out2 → hs ≡ hs2 → NoneIsMember k m at out hs → NoneIsMember k2 m at2 out2 hs2
none_same k k2 m at at2 out out2 hs hs2 a b c d h =
    subst (λ (x : MemberKind). NoneIsMember x m at2 out2 hs2) a
    (subst (λ (x : ℕ). NoneIsMember k m x out2 hs2) b (subst (λ (x : ℕ). NoneIsMember k m at x hs2) c (subst (λ (x : List Handle). NoneIsMember k m at out x) d h)))

pub drop_later : (n : ℕ) (kinds : List MemberKind) → drop n (later kinds) ≡ drop (suc n) kinds
drop_later n [] = drop-nil n
drop_later n (k ∷ ks) = refl

first_below : (n : ℕ) → 0 < suc n
first_below n = omega arith

suc_below : (k n : ℕ) → k < n → suc k < suc n
suc_below k n h = omega arith

-- what a member leaves to those behind it
rest_places : (at n size : ℕ) → at + 8 * suc n ≤ size → (at + 8 ≤ size) × (at + 8 + 8 * n ≤ size)
rest_places at n size fits = (omega arith, omega arith)

rest_handles : (k left : ℕ) (hs : List Handle) → length hs ≡ left → length (drop k hs) ≡ left - k
rest_handles k left hs same = length-drop k hs ∙ ap (λ (n : ℕ). n - k) same

rest_out : (out : ℕ) (m part : List ℕ) → out ≤ length m → Begins (drop out m) part → out + length part ≤ length m
rest_out out m part within begins = omega (arith, begins-length (drop out m) part begins, length-drop out m)

out_moved : (out : ℕ) (a b : List ℕ) → out + length a + length b ≡ out + length (a ++ b)
out_moved out a b = omega (arith, length-append a b)

few_left : (a b hs : List Handle) → length (drop (length a) hs) - length b ≡ length hs - length (a ++ b)
few_left a b hs = omega (arith, length-drop (length a) hs, length-append a b)

place_moved : (at : ℕ) (a b : List ℕ) → length a ≡ 8 → at + 8 + length b ≡ at + length (a ++ b)
place_moved at a b size = omega (arith, length-append a b)

pub members_err : (kinds : List MemberKind) (n : ℕ) (m : List ℕ) (at : ℕ) (hs : List Handle) (o : Outside) (e : WireFault) → at + 8 * n ≤ length m → length hs ≡ o.left → o.out ≤ length m →
    members_at kinds at n m o ≡ Err e → MembersFault kinds n at o.out hs m e.at e.what
members_err kinds zero m at hs o e fits left within h = absurd (cc)
members_err kinds (suc n) m at hs o e fits left within h =
    elim (bind_err (member_at (next_kind kinds) at m o) (λ first. members_at (later kinds) (at + 8) n m first.1 >>= λ rest. Ok (with_member kinds first.0 rest.0, rest.1)) e h) [
      | inl bad ↦
          let out : o.out ≡ o.out + 0 = sym (add-zero o.out) in
          let place : at ≡ at + 0 = sym (add-zero at) in
          record {
            before = 0;
            below = first_below n;
            values = replicate (length kinds) None;
            part = nothing;
            members_are = (refl, refl);
            stands = stands-nothing m at o.out hs;
            means = member_same (next_kind kinds) (next_kind kinds) at (at + 0) o.out (o.out + 0) o.left (length hs - 0) m e.at e.what refl place out (sym left ∙ sym (sub-zero (length hs))) (member_err (next_kind kinds) at m o e within bad);
            none = none_same (next_kind kinds) (next_kind kinds) m at (at + 0) o.out (o.out + 0) hs hs refl place out refl (none_member (next_kind kinds) at m hs o e left within bad);
          }
      | inr (got, ok, others) ↦
          let fit = rest_places at n (length m) fits in
          let s = member_sound (next_kind kinds) m at hs o got fit.0 left ok in
          let first = s.1 in
          let read = member_read (next_kind kinds) s.0 first m at hs o left within s.2.member s.2.stands in
          let same : got ≡ (s.0, behind_part o first) = cc in
          let rest = last_err (members_at (later kinds) (at + 8) n m got.1) (λ rest. (with_member kinds got.0 rest.0, rest.1)) e others in
          let after : members_at (later kinds) (at + 8) n m (behind_part o first) ≡ Err e = ap (λ (x : Option Member × Outside). members_at (later kinds) (at + 8) n m x.1) (sym same) ∙ rest in
          let hs2 = drop (length first.handles) hs in
          let rest_left : length hs2 ≡ o.left - length first.handles = rest_handles (length first.handles) o.left hs left in
          let rest_within : o.out + length first.outside ≤ length m = rest_out o.out m first.outside within s.2.stands.outside in
          let t = members_err (later kinds) n m (at + 8) hs2 (behind_part o first) e fit.1 rest_left rest_within after in
          let moved : Stands m (at + length first.inline) (o.out + length first.outside) hs2 t.part =
          subst (λ (k : ℕ). Stands m (at + k) (o.out + length first.outside) hs2 t.part) (sym s.2.size) t.stands in
          let key : next_kind (drop t.before (later kinds)) ≡ next_kind (drop (suc t.before) kinds) = ap next_kind (drop_later t.before kinds) in
          let place : at + 8 + length t.part.inline ≡ at + length (join first t.part).inline = place_moved at first.inline t.part.inline s.2.size in
          let out : o.out + length first.outside + length t.part.outside ≡ o.out + length (join first t.part).outside = out_moved o.out first.outside t.part.outside in
          let few : length hs2 - length t.part.handles ≡ length hs - length (join first t.part).handles = few_left first.handles t.part.handles hs in
          let handles : drop (length t.part.handles) hs2 ≡ drop (length (join first t.part).handles) hs =
          drop-drop (length t.part.handles) (length first.handles) hs ∙ ap (λ (k : ℕ). drop k hs) (sym (length-append first.handles t.part.handles)) in
          record {
            before = suc t.before;
            below = suc_below t.before n t.below;
            values = with_member kinds s.0 t.values;
            part = join first t.part;
            members_are = (s.0, t.values, first, t.part, refl, s.2.member, t.members_are, refl);
            stands = stands-join m at o.out hs first t.part s.2.stands moved;
            means = member_same (next_kind (drop t.before (later kinds))) (next_kind (drop (suc t.before) kinds)) _ _ _ _ _ _ m e.at e.what key place out few t.means;
            none = none_same (next_kind (drop t.before (later kinds))) (next_kind (drop (suc t.before) kinds)) m _ _ _ _ _ _ key place out handles t.none;
          }
    ]

-- ---- the table

pub table_fault : (kinds : List MemberKind) (c : Cursor) (e : WireFault) → c.out ≤ length c.message → c.place + 16 ≤ c.end → cell_at (table kinds) c ≡ Err e → TableFault kinds (spot_of c) e.at e.what
unfolding cell_at
table_fault kinds c e out fits h =
    let at = c.place in
    let m = c.message in
    let cell = last_err (table_cell kinds c) (λ x. (members x.0, x.1)) e h in
    let here = inline_bind_err 16 c (λ at. count_at at c >>= λ count. table_at kinds at count c) e fits cell in
    elim (bind_err (count_at at c) (λ count. table_at kinds at count c) e here) [
      | inl bad ↦ let b = count_err at c e bad in inl (as_fault (HeadFault (spot_of c)) (fault at Presence) e b.0 (refl, b.1))
      | inr read ↦
          let mark = count_is at read.0 c read.1 in
          let n = number_at 8 at m in
          let rest : table_at kinds at n c ≡ Err e = subst (λ (k : ℕ). table_at kinds at k c ≡ Err e) (sym mark.1) read.2 in
          let start : Outside = record { out = c.out + 8 * n; left = length c.handles } in
          let last : List (Option Member) × Outside → List (Option Member) × Cursor = λ x. (x.0, record (passed 16 c) { out = x.1.out; handles = drop (length c.handles - x.1.left) c.handles }) in
          elim (check_bind_err (nat_le (c.out + 8 * n) (length m)) (fault at Count) (λ _. members_at kinds c.out n m start >>= λ x. check (has_required kinds x.0) (fault at Envelope) >>= λ _. Ok (last x)) e rest) [
            | inl bad ↦ inl (as_fault (HeadFault (spot_of c)) (fault at Count) e bad.1 (refl, mark.0, le_false (c.out + 8 * n) (length m) bad.0))
            | inr room ↦
                let within : c.out + 8 * n ≤ length m = le_true (c.out + 8 * n) (length m) room.0 in
                let there : IsThere (spot_of c) (8 * n) = record { mark = mark.0; fits = within } in
                elim (bind_err (members_at kinds c.out n m start) (λ x. check (has_required kinds x.0) (fault at Envelope) >>= λ _. Ok (last x)) e room.1) [
                  | inl bad ↦ inr (there, inl (members_err kinds n m c.out c.handles start e within refl within bad))
                  | inr (got, ok, lacks) ↦
                      let bad = check_err (has_required kinds got.0) (fault at Envelope) e (last_err (check (has_required kinds got.0) (fault at Envelope)) (λ _. last got) e lacks) in
                      let t = members_sound kinds n m c.out c.handles start got within refl within ok in
                      let again = members_read kinds t.values n t.part m c.out c.handles start refl within t.members_are t.stands in
                      let same : got.0 ≡ t.values = ap (λ (x : List (Option Member) × Outside). x.0) (ok_same got (t.values, behind_part start t.part) (members_at kinds c.out n m start) ok again) in
                      inr (
                        there,
                        inr (
                          ap (λ (f : WireFault). f.at) (sym bad.1),
                          ap (λ (f : WireFault). f.what) (sym bad.1),
                          record { values = t.values; part = t.part; members_are = t.members_are; stands = t.stands; lacks = ap (has_required kinds) (sym same) ∙ bad.0 },
                        ),
                      )
                ]
          ]
    ]
