-- Tables: each is read exactly where it is spelled.
use Rattle.std.proofs.Common.{◌≡◌, ℕ, ◌+◌, ◌-◌, ◌%◌, ◌<◌, ◌≤◌, ◌⊎◌, inl, inr, max, Bool, true, false, not, ◌&&◌, cond, List, [], ◌++◌, length, take, drop, get_or, nat_le, slice_index, Option, Some, None, Result, Ok, refl, sym, ap, subst, ◌∙◌, length-append, length-drop, length-take, add-zero, add_assoc, ◌==◌, arith}
use Rattle.std.proofs.lemmas.List.{get_or-drop, drop-drop}
use Rattle.fidl_names.specs.declared.methods.Handle.{Handle}
use Rattle.fidl_wire.specs.declared.reading.Outside.{Outside}
use Rattle.fidl_wire.specs.declared.faults.WireWhat.TheVariants.{Envelope, Handles}
use Rattle.fidl_wire.specs.Headers.{fault}
use Rattle.fidl_names.specs.Numbers.{number_at}
use Rattle.fidl_wire.specs.Numbers.{padding_after, padded}
use Rattle.fidl_wire.specs.Cursor.{Cursor}
use Rattle.fidl_wire.specs.declared.faults.WireFault.{WireFault}
use Rattle.fidl_wire.specs.declared.kinds.MemberKind.{MemberKind}
use Rattle.fidl_wire.specs.declared.kinds.MemberKind.TheVariants as kind
use Rattle.fidl_wire.specs.Layout.{Member, a_number, a_vector}
use Rattle.fidl_wire.proofs.Padded.{length-padded_bytes}
use Rattle.fidl_wire.specs.Reading.{◌>>=◌, check, bytes_at, handles_at, flags_at, is_absent, is_inlined, is_outside, enough_handles, entered, skipped, before_list, list_cell, present_member, member_at}
use Rattle.fidl_wire.specs.Grammar.{Part, IsAbsent, IsEnvelope, IsSkippedShort, IsSkippedLong, IsNumberMember, IsList, IsBytesMember, IsMember}
use Rattle.wire_laws.proofs.Slices.{Begins, begins_front, begins-length, begins-append, begins-append_first, begins-append_rest}
use Rattle.wire_laws.proofs.Steps.{bind_ok, check_bind, unit_bind, check-true, check_ok, both_true, eq_true, true_eq, eq_false, false_eq, not_true, le_true, true_le}
use Rattle.wire_laws.proofs.Parts.{Stands, moved}
use Rattle.wire_laws.proofs.Vectors.{list_read, list_sound}
use Rattle.wire_laws.proofs.Cells.{number_at-stands, number_at-front, number_at-within, number_at-here, number_stands}

-- ---- an envelope's fields

-- where all eight bytes are zero, each field is
pub absent_flags : (at : ℕ) (m : List ℕ) → number_at 8 at m ≡ 0 → number_at 2 (at + 6) m ≡ 0
unfolding number_at
absent_flags at m h =
    let a : slice_index (drop (at + 6) m) 0 ≡ slice_index (drop at m) 6 = get_or-drop (at + 6) m 0 0 ∙ ap (λ k. get_or m k 0) (add-zero (at + 6)) ∙ sym (get_or-drop at m 6 0) in
    let b : slice_index (drop (at + 6) m) 1 ≡ slice_index (drop at m) 7 = get_or-drop (at + 6) m 1 0 ∙ ap (λ k. get_or m k 0) (add_assoc at 6 1) ∙ sym (get_or-drop at m 7 0) in
    omega arith

pub absent_bytes : (at : ℕ) (m : List ℕ) → number_at 8 at m ≡ 0 → number_at 4 at m ≡ 0
unfolding number_at
absent_bytes at m h = omega arith

-- the envelope that stands at a place has these fields
pub record Fields (bytes handles flags at : ℕ) (m : List ℕ) : Type 0 where
  pub bytes_are : bytes_at at m ≡ bytes
  pub handles_are : handles_at at m ≡ handles
  pub flags_are : flags_at at m ≡ flags

pub fields_stand : (bytes handles flags at : ℕ) (m front : List ℕ) → Begins (drop at m) front → IsEnvelope bytes handles flags front → Fields bytes handles flags at m
fields_stand bytes handles flags at m front h e = record {
  bytes_are = sym (number_at-here 4 at m front h (omega (arith, e.size_is))) ∙ e.bytes_are;
  handles_are = sym (number_at-stands 2 4 at m front h (omega (arith, e.size_is))) ∙ e.handles_are;
  flags_are = sym (number_at-stands 2 6 at m front h (omega (arith, e.size_is))) ∙ e.flags_are;
}

-- the eight bytes at a place are an envelope with the fields there
pub envelope_at : (at : ℕ) (m : List ℕ) → at + 8 ≤ length m → IsEnvelope (bytes_at at m) (handles_at at m) (flags_at at m) (take 8 (drop at m))
envelope_at at m h = record {
  size_is = omega (arith, length-take 8 (drop at m), length-drop at m);
  bytes_are = number_at-front 4 8 at m (omega arith);
  handles_are = number_at-within 2 4 8 at m (omega arith);
  flags_are = number_at-within 2 6 8 at m (omega arith);
}

sub-zero : (n : ℕ) → n - 0 ≡ n
sub-zero n = omega arith

padded_none : padded 0 ≡ 0
unfolding padding_after
padded_none = refl

padded_eight : padded 8 ≡ 8
unfolding padding_after
padded_eight = refl

-- ---- the tests of an envelope

pub record Enters (at size : ℕ) (m : List ℕ) (o : Outside) : Type 0 where
  pub flags : flags_at at m ≡ 0
  pub some : 0 < bytes_at at m
  pub aligned : bytes_at at m % 8 ≡ 0
  pub bytes_fit : o.out + bytes_at at m ≤ length m
  pub size_fits : o.out + padded size ≤ length m
  pub enough : handles_at at m ≤ o.left

pub outside_true : (at : ℕ) (m : List ℕ) → flags_at at m ≡ 0 → 0 < bytes_at at m → bytes_at at m % 8 ≡ 0 → is_outside at m ≡ true
outside_true at m flags some aligned =
    rw (true_eq (flags_at at m) 0 flags, false_eq (bytes_at at m) 0 (λ z. omega arith), true_eq (bytes_at at m % 8) 0 aligned) refl

pub enough_ok : (at : ℕ) (m : List ℕ) (o : Outside) → handles_at at m ≤ o.left → enough_handles at m o ≡ Ok tt
enough_ok at m o h = check-true (nat_le (handles_at at m) o.left) (fault at Handles) (true_le (handles_at at m) o.left h)

pub enough_says : (at : ℕ) (m : List ℕ) (o : Outside) → enough_handles at m o ≡ Ok tt → handles_at at m ≤ o.left
enough_says at m o h = le_true (handles_at at m) o.left (check_ok (nat_le (handles_at at m) o.left) (fault at Handles) tt h)

pub entered_ok : (at size : ℕ) (m : List ℕ) (o : Outside) → Enters at size m o → entered at size m o ≡ Ok tt
entered_ok at size m o e =
    let room : o.out + max (bytes_at at m) (padded size) ≤ length m = omega (arith, e.bytes_fit, e.size_fits) in
    rw (
      outside_true at m e.flags e.some e.aligned,
      check-true (nat_le (o.out + max (bytes_at at m) (padded size)) (length m)) (fault at Envelope) (true_le (o.out + max (bytes_at at m) (padded size)) (length m) room),
      enough_ok at m o e.enough,
    ) refl

pub entered_says : (at size : ℕ) (m : List ℕ) (o : Outside) → entered at size m o ≡ Ok tt → Enters at size m o
entered_says at size m o h =
    let form = check_bind (is_outside at m) (fault at Envelope) (λ _. check (nat_le (o.out + max (bytes_at at m) (padded size)) (length m)) (fault at Envelope) >>= λ _. enough_handles at m o) tt h in
    let room = check_bind (nat_le (o.out + max (bytes_at at m) (padded size)) (length m)) (fault at Envelope) (λ _. enough_handles at m o) tt form.1 in
    let fits : o.out + max (bytes_at at m) (padded size) ≤ length m = le_true (o.out + max (bytes_at at m) (padded size)) (length m) room.0 in
    let front = both_true ((flags_at at m == 0) && not (bytes_at at m == 0)) (bytes_at at m % 8 == 0) form.0 in
    let flags = both_true (flags_at at m == 0) (not (bytes_at at m == 0)) front.0 in
    let some : bytes_at at m ≡ 0 → ⊥ = eq_false (bytes_at at m) 0 (not_true (bytes_at at m == 0) flags.1) in
    record {
      flags = eq_true (flags_at at m) 0 flags.0;
      some = omega (arith, some);
      aligned = eq_true (bytes_at at m % 8) 0 front.1;
      bytes_fit = omega arith;
      size_fits = omega arith;
      enough = enough_says at m o room.1;
    }

-- ---- a member that is spelled is read

-- what is left behind a part
abbrev pub behind_part : Outside → Part → Outside
behind_part o p = record { out = o.out + length p.outside; left = o.left - length p.handles }

absent_read : (k : MemberKind) (p : Part) (m : List ℕ) (at : ℕ) (hs : List Handle) (o : Outside) → IsAbsent p → Stands m at o.out hs p → member_at k at m o ≡ Ok (None, behind_part o p)
unfolding member_at
absent_read k p m at hs o a s =
    let zero_is : number_at 8 at m ≡ 0 = number_stands 8 0 at m p.inline s.inline a.envelope in
    let same : o ≡ behind_part o p = rw (a.rest.outside_is, a.rest.handles_are) (simp (add-zero, sub-zero)) in
    rw (true_eq (number_at 8 at m) 0 zero_is, ← same) refl

not_absent : (at : ℕ) (m : List ℕ) → (number_at 8 at m ≡ 0 → ⊥) → is_absent at m ≡ false
not_absent at m h = false_eq (number_at 8 at m) 0 h

short_read : (p : Part) (m : List ℕ) (at : ℕ) (hs : List Handle) (o : Outside) → length hs ≡ o.left → IsSkippedShort p → Stands m at o.out hs p → member_at kind.Unknown at m o ≡ Ok (None, behind_part o p)
unfolding member_at
short_read p m at hs o left short s =
    let f = fields_stand short.value (length p.handles) 1 at m p.inline s.inline short.envelope in
    let there : is_absent at m ≡ false = not_absent at m (λ z. omega (arith, absent_flags at m z, f.flags_are)) in
    let enough : handles_at at m ≤ o.left = omega (arith, f.handles_are, begins-length hs p.handles s.handles) in
    let after : record o { left = o.left - handles_at at m } ≡ behind_part o p = rw (short.outside_is, f.handles_are) (simp add-zero) in
    rw (there, true_eq (flags_at at m) 1 f.flags_are, enough_ok at m o enough, after) refl

long_read : (p : Part) (m : List ℕ) (at : ℕ) (hs : List Handle) (o : Outside) → length hs ≡ o.left → o.out ≤ length m → IsSkippedLong p → Stands m at o.out hs p → member_at kind.Unknown at m o ≡ Ok (None, behind_part o p)
unfolding member_at
long_read p m at hs o left within long s =
    let f = fields_stand (length p.outside) (length p.handles) 0 at m p.inline s.inline long.envelope in
    let there : is_absent at m ≡ false = not_absent at m (λ z. omega (arith, absent_bytes at m z, f.bytes_are, long.some)) in
    let other : is_inlined at m ≡ false = false_eq (flags_at at m) 1 (λ z. omega (arith, f.flags_are)) in
    let enough : handles_at at m ≤ o.left = omega (arith, f.handles_are, begins-length hs p.handles s.handles) in
    let fits : o.out + length p.outside ≤ length m = omega (arith, begins-length (drop o.out m) p.outside s.outside, length-drop o.out m) in
    let enters : Enters at 0 m o = record {
      flags = f.flags_are;
      some = rw f.bytes_are long.some;
      aligned = rw f.bytes_are long.aligned;
      bytes_fit = rw f.bytes_are fits;
      size_fits = omega (arith, padded_none);
      enough = enough;
    } in
    rw (there, other, entered_ok at 0 m o enters, f.bytes_are, f.handles_are) refl

number_member_read : (required : Bool) (x : ℕ) (p : Part) (m : List ℕ) (at : ℕ) (hs : List Handle) (o : Outside) → length hs ≡ o.left → o.out ≤ length m → IsNumberMember x p → Stands m at o.out hs p →
    member_at (kind.Number required) at m o ≡ Ok (Some (a_number x), behind_part o p)
unfolding member_at
number_member_read required x p m at hs o left within n s =
    let f = fields_stand 8 0 0 at m p.inline s.inline n.envelope in
    let there : is_absent at m ≡ false = not_absent at m (λ z. omega (arith, absent_bytes at m z, f.bytes_are)) in
    let fits : o.out + 8 ≤ length m = omega (arith, n.value.size_is, begins-length (drop o.out m) p.outside s.outside, length-drop o.out m) in
    let enters : Enters at 8 m o = record {
      flags = f.flags_are;
      some = omega (arith, f.bytes_are);
      aligned = rw f.bytes_are refl;
      bytes_fit = rw f.bytes_are fits;
      size_fits = omega (arith, padded_eight);
      enough = omega (arith, f.handles_are);
    } in
    let counts : ((bytes_at at m == 8) && (handles_at at m == 0)) ≡ true = rw (f.bytes_are, f.handles_are) refl in
    let is : number_at 8 o.out m ≡ x = number_stands 8 x o.out m p.outside s.outside n.value in
    let after : record o { out = o.out + 8 } ≡ behind_part o p = rw (n.value.size_is, n.handles_are) (simp sub-zero) in
    rw (there, entered_ok at 8 m o enters, check-true ((bytes_at at m == 8) && (handles_at at m == 0)) (fault at Envelope) counts, is, after) refl

-- a list of bytes has at least its count, and is a multiple of eight bytes
list_sizes : (xs : List ℕ) (p : Part) → IsList xs p → (length p.inline ≡ 16) × (length p.outside % 8 ≡ 0)
unfolding padding_after
list_sizes xs p l = (l.count.size_is, omega (arith, ap length l.outside_is, length-padded_bytes xs))

padded_sixteen : padded 16 ≡ 16
unfolding padding_after
padded_sixteen = refl

-- a list of bytes that stands out of line is read there
list_there : (xs : List ℕ) (v : Part) (m : List ℕ) (out : ℕ) → out + 16 ≤ length m → IsList xs v → Begins (drop out m) (v.inline ++ v.outside) → Stands m out (out + 16) [] v
list_there xs v m out room l begins =
    let behind : Begins (drop (out + 16) m) v.outside =
    rw (drop-drop (length v.inline) out m, l.count.size_is) at (begins-append_rest v.inline v.outside (drop out m) begins) in
    record { inline = begins-append_first v.inline v.outside (drop out m) begins; outside = behind; handles = rw l.handles_are refl }

pub list_taken : (xs : List ℕ) (v : Part) (m : List ℕ) (out : ℕ) → out + 16 ≤ length m → IsList xs v → Stands m out (out + 16) [] v → list_cell false (before_list m out) ≡ Ok (xs, moved (before_list m out) v)
list_taken xs v m out room l stands = list_read false xs (before_list m out) v room (least_refl (out + 16)) stands l refl
  where
    least_refl : (n : ℕ) → n ≤ n
    least_refl n = omega arith

bytes_member_read : (required : Bool) (xs : List ℕ) (p : Part) (m : List ℕ) (at : ℕ) (hs : List Handle) (o : Outside) → length hs ≡ o.left → o.out ≤ length m → IsBytesMember xs p →
    Stands m at o.out hs p → member_at (kind.Bytes required) at m o ≡ Ok (Some (a_vector xs), behind_part o p)
unfolding member_at
bytes_member_read required xs p m at hs o left within b s =
    let f = fields_stand (length p.outside) 0 0 at m p.inline s.inline b.envelope in
    let v = b.vector in
    let sizes = list_sizes xs v b.is_list in
    let size : length p.outside ≡ 16 + length v.outside = omega (arith, ap length b.outside_is, length-append v.inline v.outside) in
    let there : is_absent at m ≡ false = not_absent at m (λ z. omega (arith, absent_bytes at m z, f.bytes_are)) in
    let fits : o.out + length p.outside ≤ length m = omega (arith, begins-length (drop o.out m) p.outside s.outside, length-drop o.out m) in
    let room : o.out + 16 ≤ length m = omega arith in
    let enters : Enters at 16 m o = record {
      flags = f.flags_are;
      some = omega (arith, f.bytes_are);
      aligned = omega (arith, f.bytes_are);
      bytes_fit = rw f.bytes_are fits;
      size_fits = omega (arith, padded_sixteen);
      enough = omega (arith, f.handles_are);
    } in
    let stands = list_there xs v m o.out room b.is_list (subst (λ (ys : List ℕ). Begins (drop o.out m) ys) b.outside_is s.outside) in
    let read = list_taken xs v m o.out room b.is_list stands in
    let end : o.out + bytes_at at m ≡ o.out + 16 + length v.outside = omega (arith, f.bytes_are) in
    let counts : ((o.out + bytes_at at m == o.out + 16 + length v.outside) && (handles_at at m == 0)) ≡ true = rw (true_eq (o.out + bytes_at at m) (o.out + 16 + length v.outside) end, f.handles_are) refl in
    let after : record o { out = o.out + 16 + length v.outside } ≡ behind_part o p = rw (size, b.handles_are, add_assoc o.out 16 (length v.outside)) (simp sub-zero) in
    rw (there, entered_ok at 16 m o enters, read, check-true ((o.out + bytes_at at m == o.out + 16 + length v.outside) && (handles_at at m == 0)) (fault at Envelope) counts, after) refl

pub member_read : (k : MemberKind) (v : Option Member) (p : Part) (m : List ℕ) (at : ℕ) (hs : List Handle) (o : Outside) → length hs ≡ o.left → o.out ≤ length m → IsMember k v p →
    Stands m at o.out hs p → member_at k at m o ≡ Ok (v, behind_part o p)
member_read k None p m at hs o left within (inl absent) s = absent_read k p m at hs o absent s
member_read k None p m at hs o left within (inr unknown) s =
    rw unknown.0 (elim unknown.1 [ inl short ↦ short_read p m at hs o left short s | inr long ↦ long_read p m at hs o left within long s ])
member_read k (Some (a_number x)) p m at hs o left within (required, same, n) s = rw same (number_member_read required x p m at hs o left within n s)
member_read k (Some (a_vector xs)) p m at hs o left within (required, same, b) s = rw same (bytes_member_read required xs p m at hs o left within b s)

-- ---- a member that is read is spelled

-- a member was taken
pub record TookMember (k : MemberKind) (v : Option Member) (p : Part) (m : List ℕ) (at : ℕ) (hs : List Handle) (o : Outside) : Type 0 where
  pub member : IsMember k v p
  pub stands : Stands m at o.out hs p
  pub size : length p.inline ≡ 8

abbrev pub SoundMember : MemberKind → List ℕ → ℕ → List Handle → Outside → Type 0
SoundMember k m at hs o = (v : Option Member) × (p : Part) × TookMember k v p m at hs o

length-envelope : (at : ℕ) (m : List ℕ) → at + 8 ≤ length m → length (take 8 (drop at m)) ≡ 8
length-envelope at m h = omega (arith, length-take 8 (drop at m), length-drop at m)

absent_sound : (k : MemberKind) (m : List ℕ) (at : ℕ) (hs : List Handle) (o : Outside) → at + 8 ≤ length m → number_at 8 at m ≡ 0 → SoundMember k m at hs o
absent_sound k m at hs o fits z = (
  None,
  record { inline = take 8 (drop at m); outside = []; handles = [] },
  record {
    member = inl (record {
      envelope = record { size_is = length-envelope at m fits; value_is = number_at-front 8 8 at m (omega arith) ∙ z };
      rest = record { outside_is = refl; handles_are = refl };
    });
    stands = record { inline = begins_front 8 (drop at m); outside = refl; handles = refl };
    size = length-envelope at m fits;
  },
)

short_sound : (m : List ℕ) (at : ℕ) (hs : List Handle) (o : Outside) → at + 8 ≤ length m → length hs ≡ o.left → flags_at at m ≡ 1 → handles_at at m ≤ o.left → SoundMember kind.Unknown m at hs o
short_sound m at hs o fits left flags enough =
    let count : length (take (handles_at at m) hs) ≡ handles_at at m = omega (arith, length-take (handles_at at m) hs) in
    let e = envelope_at at m fits in (
      None,
      record { inline = take 8 (drop at m); outside = []; handles = take (handles_at at m) hs },
      record {
        member = inr (
          refl,
          inl (record {
            value = bytes_at at m;
            envelope = record { size_is = e.size_is; bytes_are = e.bytes_are; handles_are = e.handles_are ∙ sym count; flags_are = e.flags_are ∙ flags };
            outside_is = refl;
          }),
        );
        stands = record { inline = begins_front 8 (drop at m); outside = refl; handles = begins_front (handles_at at m) hs };
        size = length-envelope at m fits;
      },
    )

long_sound : (m : List ℕ) (at : ℕ) (hs : List Handle) (o : Outside) → at + 8 ≤ length m → length hs ≡ o.left → Enters at 0 m o → SoundMember kind.Unknown m at hs o
long_sound m at hs o fits left enters =
    let count : length (take (handles_at at m) hs) ≡ handles_at at m = omega (arith, length-take (handles_at at m) hs, enters.enough) in
    let size : length (take (bytes_at at m) (drop o.out m)) ≡ bytes_at at m = omega (arith, length-take (bytes_at at m) (drop o.out m), length-drop o.out m, enters.bytes_fit) in
    let e = envelope_at at m fits in (
      None,
      record { inline = take 8 (drop at m); outside = take (bytes_at at m) (drop o.out m); handles = take (handles_at at m) hs },
      record {
        member = inr (
          refl,
          inr (record {
            envelope = record { size_is = e.size_is; bytes_are = e.bytes_are ∙ sym size; handles_are = e.handles_are ∙ sym count; flags_are = e.flags_are ∙ enters.flags };
            some = rw size enters.some;
            aligned = rw size enters.aligned;
          }),
        );
        stands = record { inline = begins_front 8 (drop at m); outside = begins_front (bytes_at at m) (drop o.out m); handles = begins_front (handles_at at m) hs };
        size = length-envelope at m fits;
      },
    )

number_member_sound : (required : Bool) (m : List ℕ) (at : ℕ) (hs : List Handle) (o : Outside) → at + 8 ≤ length m → Enters at 8 m o → bytes_at at m ≡ 8 → handles_at at m ≡ 0 → SoundMember (kind.Number required) m at hs o
number_member_sound required m at hs o fits enters bytes_are handles_are =
    let size : length (take 8 (drop o.out m)) ≡ 8 = omega (arith, length-take 8 (drop o.out m), length-drop o.out m, enters.bytes_fit) in
    let e = envelope_at at m fits in (
      Some (a_number (number_at 8 o.out m)),
      record { inline = take 8 (drop at m); outside = take 8 (drop o.out m); handles = [] },
      record {
        member = (
          required,
          refl,
          record {
            envelope = record { size_is = e.size_is; bytes_are = e.bytes_are ∙ bytes_are; handles_are = e.handles_are ∙ handles_are; flags_are = e.flags_are ∙ enters.flags };
            value = record { size_is = size; value_is = number_at-front 8 8 o.out m (omega arith) };
            handles_are = refl;
          },
        );
        stands = record { inline = begins_front 8 (drop at m); outside = begins_front 8 (drop o.out m); handles = refl };
        size = length-envelope at m fits;
      },
    )

pub ok_same : {A : Type 0} → (a b : A) (r : Result A WireFault) → r ≡ Ok a → r ≡ Ok b → a ≡ b
ok_same a b r g h = cc

bytes_member_sound : (required : Bool) (m : List ℕ) (at : ℕ) (hs : List Handle) (o : Outside) (r : List ℕ × Cursor) → at + 8 ≤ length m → Enters at 16 m o → list_cell false (before_list m o.out) ≡ Ok r →
    o.out + bytes_at at m ≡ r.1.out → handles_at at m ≡ 0 → SoundMember (kind.Bytes required) m at hs o
bytes_member_sound required m at hs o r fits enters read counts handles_are =
    let room : o.out + 16 ≤ length m = omega (arith, padded_sixteen, enters.size_fits) in
    let s = list_sound false (before_list m o.out) r room read in
    let v = s.part in
    let again = list_taken s.xs v m o.out room s.list s.stands in
    let out : r.1.out ≡ o.out + 16 + length v.outside = ap (λ (x : List ℕ × Cursor). x.1.out) (ok_same r (s.xs, moved (before_list m o.out) v) (list_cell false (before_list m o.out)) read again) in
    let size : bytes_at at m ≡ length (v.inline ++ v.outside) = omega (arith, counts, out, length-append v.inline v.outside, s.list.count.size_is) in
    let e = envelope_at at m fits in
    let behind : Begins (drop (length v.inline) (drop o.out m)) v.outside = rw (drop-drop (length v.inline) o.out m, s.list.count.size_is) s.stands.outside in (
      Some (a_vector s.xs),
      record { inline = take 8 (drop at m); outside = v.inline ++ v.outside; handles = [] },
      record {
        member = (
          required,
          refl,
          record {
            vector = v;
            is_list = s.list;
            envelope = record { size_is = e.size_is; bytes_are = e.bytes_are ∙ size; handles_are = e.handles_are ∙ handles_are; flags_are = e.flags_are ∙ enters.flags };
            outside_is = refl;
            handles_are = refl;
          },
        );
        stands = record { inline = begins_front 8 (drop at m); outside = begins-append v.inline v.outside (drop o.out m) s.stands.inline behind; handles = refl };
        size = length-envelope at m fits;
      },
    )

skipped_says : (at : ℕ) (m : List ℕ) (o r : Outside) → skipped at m o ≡ Ok r → ((flags_at at m ≡ 1) × (handles_at at m ≤ o.left)) ⊎ Enters at 0 m o
skipped_says at m o r =
    elim (is_inlined at m) as (λ b. is_inlined at m ≡ b → cond b (enough_handles at m o >>= λ _. Ok (record o { left = o.left - handles_at at m })) (entered at 0 m o >>= λ _. Ok (record { out = o.out + bytes_at at m; left = o.left - handles_at at m })) ≡ Ok r → ((flags_at at m ≡ 1) × (handles_at at m ≤ o.left)) ⊎ Enters at 0 m o) [
      | true ↦ λ short e. inl (eq_true (flags_at at m) 1 short, enough_says at m o (unit_bind (enough_handles at m o) (λ _. Ok (record o { left = o.left - handles_at at m })) r e).0)
      | false ↦ λ long e. inr (entered_says at 0 m o (unit_bind (entered at 0 m o) (λ _. Ok (record { out = o.out + bytes_at at m; left = o.left - handles_at at m })) r e).0)
    ] refl

present_sound : (k : MemberKind) (m : List ℕ) (at : ℕ) (hs : List Handle) (o : Outside) (r : Option Member × Outside) → at + 8 ≤ length m → length hs ≡ o.left →
    present_member k at m o ≡ Ok r → SoundMember k m at hs o
present_sound (kind.Number required) m at hs o r fits left h =
    let last : Option Member × Outside = (Some (a_number (number_at 8 o.out m)), record o { out = o.out + 8 }) in
    let enters = unit_bind (entered at 8 m o) (λ _. check ((bytes_at at m == 8) && (handles_at at m == 0)) (fault at Envelope) >>= λ _. Ok last) r h in
    let counts = check_bind ((bytes_at at m == 8) && (handles_at at m == 0)) (fault at Envelope) (λ _. Ok last) r enters.1 in
    let both = both_true (bytes_at at m == 8) (handles_at at m == 0) counts.0 in
    number_member_sound required m at hs o fits (entered_says at 8 m o enters.0) (eq_true (bytes_at at m) 8 both.0) (eq_true (handles_at at m) 0 both.1)
present_sound (kind.Bytes required) m at hs o r fits left h =
    let counted : List ℕ × Cursor → Bool = λ list. (o.out + bytes_at at m == list.1.out) && (handles_at at m == 0) in
    let last : List ℕ × Cursor → Option Member × Outside = λ list. (Some (a_vector list.0), record o { out = list.1.out }) in
    let enters = unit_bind (entered at 16 m o) (λ _. list_cell false (before_list m o.out) >>= λ list. check (counted list) (fault at Envelope) >>= λ _. Ok (last list)) r h in
    let read = bind_ok (list_cell false (before_list m o.out)) (λ list. check (counted list) (fault at Envelope) >>= λ _. Ok (last list)) r enters.1 in
    let counts = check_bind (counted read.0) (fault at Envelope) (λ _. Ok (last read.0)) r read.2 in
    let both = both_true (o.out + bytes_at at m == read.0.1.out) (handles_at at m == 0) counts.0 in
    bytes_member_sound required m at hs o read.0 fits (entered_says at 16 m o enters.0) read.1 (eq_true (o.out + bytes_at at m) read.0.1.out both.0) (eq_true (handles_at at m) 0 both.1)
present_sound kind.Unknown m at hs o r fits left h =
    let rest = bind_ok (skipped at m o) (λ rest. Ok (None, rest)) r h in
    elim (skipped_says at m o rest.0 rest.1) [
      | inl short ↦ short_sound m at hs o fits left short.0 short.1
      | inr enters ↦ long_sound m at hs o fits left enters
    ]

pub member_sound : (k : MemberKind) (m : List ℕ) (at : ℕ) (hs : List Handle) (o : Outside) (r : Option Member × Outside) → at + 8 ≤ length m → length hs ≡ o.left →
    member_at k at m o ≡ Ok r → SoundMember k m at hs o
unfolding member_at
member_sound k m at hs o r fits left =
    elim (is_absent at m) as (λ b. is_absent at m ≡ b → cond b (Ok (None, o)) (present_member k at m o) ≡ Ok r → SoundMember k m at hs o) [
      | true ↦ λ absent e. absent_sound k m at hs o fits (eq_true (number_at 8 at m) 0 absent)
      | false ↦ λ there e. present_sound k m at hs o r fits left e
    ] refl
