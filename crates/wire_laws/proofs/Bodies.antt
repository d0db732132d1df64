-- Whole bodies, structs and unions: read exactly where they are spelled.
use Rattle.std.proofs.Common.{◌≡◌, ℕ, ◌+◌, ◌-◌, ◌%◌, ◌<◌, ◌≤◌, subst, true, false, cond, List, [], ◌∷◌, length, replicate, take, drop, slice_range, nat_lt, ◌==◌, ◌&&◌, Option, Some, None, Result, Ok, Err, refl, sym, ap, ◌∙◌, length-append, length-drop, arith}
use Rattle.std.proofs.lemmas.List.{drop-drop}
use Rattle.std.proofs.lemmas.Bool.Decides.{nat_tests}
use Rattle.fidl_names.specs.declared.methods.Handle.{Handle}
use Rattle.fidl_wire.specs.declared.reading.Branch.{Branch}
use Rattle.fidl_wire.specs.declared.reading.Opened.{Opened}
use Rattle.fidl_wire.specs.declared.faults.WireFault.{WireFault}
use Rattle.fidl_wire.specs.declared.faults.WireWhat.TheVariants.{Short, Envelope}
use Rattle.fidl_wire.specs.Headers.{fault}
use Rattle.fidl_names.specs.Numbers.{number_at}
use Rattle.fidl_wire.specs.Numbers.{padding_after, padded}
use Rattle.fidl_wire.specs.Written.{padded_bytes}
use Rattle.fidl_wire.specs.Layout.{Cell, Item, Variant, Layout, Content, num, empty, word, object, struct, union, fields, branch, sizes_of, variant_of}
use Rattle.fidl_wire.specs.Cursor.{Cursor, start, start_of, outside_of}
use Rattle.fidl_wire.specs.Reading.{◌>>=◌, passed, check, all_blank, bytes_at, handles_at, flags_at, is_inlined, enough_handles, entered, inlined_word, within_branch, object_at, branch_of, ordinal_at, finish_of, object_items, word_items, variant_items, known_variant, body_of}
use Rattle.fidl_wire.specs.Grammar.{IsEnvelope, IsObject, IsInlinedUnion, IsObjectUnion, IsVariant, IsSpelled}
use Rattle.fidl_wire.proofs.Sizes.{padded-mod}
use Rattle.wire_laws.proofs.Steps.{bind_ok, unit_bind, check_bind, check_ok, eq_true, true_eq, lt_true, true_lt, lt_false, not_lt, both_true}
use Rattle.wire_laws.proofs.Blanks.{all_blank-zeros, zeros-all_blank}
use Rattle.fidl_wire.proofs.Padded.{length-padded_bytes}
use Rattle.wire_laws.proofs.Cells.{number_at-front, number_at-within}
use Rattle.wire_laws.proofs.TableCells.{Enters, entered_ok, entered_says, enough_ok, envelope_at}
use Rattle.wire_laws.proofs.Objects.{length-lays, aligned-lays}
use Rattle.wire_laws.proofs.Endings.{before_object, object_read, object_sound, TookObject, finish_ok, finish_says, Finished, length_zero}

-- ---- structs

pub start_ok : (m : List ℕ) (hs : List Handle) (size : ℕ) → 16 + padded size ≤ length m → start_of m hs size ≡ Ok (start m hs size)
start_ok m hs size h = grind (arith, nat_tests)

start_bind : {B : Type 0} → (m : List ℕ) (hs : List Handle) (size : ℕ) (f : Cursor → Result B WireFault) (b : B) → (start_of m hs size >>= f) ≡ Ok b → (16 + padded size ≤ length m) × (f (start m hs size) ≡ Ok b)
start_bind m hs size f b =
    elim (nat_lt (length m) (16 + padded size)) as (λ t. nat_lt (length m) (16 + padded size) ≡ t → (cond t (Err (fault (length m) Short)) (Ok (start m hs size)) >>= f) ≡ Ok b → (16 + padded size ≤ length m) × (f (start m hs size) ≡ Ok b)) [
      | true ↦ λ short h. absurd (cc)
      | false ↦ λ long h. (lt_false (length m) (16 + padded size) long, h)
    ] refl

length-object : (cells : List Cell) (xs : List Item) (bytes : List ℕ) (hs : List Handle) (o : IsObject cells xs bytes hs) → length bytes ≡ padded (sizes_of cells) + length o.part.outside
length-object cells xs bytes hs o =
    ap length o.bytes_are ∙ length-append (padded_bytes o.part.inline) o.part.outside
    ∙ ap (λ n. n + length o.part.outside) (length-padded_bytes o.part.inline ∙ ap (λ n. padded n) (length-lays cells xs o.part o.lays))

struct_read : (cells : List Cell) (xs : List Item) (m : List ℕ) (hs : List Handle) → 16 ≤ length m → IsObject cells xs (drop 16 m) hs → body_of (struct cells) m hs ≡ Ok (fields xs)
struct_read cells xs m hs header o =
    let room : 16 + padded (sizes_of cells) ≤ length m = omega (arith, length-object cells xs (drop 16 m) hs o, length-drop 16 m) in
    let read : object_items cells (start m hs (sizes_of cells)) ≡ Ok xs = object_read cells xs m hs 16 None refl header o (λ c out handles. refl) in
    rw (start_ok m hs (sizes_of cells) room, read) refl

struct_sound : (cells : List Cell) (content : Content) (m : List ℕ) (hs : List Handle) → body_of (struct cells) m hs ≡ Ok content → IsSpelled (struct cells) content m hs
struct_sound cells content m hs h =
    let room = start_bind m hs (sizes_of cells) (λ c. object_items cells c >>= λ xs. Ok (fields xs)) content h in
    let read = bind_ok (object_items cells (start m hs (sizes_of cells))) (λ xs. Ok (fields xs)) content room.1 in
    let t = object_sound cells read.0 m hs 16 None refl room.0 read.1 in
    let same : fields read.0 ≡ content = cc in
    subst (λ (x : Content). IsSpelled (struct cells) x m hs) same (record { header = omega arith; body = t.object })

-- ---- unions

pub number_at-drop : (size k at : ℕ) (m : List ℕ) → number_at size k (drop at m) ≡ number_at size (at + k) m
unfolding number_at
number_at-drop size k at m = rw (drop-drop k at m) refl

pub padding_sixteen : padding_after 16 ≡ 0
unfolding padding_after
padding_sixteen = refl

padding_union : padding_after 32 ≡ 0
unfolding padding_after
padding_union = refl

blank_none : (m : List ℕ) (at : ℕ) → all_blank m at at ≡ Ok tt
blank_none m at = zeros-all_blank m at at (let none : at - at ≡ 0 = omega arith in rw none refl)

pub blank_union : (m : List ℕ) → all_blank m 32 (padded 32) ≡ Ok tt
blank_union m = rw padding_union (blank_none m 32)

pub ordinal_read : (m : List ℕ) (hs : List Handle) → ordinal_at (start m hs 16) ≡ Ok (number_at 8 16 m)
unfolding ordinal_at
ordinal_read m hs = refl

-- the envelope of a union behind the header
union_envelope : (bytes handles flags : ℕ) (m : List ℕ) → IsEnvelope bytes handles flags (drop 8 (drop 16 m)) → (bytes_at 24 m ≡ bytes) × (handles_at 24 m ≡ handles) × (flags_at 24 m ≡ flags)
union_envelope bytes handles flags m e =
    let at : drop 8 (drop 16 m) ≡ drop 24 m = drop-drop 8 16 m in (
      sym (number_at-drop 4 0 24 m) ∙ ap (number_at 4 0) (sym at) ∙ e.bytes_are,
      sym (number_at-drop 2 4 24 m) ∙ ap (number_at 2 4) (sym at) ∙ e.handles_are,
      sym (number_at-drop 2 6 24 m) ∙ ap (number_at 2 6) (sym at) ∙ e.flags_are,
    )

slice_range-drop : (a b at : ℕ) (m : List ℕ) → slice_range (drop at m) a b ≡ slice_range m (at + a) (at + b)
slice_range-drop a b at m =
    let same : at + b - (at + a) ≡ b - a = omega arith in
    rw (drop-drop a at m, same) refl

inlined_read : (size ordinal x : ℕ) (m : List ℕ) (hs : List Handle) → size ≤ 4 → IsInlinedUnion size ordinal x (drop 16 m) hs → 16 ≤ length m →
    branch_of size (start m hs 16) ≡ Ok (record { ordinal = ordinal; inlined = Some x }, passed 16 (start m hs 16))
unfolding branch_of
inlined_read size ordinal x m hs small u header =
    let e = union_envelope x 0 1 m u.envelope in
    let is : number_at 8 16 m ≡ ordinal = sym (number_at-drop 8 0 16 m) ∙ u.ordinal_is in
    let large : nat_lt 4 size ≡ false = not_lt 4 size small in
    let blank : all_blank m (24 + size) 28 ≡ Ok tt =
    let same : 28 - (24 + size) ≡ 4 - size = omega arith in
    let sum : 16 + (8 + size) ≡ 24 + size = omega arith in
    zeros-all_blank m (24 + size) 28 (ap (λ k. slice_range m k 28) (sym sum) ∙ sym (slice_range-drop (8 + size) 12 16 m) ∙ u.blank_is ∙ ap (λ n. replicate n 0) (sym same)) in
    rw (large, is, e.0, true_eq (flags_at 24 m) 1 e.2, enough_ok 24 m (outside_of (start m hs 16)) (omega (arith, e.1)), blank, true_eq (handles_at 24 m) 0 e.1) refl

inlined_done : (size ordinal x : ℕ) (m : List ℕ) (hs : List Handle) → IsInlinedUnion size ordinal x (drop 16 m) hs → 16 ≤ length m → finish_of (passed 16 (start m hs 16)) ≡ Ok tt
inlined_done size ordinal x m hs u header =
    finish_ok (passed 16 (start m hs 16)) refl (blank_union m) (omega (arith, padding_sixteen, u.size_is, length-drop 16 m)) u.handles_are

-- what an inlined branch that was read, to the end of the message, says
pub record TookInlined (size : ℕ) (m : List ℕ) (hs : List Handle) (b : Branch × Cursor) : Type 0 where
  pub spelled : IsInlinedUnion size (number_at 8 16 m) (number_at 4 24 m) (drop 16 m) hs
  pub value : b.0.inlined ≡ Some (number_at 4 24 m)

inlined_envelope : (m : List ℕ) → length m ≡ 32 → flags_at 24 m ≡ 1 → handles_at 24 m ≡ 0 → IsEnvelope (number_at 4 24 m) 0 1 (drop 8 (drop 16 m))
inlined_envelope m long flags none =
    let at : drop 8 (drop 16 m) ≡ drop 24 m = drop-drop 8 16 m in
    rw at (record {
      size_is = omega (arith, length-drop 24 m);
      bytes_are = number_at-drop 4 0 24 m;
      handles_are = number_at-drop 2 4 24 m ∙ none;
      flags_are = number_at-drop 2 6 24 m ∙ flags;
    })

inlined_sound : (size : ℕ) (m : List ℕ) (hs : List Handle) (b : Branch × Cursor) → size ≤ 4 → 32 ≤ length m → branch_of size (start m hs 16) ≡ Ok b → finish_of b.1 ≡ Ok tt → TookInlined size m hs b
unfolding branch_of
inlined_sound size m hs b small room h done =
    let c = start m hs 16 in
    let large : nat_lt 4 size ≡ false = not_lt 4 size small in
    let taken : (inlined_word size 24 c >>= λ value. Ok (record { ordinal = number_at 8 16 m; inlined = Some value }, passed 16 c)) ≡ Ok b = rw large at h in
    let value = bind_ok (inlined_word size 24 c) (λ value. Ok (record { ordinal = number_at 8 16 m; inlined = Some value }, passed 16 c)) b taken in
    let form = check_bind (is_inlined 24 m) (fault 24 Envelope) (λ _. enough_handles 24 m (outside_of c) >>= λ _. all_blank m (24 + size) 28 >>= λ _. check (handles_at 24 m == 0) (fault 24 Envelope) >>= λ _. Ok (number_at 4 24 m)) value.0 value.1 in
    let enough = unit_bind (enough_handles 24 m (outside_of c)) (λ _. all_blank m (24 + size) 28 >>= λ _. check (handles_at 24 m == 0) (fault 24 Envelope) >>= λ _. Ok (number_at 4 24 m)) value.0 form.1 in
    let blank = unit_bind (all_blank m (24 + size) 28) (λ _. check (handles_at 24 m == 0) (fault 24 Envelope) >>= λ _. Ok (number_at 4 24 m)) value.0 enough.1 in
    let counts = check_bind (handles_at 24 m == 0) (fault 24 Envelope) (λ _. Ok (number_at 4 24 m)) value.0 blank.1 in
    let none : handles_at 24 m ≡ 0 = eq_true (handles_at 24 m) 0 counts.0 in
    let is : number_at 4 24 m ≡ value.0 = cc in
    let whole : (record { ordinal = number_at 8 16 m; inlined = Some value.0 }, passed 16 c) ≡ b = cc in
    let f : Finished (passed 16 c) = finish_says (passed 16 c) tt (ap (λ (x : Branch × Cursor). finish_of x.1) whole ∙ done) in
    let long : length m ≡ 32 = omega (arith, f.out, padding_sixteen) in
    let same : 28 - (24 + size) ≡ 4 - size = omega arith in
    let sum : 16 + (8 + size) ≡ 24 + size = omega arith in
    let zeros = all_blank-zeros m (24 + size) 28 tt (omega arith) (omega arith) blank.0 in
    record {
      spelled = record {
        size_is = omega (arith, length-drop 16 m);
        ordinal_is = number_at-drop 8 0 16 m;
        envelope = inlined_envelope m long (eq_true (flags_at 24 m) 1 form.0) none;
        blank_is = slice_range-drop (8 + size) 12 16 m ∙ ap (λ k. slice_range m k 28) sum ∙ zeros ∙ ap (λ n. replicate n 0) same;
        handles_are = length_zero hs f.handles;
      };
      value = sym (ap (λ (x : Branch × Cursor). x.0.inlined) whole) ∙ ap Some (sym is);
    }

-- ---- a branch out of line

abbrev pub opened_by : List ℕ → List Handle → Opened
opened_by m hs = record { at = 24; until = 32 + bytes_at 24 m; left = length hs - handles_at 24 m }

union_part : (m : List ℕ) → slice_range (drop 16 m) 8 16 ≡ take 8 (drop 24 m)
union_part m = ap (take 8) (drop-drop 8 16 m)

-- what the envelope of an object says
record Counts (m : List ℕ) (hs : List Handle) : Type 0 where
  pub flags : flags_at 24 m ≡ 0
  pub bytes : bytes_at 24 m ≡ length (drop 32 m)
  pub handles : handles_at 24 m ≡ length hs

counts_of : (cells : List Cell) (ordinal : ℕ) (xs : List Item) (m : List ℕ) (hs : List Handle) → IsObjectUnion cells ordinal xs (drop 16 m) hs → Counts m hs
counts_of cells ordinal xs m hs u =
    let part : slice_range (drop 16 m) 8 16 ≡ take 8 (drop 24 m) = union_part m in
    record {
      flags = sym (number_at-within 2 6 8 24 m (omega arith)) ∙ ap (number_at 2 6) (sym part) ∙ u.envelope.flags_are;
      bytes = sym (number_at-front 4 8 24 m (omega arith)) ∙ ap (number_at 4 0) (sym part) ∙ u.envelope.bytes_are ∙ ap length (drop-drop 16 16 m);
      handles = sym (number_at-within 2 4 8 24 m (omega arith)) ∙ ap (number_at 2 4) (sym part) ∙ u.envelope.handles_are;
    }

object_behind : (cells : List Cell) (xs : List Item) (m : List ℕ) (hs : List Handle) → IsObject cells xs (drop 16 (drop 16 m)) hs → IsObject cells xs (drop 32 m) hs
object_behind cells xs m hs o = subst (λ (bytes : List ℕ). IsObject cells xs bytes hs) (drop-drop 16 16 m) o

pub within_is : (size : ℕ) (m : List ℕ) (hs : List Handle) → within_branch size 24 (start m hs 16) ≡ before_object m hs 32 size (Some (opened_by m hs))
within_is size m hs = rw padding_sixteen refl

object_enters : (cells : List Cell) (xs : List Item) (m : List ℕ) (hs : List Handle) → 32 ≤ length m → 4 < sizes_of cells → Counts m hs → IsObject cells xs (drop 32 m) hs →
    Enters 24 (sizes_of cells) m (outside_of (start m hs 16))
object_enters cells xs m hs room large counts o =
    let long = length-object cells xs (drop 32 m) hs o in
    let aligned : length (drop 32 m) % 8 ≡ 0 = omega (arith, long, padded-mod (sizes_of cells), aligned-lays cells xs o.part o.lays) in
    record {
      flags = counts.flags;
      some = omega (arith, long, counts.bytes);
      aligned = rw counts.bytes aligned;
      bytes_fit = omega (arith, counts.bytes, padding_sixteen, length-drop 32 m);
      size_fits = omega (arith, long, padding_sixteen, length-drop 32 m);
      enough = omega (arith, counts.handles);
    }

branch_read : (cells : List Cell) (ordinal : ℕ) (xs : List Item) (m : List ℕ) (hs : List Handle) → 16 ≤ length m → IsObjectUnion cells ordinal xs (drop 16 m) hs →
    branch_of (sizes_of cells) (start m hs 16) ≡ Ok (record { ordinal = ordinal; inlined = None }, before_object m hs 32 (sizes_of cells) (Some (opened_by m hs)))
unfolding branch_of
branch_read cells ordinal xs m hs header u =
    let large : nat_lt 4 (sizes_of cells) ≡ true = true_lt 4 (sizes_of cells) u.large in
    let is : number_at 8 16 m ≡ ordinal = sym (number_at-drop 8 0 16 m) ∙ u.ordinal_is in
    let room : 32 ≤ length m = omega (arith, u.size_is, length-drop 16 m) in
    let enters = object_enters cells xs m hs room u.large (counts_of cells ordinal xs m hs u) (object_behind cells xs m hs u.value) in
    rw (large, is, entered_ok 24 (sizes_of cells) m (outside_of (start m hs 16)) enters, blank_union m, within_is (sizes_of cells) m hs) refl

branch_items : (cells : List Cell) (ordinal : ℕ) (xs : List Item) (m : List ℕ) (hs : List Handle) → 16 ≤ length m → IsObjectUnion cells ordinal xs (drop 16 m) hs →
    object_items cells (before_object m hs 32 (sizes_of cells) (Some (opened_by m hs))) ≡ Ok xs
branch_items cells ordinal xs m hs header u =
    let room : 32 ≤ length m = omega (arith, u.size_is, length-drop 16 m) in
    let counts = counts_of cells ordinal xs m hs u in
    object_read cells xs m hs 32 (Some (opened_by m hs)) refl room (object_behind cells xs m hs u.value) (λ c out handles.
    let until : c.out ≡ 32 + bytes_at 24 m = omega (arith, counts.bytes, length-drop 32 m) in
    let left : length c.handles ≡ length hs - handles_at 24 m = omega (arith, ap length handles, counts.handles) in
    rw (true_eq c.out (32 + bytes_at 24 m) until, true_eq (length c.handles) (length hs - handles_at 24 m) left) refl)

-- what an object that was read, to the end of the message, says
object_union : (cells : List Cell) (xs : List Item) (m : List ℕ) (hs : List Handle) → 32 ≤ length m → 4 < sizes_of cells → Enters 24 (sizes_of cells) m (outside_of (start m hs 16)) →
    TookObject cells m hs 32 (Some (opened_by m hs)) xs → IsObjectUnion cells (number_at 8 16 m) xs (drop 16 m) hs
object_union cells xs m hs room large enters t =
    let o = opened_by m hs in
    let whole = both_true (t.last.out == o.until) (length t.last.handles == o.left) (check_ok ((t.last.out == o.until) && (length t.last.handles == o.left)) (fault o.at Envelope) tt t.whole) in
    let until : t.last.out ≡ 32 + bytes_at 24 m = eq_true t.last.out o.until whole.0 in
    let left : length t.last.handles ≡ length hs - handles_at 24 m = eq_true (length t.last.handles) o.left whole.1 in
    let none : length t.last.handles ≡ 0 = ap length t.handles in
    let bytes : bytes_at 24 m ≡ length (drop 32 m) = omega (arith, t.out, length-drop 32 m) in
    let enough : handles_at 24 m ≤ length hs = enters.enough in
    let handles : handles_at 24 m ≡ length hs = omega arith in
    let e = envelope_at 24 m room in
    let behind : drop 16 (drop 16 m) ≡ drop 32 m = drop-drop 16 16 m in
    record {
      large = large;
      size_is = omega (arith, length-drop 16 m);
      ordinal_is = number_at-drop 8 0 16 m;
      envelope = rw (union_part m, behind) (record { size_is = e.size_is; bytes_are = e.bytes_are ∙ bytes; handles_are = e.handles_are ∙ handles; flags_are = e.flags_are ∙ enters.flags });
      value = rw behind t.object;
    }

object_union_sound : (cells : List Cell) (xs : List Item) (b : Branch × Cursor) (m : List ℕ) (hs : List Handle) → 32 ≤ length m → 4 < sizes_of cells → branch_of (sizes_of cells) (start m hs 16) ≡ Ok b →
    object_items cells b.1 ≡ Ok xs → IsObjectUnion cells (number_at 8 16 m) xs (drop 16 m) hs
unfolding branch_of
object_union_sound cells xs b m hs room large h items =
    let c = start m hs 16 in
    let size = sizes_of cells in
    let is_large : nat_lt 4 (sizes_of cells) ≡ true = true_lt 4 (sizes_of cells) large in
    let taken : (object_at (sizes_of cells) 16 c >>= λ within. Ok (record { ordinal = number_at 8 16 m; inlined = None }, within)) ≡ Ok b = rw is_large at h in
    let within = bind_ok (object_at (sizes_of cells) 16 c) (λ within. Ok (record { ordinal = number_at 8 16 m; inlined = None }, within)) b taken in
    let enters = unit_bind (entered 24 (sizes_of cells) m (outside_of c)) (λ _. all_blank m 32 (padded 32) >>= λ _. Ok (within_branch (sizes_of cells) 24 c)) within.0 within.1 in
    let blank = unit_bind (all_blank m 32 (padded 32)) (λ _. Ok (within_branch (sizes_of cells) 24 c)) within.0 enters.1 in
    let e : Enters 24 (sizes_of cells) m (outside_of c) = entered_says 24 (sizes_of cells) m (outside_of c) enters.0 in
    let here : within_branch (sizes_of cells) 24 c ≡ within.0 = cc in
    let whole : (record { ordinal = number_at 8 16 m; inlined = None }, within.0) ≡ b = cc in
    let there : before_object m hs 32 (sizes_of cells) (Some (opened_by m hs)) ≡ b.1 = sym (within_is (sizes_of cells) m hs) ∙ here ∙ ap (λ (x : Branch × Cursor). x.1) whole in
    let fits : 32 + padded (sizes_of cells) ≤ length m = omega (arith, e.size_fits, padding_sixteen) in
    object_union cells xs m hs room large e (object_sound cells xs m hs 32 (Some (opened_by m hs)) refl fits (ap (object_items cells) there ∙ items))

-- ---- all unions

variant_read : (v : Variant) (ordinal : ℕ) (xs : List Item) (m : List ℕ) (hs : List Handle) → 16 ≤ length m → IsVariant v ordinal xs (drop 16 m) hs →
    (variant_items v (start m hs 16) ≡ Ok xs) × (number_at 8 16 m ≡ ordinal) × (32 ≤ length m)
variant_read empty ordinal [] m hs header u =
    (rw (inlined_read 0 ordinal 0 m hs (omega arith) u header, inlined_done 0 ordinal 0 m hs u header) refl, sym (number_at-drop 8 0 16 m) ∙ u.ordinal_is, omega (arith, u.size_is, length-drop 16 m))
variant_read word ordinal (num x ∷ []) m hs header u =
    (rw (inlined_read 4 ordinal x m hs (omega arith) u header, inlined_done 4 ordinal x m hs u header) refl, sym (number_at-drop 8 0 16 m) ∙ u.ordinal_is, omega (arith, u.size_is, length-drop 16 m))
variant_read (object cells) ordinal xs m hs header u = (
  rw (true_lt 4 (sizes_of cells) u.large, branch_read cells ordinal xs m hs header u, branch_items cells ordinal xs m hs header u) refl,
  sym (number_at-drop 8 0 16 m) ∙ u.ordinal_is,
  omega (arith, u.size_is, length-drop 16 m),
)
variant_read _ ordinal xs m hs header u = absurd u

zero_word : number_at 4 0 (replicate 4 0) ≡ 0
unfolding number_at
zero_word = refl

-- an empty value is the number 0
empty_value : (m : List ℕ) (hs : List Handle) (b : Branch × Cursor) → TookInlined 0 m hs b → IsInlinedUnion 0 (number_at 8 16 m) 0 (drop 16 m) hs
empty_value m hs b t =
    let zeros : take 4 (drop 24 m) ≡ replicate 4 0 = ap (take 4) (sym (drop-drop 8 16 m)) ∙ t.spelled.blank_is in
    let zero : number_at 4 24 m ≡ 0 = sym (number_at-front 4 4 24 m (omega arith)) ∙ ap (number_at 4 0) zeros ∙ zero_word in
    subst (λ (x : ℕ). IsInlinedUnion 0 (number_at 8 16 m) x (drop 16 m) hs) zero t.spelled

variant_sound : (v : Variant) (xs : List Item) (m : List ℕ) (hs : List Handle) → 32 ≤ length m → variant_items v (start m hs 16) ≡ Ok xs → IsVariant v (number_at 8 16 m) xs (drop 16 m) hs
variant_sound empty xs m hs room h =
    let taken = bind_ok (branch_of 0 (start m hs 16)) (λ b. finish_of b.1 >>= λ _. Ok []) xs h in
    let done = unit_bind (finish_of taken.0.1) (λ _. Ok []) xs taken.2 in
    let none : [] ≡ xs = cc in
    subst (λ (ys : List Item). IsVariant empty (number_at 8 16 m) ys (drop 16 m) hs) none (empty_value m hs taken.0 (inlined_sound 0 m hs taken.0 (omega arith) room taken.1 done.0))
variant_sound word xs m hs room h =
    let taken = bind_ok (branch_of 4 (start m hs 16)) (λ b. finish_of b.1 >>= λ _. Ok (word_items b.0.inlined)) xs h in
    let done = unit_bind (finish_of taken.0.1) (λ _. Ok (word_items taken.0.0.inlined)) xs taken.2 in
    let t = inlined_sound 4 m hs taken.0 (omega arith) room taken.1 done.0 in
    let is : word_items taken.0.0.inlined ≡ xs = cc in
    let one : num (number_at 4 24 m) ∷ [] ≡ xs = ap word_items (sym t.value) ∙ is in
    subst (λ (ys : List Item). IsVariant word (number_at 8 16 m) ys (drop 16 m) hs) one t.spelled
variant_sound (object cells) xs m hs room h =
    let c = start m hs 16 in
    let large = check_bind (nat_lt 4 (sizes_of cells)) (fault 16 Envelope) (λ _. branch_of (sizes_of cells) c >>= λ b. object_items cells b.1) xs h in
    let taken = bind_ok (branch_of (sizes_of cells) c) (λ b. object_items cells b.1) xs large.1 in
    object_union_sound cells xs taken.0 m hs room (lt_true 4 (sizes_of cells) large.0) taken.1 taken.2

-- ---- bodies

union_read : (variants : List (ℕ × Variant)) (ordinal : ℕ) (xs : List Item) (v : Variant) (m : List ℕ) (hs : List Handle) → 16 ≤ length m → variant_of variants ordinal ≡ Some v →
    IsVariant v ordinal xs (drop 16 m) hs → body_of (union variants) m hs ≡ Ok (branch ordinal xs)
union_read variants ordinal xs v m hs header known u =
    let t = variant_read v ordinal xs m hs header u in
    let room : 16 + padded 16 ≤ length m = omega (arith, padding_sixteen, t.2) in
    rw (start_ok m hs 16 room, ordinal_read m hs, t.1, known, t.0) refl

known_sound : (found : Option Variant) (xs : List Item) (c : Cursor) → known_variant found c ≡ Ok xs → (v : Variant) × (found ≡ Some v) × (variant_items v c ≡ Ok xs)
known_sound None xs c h = absurd (cc)
known_sound (Some v) xs c h = (v, refl, h)

union_sound : (variants : List (ℕ × Variant)) (content : Content) (m : List ℕ) (hs : List Handle) → body_of (union variants) m hs ≡ Ok content → IsSpelled (union variants) content m hs
union_sound variants content m hs h =
    let c = start m hs 16 in
    let room = start_bind m hs 16 (λ c. ordinal_at c >>= λ ordinal. known_variant (variant_of variants ordinal) c >>= λ xs. Ok (branch ordinal xs)) content h in
    let ordinal : (known_variant (variant_of variants (number_at 8 16 m)) c >>= λ xs. Ok (branch (number_at 8 16 m) xs)) ≡ Ok content = rw (ordinal_read m hs) at room.1 in
    let items = bind_ok (known_variant (variant_of variants (number_at 8 16 m)) c) (λ xs. Ok (branch (number_at 8 16 m) xs)) content ordinal in
    let k = known_sound (variant_of variants (number_at 8 16 m)) items.0 c items.1 in
    let fits : 32 ≤ length m = omega (arith, room.0, padding_sixteen) in
    let same : branch (number_at 8 16 m) items.0 ≡ content = cc in
    subst (λ (x : Content). IsSpelled (union variants) x m hs) same (record { header = omega arith; body = (k.0, k.1, variant_sound k.0 items.0 m hs fits k.2) })

-- what is spelled is read
pub spelled_read : (layout : Layout) (content : Content) (m : List ℕ) (hs : List Handle) → IsSpelled layout content m hs → body_of layout m hs ≡ Ok content
spelled_read (struct cells) (fields xs) m hs s = struct_read cells xs m hs s.header s.body
spelled_read (union variants) (branch ordinal xs) m hs s = union_read variants ordinal xs s.body.0 m hs s.header s.body.1 s.body.2
spelled_read _ _ m hs s = absurd s.body

-- what is read is spelled
pub read_spelled : (layout : Layout) (content : Content) (m : List ℕ) (hs : List Handle) → body_of layout m hs ≡ Ok content → IsSpelled layout content m hs
read_spelled (struct cells) content m hs h = struct_sound cells content m hs h
read_spelled (union variants) content m hs h = union_sound variants content m hs h

-- at most one value is spelled
pub spelled_once : (layout : Layout) (a b : Content) (m : List ℕ) (hs : List Handle) → IsSpelled layout a m hs → IsSpelled layout b m hs → a ≡ b
spelled_once layout a b m hs s t =
    let first : body_of layout m hs ≡ Ok a = spelled_read layout a m hs s in
    let second : body_of layout m hs ≡ Ok b = spelled_read layout b m hs t in
    cc
