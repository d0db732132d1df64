-- What the spelling functions give is spelled by the grammar.
use Rattle.std.proofs.Common.{◌≡◌, ℕ, suc, ◌+◌, ◌^◌, ◌<◌, ◌≤◌, inl, subst, Bool, List, [], ◌∷◌, ◌++◌, length, replicate, take, drop, Option, Some, None, refl, sym, ap, ◌∙◌, length-append, append_assoc, lit<, arith}
use Rattle.std.proofs.lemmas.List.{append-nil}
use Rattle.std.proofs.Math.Seq.{drop-append_seam, take-append_seam}
use Rattle.byteorder.specs.Numbers.{length-bytes_low_first, little_number-reads_back}
use Rattle.fidl_names.specs.declared.methods.Handle.{Handle}
use Rattle.fidl_names.specs.Numbers.{number_at, number_bytes}
use Rattle.fidl_wire.specs.declared.kinds.MemberKind.{MemberKind}
use Rattle.fidl_wire.specs.Numbers.{padded}
use Rattle.fidl_wire.specs.Written.{padded_bytes}
use Rattle.fidl_wire.proofs.Padded.{length-padded_bytes}
use Rattle.fidl_wire.specs.Layout.{Cell, Item, Member, a_number, a_vector, Variant, Layout, Content, number, pad, handle, text, vector, table, num, blank, held, seq, members, empty, word, object, struct, union, fields, branch, is_kind, variant_of}
use Rattle.fidl_wire.specs.Reading.{present_word, present_list}
use Rattle.fidl_wire.specs.Grammar.{Part, IsNumber, IsCount, IsList, IsHandle, IsEnvelope, IsNumberMember, IsBytesMember, IsMember, AreMembers, Spells, Lays, IsObject, IsInlinedUnion, IsObjectUnion, IsVariant, SpellsBody, IsSpelled}
use Rattle.fidl_wire.specs.Spelling.{count_bytes, envelope_bytes, member_part, members_part, kept, given, handle_part, list_part_of, spelling_of, spelling_of_all, FitsMember, FitMembers, FitsHandle, Fits, AllFit, object_bytes, variant_bytes, variant_handles, FitsVariant, option_bytes, option_handles, FitsOption, body_bytes, body_handles, FitsBody}

-- ---- numbers

pub length-number_bytes : (size x : ℕ) → length (number_bytes size x) ≡ size
unfolding number_bytes
length-number_bytes size x = length-bytes_low_first 0 size x

-- a number at the front, and one behind other bytes
pub number_front : (size x : ℕ) (rest : List ℕ) → x < 256 ^ size → number_at size 0 (number_bytes size x ++ rest) ≡ x
unfolding number_at number_bytes
number_front size x rest h = little_number-reads_back size x rest h

pub number_alone : (size x : ℕ) → x < 256 ^ size → IsNumber size x (number_bytes size x)
number_alone size x h = record {
  size_is = length-number_bytes size x;
  value_is = ap (number_at size 0) (sym (append-nil (number_bytes size x))) ∙ number_front size x [] h;
}

pub number_behind : (size at : ℕ) (a b : List ℕ) → length a ≡ at → number_at size at (a ++ b) ≡ number_at size 0 b
unfolding number_at
number_behind size at a b h = rw (sym h, drop-append_seam a b) refl

count_spelled : (n : ℕ) → n < 256 ^ 8 → IsCount n (count_bytes n)
count_spelled n h = record {
  size_is = omega (arith, length-append (number_bytes 8 n) (number_bytes 8 present_list), length-number_bytes 8 n, length-number_bytes 8 present_list);
  count_is = number_front 8 n (number_bytes 8 present_list) h;
  mark_is = number_behind 8 8 (number_bytes 8 n) (number_bytes 8 present_list) (length-number_bytes 8 n) ∙ (number_alone 8 present_list (lit< tt)).value_is;
}

envelope_spelled : (bytes handles flags : ℕ) → bytes < 256 ^ 4 → handles < 256 ^ 2 → flags < 256 ^ 2 → IsEnvelope bytes handles flags (envelope_bytes bytes handles flags)
envelope_spelled bytes handles flags a b c =
    let front : length (number_bytes 4 bytes ++ number_bytes 2 handles) ≡ 6 = omega (arith, length-append (number_bytes 4 bytes) (number_bytes 2 handles), length-number_bytes 4 bytes, length-number_bytes 2 handles) in
    let regroup : envelope_bytes bytes handles flags ≡ number_bytes 4 bytes ++ (number_bytes 2 handles ++ number_bytes 2 flags) = append_assoc (number_bytes 4 bytes) (number_bytes 2 handles) (number_bytes 2 flags) in
    record {
      size_is = omega (arith, front, length-append (number_bytes 4 bytes ++ number_bytes 2 handles) (number_bytes 2 flags), length-number_bytes 2 flags);
      bytes_are = ap (number_at 4 0) regroup ∙ number_front 4 bytes (number_bytes 2 handles ++ number_bytes 2 flags) a;
      handles_are = ap (number_at 2 4) regroup ∙ number_behind 2 4 (number_bytes 4 bytes) (number_bytes 2 handles ++ number_bytes 2 flags) (length-number_bytes 4 bytes) ∙ number_front 2 handles (number_bytes 2 flags) b;
      flags_are = number_behind 2 6 (number_bytes 4 bytes ++ number_bytes 2 handles) (number_bytes 2 flags) front ∙ (number_alone 2 flags c).value_is;
    }

-- ---- tables

kept_none : (g : List (Option Member)) → kept None g ≡ [] → g ≡ []
kept_none [] h = refl
kept_none (v ∷ g) h = absurd (cc)

-- where no member is given, each is none
given_none : (vs : List (Option Member)) → given vs ≡ [] → vs ≡ replicate (length vs) None
given_none [] h = refl
given_none (None ∷ vs) h = ap (λ (ws : List (Option Member)). None ∷ ws) (given_none vs (kept_none (given vs) h))
given_none (Some x ∷ vs) h = absurd (cc)

length-fit : (kinds : List MemberKind) (vs : List (Option Member)) → FitMembers kinds vs → length vs ≡ length kinds
length-fit [] [] h = refl
length-fit (k ∷ ks) (None ∷ vs) h = omega (arith, length-fit ks vs h)
length-fit (k ∷ ks) (Some x ∷ vs) h = omega (arith, length-fit ks vs h.1)
length-fit [] (v ∷ vs) h = absurd h
length-fit (k ∷ ks) [] h = absurd h

absent_member : (k : MemberKind) → IsMember k None (member_part None)
absent_member k = inl (record { envelope = number_alone 8 0 (lit< tt); rest = record { outside_is = refl; handles_are = refl } })

number_member : (x : ℕ) → x < 256 ^ 8 → IsNumberMember x (member_part (Some (a_number x)))
number_member x h = record { envelope = envelope_spelled 8 0 0 (lit< tt) (lit< tt) (lit< tt); value = number_alone 8 x h; handles_are = refl }

-- the bytes of an envelope's count are those of a list and its padding
pub length-list_part : (xs : List ℕ) → length (count_bytes (length xs) ++ padded_bytes xs) ≡ 16 + padded (length xs)
length-list_part xs =
    omega (arith, length-append (count_bytes (length xs)) (padded_bytes xs), length-append (number_bytes 8 (length xs)) (number_bytes 8 present_list), length-number_bytes 8 (length xs), length-number_bytes 8 present_list, length-padded_bytes xs)

small_list : (n : ℕ) → 16 + padded n < 256 ^ 4 → n < 256 ^ 8
small_list n h = omega arith

bytes_member : (xs : List ℕ) → 16 + padded (length xs) < 256 ^ 4 → IsBytesMember xs (member_part (Some (a_vector xs)))
bytes_member xs h = record {
  vector = list_part_of xs;
  is_list = record { count = count_spelled (length xs) (small_list (length xs) h); outside_is = refl; handles_are = refl };
  envelope = subst (λ (n : ℕ). IsEnvelope n 0 0 (member_part (Some (a_vector xs))).inline) (sym (length-list_part xs)) (envelope_spelled (16 + padded (length xs)) 0 0 h (lit< tt) (lit< tt));
  outside_is = refl;
  handles_are = refl;
}

given_member : (k : MemberKind) (v : Member) → FitsMember k v → IsMember k (Some v) (member_part (Some v))
given_member k (a_number x) (required, same, small) = (required, same, number_member x small)
given_member k (a_vector xs) (required, same, small) = (required, same, bytes_member xs small)

members_spelled : (kinds : List MemberKind) (vs : List (Option Member)) → FitMembers kinds vs → AreMembers kinds vs (length (given vs)) (members_part (given vs))
members_spelled [] [] h = (refl, refl)
members_spelled (k ∷ ks) (None ∷ vs) h =
    elim (given vs) as (λ g. given vs ≡ g → AreMembers (k ∷ ks) (None ∷ vs) (length (kept None g)) (members_part (kept None g))) [
      | [] ↦ λ none. (ap (λ (ws : List (Option Member)). None ∷ ws) (given_none vs none ∙ ap (λ n. replicate n None) (length-fit ks vs h)), refl)
      | w ∷ ws ↦ λ some. (None, vs, member_part None, members_part (w ∷ ws), refl, absent_member k, subst (λ (g : List (Option Member)). AreMembers ks vs (length g) (members_part g)) some (members_spelled ks vs h), refl)
    ] refl
members_spelled (k ∷ ks) (Some x ∷ vs) h =
    (Some x, vs, member_part (Some x), members_part (given vs), refl, given_member k x h.0, members_spelled ks vs h.1, refl)
members_spelled [] (v ∷ vs) h = absurd h
members_spelled (k ∷ ks) [] h = absurd h

length-kept : (v : Option Member) (g : List (Option Member)) → length (kept v g) ≤ suc (length g)
length-kept None [] = omega arith
length-kept None (w ∷ g) = omega arith
length-kept (Some x) g = omega arith

length-given : (vs : List (Option Member)) → length (given vs) ≤ length vs
length-given [] = omega arith
length-given (v ∷ vs) = omega (arith, length-kept v (given vs), length-given vs)

-- ---- cells

list_spelled : (xs : List ℕ) → length xs < 256 ^ 8 → IsList xs (list_part_of xs)
list_spelled xs h = record { count = count_spelled (length xs) h; outside_is = refl; handles_are = refl }

handle_spelled : (nullable : Bool) (allows : Handle → Bool) (h : Option Handle) → FitsHandle nullable allows h → IsHandle nullable allows h (handle_part h)
handle_spelled nullable allows None f = (f, number_alone 4 0 (lit< tt), record { outside_is = refl; handles_are = refl })
handle_spelled nullable allows (Some h) f = (f, record { mark = number_alone 4 present_word (lit< tt); outside_is = refl; handles_are = refl })

cell_spelled : (cell : Cell) (x : Item) → Fits cell x → Spells cell x (spelling_of cell x)
cell_spelled (number size) (num x) f = (number_alone size x f, record { outside_is = refl; handles_are = refl })
cell_spelled (pad size) blank f = (refl, record { outside_is = refl; handles_are = refl })
cell_spelled (handle kind nullable) (held h) f = handle_spelled nullable (is_kind kind) h f
cell_spelled text (seq xs) f = (f.0, list_spelled xs f.1)
cell_spelled vector (seq xs) f = list_spelled xs f
cell_spelled (table kinds) (members vs) f = record {
  count = length (given vs);
  slots = members_part (given vs);
  head = count_spelled (length (given vs)) (omega (arith, length-given vs, f.0));
  members_are = members_spelled kinds vs f.1;
  required = f.2;
  outside_is = refl;
  handles_are = refl;
}
cell_spelled _ _ f = absurd f

cells_spelled : (cells : List Cell) (xs : List Item) → AllFit cells xs → Lays cells xs (spelling_of_all cells xs)
cells_spelled [] [] f = refl
cells_spelled (cell ∷ cells) (x ∷ xs) f = (spelling_of cell x, spelling_of_all cells xs, cell_spelled cell x f.0, cells_spelled cells xs f.1, refl)
cells_spelled _ _ f = absurd f

-- ---- bodies

object_spelled : (cells : List Cell) (xs : List Item) → AllFit cells xs → IsObject cells xs (object_bytes (spelling_of_all cells xs)) (spelling_of_all cells xs).handles
object_spelled cells xs f = record { part = spelling_of_all cells xs; lays = cells_spelled cells xs f; bytes_are = refl; handles_are = refl }

pub drop-behind : {A : Type 0} → (n : ℕ) (a b : List A) → length a ≡ n → drop n (a ++ b) ≡ b
drop-behind n a b h = rw (sym h) (drop-append_seam a b)

pub take-front : {A : Type 0} → (n : ℕ) (a b : List A) → length a ≡ n → take n (a ++ b) ≡ a
take-front n a b h = rw (sym h) (take-append_seam a b)

pub length-envelope_bytes : (bytes handles flags : ℕ) → length (envelope_bytes bytes handles flags) ≡ 8
length-envelope_bytes bytes handles flags =
    omega (arith, length-append (number_bytes 4 bytes ++ number_bytes 2 handles) (number_bytes 2 flags), length-append (number_bytes 4 bytes) (number_bytes 2 handles), length-number_bytes 4 bytes, length-number_bytes 2 handles, length-number_bytes 2 flags)

zero_bytes : number_bytes 4 0 ≡ replicate 4 0
unfolding number_bytes
zero_bytes = refl

pub length-union : (ordinal bytes handles flags : ℕ) → length (number_bytes 8 ordinal ++ envelope_bytes bytes handles flags) ≡ 16
length-union ordinal bytes handles flags =
    omega (arith, length-append (number_bytes 8 ordinal) (envelope_bytes bytes handles flags), length-number_bytes 8 ordinal, length-envelope_bytes bytes handles flags)

envelope_behind : (ordinal bytes handles flags : ℕ) → drop 8 (number_bytes 8 ordinal ++ envelope_bytes bytes handles flags) ≡ envelope_bytes bytes handles flags
envelope_behind ordinal bytes handles flags = drop-behind 8 (number_bytes 8 ordinal) (envelope_bytes bytes handles flags) (length-number_bytes 8 ordinal)

empty_spelled : (ordinal : ℕ) → ordinal < 256 ^ 8 → IsInlinedUnion 0 ordinal 0 (number_bytes 8 ordinal ++ envelope_bytes 0 0 1) []
empty_spelled ordinal h =
    let front : take 4 (envelope_bytes 0 0 1) ≡ number_bytes 4 0 =
    ap (take 4) (append_assoc (number_bytes 4 0) (number_bytes 2 0) (number_bytes 2 1)) ∙ take-front 4 (number_bytes 4 0) (number_bytes 2 0 ++ number_bytes 2 1) (length-number_bytes 4 0) in
    record {
      size_is = length-union ordinal 0 0 1;
      ordinal_is = number_front 8 ordinal (envelope_bytes 0 0 1) h;
      envelope = subst (λ (e : List ℕ). IsEnvelope 0 0 1 e) (sym (envelope_behind ordinal 0 0 1)) (envelope_spelled 0 0 1 (lit< tt) (lit< tt) (lit< tt));
      blank_is = ap (take 4) (envelope_behind ordinal 0 0 1) ∙ front ∙ zero_bytes;
      handles_are = refl;
    }

word_spelled : (ordinal x : ℕ) → ordinal < 256 ^ 8 → x < 256 ^ 4 → IsInlinedUnion 4 ordinal x (number_bytes 8 ordinal ++ envelope_bytes x 0 1) []
word_spelled ordinal x h fits = record {
  size_is = length-union ordinal x 0 1;
  ordinal_is = number_front 8 ordinal (envelope_bytes x 0 1) h;
  envelope = subst (λ (e : List ℕ). IsEnvelope x 0 1 e) (sym (envelope_behind ordinal x 0 1)) (envelope_spelled x 0 1 fits (lit< tt) (lit< tt));
  blank_is = refl;
  handles_are = refl;
}

object_union_spelled : (cells : List Cell) (ordinal : ℕ) (xs : List Item) → ordinal < 256 ^ 8 → FitsVariant (object cells) xs →
    IsObjectUnion cells ordinal xs (variant_bytes (object cells) ordinal xs) (variant_handles (object cells) xs)
object_union_spelled cells ordinal xs h f =
    let p : Part = spelling_of_all cells xs in
    let value : List ℕ = object_bytes (spelling_of_all cells xs) in
    let n : ℕ = length (object_bytes (spelling_of_all cells xs)) in
    let k : ℕ = length (spelling_of_all cells xs).handles in
    let env : List ℕ = envelope_bytes n k 0 in
    let head : length (number_bytes 8 ordinal ++ env) ≡ 16 = length-union ordinal n k 0 in
    let behind : drop 16 (number_bytes 8 ordinal ++ env ++ value) ≡ value = drop-behind 16 (number_bytes 8 ordinal ++ env) value head in
    let regroup : number_bytes 8 ordinal ++ env ++ value ≡ number_bytes 8 ordinal ++ (env ++ value) = append_assoc (number_bytes 8 ordinal) env value in
    let middle : take 8 (drop 8 (number_bytes 8 ordinal ++ env ++ value)) ≡ env =
    ap (λ bytes. take 8 (drop 8 bytes)) regroup ∙ ap (take 8) (drop-behind 8 (number_bytes 8 ordinal) (env ++ value) (length-number_bytes 8 ordinal)) ∙ take-front 8 env value (length-envelope_bytes n k 0) in
    let counts : IsEnvelope n k 0 (take 8 (drop 8 (number_bytes 8 ordinal ++ env ++ value))) =
    subst (λ (e : List ℕ). IsEnvelope n k 0 e) (sym middle) (envelope_spelled n k 0 f.2 f.3 (lit< tt)) in
    record {
      large = f.1;
      size_is = omega (arith, head, length-append (number_bytes 8 ordinal ++ env) value);
      ordinal_is = ap (number_at 8 0) regroup ∙ number_front 8 ordinal (env ++ value) h;
      envelope = subst (λ (bytes : List ℕ). IsEnvelope (length bytes) k 0 (take 8 (drop 8 (number_bytes 8 ordinal ++ env ++ value)))) (sym behind) counts;
      value = subst (λ (bytes : List ℕ). IsObject cells xs bytes p.handles) (sym behind) (object_spelled cells xs f.0);
    }

variant_spelled : (v : Variant) (ordinal : ℕ) (xs : List Item) → ordinal < 256 ^ 8 → FitsVariant v xs → IsVariant v ordinal xs (variant_bytes v ordinal xs) (variant_handles v xs)
variant_spelled empty ordinal [] h f = empty_spelled ordinal h
variant_spelled word ordinal (num x ∷ []) h f = word_spelled ordinal x h f
variant_spelled (object cells) ordinal xs h f = object_union_spelled cells ordinal xs h f
variant_spelled _ ordinal xs h f = absurd f

option_spelled : (found : Option Variant) (ordinal : ℕ) (xs : List Item) → ordinal < 256 ^ 8 → FitsOption found xs →
    (v : Variant) × (found ≡ Some v) × IsVariant v ordinal xs (option_bytes found ordinal xs) (option_handles found xs)
option_spelled None ordinal xs h f = absurd f
option_spelled (Some v) ordinal xs h f = (v, refl, variant_spelled v ordinal xs h f)

body_spelled : (layout : Layout) (content : Content) → FitsBody layout content → SpellsBody layout content (body_bytes layout content) (body_handles layout content)
body_spelled (struct cells) (fields xs) f = object_spelled cells xs f
body_spelled (union variants) (branch ordinal xs) f = option_spelled (variant_of variants ordinal) ordinal xs f.0 f.1
body_spelled _ _ f = absurd f

-- behind any header
pub message_spelled : (layout : Layout) (content : Content) (header : List ℕ) → length header ≡ 16 → FitsBody layout content →
    IsSpelled layout content (header ++ body_bytes layout content) (body_handles layout content)
message_spelled layout content header size f = record {
  header = omega (arith, length-append header (body_bytes layout content));
  body = subst (λ (bytes : List ℕ). SpellsBody layout content bytes (body_handles layout content)) (sym (drop-behind 16 header (body_bytes layout content) size)) (body_spelled layout content f);
}
