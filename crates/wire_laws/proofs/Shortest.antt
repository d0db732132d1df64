-- No bytes that spell a value are fewer than its spelling, whose envelopes of absent members are zero.
use Rattle.std.proofs.Common.{◌≡◌, ℕ, zero, suc, ◌+◌, ◌*◌, ◌<◌, ◌≤◌, inl, inr, List, [], ◌∷◌, ◌++◌, length, replicate, take, drop, get_or, Option, Some, None, refl, sym, ap, ◌∙◌, length-append, length-drop, arith}
use Rattle.std.proofs.lemmas.List.{drop-drop, drop-append-le, take-append-le, length-replicate}
use Rattle.std.specs.Prelude.{slice_range}
use Rattle.fidl_names.specs.declared.methods.Handle.{Handle}
use Rattle.fidl_names.specs.Numbers.{number_bytes}
use Rattle.fidl_wire.specs.declared.kinds.MemberKind.{MemberKind}
use Rattle.fidl_wire.specs.Numbers.{padded}
use Rattle.fidl_wire.specs.Layout.{Cell, Item, Member, a_number, a_vector, Variant, Layout, Content, number, pad, handle, text, vector, table, num, blank, held, seq, members, empty, word, object, struct, union, fields, branch, size_of, sizes_of, variant_of}
use Rattle.fidl_wire.specs.Reading.{present_word, present_list}
use Rattle.fidl_wire.specs.Grammar.{Part, IsMember, AreMembers, Spells, Lays, IsObject, IsVariant, SpellsBody, IsSpelled}
use Rattle.fidl_wire.specs.Spelling.{count_bytes, envelope_bytes, member_part, members_part, kept, given, table_part, spelling_of, spelling_of_all, object_bytes, variant_bytes, option_bytes, body_bytes}
use Rattle.fidl_wire.specs.Written.{padded_bytes}
use Rattle.fidl_wire.proofs.Padded.{length-padded_bytes}
use Rattle.wire_laws.proofs.Objects.{length-lays}
use Rattle.wire_laws.proofs.Slices.{slice_range-at}
use Rattle.wire_laws.proofs.Spelled.{length-number_bytes, length-envelope_bytes, length-list_part, length-union, drop-behind, take-front}

-- ---- tables

-- what a member takes: its envelope, and what it has
abbrev slot_of : Option Member → ℕ
slot_of None = 8
slot_of (Some (a_number x)) = 16
slot_of (Some (a_vector xs)) = 24 + padded (length xs)

abbrev slots_of : List (Option Member) → ℕ
slots_of [] = 0
slots_of (v ∷ vs) = slot_of v + slots_of vs

length-slot : (v : Option Member) → length (member_part v).inline ≡ 8
length-slot None = length-number_bytes 8 0
length-slot (Some (a_number x)) = length-envelope_bytes 8 0 0
length-slot (Some (a_vector xs)) = length-envelope_bytes (16 + padded (length xs)) 0 0

length-held : (v : Option Member) → 8 + length (member_part v).outside ≡ slot_of v
length-held None = refl
length-held (Some (a_number x)) = ap (λ (n : ℕ). 8 + n) (length-number_bytes 8 x)
length-held (Some (a_vector xs)) = omega (arith, length-list_part xs)

length-slots : (vs : List (Option Member)) → length (members_part vs).inline + length (members_part vs).outside ≡ slots_of vs
length-slots [] = refl
length-slots (v ∷ vs) =
    omega (arith, length-append (member_part v).inline (members_part vs).inline, length-append (member_part v).outside (members_part vs).outside, length-slot v, length-held v, length-slots vs)

length-inlines : (vs : List (Option Member)) → length (members_part vs).inline ≡ 8 * length vs
length-inlines [] = refl
length-inlines (v ∷ vs) = omega (arith, length-append (member_part v).inline (members_part vs).inline, length-slot v, length-inlines vs)

-- a member takes at least that
member_least : (k : MemberKind) (v : Option Member) (p : Part) → IsMember k v p → slot_of v ≤ length p.inline + length p.outside
member_least k None p (inl absent) = omega (arith, absent.envelope.size_is)
member_least k None p (inr unknown) = elim unknown.1 [ inl short ↦ omega (arith, short.envelope.size_is) | inr long ↦ omega (arith, long.envelope.size_is) ]
member_least k (Some (a_number x)) p n = omega (arith, n.2.envelope.size_is, n.2.value.size_is)
member_least k (Some (a_vector xs)) p n =
    let b = n.2 in
    omega (arith, b.envelope.size_is, ap length b.outside_is, length-append b.vector.inline b.vector.outside, b.is_list.count.size_is, ap length b.is_list.outside_is, length-padded_bytes xs)

kept_least : (v : Option Member) (g : List (Option Member)) → slots_of (kept v g) ≤ slot_of v + slots_of g
kept_least None [] = omega arith
kept_least None (w ∷ g) = omega arith
kept_least (Some x) g = omega arith

given_of_none : (n : ℕ) → given {V = Member} (replicate n None) ≡ []
given_of_none zero = refl
given_of_none (suc n) = ap (kept None) (given_of_none n)

members_least : (kinds : List MemberKind) (vs : List (Option Member)) (n : ℕ) (p : Part) → AreMembers kinds vs n p → slots_of (given vs) ≤ length p.inline + length p.outside
members_least kinds vs zero p h =
    let none : slots_of (given vs) ≡ 0 = ap slots_of (ap given h.0 ∙ given_of_none (length kinds)) in omega (arith, none)
members_least [] vs (suc n) p (v, ws, first, rest, e, member, others, same) =
    let there : slots_of (given vs) ≡ slots_of (given ws) = ap (λ (xs : List (Option Member)). slots_of (given xs)) e in
    omega (arith, there, members_least [] ws n rest others, ap (λ (q : Part). length q.inline) same, ap (λ (q : Part). length q.outside) same, length-append first.inline rest.inline, length-append first.outside rest.outside)
members_least (k ∷ ks) vs (suc n) p (v, ws, first, rest, e, member, others, same) =
    let there : slots_of (given vs) ≡ slots_of (kept v (given ws)) = ap (λ (xs : List (Option Member)). slots_of (given xs)) e in
    omega (arith, there, kept_least v (given ws), member_least k v first member, members_least ks ws n rest others, ap (λ (q : Part). length q.inline) same, ap (λ (q : Part). length q.outside) same, length-append first.inline rest.inline, length-append first.outside rest.outside)

zero_bytes : number_bytes 8 0 ≡ replicate 8 0
unfolding number_bytes
zero_bytes = refl

slot_zero : (vs : List (Option Member)) (k : ℕ) → k < length vs → get_or vs k None ≡ None → take 8 (drop (8 * k) (members_part vs).inline) ≡ replicate 8 0
slot_zero [] k below none = absurd (omega arith)
slot_zero (v ∷ vs) zero below none =
    ap (λ (w : Option Member). take 8 ((member_part w).inline ++ (members_part vs).inline)) none
    ∙ take-front 8 (number_bytes 8 0) (members_part vs).inline (length-number_bytes 8 0) ∙ zero_bytes
slot_zero (v ∷ vs) (suc k) below none =
    let at : 8 * suc k ≡ 8 + 8 * k = omega arith in
    let whole = (member_part v).inline ++ (members_part vs).inline in
    ap (λ (n : ℕ). take 8 (drop n whole)) at
    ∙ ap (take 8) (sym (drop-drop (8 * k) 8 whole))
    ∙ ap (λ (xs : List ℕ). take 8 (drop (8 * k) xs)) (drop-behind 8 (member_part v).inline (members_part vs).inline (length-slot v))
    ∙ slot_zero vs k (omega arith) none

pub absent_zero : (values : List (Option Member)) (k : ℕ) → k < length (given values) → get_or (given values) k None ≡ None → slice_range (table_part values).outside (8 * k) (8 * k + 8) ≡ replicate 8 0
absent_zero values k below none =
    let slots = members_part (given values) in
    let front : 8 * k + 8 ≤ length slots.inline = omega (arith, length-inlines (given values)) in
    let rest : 8 ≤ length (drop (8 * k) slots.inline) = omega (arith, length-drop (8 * k) slots.inline) in
    slice_range-at (slots.inline ++ slots.outside) (8 * k) 8
    ∙ ap (take 8) (drop-append-le (8 * k) slots.inline slots.outside (omega arith))
    ∙ take-append-le 8 (drop (8 * k) slots.inline) slots.outside rest
    ∙ slot_zero (given values) k below none

-- ---- cells

length-count : (n : ℕ) → length (count_bytes n) ≡ 16
length-count n = omega (arith, length-append (number_bytes 8 n) (number_bytes 8 present_list), length-number_bytes 8 n, length-number_bytes 8 present_list)

cell_inline : (cell : Cell) (x : Item) (p : Part) → Spells cell x p → length (spelling_of cell x).inline ≡ size_of cell
cell_inline (number size) (num x) p s = length-number_bytes size x
cell_inline (pad size) blank p s = length-replicate {A = ℕ} size 0
cell_inline (handle kind nullable) (held None) p s = length-number_bytes 4 0
cell_inline (handle kind nullable) (held (Some h)) p s = length-number_bytes 4 present_word
cell_inline text (seq xs) p s = length-count (length xs)
cell_inline vector (seq xs) p s = length-count (length xs)
cell_inline (table kinds) (members vs) p s = length-count (length (given vs))
cell_inline _ _ p s = absurd s

cell_least : (cell : Cell) (x : Item) (p : Part) → Spells cell x p → length (spelling_of cell x).outside ≤ length p.outside
cell_least (number size) (num x) p s = omega arith
cell_least (pad size) blank p s = omega arith
cell_least (handle kind nullable) (held None) p s = omega arith
cell_least (handle kind nullable) (held (Some h)) p s = omega arith
cell_least text (seq xs) p s = omega (arith, ap length s.1.outside_is)
cell_least vector (seq xs) p s = omega (arith, ap length s.outside_is)
cell_least (table kinds) (members vs) p s =
    let slots = members_part (given vs) in
    omega (arith, ap length s.outside_is, length-append s.slots.inline s.slots.outside, length-append slots.inline slots.outside, length-slots (given vs), members_least kinds vs s.count s.slots s.members_are)
cell_least _ _ p s = absurd s

cells_inline : (cells : List Cell) (xs : List Item) (p : Part) → Lays cells xs p → length (spelling_of_all cells xs).inline ≡ sizes_of cells
cells_inline [] [] p h = refl
cells_inline (cell ∷ cells) (x ∷ xs) p (first, rest, spells, lays, same) =
    omega (arith, length-append (spelling_of cell x).inline (spelling_of_all cells xs).inline, cell_inline cell x first spells, cells_inline cells xs rest lays)
cells_inline _ _ p h = absurd h

cells_least : (cells : List Cell) (xs : List Item) (p : Part) → Lays cells xs p → length (spelling_of_all cells xs).outside ≤ length p.outside
cells_least [] [] p h = omega arith
cells_least (cell ∷ cells) (x ∷ xs) p (first, rest, spells, lays, same) =
    omega (arith, length-append (spelling_of cell x).outside (spelling_of_all cells xs).outside, cell_least cell x first spells, cells_least cells xs rest lays, ap (λ (q : Part). length q.outside) same, length-append first.outside rest.outside)
cells_least _ _ p h = absurd h

-- ---- bodies

object_least : (cells : List Cell) (xs : List Item) (bytes : List ℕ) (handles : List Handle) → IsObject cells xs bytes handles → length (object_bytes (spelling_of_all cells xs)) ≤ length bytes
object_least cells xs bytes handles o =
    let q = spelling_of_all cells xs in
    let same : length q.inline ≡ length o.part.inline = cells_inline cells xs o.part o.lays ∙ sym (length-lays cells xs o.part o.lays) in
    omega (arith, ap length o.bytes_are, length-append (padded_bytes q.inline) q.outside, length-append (padded_bytes o.part.inline) o.part.outside, length-padded_bytes q.inline, length-padded_bytes o.part.inline, ap padded same, cells_least cells xs o.part o.lays)

variant_least : (v : Variant) (ordinal : ℕ) (xs : List Item) (bytes : List ℕ) (handles : List Handle) → IsVariant v ordinal xs bytes handles → length (variant_bytes v ordinal xs) ≤ length bytes
variant_least empty ordinal [] bytes handles u = omega (arith, u.size_is, length-union ordinal 0 0 1)
variant_least word ordinal (num x ∷ []) bytes handles u = omega (arith, u.size_is, length-union ordinal x 0 1)
variant_least (object cells) ordinal xs bytes handles u =
    let value : List ℕ = object_bytes (spelling_of_all cells xs) in
    let n : ℕ = length (object_bytes (spelling_of_all cells xs)) in
    let k : ℕ = length (spelling_of_all cells xs).handles in
    omega (arith, u.size_is, length-drop 16 bytes, object_least cells xs (drop 16 bytes) handles u.value, length-append (number_bytes 8 ordinal ++ envelope_bytes n k 0) value, length-union ordinal n k 0)
variant_least _ ordinal xs bytes handles u = absurd u

option_least : (found : Option Variant) (v : Variant) (ordinal : ℕ) (xs : List Item) (bytes : List ℕ) (handles : List Handle) → found ≡ Some v → IsVariant v ordinal xs bytes handles →
    length (option_bytes found ordinal xs) ≤ length bytes
option_least found v ordinal xs bytes handles e u = rw e (variant_least v ordinal xs bytes handles u)

body_least : (layout : Layout) (content : Content) (bytes : List ℕ) (handles : List Handle) → SpellsBody layout content bytes handles → length (body_bytes layout content) ≤ length bytes
body_least (struct cells) (fields xs) bytes handles o = object_least cells xs bytes handles o
body_least (union variants) (branch ordinal xs) bytes handles (v, e, u) = option_least (variant_of variants ordinal) v ordinal xs bytes handles e u
body_least _ _ bytes handles h = absurd h

pub spelled_least : (layout : Layout) (content : Content) (message : List ℕ) (handles : List Handle) → IsSpelled layout content message handles → length (body_bytes layout content) ≤ length (drop 16 message)
spelled_least layout content message handles s = body_least layout content (drop 16 message) handles s.body
