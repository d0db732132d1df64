-- How long what is written is.
use Rattle.std.proofs.Common.{◌≡◌, ℕ, suc, ◌+◌, ◌*◌, ◌≤◌, ◌==◌, ◌&&◌, if◌then◌else◌, Bool, true, false, nat_le, List, [], ◌∷◌, ◌++◌, length, Option, Some, None, arith}
use Rattle.std.proofs.lemmas.Bool.{and_parts, leb-true}
use Rattle.std.proofs.lemmas.List.{length-append, length-replicate}
use Rattle.fidl_names.specs.Numbers.{number_bytes}
use Rattle.fidl_names.specs.declared.methods.Handle.{Handle}
use Rattle.fidl_wire.specs.Grammar.{Part, nothing, join}
use Rattle.io_messages.specs.Members.{numbers}
use Rattle.fidl_wire.specs.Numbers.{padded}
use Rattle.fidl_wire.specs.Layout.{Member, a_number, a_vector, Cell, Item, Variant, Layout, Content, number, pad, handle, text, vector, table, num, blank, held, seq, members, empty, word, object, struct, union, fields, branch, variant_of}
use Rattle.fidl_wire.specs.Reading.{present_word}
use Rattle.fidl_wire.specs.Spelling.{body_bytes, count_bytes, envelope_bytes, given, handle_part, kept, member_part, members_part, object_bytes, option_bytes, spelling_of, spelling_of_all, table_part, variant_bytes}
use Rattle.fidl_wire.specs.Written.{padded_bytes}
use Rattle.frame_laws.proofs.Written.{items_of, length-count, length-envelope, length-number, length-padded}

-- ---- layouts without large cells

abbrev small_cell : Cell → Bool
small_cell (number size) = nat_le size 16
small_cell (pad size) = nat_le size 16
small_cell _ = true

abbrev small_cells : List Cell → Bool
small_cells [] = true
small_cells (cell ∷ cells) = small_cell cell && small_cells cells

abbrev small_variant : Variant → Bool
small_variant (object cells) = small_cells cells
small_variant _ = true

abbrev small_variants : List (ℕ × Variant) → Bool
small_variants [] = true
small_variants (v ∷ vs) = small_variant v.1 && small_variants vs

-- each number and each padding has few bytes
abbrev pub is_small : Layout → Bool
is_small (struct cells) = small_cells cells
is_small (union variants) = small_variants variants

-- ---- parts

-- how many bytes a member may have, with its envelope
abbrev pub slot_of : Option Member → ℕ
slot_of None = 16
slot_of (Some (a_number x)) = 16
slot_of (Some (a_vector xs)) = 31 + length xs

abbrev pub slots_of : List (Option Member) → ℕ
slots_of [] = 0
slots_of (v ∷ vs) = slot_of v + slots_of vs

-- one that is a number has sixteen
pub numbers_most : (vs : List (Option ℕ)) → slots_of (numbers vs) ≤ 16 * length vs
numbers_most [] = omega arith
numbers_most (None ∷ vs) = omega (arith, numbers_most vs)
numbers_most (Some x ∷ vs) = omega (arith, numbers_most vs)

-- how many bytes an item may have out of line
abbrev pub room_of : Item → ℕ
room_of (num x) = 0
room_of blank = 0
room_of (held h) = 0
room_of (seq xs) = length xs + 7
room_of (members vs) = slots_of vs

abbrev pub rooms_of : List Item → ℕ
rooms_of [] = 0
rooms_of (x ∷ xs) = room_of x + rooms_of xs

record HasSize (p : Part) (inline outside : ℕ) : Type 0 where
  inline_is : length p.inline ≤ inline
  outside_is : length p.outside ≤ outside

joined_size : (p q : Part) (a b c d : ℕ) → HasSize p a b → HasSize q c d → HasSize (join p q) (a + c) (b + d)
joined_size p q a b c d h k = record {
  inline_is = omega (arith, length-append p.inline q.inline, h.inline_is, k.inline_is);
  outside_is = omega (arith, length-append p.outside q.outside, h.outside_is, k.outside_is);
}

no_size : (a b : ℕ) → HasSize nothing a b
no_size a b = record { inline_is = omega arith; outside_is = omega arith }

-- a member takes at most its slot
member_size : (v : Option Member) → length (member_part v).inline + length (member_part v).outside ≤ slot_of v
member_size None = omega (arith, length-number 8 0)
member_size (Some (a_number x)) = omega (arith, length-envelope 8 0 0, length-number 8 x)
member_size (Some (a_vector xs)) =
    omega (arith, length-envelope (16 + padded (length xs)) 0 0, length-append (count_bytes (length xs)) (padded_bytes xs), length-count (length xs), length-padded xs)

members_size : (vs : List (Option Member)) → length (members_part vs).inline + length (members_part vs).outside ≤ slots_of vs
members_size [] = omega arith
members_size (v ∷ vs) =
    omega (arith, member_size v, members_size vs, length-append (member_part v).inline (members_part vs).inline, length-append (member_part v).outside (members_part vs).outside)

kept_most : (v : Option Member) (g : List (Option Member)) → slots_of (kept v g) ≤ slot_of v + slots_of g
kept_most None [] = omega arith
kept_most None (w ∷ g) = omega arith
kept_most (Some x) g = omega arith

given_most : (vs : List (Option Member)) → slots_of (given vs) ≤ slots_of vs
given_most [] = omega arith
given_most (v ∷ vs) = omega (arith, kept_most v (given vs), given_most vs)

table_size : (vs : List (Option Member)) → HasSize (table_part vs) 16 (slots_of vs)
table_size vs = record {
  inline_is = omega (arith, length-count (length (given vs)));
  outside_is = omega (arith, length-append (members_part (given vs)).inline (members_part (given vs)).outside, members_size (given vs), given_most vs);
}

handle_size : (h : Option Handle) → HasSize (handle_part h) 16 0
handle_size None = record { inline_is = omega (arith, length-number 4 0); outside_is = omega arith }
handle_size (Some h) = record { inline_is = omega (arith, length-number 4 present_word); outside_is = omega arith }

list_size : (xs : List ℕ) → HasSize (spelling_of vector (seq xs)) 16 (length xs + 7)
list_size xs = record { inline_is = omega (arith, length-count (length xs)); outside_is = length-padded xs }

cell_size : (cell : Cell) (x : Item) → small_cell cell ≡ true → HasSize (spelling_of cell x) 16 (room_of x)
cell_size (number size) (num x) small = record { inline_is = omega (arith, length-number size x, leb-true size 16 small); outside_is = omega arith }
cell_size (pad size) blank small =
    let zero' : ℕ = 0 in
    record { inline_is = omega (arith, length-replicate size zero', leb-true size 16 small); outside_is = omega arith }
cell_size (handle kind nullable) (held h) small = handle_size h
cell_size text (seq xs) small = list_size xs
cell_size vector (seq xs) small = list_size xs
cell_size (table kinds) (members vs) small = table_size vs
cell_size cell x small = no_size 16 (room_of x)

cells_size : (cells : List Cell) (xs : List Item) → small_cells cells ≡ true → HasSize (spelling_of_all cells xs) (16 * length xs) (rooms_of xs)
cells_size (cell ∷ cells) (x ∷ xs) small =
    let both = and_parts (small_cell cell) (small_cells cells) small in
    let whole = joined_size (spelling_of cell x) (spelling_of_all cells xs) 16 (room_of x) (16 * length xs) (rooms_of xs) (cell_size cell x both.0) (cells_size cells xs both.1) in
    record { inline_is = omega (arith, whole.inline_is); outside_is = whole.outside_is }
cells_size [] xs small = no_size (16 * length xs) (rooms_of xs)
cells_size (cell ∷ cells) [] small = no_size 0 0

-- ---- bodies

-- as many bytes as a body with these items has at most
abbrev pub most_of : List Item → ℕ
most_of xs = 23 + 16 * length xs + rooms_of xs

object_size : (p : Part) (a b : ℕ) → HasSize p a b → length (object_bytes p) ≤ a + 7 + b
object_size p a b h = omega (arith, length-append (padded_bytes p.inline) p.outside, length-padded p.inline, h.inline_is, h.outside_is)

short_union : (ordinal a b c : ℕ) (value : List ℕ) → length (number_bytes 8 ordinal ++ envelope_bytes a b c ++ value) ≡ 16 + length value
short_union ordinal a b c value =
    omega (arith, length-append (number_bytes 8 ordinal ++ envelope_bytes a b c) value, length-append (number_bytes 8 ordinal) (envelope_bytes a b c), length-number 8 ordinal, length-envelope a b c)

variant_size : (v : Variant) (ordinal : ℕ) (xs : List Item) → small_variant v ≡ true → length (variant_bytes v ordinal xs) ≤ most_of xs
variant_size empty ordinal xs small = omega (arith, length-append (number_bytes 8 ordinal) (envelope_bytes 0 0 1), length-number 8 ordinal, length-envelope 0 0 1)
variant_size word ordinal (num x ∷ xs) small = omega (arith, length-append (number_bytes 8 ordinal) (envelope_bytes x 0 1), length-number 8 ordinal, length-envelope x 0 1)
variant_size word ordinal xs small = omega arith
variant_size (object cells) ordinal xs small =
    let part = cells_size cells xs small in
    let value = object_bytes (spelling_of_all cells xs) in
    omega (arith, short_union ordinal (length value) (length (spelling_of_all cells xs).handles) 0 value, object_size (spelling_of_all cells xs) (16 * length xs) (rooms_of xs) part)

option_size : (variants : List (ℕ × Variant)) (ordinal : ℕ) (xs : List Item) → small_variants variants ≡ true → length (option_bytes (variant_of variants ordinal) ordinal xs) ≤ most_of xs
option_size [] ordinal xs small = omega arith
option_size (v ∷ vs) ordinal xs small =
    let both = and_parts (small_variant v.1) (small_variants vs) small in
    by_test (v.0 == ordinal) both.0 (option_size vs ordinal xs both.1) where
      by_test : (b : Bool) → small_variant v.1 ≡ true → length (option_bytes (variant_of vs ordinal) ordinal xs) ≤ most_of xs → length (option_bytes (if b then Some v.1 else variant_of vs ordinal) ordinal xs) ≤ most_of xs
      by_test true first rest = variant_size v.1 ordinal xs first
      by_test false first rest = rest

pub body_size : (layout : Layout) (content : Content) → is_small layout ≡ true → length (body_bytes layout content) ≤ most_of (items_of content)
body_size (struct cells) (fields xs) small =
    let size = object_size (spelling_of_all cells xs) (16 * length xs) (rooms_of xs) (cells_size cells xs small) in
    omega (arith, size)
body_size (union variants) (branch ordinal xs) small = option_size variants ordinal xs small
body_size (struct cells) (branch ordinal xs) small = omega arith
body_size (union variants) (fields xs) small = omega arith
