-- Reading a message from front to back: each cell's item, or the first fault with its offset.
use Rattle.std.specs.Prelude.{ℕ, zero, suc, ◌+◌, ◌-◌, ◌*◌, ◌%◌, max, Bool, true, false, not, ◌&&◌, ◌||◌, List, [], ◌∷◌, length, drop, slice_range, replicate, Option, Some, None, Result, Ok, Err, nat_lt, nat_le, ◌==◌, if◌then◌else◌}
use Rattle.std.specs.List.{position}
use Rattle.std.specs.Str.{is_utf8}
use Rattle.fidl_names.specs.declared.methods.Handle.{Handle}
use Rattle.fidl_wire.specs.declared.reading.Opened.{Opened}
use Rattle.fidl_wire.specs.declared.reading.Branch.{Branch}
use Rattle.fidl_wire.specs.declared.reading.Outside.{Outside}
use Rattle.fidl_wire.specs.declared.faults.WireFault.{WireFault}
use Rattle.fidl_wire.specs.declared.kinds.HandleKind.{HandleKind}
use Rattle.fidl_wire.specs.declared.kinds.MemberKind.{MemberKind}
use Rattle.fidl_wire.specs.declared.kinds.MemberKind.TheVariants as kind
use Rattle.fidl_wire.specs.declared.faults.WireWhat.TheVariants.{Short, Padding, Presence, Count, Utf8, Envelope, Ordinal, Handles, Trailing}
use Rattle.fidl_names.specs.Numbers.{number_at}
use Rattle.fidl_wire.specs.Numbers.{padded}
use Rattle.fidl_wire.specs.Headers.{fault}
use Rattle.fidl_wire.specs.Layout.{Cell, Item, Member, Variant, Layout, Content, empty, word, object, struct, union, fields, branch, sizes_of, variant_of, number, pad, handle, text, vector, table, a_number, a_vector, num, blank, held, seq, members, is_kind, next_kind, later, with_member, has_required}
use Rattle.fidl_wire.specs.Cursor.{Cursor, outside_of, start_of}

infixl 10 ◌>>=◌
abbrev pub ◌>>=◌ : {A B : Type 0} → Result A WireFault → (A → Result B WireFault) → Result B WireFault
(Ok x) >>= f = f x
(Err e) >>= f = Err e

-- what was read, and where reading goes on; or the first fault
abbrev pub Step : Type 0 → Type 0
Step X = Result (X × Cursor) WireFault

-- a test, with the fault where it fails
abbrev pub check : Bool → WireFault → Result (Unit {0}) WireFault
check passed e = if passed then Ok tt else Err e

-- ---- inline bytes

-- where the next so many inline bytes begin
abbrev pub inline_at : ℕ → Cursor → Result ℕ WireFault
inline_at size c =
    if nat_lt c.end (c.place + size) then Err (fault (length c.message) Short) else Ok c.place

-- behind them
abbrev pub passed : ℕ → Cursor → Cursor
passed size c = record c { place = c.place + size }

-- the bytes from one place to another are zero: the fault is at the first that isn't
abbrev pub blank_or : ℕ → Option ℕ → Result (Unit {0}) WireFault
blank_or from None = Ok tt
blank_or from (Some i) = Err (fault (from + i) Padding)

unfoldable pub all_blank : List ℕ → ℕ → ℕ → Result (Unit {0}) WireFault
all_blank message from until = blank_or from (position (λ byte. not (byte == 0)) (slice_range message from until))

abbrev pub number_cell : ℕ → Cursor → Step ℕ
number_cell size c = inline_at size c >>= λ at. Ok (number_at size at c.message, passed size c)

abbrev pub pad_cell : ℕ → Cursor → Step (Unit {0})
pad_cell size c = inline_at size c >>= λ at. all_blank c.message at (at + size) >>= λ _. Ok (tt, passed size c)

-- ---- handles

-- the first handle that is left, which has to be of this kind
abbrev pub next_handle : HandleKind → ℕ → List Handle → Cursor → Step (Option Handle)
next_handle kind at [] c = Err (fault at Handles)
next_handle kind at (h ∷ hs) c =
    if is_kind kind h then Ok (Some h, record c { handles = hs }) else Err (fault at Handles)

-- the word of a handle that is present, and the number that says that a list is
abbrev pub present_word : ℕ
present_word = 0xffff_ffff

abbrev pub present_list : ℕ
present_list = 0xffff_ffff_ffff_ffff

abbrev pub handle_word : HandleKind → Bool → ℕ → ℕ → Cursor → Step (Option Handle)
handle_word kind nullable at mark c =
    if mark == present_word then next_handle kind at c.handles (passed 4 c)
    else if (mark == 0) && nullable then Ok (None, passed 4 c)
    else Err (fault at Presence)

abbrev pub handle_cell : HandleKind → Bool → Cursor → Step (Option Handle)
handle_cell kind nullable c =
    inline_at 4 c >>= λ at. handle_word kind nullable at (number_at 4 at c.message) c

-- ---- strings and vectors

-- the count of a list, which has to be present
abbrev pub count_at : ℕ → Cursor → Result ℕ WireFault
count_at at c =
    check (number_at 8 (at + 8) c.message == present_list) (fault at Presence) >>= λ _. Ok (number_at 8 at c.message)

-- that many bytes out of line, and their padding
abbrev pub list_part : ℕ → ℕ → Cursor → List ℕ
list_part at count c = slice_range c.message c.out (c.out + count)

abbrev pub list_at : Bool → ℕ → ℕ → Cursor → Step (List ℕ)
list_at is_text at count c =
    check (nat_le (c.out + padded count) (length c.message)) (fault at Count)
    >>= λ _. check (not is_text || is_utf8 (list_part at count c)) (fault at Utf8)
    >>= λ _. all_blank c.message (c.out + count) (c.out + padded count)
    >>= λ _. Ok (list_part at count c, record (passed 16 c) { out = c.out + padded count })

abbrev pub list_cell : Bool → Cursor → Step (List ℕ)
list_cell is_text c = inline_at 16 c >>= λ at. count_at at c >>= λ count. list_at is_text at count c

-- ---- envelopes

-- the fields of the envelope at a place
abbrev pub bytes_at : ℕ → List ℕ → ℕ
bytes_at at message = number_at 4 at message

abbrev pub handles_at : ℕ → List ℕ → ℕ
handles_at at message = number_at 2 (at + 4) message

abbrev pub flags_at : ℕ → List ℕ → ℕ
flags_at at message = number_at 2 (at + 6) message

abbrev pub is_absent : ℕ → List ℕ → Bool
is_absent at message = number_at 8 at message == 0

-- its value stands in its first four bytes
abbrev pub is_inlined : ℕ → List ℕ → Bool
is_inlined at message = flags_at at message == 1

-- its value stands out of line
abbrev pub is_outside : ℕ → List ℕ → Bool
is_outside at message = (flags_at at message == 0) && not (bytes_at at message == 0) && (bytes_at at message % 8 == 0)

-- as many handles are left as it counts
abbrev pub enough_handles : ℕ → List ℕ → Outside → Result (Unit {0}) WireFault
enough_handles at message o = check (nat_le (handles_at at message) o.left) (fault at Handles)

-- the tests of an envelope whose value, of at least so many bytes, stands out of line
abbrev pub entered : ℕ → ℕ → List ℕ → Outside → Result (Unit {0}) WireFault
entered at size message o =
    check (is_outside at message) (fault at Envelope)
    >>= λ _. check (nat_le (o.out + max (bytes_at at message) (padded size)) (length message)) (fault at Envelope)
    >>= λ _. enough_handles at message o

-- ---- tables

-- a member that is passed by its counts
abbrev pub skipped : ℕ → List ℕ → Outside → Result Outside WireFault
skipped at message o =
    if is_inlined at message
    then (enough_handles at message o >>= λ _. Ok (record o { left = o.left - handles_at at message }))
    else (entered at 0 message o >>= λ _. Ok (record { out = o.out + bytes_at at message; left = o.left - handles_at at message }))

-- a member's value, and what lies behind it
abbrev pub MemberStep : Type 0
MemberStep = Result (Option Member × Outside) WireFault

-- a member that is a number of eight bytes
abbrev pub number_member : ℕ → List ℕ → Outside → MemberStep
number_member at message o =
    entered at 8 message o
    >>= λ _. check ((bytes_at at message == 8) && (handles_at at message == 0)) (fault at Envelope)
    >>= λ _. Ok (Some (a_number (number_at 8 o.out message)), record o { out = o.out + 8 })

-- before a list that stands behind what was read so far
abbrev pub before_list : List ℕ → ℕ → Cursor
before_list message out = record { message = message; handles = []; place = out; end = out + 16; out = out + 16; opened = None }

-- a member that is a vector of bytes: the list, and then what its envelope counts
abbrev pub bytes_member : ℕ → List ℕ → Outside → MemberStep
bytes_member at message o =
    entered at 16 message o
    >>= λ _. list_cell false (before_list message o.out)
    >>= λ list. check ((o.out + bytes_at at message == list.1.out) && (handles_at at message == 0)) (fault at Envelope)
    >>= λ _. Ok (Some (a_vector list.0), record o { out = list.1.out })

-- a member that is there
abbrev pub present_member : MemberKind → ℕ → List ℕ → Outside → MemberStep
present_member kind.Unknown at message o = skipped at message o >>= λ rest. Ok (None, rest)
present_member (kind.Number required) at message o = number_member at message o
present_member (kind.Bytes required) at message o = bytes_member at message o

unfoldable pub member_at : MemberKind → ℕ → List ℕ → Outside → MemberStep
member_at k at message o = if is_absent at message then Ok (None, o) else present_member k at message o

-- the members of so many envelopes, the first of them at a place
abbrev pub members_at : List MemberKind → ℕ → ℕ → List ℕ → Outside → Result (List (Option Member) × Outside) WireFault
members_at kinds at zero message o = Ok (replicate (length kinds) None, o)
members_at kinds at (suc n) message o =
    member_at (next_kind kinds) at message o
    >>= λ first. members_at (later kinds) (at + 8) n message first.1
    >>= λ rest. Ok (with_member kinds first.0 rest.0, rest.1)

-- a table's envelopes, and behind them what they hold; then each member that has to be there is
abbrev pub table_at : List MemberKind → ℕ → ℕ → Cursor → Step (List (Option Member))
table_at kinds at count c =
    check (nat_le (c.out + 8 * count) (length c.message)) (fault at Count)
    >>= λ _. members_at kinds c.out count c.message (record { out = c.out + 8 * count; left = length c.handles })
    >>= λ m. check (has_required kinds m.0) (fault at Envelope)
    >>= λ _. Ok (m.0, record (passed 16 c) { out = m.1.out; handles = drop (length c.handles - m.1.left) c.handles })

abbrev pub table_cell : List MemberKind → Cursor → Step (List (Option Member))
table_cell kinds c = inline_at 16 c >>= λ at. count_at at c >>= λ count. table_at kinds at count c

-- ---- cells

-- what is read in a cell
unfoldable pub cell_at : Cell → Cursor → Step Item
cell_at (number size) c = number_cell size c >>= λ x. Ok (num x.0, x.1)
cell_at (pad size) c = pad_cell size c >>= λ x. Ok (blank, x.1)
cell_at (handle kind nullable) c = handle_cell kind nullable c >>= λ x. Ok (held x.0, x.1)
cell_at text c = list_cell true c >>= λ x. Ok (seq x.0, x.1)
cell_at vector c = list_cell false c >>= λ x. Ok (seq x.0, x.1)
cell_at (table kinds) c = table_cell kinds c >>= λ x. Ok (members x.0, x.1)

-- ---- unions

-- the word in an envelope; the bytes behind the value's so many are padding
abbrev pub inlined_word : ℕ → ℕ → Cursor → Result ℕ WireFault
inlined_word size at c =
    check (is_inlined at c.message) (fault at Envelope)
    >>= λ _. enough_handles at c.message (outside_of c)
    >>= λ _. all_blank c.message (at + size) (at + 4)
    >>= λ _. check (handles_at at c.message == 0) (fault at Envelope)
    >>= λ _. Ok (number_at 4 at c.message)

-- before an object of so many bytes, the value of the envelope at a place
abbrev pub within_branch : ℕ → ℕ → Cursor → Cursor
within_branch size e c = record {
  message = c.message;
  handles = c.handles;
  place = c.out;
  end = c.out + size;
  out = c.out + padded size;
  opened = Some (record { at = e; until = c.out + bytes_at e c.message; left = length c.handles - handles_at e c.message });
}

-- the branch of the union at a place, where that is out of line; behind the object that has the union stands padding
abbrev pub object_at : ℕ → ℕ → Cursor → Result Cursor WireFault
object_at size at c =
    entered (at + 8) size c.message (outside_of c)
    >>= λ _. all_blank c.message c.end (padded c.end)
    >>= λ _. Ok (within_branch size (at + 8) c)

-- a union whose branch has so many bytes: at most four stand in the envelope
abbrev pub branch_at : ℕ → ℕ → ℕ → Cursor → Step Branch
branch_at size at ordinal c =
    if nat_lt 4 size
    then (object_at size at c >>= λ within. Ok (record { ordinal = ordinal; inlined = None }, within))
    else (inlined_word size (at + 8) c >>= λ value. Ok (record { ordinal = ordinal; inlined = Some value }, passed 16 c))

unfoldable pub branch_of : ℕ → Cursor → Step Branch
branch_of size c = inline_at 16 c >>= λ at. branch_at size at (number_at 8 at c.message) c

-- which branch a union has
unfoldable pub ordinal_at : Cursor → Result ℕ WireFault
ordinal_at c = inline_at 16 c >>= λ at. Ok (number_at 8 at c.message)

-- ---- the end

-- where a branch is read, its value took what its envelope counts
abbrev pub is_whole : Cursor → Opened → Bool
is_whole c o = (c.out == o.until) && (length c.handles == o.left)

abbrev pub closed : Option Opened → Cursor → Result (Unit {0}) WireFault
closed None c = Ok tt
closed (Some o) c = check (is_whole c o) (fault o.at Envelope)

-- the end of a message: the branch's envelope, the padding behind the object, and nothing left over
unfoldable pub finish_of : Cursor → Result (Unit {0}) WireFault
finish_of c =
    closed c.opened c
    >>= λ _. all_blank c.message c.end (padded c.end)
    >>= λ _. check (nat_le (length c.message) c.out) (fault c.out Trailing)
    >>= λ _. check (length c.handles == 0) (fault (length c.message) Handles)

-- ---- whole bodies

abbrev pub cells_at : List Cell → Cursor → Step (List Item)
cells_at [] c = Ok ([], c)
cells_at (cell ∷ cells) c =
    cell_at cell c >>= λ first. cells_at cells first.1 >>= λ rest. Ok (first.0 ∷ rest.0, rest.1)

-- the cells of an object that the message ends with
abbrev pub object_items : List Cell → Cursor → Result (List Item) WireFault
object_items cells c = cells_at cells c >>= λ r. finish_of r.1 >>= λ _. Ok r.0

-- the branch of a union that the message ends with
abbrev pub word_items : Option ℕ → List Item
word_items None = []
word_items (Some x) = num x ∷ []

abbrev pub variant_items : Variant → Cursor → Result (List Item) WireFault
variant_items empty c = branch_of 0 c >>= λ b. finish_of b.1 >>= λ _. Ok []
variant_items word c = branch_of 4 c >>= λ b. finish_of b.1 >>= λ _. Ok (word_items b.0.inlined)
variant_items (object cells) c =
    check (nat_lt 4 (sizes_of cells)) (fault c.place Envelope)
    >>= λ _. branch_of (sizes_of cells) c
    >>= λ b. object_items cells b.1

abbrev pub known_variant : Option Variant → Cursor → Result (List Item) WireFault
known_variant None c = Err (fault c.place Ordinal)
known_variant (Some v) c = variant_items v c

-- a message's body of this layout, or the first fault
abbrev pub body_of : Layout → List ℕ → List Handle → Result Content WireFault
body_of (struct cells) message handles =
    start_of message handles (sizes_of cells) >>= λ c. object_items cells c >>= λ xs. Ok (fields xs)
body_of (union variants) message handles =
    start_of message handles 16
    >>= λ c. ordinal_at c
    >>= λ ordinal. known_variant (variant_of variants ordinal) c
    >>= λ xs. Ok (branch ordinal xs)
