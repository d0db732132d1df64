-- What a fault says of a message's bytes and handles: for each reason a condition at its offset, with no reading.
use Rattle.std.specs.Prelude.{◌≡◌, ◌≢◌, ℕ, ◌+◌, ◌-◌, ◌*◌, ◌%◌, ◌<◌, ◌≤◌, ◌⊎◌, max, Bool, true, false, List, [], ◌∷◌, ◌++◌, length, take, drop, slice_index, slice_range, Option, Some, None}
use Rattle.std.specs.Str.{IsUtf8}
use Rattle.fidl_names.specs.declared.methods.Handle.{Handle}
use Rattle.fidl_names.specs.Numbers.{number_at}
use Rattle.fidl_wire.specs.declared.faults.WireFault.{WireFault}
use Rattle.fidl_wire.specs.declared.faults.WireWhat.{WireWhat}
use Rattle.fidl_wire.specs.declared.faults.WireWhat.TheVariants.{Short, Padding, Presence, Count, Utf8, Envelope, Ordinal, Handles, Trailing}
use Rattle.fidl_wire.specs.declared.kinds.HandleKind.{HandleKind}
use Rattle.fidl_wire.specs.declared.kinds.MemberKind.{MemberKind}
use Rattle.fidl_wire.specs.declared.kinds.MemberKind.TheVariants as member
use Rattle.fidl_wire.specs.Numbers.{padded}
use Rattle.fidl_wire.specs.Layout.{Cell, Item, Member, Variant, Layout, Content, number, pad, handle, text, vector, table, empty, word, object, struct, union, is_kind, next_kind, has_required, sizes_of, variant_of}
use Rattle.fidl_wire.specs.Reading.{present_word, present_list, bytes_at, handles_at, flags_at}
use Rattle.fidl_wire.specs.Grammar.{Part, IsList, IsMember, AreMembers, Spells, Lays, IsSpelled}

-- ---- places

-- the list begins with this one
abbrev pub Begins : {A : Type 0} → List A → List A → Type 0
Begins xs front = take (length front) xs ≡ front

-- a part stands in a message: its inline bytes at one place, those out of line at another, and its handles are the next
pub record Stands (m : List ℕ) (at out : ℕ) (hs : List Handle) (p : Part) : Type 0 where
  pub inline : Begins (drop at m) p.inline
  pub outside : Begins (drop out m) p.outside
  pub handles : Begins hs p.handles

-- a spot in a message: the handles that are left, the next inline byte, the end of the object, and where the bytes out of line go on
pub record Spot : Type 0 where
  pub message : List ℕ
  pub handles : List Handle
  pub place : ℕ
  pub end : ℕ
  pub out : ℕ

-- before an object of so many bytes at a place
abbrev pub before_object : List ℕ → List Handle → ℕ → ℕ → Spot
before_object message handles at size =
    record { message = message; handles = handles; place = at; end = at + size; out = at + padded size }

-- behind a part
abbrev pub behind : Spot → Part → Spot
behind s p = record s {
  handles = drop (length p.handles) s.handles;
  place = s.place + length p.inline;
  out = s.out + length p.outside;
}

-- a part that is in front of what is left at a spot, its inline bytes within the object
pub record IsInFront (s : Spot) (p : Part) : Type 0 where
  pub stands : Stands s.message s.place s.out s.handles p
  pub fits : s.place + length p.inline ≤ s.end

-- no part in front of what is left spells the cell
abbrev pub NoneSpells : Cell → Spot → Type 0
NoneSpells cell s = (x : Item) (p : Part) → IsInFront s p → Spells cell x p → ⊥

-- ---- padding

-- the bytes from one place to another are zero
abbrev pub AreBlank : List ℕ → ℕ → ℕ → Type 0
AreBlank message from until = (k : ℕ) → from ≤ k → k < until → slice_index message k ≡ 0

-- of the bytes from one place to another, the first that isn't zero
pub record IsFirstUsed (message : List ℕ) (from until at : ℕ) : Type 0 where
  pub order : from ≤ at
  pub within : at < until
  pub used : slice_index message at ≢ 0
  pub blank : AreBlank message from at

-- padding between two fields: the fault is at the first byte that is not zero
abbrev pub PadFault : ℕ → Spot → ℕ → WireWhat → Type 0
PadFault size s at Padding = IsFirstUsed s.message s.place (s.place + size) at
PadFault size s at _ = ⊥

-- ---- handles

-- the word is neither that of a handle that is present nor, where that may be, of one that is absent
pub record IsNoMark (nullable : Bool) (mark : ℕ) : Type 0 where
  pub present : mark ≢ present_word
  pub absent : nullable ≡ true → mark ≢ 0

-- no handle is left, or the next is of another kind
abbrev pub HasNone : HandleKind → List Handle → Type 0
HasNone kind [] = Unit {0}
HasNone kind (h ∷ hs) = is_kind kind h ≡ false

-- a handle: its word, and then the handle itself
abbrev pub HandleFault : HandleKind → Bool → Spot → ℕ → WireWhat → Type 0
HandleFault kind nullable s at Presence = (at ≡ s.place) × IsNoMark nullable (number_at 4 s.place s.message)
HandleFault kind nullable s at Handles = (at ≡ s.place) × (number_at 4 s.place s.message ≡ present_word) × HasNone kind s.handles
HandleFault kind nullable s at _ = ⊥

-- ---- strings and vectors

-- the count of a list
abbrev pub count_of : Spot → ℕ
count_of s = number_at 8 s.place s.message

-- and its mark
abbrev pub mark_of : Spot → ℕ
mark_of s = number_at 8 (s.place + 8) s.message

-- its bytes
abbrev pub content_of : Spot → List ℕ
content_of s = slice_range s.message s.out (s.out + count_of s)

-- a list is there, and so many bytes of it out of line lie within the message
pub record IsThere (s : Spot) (size : ℕ) : Type 0 where
  pub mark : mark_of s ≡ present_list
  pub fits : s.out + size ≤ length s.message

-- what holds of a list's bytes before its padding is looked at
abbrev pub IsText : Bool → List ℕ → Type 0
IsText true bytes = IsUtf8 bytes
IsText false bytes = Unit {0}

-- a list: its mark, its count, its text, and the padding behind it, each where those before it are as they have to be
abbrev pub ListFault : Bool → Spot → ℕ → WireWhat → Type 0
ListFault is_text s at Presence = (at ≡ s.place) × (mark_of s ≢ present_list)
ListFault is_text s at Count = (at ≡ s.place) × (mark_of s ≡ present_list) × (length s.message < s.out + padded (count_of s))
ListFault is_text s at Utf8 = (at ≡ s.place) × IsThere s (padded (count_of s)) × (IsText is_text (content_of s) → ⊥)
ListFault is_text s at Padding =
    IsThere s (padded (count_of s)) × IsText is_text (content_of s) × IsFirstUsed s.message (s.out + count_of s) (s.out + padded (count_of s)) at
ListFault is_text s at _ = ⊥

-- ---- envelopes

-- an envelope whose value stands out of line has no flags, and counts bytes in steps of eight
pub record HasForm (at : ℕ) (message : List ℕ) : Type 0 where
  pub flags : flags_at at message ≡ 0
  pub some : 0 < bytes_at at message
  pub aligned : bytes_at at message % 8 ≡ 0

-- where its value ends, which has at least so many bytes
abbrev pub end_of : ℕ → ℕ → ℕ → List ℕ → ℕ
end_of size at out message = out + max (bytes_at at message) (padded size)

-- its form, its end, and as many handles as it counts
pub record IsEntered (size at out left : ℕ) (message : List ℕ) : Type 0 where
  pub form : HasForm at message
  pub fits : end_of size at out message ≤ length message
  pub enough : handles_at at message ≤ left

-- the envelope of a value out of line: its form or its end, and then its handles
abbrev pub EntryFault : ℕ → ℕ → ℕ → ℕ → List ℕ → WireWhat → Type 0
EntryFault size at out left message Envelope = (HasForm at message → ⊥) ⊎ (length message < end_of size at out message)
EntryFault size at out left message Handles = HasForm at message × (end_of size at out message ≤ length message) × (left < handles_at at message)
EntryFault size at out left message _ = ⊥

-- ---- tables

-- a member that is a number is one of eight bytes without handles
pub record IsNoNumber (at out left : ℕ) (message : List ℕ) : Type 0 where
  pub entered : IsEntered 8 at out left message
  pub counts : bytes_at at message ≡ 8 → handles_at at message ≡ 0 → ⊥

-- a member that is a number: its envelope, and then what that counts
abbrev pub NumberFault : ℕ → ℕ → ℕ → List ℕ → WireWhat → Type 0
NumberFault at out left message Envelope = EntryFault 8 at out left message Envelope ⊎ IsNoNumber at out left message
NumberFault at out left message what = EntryFault 8 at out left message what

-- before a list of bytes that stands out of line
abbrev pub before_bytes : List ℕ → ℕ → Spot
before_bytes message out = record { message = message; handles = []; place = out; end = out + 16; out = out + 16 }

-- a member that is bytes has them there, and its envelope counts otherwise
pub record IsMiscounted (at out left : ℕ) (message : List ℕ) : Type 0 where
  pub entered : IsEntered 16 at out left message
  pub bytes : List ℕ
  pub part : Part
  pub is_list : IsList bytes part
  pub stands : Stands message out (out + 16) [] part
  pub counts : bytes_at at message ≡ length part.inline + length part.outside → handles_at at message ≡ 0 → ⊥

-- a member that is a vector of bytes: its envelope, the list at its own place, and then what the envelope counts
abbrev pub BytesFault : ℕ → ℕ → ℕ → List ℕ → ℕ → WireWhat → Type 0
BytesFault envelope out left message at what =
    ((at ≡ envelope) × EntryFault 16 envelope out left message what)
    ⊎ (IsEntered 16 envelope out left message × ListFault false (before_bytes message out) at what)
    ⊎ ((at ≡ envelope) × (what ≡ Envelope) × IsMiscounted envelope out left message)

-- one that isn't may have any value, in its envelope or out of line
pub record IsFewLeft (at left : ℕ) (message : List ℕ) : Type 0 where
  pub inlined : flags_at at message ≡ 1
  pub few : left < handles_at at message

-- an unknown member: the handles that its envelope counts, and out of line its form and its end before them
abbrev pub UnknownFault : ℕ → ℕ → ℕ → List ℕ → WireWhat → Type 0
UnknownFault at out left message Handles =
    IsFewLeft at left message ⊎ ((flags_at at message ≢ 1) × EntryFault 0 at out left message Handles)
UnknownFault at out left message what = (flags_at at message ≢ 1) × EntryFault 0 at out left message what

-- a member that is there, by what it is
abbrev pub PresentFault : MemberKind → ℕ → ℕ → ℕ → List ℕ → ℕ → WireWhat → Type 0
PresentFault member.Unknown envelope out left message at what = (at ≡ envelope) × UnknownFault envelope out left message what
PresentFault (member.Number required) envelope out left message at what = (at ≡ envelope) × NumberFault envelope out left message what
PresentFault (member.Bytes required) envelope out left message at what = BytesFault envelope out left message at what

-- an absent member has no fault
abbrev pub MemberFault : MemberKind → ℕ → ℕ → ℕ → List ℕ → ℕ → WireWhat → Type 0
MemberFault kind envelope out left message at what = (number_at 8 envelope message ≢ 0) × PresentFault kind envelope out left message at what

-- no part spells the member whose envelope is next
abbrev pub NoneIsMember : MemberKind → List ℕ → ℕ → ℕ → List Handle → Type 0
NoneIsMember kind message envelope out handles = (v : Option Member) (p : Part) → Stands message envelope out handles p → IsMember kind v p → ⊥

-- behind some members, which are spelled, the next has the fault
pub record MembersFault (kinds : List MemberKind) (count first out : ℕ) (handles : List Handle) (message : List ℕ) (at : ℕ) (what : WireWhat) : Type 0 where
  pub before : ℕ
  pub below : before < count
  pub values : List (Option Member)
  pub part : Part
  pub members_are : AreMembers kinds values before part
  pub stands : Stands message first out handles part
  pub means : MemberFault (next_kind (drop before kinds)) (first + length part.inline) (out + length part.outside) (length handles - length part.handles) message at what
  pub none : NoneIsMember (next_kind (drop before kinds)) message (first + length part.inline) (out + length part.outside) (drop (length part.handles) handles)

-- all members are spelled, and one that has to be there isn't
pub record LacksMember (kinds : List MemberKind) (count first out : ℕ) (handles : List Handle) (message : List ℕ) : Type 0 where
  pub values : List (Option Member)
  pub part : Part
  pub members_are : AreMembers kinds values count part
  pub stands : Stands message first out handles part
  pub lacks : has_required kinds values ≡ false

-- a table's mark, and its count
abbrev pub HeadFault : Spot → ℕ → WireWhat → Type 0
HeadFault s at Presence = (at ≡ s.place) × (mark_of s ≢ present_list)
HeadFault s at Count = (at ≡ s.place) × (mark_of s ≡ present_list) × (length s.message < s.out + 8 * count_of s)
HeadFault s at _ = ⊥

-- its members, and then at its count one that has to be there
abbrev pub AnyMemberFault : List MemberKind → Spot → ℕ → WireWhat → Type 0
AnyMemberFault kinds s at what =
    MembersFault kinds (count_of s) s.out (s.out + 8 * count_of s) s.handles s.message at what
    ⊎ ((at ≡ s.place) × (what ≡ Envelope) × LacksMember kinds (count_of s) s.out (s.out + 8 * count_of s) s.handles s.message)

abbrev pub TableFault : List MemberKind → Spot → ℕ → WireWhat → Type 0
TableFault kinds s at what = HeadFault s at what ⊎ (IsThere s (8 * count_of s) × AnyMemberFault kinds s at what)

-- ---- objects

-- a number has no fault within its object
abbrev pub CellFault : Cell → Spot → ℕ → WireWhat → Type 0
CellFault (number size) s at what = ⊥
CellFault (pad size) s at what = PadFault size s at what
CellFault (handle kind nullable) s at what = HandleFault kind nullable s at what
CellFault text s at what = ListFault true s at what
CellFault vector s at what = ListFault false s at what
CellFault (table kinds) s at what = TableFault kinds s at what

-- behind some cells, which are spelled by what they took, the next has the fault
pub record CellsFault (cells : List Cell) (s : Spot) (at : ℕ) (what : WireWhat) : Type 0 where
  pub before : List Cell
  pub cell : Cell
  pub later : List Cell
  pub cells_are : cells ≡ before ++ cell ∷ later
  pub items : List Item
  pub part : Part
  pub lays : Lays before items part
  pub stands : Stands s.message s.place s.out s.handles part
  pub means : CellFault cell (behind s part) at what
  pub none : NoneSpells cell (behind s part)

-- the envelope at a place, if there is one, counts the bytes and the handles of its value
abbrev pub IsCounted : Option ℕ → List ℕ → Part → Type 0
IsCounted None message p = Unit {0}
IsCounted (Some at) message p = (bytes_at at message ≡ padded (length p.inline) + length p.outside) × (handles_at at message ≡ length p.handles)

-- the padding behind an object is zero, behind a value that its envelope counts
pub record IsEnded (envelope : Option ℕ) (s : Spot) (p : Part) : Type 0 where
  pub counted : IsCounted envelope s.message p
  pub blank : AreBlank s.message s.end (padded s.end)

-- behind a last object, in this order: what its envelope counts, its padding, bytes left over, handles left over
abbrev pub EndFault : Option ℕ → Spot → Part → ℕ → WireWhat → Type 0
EndFault envelope s p at Envelope = (envelope ≡ Some at) × (IsCounted envelope s.message p → ⊥)
EndFault envelope s p at Padding = IsCounted envelope s.message p × IsFirstUsed s.message s.end (padded s.end) at
EndFault envelope s p at Trailing = IsEnded envelope s p × (at ≡ s.out + length p.outside) × (at < length s.message)
EndFault envelope s p at Handles =
    IsEnded envelope s p × (at ≡ length s.message) × (at ≤ s.out + length p.outside) × (length p.handles < length s.handles)
EndFault envelope s p at _ = ⊥

-- all cells are spelled by what they took, and the end has the fault
pub record EndsFault (envelope : Option ℕ) (cells : List Cell) (s : Spot) (at : ℕ) (what : WireWhat) : Type 0 where
  pub items : List Item
  pub part : Part
  pub lays : Lays cells items part
  pub stands : Stands s.message s.place s.out s.handles part
  pub means : EndFault envelope s part at what

-- an object that the message ends with: a cell, or the end
abbrev pub ObjectFault : Option ℕ → List Cell → Spot → ℕ → WireWhat → Type 0
ObjectFault envelope cells s at what = CellsFault cells s at what ⊎ EndsFault envelope cells s at what

-- ---- unions: the ordinal stands at 16, the envelope at 24, and an object at 32

-- the value of so many bytes that stands in the envelope, and behind it zeros
pub record IsInlined (size : ℕ) (message : List ℕ) (handles : List Handle) : Type 0 where
  pub flags : flags_at 24 message ≡ 1
  pub enough : handles_at 24 message ≤ length handles
  pub blank : AreBlank message (24 + size) 28

-- a union whose value stands in its envelope: the flags, the handles, the bytes behind the value, no handle; then what is left over
abbrev pub InlinedFault : ℕ → List ℕ → List Handle → ℕ → WireWhat → Type 0
InlinedFault size message handles at Envelope = (at ≡ 24) × ((flags_at 24 message ≢ 1) ⊎ (IsInlined size message handles × (handles_at 24 message ≢ 0)))
InlinedFault size message handles at Padding = (flags_at 24 message ≡ 1) × (handles_at 24 message ≤ length handles) × IsFirstUsed message (24 + size) 28 at
InlinedFault size message handles at Trailing = IsInlined size message handles × (handles_at 24 message ≡ 0) × (at ≡ 32) × (32 < length message)
InlinedFault size message handles at Handles =
    ((at ≡ 24) × (flags_at 24 message ≡ 1) × (length handles < handles_at 24 message))
    ⊎ (IsInlined size message handles × (handles_at 24 message ≡ 0) × (at ≡ length message) × (length message ≤ 32) × (handles ≢ []))
InlinedFault size message handles at _ = ⊥

-- a branch out of line has more than four bytes; then come the tests of its envelope, and its object
abbrev pub OutsideFault : List Cell → List ℕ → List Handle → ℕ → WireWhat → Type 0
OutsideFault cells message handles at what =
    ((at ≡ 16) × (what ≡ Envelope) × (sizes_of cells ≤ 4))
    ⊎ ((4 < sizes_of cells) × (at ≡ 24) × EntryFault (sizes_of cells) 24 32 (length handles) message what)
    ⊎ ((4 < sizes_of cells) × IsEntered (sizes_of cells) 24 32 (length handles) message
    × ObjectFault (Some 24) cells (before_object message handles 32 (sizes_of cells)) at what)

-- the value of a branch
abbrev pub VariantFault : Variant → List ℕ → List Handle → ℕ → WireWhat → Type 0
VariantFault empty message handles at what = InlinedFault 0 message handles at what
VariantFault word message handles at what = InlinedFault 4 message handles at what
VariantFault (object cells) message handles at what = OutsideFault cells message handles at what

-- the layout has no branch of the ordinal, or its branch has the fault
abbrev pub BranchFault : Option Variant → List ℕ → List Handle → ℕ → WireWhat → Type 0
BranchFault None message handles at what = (at ≡ 16) × (what ≡ Ordinal)
BranchFault (Some v) message handles at what = VariantFault v message handles at what

-- ---- bodies

-- the message ends before its object of so many bytes does
pub record IsShort (size : ℕ) (message : List ℕ) (at : ℕ) (what : WireWhat) : Type 0 where
  pub reason : what ≡ Short
  pub place : at ≡ length message
  pub short : length message < 16 + padded size

-- a body: too short a message, or its object or union
abbrev pub BodyFault : Layout → List ℕ → List Handle → ℕ → WireWhat → Type 0
BodyFault (struct cells) message handles at what =
    IsShort (sizes_of cells) message at what
    ⊎ ((16 + padded (sizes_of cells) ≤ length message) × ObjectFault None cells (before_object message handles 16 (sizes_of cells)) at what)
BodyFault (union variants) message handles at what =
    IsShort 16 message at what ⊎ ((32 ≤ length message) × BranchFault (variant_of variants (number_at 8 16 message)) message handles at what)

-- the fault is what it says of the body, and no value is spelled there
pub record IsFaultOf (layout : Layout) (message : List ℕ) (handles : List Handle) (e : WireFault) : Type 0 where
  pub means : BodyFault layout message handles e.at e.what
  pub none : (content : Content) → IsSpelled layout content message handles → ⊥
