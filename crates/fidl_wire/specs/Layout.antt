-- What a message's layout is made of: cells, in the order in which they are read, and what a value has in each.
use Rattle.std.specs.Prelude.{ℕ, ◌+◌, ◌==◌, ◌&&◌, ◌||◌, not, if◌then◌else◌, Some, None, is_some, Bool, true, false, List, [], ◌∷◌, Option}
use Rattle.fidl_names.specs.declared.methods.Handle.{Handle}
use Rattle.fidl_names.specs.declared.methods.Handle.TheVariants.{Endpoint, Token}
use Rattle.fidl_wire.specs.declared.kinds.HandleKind.{HandleKind}
use Rattle.fidl_wire.specs.declared.kinds.HandleKind.TheVariants as kinds
use Rattle.fidl_wire.specs.declared.kinds.MemberKind.{MemberKind}
use Rattle.fidl_wire.specs.declared.kinds.MemberKind.TheVariants as member

pub data Cell : Type 0 where
  -- an unsigned number of so many bytes
  number : (size : ℕ) → Cell
  -- so many bytes of padding between two fields
  pad : (size : ℕ) → Cell
  -- a handle, which may be absent where that is said
  handle : (kind : HandleKind) (nullable : Bool) → Cell
  -- a string
  text : Cell
  -- a vector of bytes
  vector : Cell
  -- a table, by what each of its members is, from member 1 on
  table : (kinds : List MemberKind) → Cell

-- what a member of a table has: a number, or bytes
pub data Member : Type 0 where
  a_number : ℕ → Member
  a_vector : List ℕ → Member

-- what a value has in a cell
pub data Item : Type 0 where
  num : ℕ → Item
  blank : Item
  held : Option Handle → Item
  seq : List ℕ → Item
  -- for each member that the layout speaks of what it has, none where it is absent or not known
  members : List (Option Member) → Item

-- the handle is of this kind
abbrev pub is_kind : HandleKind → Handle → Bool
is_kind kinds.AnyHandle h = true
is_kind kinds.AnEndpoint (Endpoint n) = true
is_kind kinds.AnEndpoint (Token n) = false
is_kind kinds.AToken (Endpoint n) = false
is_kind kinds.AToken (Token n) = true

-- what the next member is, and the members behind it; those that a layout doesn't speak of aren't known
abbrev pub next_kind : List MemberKind → MemberKind
next_kind [] = member.Unknown
next_kind (k ∷ ks) = k

abbrev pub later : {K : Type 0} → List K → List K
later [] = []
later (k ∷ ks) = ks

-- the members, where that of the first is v
abbrev pub with_member : {K V : Type 0} → List K → V → List V → List V
with_member [] v vs = vs
with_member (k ∷ ks) v vs = v ∷ vs

-- the member has to be there
abbrev pub is_required : MemberKind → Bool
is_required member.Unknown = false
is_required (member.Number required) = required
is_required (member.Bytes required) = required

-- and each that has to be there is
abbrev pub has_required : List MemberKind → List (Option Member) → Bool
has_required (k ∷ ks) (v ∷ vs) = (not (is_required k) || is_some v) && has_required ks vs
has_required _ _ = true

-- how many inline bytes a cell has
abbrev pub size_of : Cell → ℕ
size_of (number size) = size
size_of (pad size) = size
size_of (handle kind nullable) = 4
size_of text = 16
size_of vector = 16
size_of (table kinds) = 16

abbrev pub sizes_of : List Cell → ℕ
sizes_of [] = 0
sizes_of (cell ∷ cells) = size_of cell + sizes_of cells

-- what a branch of a union is. At most four bytes stand in its envelope: an empty struct, or a number. More are an object out of line
pub data Variant : Type 0 where
  empty word : Variant
  object : (cells : List Cell) → Variant

-- a message's body: a struct with these cells, or a union of these branches by their ordinals
pub data Layout : Type 0 where
  struct : (cells : List Cell) → Layout
  union : (variants : List (ℕ × Variant)) → Layout

-- what a value has in a body
pub data Content : Type 0 where
  fields : (items : List Item) → Content
  branch : (ordinal : ℕ) (items : List Item) → Content

-- the branch of an ordinal
abbrev pub variant_of : List (ℕ × Variant) → ℕ → Option Variant
variant_of [] ordinal = None
variant_of (v ∷ vs) ordinal = if v.0 == ordinal then Some v.1 else variant_of vs ordinal
