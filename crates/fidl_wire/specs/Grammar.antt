-- Which bytes and handles spell a value: a relation with no cursor and no place in a message.
use Rattle.std.specs.Prelude.{◌≡◌, ℕ, zero, suc, ◌+◌, ◌-◌, ◌%◌, ◌<◌, ◌≤◌, ◌⊎◌, Bool, true, List, [], ◌∷◌, ◌++◌, length, drop, replicate, slice_range, Option, Some, None}
use Rattle.std.specs.Str.{IsUtf8}
use Rattle.fidl_names.specs.declared.methods.Handle.{Handle}
use Rattle.fidl_names.specs.Numbers.{number_at}
use Rattle.fidl_wire.specs.Written.{padded_bytes}
use Rattle.fidl_wire.specs.declared.kinds.MemberKind.{MemberKind}
use Rattle.fidl_wire.specs.declared.kinds.MemberKind.TheVariants as kind
use Rattle.fidl_wire.specs.Layout.{Cell, Item, Member, Variant, Layout, Content, number, pad, handle, text, vector, table, a_number, a_vector, num, blank, held, seq, members, empty, word, object, struct, union, fields, branch, is_kind, next_kind, later, with_member, has_required, sizes_of, variant_of}
use Rattle.fidl_wire.specs.Reading.{present_word, present_list}

-- what spells a cell: bytes in its object, bytes out of line, and handles
pub record Part : Type 0 where
  pub inline : List ℕ
  pub outside : List ℕ
  pub handles : List Handle

abbrev pub nothing : Part
nothing = record { inline = []; outside = []; handles = [] }

-- one part behind another
abbrev pub join : Part → Part → Part
join p q = record { inline = p.inline ++ q.inline; outside = p.outside ++ q.outside; handles = p.handles ++ q.handles }

-- so many bytes are this number
pub record IsNumber (size x : ℕ) (bytes : List ℕ) : Type 0 where
  pub size_is : length bytes ≡ size
  pub value_is : number_at size 0 bytes ≡ x

-- nothing out of line, and no handles
pub record IsInline (p : Part) : Type 0 where
  pub outside_is : p.outside ≡ []
  pub handles_are : p.handles ≡ []

-- the inline part of a list that is present: its count, and the mark
pub record IsCount (count : ℕ) (bytes : List ℕ) : Type 0 where
  pub size_is : length bytes ≡ 16
  pub count_is : number_at 8 0 bytes ≡ count
  pub mark_is : number_at 8 8 bytes ≡ present_list

-- a list of bytes, which stand out of line with their padding
pub record IsList (xs : List ℕ) (p : Part) : Type 0 where
  pub count : IsCount (length xs) p.inline
  pub outside_is : p.outside ≡ padded_bytes xs
  pub handles_are : p.handles ≡ []

-- a handle of this kind, or none where that may be
pub record IsPresent (h : Handle) (p : Part) : Type 0 where
  pub mark : IsNumber 4 present_word p.inline
  pub outside_is : p.outside ≡ []
  pub handles_are : p.handles ≡ h ∷ []

abbrev pub IsHandle : Bool → (Handle → Bool) → Option Handle → Part → Type 0
IsHandle nullable allows None p = (nullable ≡ true) × IsNumber 4 0 p.inline × IsInline p
IsHandle nullable allows (Some h) p = (allows h ≡ true) × IsPresent h p

-- ---- tables: a member is spelled by an envelope, and what that holds out of line

pub record IsAbsent (p : Part) : Type 0 where
  pub envelope : IsNumber 8 0 p.inline
  pub rest : IsInline p

-- an envelope with these counts and flags
pub record IsEnvelope (bytes handles flags : ℕ) (envelope : List ℕ) : Type 0 where
  pub size_is : length envelope ≡ 8
  pub bytes_are : number_at 4 0 envelope ≡ bytes
  pub handles_are : number_at 2 4 envelope ≡ handles
  pub flags_are : number_at 2 6 envelope ≡ flags

-- a value of four bytes, whatever they are
pub record IsSkippedShort (p : Part) : Type 0 where
  pub value : ℕ
  pub envelope : IsEnvelope value (length p.handles) 1 p.inline
  pub outside_is : p.outside ≡ []

-- a value out of line, whatever it is
pub record IsSkippedLong (p : Part) : Type 0 where
  pub envelope : IsEnvelope (length p.outside) (length p.handles) 0 p.inline
  pub some : 0 < length p.outside
  pub aligned : length p.outside % 8 ≡ 0

-- a number of eight bytes out of line
pub record IsNumberMember (x : ℕ) (p : Part) : Type 0 where
  pub envelope : IsEnvelope 8 0 0 p.inline
  pub value : IsNumber 8 x p.outside
  pub handles_are : p.handles ≡ []

-- a vector of bytes out of line
pub record IsBytesMember (xs : List ℕ) (p : Part) : Type 0 where
  pub vector : Part
  pub is_list : IsList xs vector
  pub envelope : IsEnvelope (length p.outside) 0 0 p.inline
  pub outside_is : p.outside ≡ vector.inline ++ vector.outside
  pub handles_are : p.handles ≡ []

-- a member with this number or these bytes, absent, or skipped where it is not known
abbrev pub IsMember : MemberKind → Option Member → Part → Type 0
IsMember k (Some (a_number x)) p = (required : Bool) × (k ≡ kind.Number required) × IsNumberMember x p
IsMember k (Some (a_vector xs)) p = (required : Bool) × (k ≡ kind.Bytes required) × IsBytesMember xs p
IsMember k None p = IsAbsent p ⊎ ((k ≡ kind.Unknown) × (IsSkippedShort p ⊎ IsSkippedLong p))

-- so many members
abbrev pub AreMembers : List MemberKind → List (Option Member) → ℕ → Part → Type 0
AreMembers kinds values zero p = (values ≡ replicate (length kinds) None) × (p ≡ nothing)
AreMembers kinds values (suc n) p =
    (v : Option Member) × (vs : List (Option Member)) × (first : Part) × (rest : Part) × (values ≡ with_member kinds v vs) × IsMember (next_kind kinds) v first
    × AreMembers (later kinds) vs n rest × (p ≡ join first rest)

-- a table: the envelopes out of line, and behind them what they hold. Each member that has to be there is
pub record IsTable (kinds : List MemberKind) (values : List (Option Member)) (p : Part) : Type 0 where
  pub count : ℕ
  pub slots : Part
  pub head : IsCount count p.inline
  pub members_are : AreMembers kinds values count slots
  pub required : has_required kinds values ≡ true
  pub outside_is : p.outside ≡ slots.inline ++ slots.outside
  pub handles_are : p.handles ≡ slots.handles

-- ---- cells and objects

-- a part spells what a value has in a cell
abbrev pub Spells : Cell → Item → Part → Type 0
Spells (number size) (num x) p = IsNumber size x p.inline × IsInline p
Spells (pad size) blank p = (p.inline ≡ replicate size 0) × IsInline p
Spells (handle kind nullable) (held h) p = IsHandle nullable (is_kind kind) h p
Spells text (seq xs) p = IsUtf8 xs × IsList xs p
Spells vector (seq xs) p = IsList xs p
Spells (table kinds) (members values) p = IsTable kinds values p
Spells _ _ p = ⊥

-- a part spells what a value has in cells one after another
abbrev pub Lays : List Cell → List Item → Part → Type 0
Lays [] [] p = p ≡ nothing
Lays (cell ∷ cells) (x ∷ xs) p =
    (first : Part) × (rest : Part) × Spells cell x first × Lays cells xs rest × (p ≡ join first rest)
Lays _ _ p = ⊥

-- an object: what is inline, padded, and behind it what is out of line
pub record IsObject (cells : List Cell) (items : List Item) (bytes : List ℕ) (handles : List Handle) : Type 0 where
  pub part : Part
  pub lays : Lays cells items part
  pub bytes_are : bytes ≡ padded_bytes part.inline ++ part.outside
  pub handles_are : handles ≡ part.handles

-- ---- unions

-- a union of sixteen bytes whose value stands in its envelope: a number, of which the bytes behind the first so many are zero
pub record IsInlinedUnion (size ordinal value : ℕ) (bytes : List ℕ) (handles : List Handle) : Type 0 where
  pub size_is : length bytes ≡ 16
  pub ordinal_is : number_at 8 0 bytes ≡ ordinal
  pub envelope : IsEnvelope value 0 1 (drop 8 bytes)
  pub blank_is : slice_range bytes (8 + size) 12 ≡ replicate (4 - size) 0
  pub handles_are : handles ≡ []

-- a union whose value is an object out of line, of more than four bytes
pub record IsObjectUnion (cells : List Cell) (ordinal : ℕ) (items : List Item) (bytes : List ℕ) (handles : List Handle) : Type 0 where
  pub large : 4 < sizes_of cells
  pub size_is : 16 ≤ length bytes
  pub ordinal_is : number_at 8 0 bytes ≡ ordinal
  pub envelope : IsEnvelope (length (drop 16 bytes)) (length handles) 0 (slice_range bytes 8 16)
  pub value : IsObject cells items (drop 16 bytes) handles

abbrev pub IsVariant : Variant → ℕ → List Item → List ℕ → List Handle → Type 0
IsVariant empty ordinal [] bytes handles = IsInlinedUnion 0 ordinal 0 bytes handles
IsVariant word ordinal (num x ∷ []) bytes handles = IsInlinedUnion 4 ordinal x bytes handles
IsVariant (object cells) ordinal items bytes handles = IsObjectUnion cells ordinal items bytes handles
IsVariant _ ordinal items bytes handles = ⊥

-- ---- bodies

-- bytes and handles spell a body, with nothing left over
abbrev pub SpellsBody : Layout → Content → List ℕ → List Handle → Type 0
SpellsBody (struct cells) (fields items) bytes handles = IsObject cells items bytes handles
SpellsBody (union variants) (branch ordinal items) bytes handles =
    (v : Variant) × (variant_of variants ordinal ≡ Some v) × IsVariant v ordinal items bytes handles
SpellsBody _ _ bytes handles = ⊥

-- a message with such a body behind a header
pub record IsSpelled (layout : Layout) (content : Content) (message : List ℕ) (handles : List Handle) : Type 0 where
  pub header : 16 ≤ length message
  pub body : SpellsBody layout content (drop 16 message) handles
