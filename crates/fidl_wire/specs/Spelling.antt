-- How a value is spelled: the one way in which it is written.
use Rattle.std.specs.Prelude.{◌≡◌, ℕ, ◌+◌, ◌^◌, ◌<◌, Bool, true, List, [], ◌∷◌, ◌++◌, length, replicate, Option, Some, None}
use Rattle.std.specs.Str.{IsUtf8}
use Rattle.fidl_names.specs.declared.methods.Handle.{Handle}
use Rattle.fidl_names.specs.Numbers.{number_bytes}
use Rattle.fidl_wire.specs.Written.{padded_bytes}
use Rattle.fidl_wire.specs.declared.kinds.MemberKind.{MemberKind}
use Rattle.fidl_wire.specs.declared.kinds.MemberKind.TheVariants as kind
use Rattle.fidl_wire.specs.Numbers.{padded}
use Rattle.fidl_wire.specs.Layout.{Cell, Item, Member, Variant, Layout, Content, number, pad, handle, text, vector, table, a_number, a_vector, num, blank, held, seq, members, empty, word, object, struct, union, fields, branch, is_kind, has_required, sizes_of, variant_of}
use Rattle.fidl_wire.specs.Reading.{present_word, present_list}
use Rattle.fidl_wire.specs.Grammar.{Part, nothing, join}

abbrev pub inline_part : List ℕ → Part
inline_part bytes = record { inline = bytes; outside = []; handles = [] }

-- a list's count and mark
abbrev pub count_bytes : ℕ → List ℕ
count_bytes count = number_bytes 8 count ++ number_bytes 8 present_list

-- an envelope's counts and flags
abbrev pub envelope_bytes : ℕ → ℕ → ℕ → List ℕ
envelope_bytes bytes handles flags = number_bytes 4 bytes ++ number_bytes 2 handles ++ number_bytes 2 flags

-- ---- tables

abbrev pub member_part : Option Member → Part
member_part None = inline_part (number_bytes 8 0)
member_part (Some (a_number x)) = record { inline = envelope_bytes 8 0 0; outside = number_bytes 8 x; handles = [] }
member_part (Some (a_vector xs)) =
    record { inline = envelope_bytes (16 + padded (length xs)) 0 0; outside = count_bytes (length xs) ++ padded_bytes xs; handles = [] }

abbrev pub members_part : List (Option Member) → Part
members_part [] = nothing
members_part (v ∷ vs) = join (member_part v) (members_part vs)

-- the members up to the last that is there
abbrev pub kept : {V : Type 0} → Option V → List (Option V) → List (Option V)
kept None [] = []
kept v vs = v ∷ vs

abbrev pub given : {V : Type 0} → List (Option V) → List (Option V)
given [] = []
given (v ∷ vs) = kept v (given vs)

abbrev pub table_part : List (Option Member) → Part
table_part vs =
    let slots = members_part (given vs) in
    record { inline = count_bytes (length (given vs)); outside = slots.inline ++ slots.outside; handles = slots.handles }

-- ---- cells

abbrev pub handle_part : Option Handle → Part
handle_part None = inline_part (number_bytes 4 0)
handle_part (Some h) = record { inline = number_bytes 4 present_word; outside = []; handles = h ∷ [] }

abbrev pub list_part_of : List ℕ → Part
list_part_of xs = record { inline = count_bytes (length xs); outside = padded_bytes xs; handles = [] }

abbrev pub spelling_of : Cell → Item → Part
spelling_of (number size) (num x) = inline_part (number_bytes size x)
spelling_of (pad size) blank = inline_part (replicate size 0)
spelling_of (handle kind nullable) (held h) = handle_part h
spelling_of text (seq xs) = list_part_of xs
spelling_of vector (seq xs) = list_part_of xs
spelling_of (table kinds) (members vs) = table_part vs
spelling_of _ _ = nothing

abbrev pub spelling_of_all : List Cell → List Item → Part
spelling_of_all (cell ∷ cells) (x ∷ xs) = join (spelling_of cell x) (spelling_of_all cells xs)
spelling_of_all _ _ = nothing

-- ---- what has a spelling

-- what a member has is of its kind: a number of eight bytes, or bytes that an envelope can count
abbrev pub FitsMember : MemberKind → Member → Type 0
FitsMember k (a_number x) = (required : Bool) × (k ≡ kind.Number required) × (x < 256 ^ 8)
FitsMember k (a_vector xs) = (required : Bool) × (k ≡ kind.Bytes required) × (16 + padded (length xs) < 256 ^ 4)

abbrev pub FitMembers : List MemberKind → List (Option Member) → Type 0
FitMembers [] [] = Unit {0}
FitMembers (k ∷ ks) (None ∷ vs) = FitMembers ks vs
FitMembers (k ∷ ks) (Some v ∷ vs) = FitsMember k v × FitMembers ks vs
FitMembers _ _ = ⊥

abbrev pub FitsHandle : Bool → (Handle → Bool) → Option Handle → Type 0
FitsHandle nullable allows None = nullable ≡ true
FitsHandle nullable allows (Some h) = allows h ≡ true

abbrev pub Fits : Cell → Item → Type 0
Fits (number size) (num x) = x < 256 ^ size
Fits (pad size) blank = Unit {0}
Fits (handle kind nullable) (held h) = FitsHandle nullable (is_kind kind) h
Fits text (seq xs) = IsUtf8 xs × (length xs < 256 ^ 8)
Fits vector (seq xs) = length xs < 256 ^ 8
Fits (table kinds) (members vs) = (length vs < 256 ^ 8) × FitMembers kinds vs × (has_required kinds vs ≡ true)
Fits _ _ = ⊥

abbrev pub AllFit : List Cell → List Item → Type 0
AllFit [] [] = Unit {0}
AllFit (cell ∷ cells) (x ∷ xs) = Fits cell x × AllFit cells xs
AllFit _ _ = ⊥

-- ---- bodies

abbrev pub object_bytes : Part → List ℕ
object_bytes p = padded_bytes p.inline ++ p.outside

-- the bytes and handles of a branch
abbrev pub variant_bytes : Variant → ℕ → List Item → List ℕ
variant_bytes empty ordinal xs = number_bytes 8 ordinal ++ envelope_bytes 0 0 1
variant_bytes word ordinal (num x ∷ xs) = number_bytes 8 ordinal ++ envelope_bytes x 0 1
variant_bytes word ordinal xs = []
variant_bytes (object cells) ordinal xs =
    let value = object_bytes (spelling_of_all cells xs) in
    number_bytes 8 ordinal ++ envelope_bytes (length value) (length (spelling_of_all cells xs).handles) 0 ++ value

abbrev pub variant_handles : Variant → List Item → List Handle
variant_handles (object cells) xs = (spelling_of_all cells xs).handles
variant_handles _ xs = []

abbrev pub FitsVariant : Variant → List Item → Type 0
FitsVariant empty [] = Unit {0}
FitsVariant word (num x ∷ []) = x < 256 ^ 4
FitsVariant (object cells) xs =
    AllFit cells xs × (4 < sizes_of cells) × (length (object_bytes (spelling_of_all cells xs)) < 256 ^ 4) × (length (spelling_of_all cells xs).handles < 256 ^ 2)
FitsVariant _ xs = ⊥

abbrev pub option_bytes : Option Variant → ℕ → List Item → List ℕ
option_bytes None ordinal xs = []
option_bytes (Some v) ordinal xs = variant_bytes v ordinal xs

abbrev pub option_handles : Option Variant → List Item → List Handle
option_handles None xs = []
option_handles (Some v) xs = variant_handles v xs

abbrev pub FitsOption : Option Variant → List Item → Type 0
FitsOption None xs = ⊥
FitsOption (Some v) xs = FitsVariant v xs

-- the bytes of a body behind its header, and its handles
abbrev pub body_bytes : Layout → Content → List ℕ
body_bytes (struct cells) (fields xs) = object_bytes (spelling_of_all cells xs)
body_bytes (union variants) (branch ordinal xs) = option_bytes (variant_of variants ordinal) ordinal xs
body_bytes _ _ = []

abbrev pub body_handles : Layout → Content → List Handle
body_handles (struct cells) (fields xs) = (spelling_of_all cells xs).handles
body_handles (union variants) (branch ordinal xs) = option_handles (variant_of variants ordinal) xs
body_handles _ _ = []

abbrev pub FitsBody : Layout → Content → Type 0
FitsBody (struct cells) (fields xs) = AllFit cells xs
FitsBody (union variants) (branch ordinal xs) = (ordinal < 256 ^ 8) × FitsOption (variant_of variants ordinal) xs
FitsBody _ _ = ⊥
