-- The replies and the event as messages: what a reply says, and the layout of each shape.
use Rattle.std.specs.Prelude.{ℕ, ◌==◌, true, false, List, [], ◌∷◌, Option, Some, find, map}
use Rattle.fidl_names.specs.declared.methods.Method.{Method}
use Rattle.fidl_names.specs.declared.statuses.Status.{Status}
use Rattle.fidl_wire.specs.declared.kinds.HandleKind.TheVariants as kinds
use Rattle.fidl_wire.specs.declared.kinds.MemberKind.{MemberKind}
use Rattle.fidl_wire.specs.declared.kinds.MemberKind.TheVariants as member
use Rattle.fidl_wire.specs.Layout.{Cell, Layout, Variant, struct, union, empty, word, object, number, pad, handle, text, vector, table}
use Rattle.fidl_wire.specs.Names.{method_ordinal}
use Rattle.io_messages.specs.declared.replies.Attributes.{Attributes}
use Rattle.io_messages.specs.declared.replies.Reply.{Reply}
use Rattle.io_messages.specs.declared.replies.Reply.TheVariants as reply
use Rattle.io_messages.specs.declared.replies.Shape.{Shape}
use Rattle.io_messages.specs.declared.replies.Shape.TheVariants as shape
use Rattle.io_messages.specs.Kinds.{branch_of_kind, told_kinds}
use Rattle.io_messages.specs.Protocols.{all_methods}

-- ---- what a reply says, without where its bytes lie in memory

pub data Answered : Type 0 where
  done : (m : Method) → Answered
  fails : (m : Method) (s : Status) → Answered
  counted : (m : Method) (x : ℕ) → Answered
  payload : (m : Method) (bytes : List ℕ) → Answered
  settled : (m : Method) → Answered
  token : (n : ℕ) → Answered
  attributes : (a : Attributes) → Answered
  unknown : (ordinal : ℕ) → Answered

-- what a reply of the code says
abbrev pub answered : Reply → Answered
answered (reply.Done m) = done m
answered (reply.Fails m s) = fails m s
answered (reply.Number m x) = counted m x
answered (reply.Payload m bytes) = payload m bytes.now
answered (reply.Settled m) = settled m
answered (reply.Token n) = token n
answered (reply.Attributes a) = attributes a
answered (reply.Unknown ordinal) = unknown ordinal

-- ---- layouts

-- the success of a result, or the number of its error
abbrev pub result_of : Variant → Layout
result_of success = union ((1, success) ∷ (2, word) ∷ [])

-- the immutable attributes are numbers that may be absent: protocols, abilities, content size, link count, id. The storage size isn't known
abbrev pub known_attributes : List MemberKind
known_attributes = member.Number false ∷ member.Number false ∷ member.Number false ∷ member.Unknown ∷ member.Number false ∷ member.Number false ∷ []

-- the mutable attributes, of which none is known, and the immutable ones
abbrev pub attribute_cells : List Cell
attribute_cells = table [] ∷ table known_attributes ∷ []

abbrev pub listing_cells : List Cell
listing_cells = number 4 ∷ pad 4 ∷ vector ∷ []

abbrev pub token_cells : List Cell
token_cells = number 4 ∷ handle kinds.AToken true ∷ []

abbrev pub reply_layout : Shape → Layout
reply_layout shape.Done = result_of empty
reply_layout shape.Number = result_of (object (number 8 ∷ []))
reply_layout shape.Bytes = result_of (object (vector ∷ []))
reply_layout shape.Attributes = result_of (object attribute_cells)
reply_layout shape.Vector = struct (vector ∷ [])
reply_layout shape.Text = struct (text ∷ [])
reply_layout shape.Listing = struct listing_cells
reply_layout shape.Settled = struct (number 4 ∷ [])
reply_layout shape.Token = struct token_cells

-- the framework's error: a union with the ordinal 3, and in its envelope the number -2
abbrev pub framework_cells : List Cell
framework_cells = number 8 ∷ number 8 ∷ []

abbrev pub framework_ordinal : ℕ
framework_ordinal = 3

abbrev pub framework_envelope : ℕ
framework_envelope = 0x0001_0000_ffff_fffe

-- ---- ordinals

-- the method with this ordinal
unfoldable pub method_with : ℕ → Option Method
method_with ordinal = find (λ m. method_ordinal m == ordinal) all_methods

-- ---- the event

-- each kind is an empty table
abbrev pub an_empty_table : Variant
an_empty_table = object (table [] ∷ [])

abbrev pub event_layout : Layout
event_layout = union (map (λ kind. (branch_of_kind kind, an_empty_table)) told_kinds)

-- ---- the payload

-- the bytes of a message beside those of its payload, which stands behind them
abbrev pub beside_payload : Option Shape → ℕ
beside_payload (Some shape.Bytes) = 48
beside_payload (Some shape.Listing) = 40
beside_payload _ = 32
