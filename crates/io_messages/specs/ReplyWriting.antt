-- The one spelling of each reply and of the event.
use Rattle.std.specs.Prelude.{◌≡◌, ◌≢◌, ℕ, ◌+◌, ◌≤◌, true, List, [], ◌∷◌, ◌++◌, length, Option, Some, None}
use Rattle.std.specs.Int.{w32, cast_unsigned}
use Rattle.std.specs.Str.{IsUtf8}
use Rattle.fidl_names.specs.declared.limits.TheConstants as limit
use Rattle.fidl_names.specs.declared.methods.Handle.{Handle}
use Rattle.fidl_names.specs.declared.methods.Handle.TheVariants.{Token}
use Rattle.fidl_names.specs.declared.methods.Method.TheVariants as method
use Rattle.fidl_names.specs.declared.statuses.Status.{Status}
use Rattle.fidl_names.specs.declared.statuses.Status.TheVariants as status
use Rattle.fidl_names.specs.StatusNumber.{number_of}
use Rattle.fidl_wire.specs.declared.headers.Header.{Header}
use Rattle.fidl_wire.specs.Headers.{header_bytes}
use Rattle.io_messages.specs.Members.{numbers}
use Rattle.fidl_wire.specs.Layout.{Content, Layout, struct, fields, branch, num, blank, held, seq, members}
use Rattle.fidl_wire.specs.Names.{method_ordinal, event_ordinal}
use Rattle.fidl_wire.specs.Numbers.{padded}
use Rattle.fidl_wire.specs.Spelling.{body_bytes, body_handles}
use Rattle.io_messages.specs.declared.protocols.Protocol.{Protocol}
use Rattle.io_messages.specs.declared.replies.Attributes.{Attributes}
use Rattle.io_messages.specs.declared.replies.Shape.{Shape}
use Rattle.io_messages.specs.declared.replies.Shape.TheVariants as shape
use Rattle.io_messages.specs.Replies.{Answered, beside_payload, reply_layout, framework_cells, framework_ordinal, framework_envelope, event_layout}
use Rattle.io_messages.specs.Replies as answers
use Rattle.io_messages.specs.Failing.{IsInReply, failing_with}
pub use Rattle.io_messages.specs.Kinds.{branch_of_kind}
use Rattle.io_messages.specs.Shapes.{shape_of}
use Rattle.io_messages.specs.Writing.{plain_header}

-- ---- which replies a method has

-- a failure is a reply of this shape
abbrev pub CanFail : Option Shape → Type 0
CanFail s = IsInReply (failing_with s)

-- bytes may be a payload: where it is a string they are UTF-8
abbrev pub CanCarry : Option Shape → List ℕ → Type 0
CanCarry (Some shape.Bytes) bytes = Unit {0}
CanCarry (Some shape.Vector) bytes = Unit {0}
CanCarry (Some shape.Listing) bytes = Unit {0}
CanCarry (Some shape.Text) bytes = IsUtf8 bytes
CanCarry _ bytes = ⊥

-- the reply is one that its method has, and a failure has a status other than 0
abbrev pub HasReply : Answered → Type 0
HasReply (answers.done m) = shape_of m ≡ Some shape.Done
HasReply (answers.fails m s) = CanFail (shape_of m) × (s ≢ status.Ok)
HasReply (answers.counted m x) = shape_of m ≡ Some shape.Number
HasReply (answers.payload m bytes) = CanCarry (shape_of m) bytes
HasReply (answers.settled m) = shape_of m ≡ Some shape.Settled
HasReply (answers.token n) = Unit {0}
HasReply (answers.attributes a) = Unit {0}
HasReply (answers.unknown ordinal) = Unit {0}

-- a payload fits into a message; every other reply does
abbrev pub PayloadFits : Answered → Type 0
PayloadFits (answers.payload m bytes) = beside_payload (shape_of m) + padded (length bytes) ≤ limit.MAX_BYTES
PayloadFits _ = Unit {0}

-- ---- layouts and fields

abbrev pub layout_of : Option Shape → Layout
layout_of None = struct []
layout_of (Some s) = reply_layout s

abbrev pub written_layout : Answered → Layout
written_layout (answers.done m) = layout_of (shape_of m)
written_layout (answers.fails m s) = layout_of (shape_of m)
written_layout (answers.counted m x) = layout_of (shape_of m)
written_layout (answers.payload m bytes) = layout_of (shape_of m)
written_layout (answers.settled m) = layout_of (shape_of m)
written_layout (answers.token n) = reply_layout shape.Token
written_layout (answers.attributes a) = reply_layout shape.Attributes
written_layout (answers.unknown ordinal) = struct framework_cells

-- a failure: the number of a result's error; a status, beside which nothing stands
abbrev pub failure : Option Shape → ℕ → Content
failure (Some shape.Listing) x = fields (num x ∷ blank ∷ seq [] ∷ [])
failure (Some shape.Settled) x = fields (num x ∷ [])
failure (Some shape.Token) x = fields (num x ∷ held None ∷ [])
failure _ x = branch 2 (num x ∷ [])

abbrev pub carried : Option Shape → List ℕ → Content
carried (Some shape.Bytes) bytes = branch 1 (seq bytes ∷ [])
carried (Some shape.Listing) bytes = fields (num 0 ∷ blank ∷ seq bytes ∷ [])
carried _ bytes = fields (seq bytes ∷ [])

abbrev pub status_word : Status → ℕ
status_word s = cast_unsigned w32 (number_of s)

-- the immutable attributes by their members; the storage size is never given
abbrev pub attribute_members : Attributes → List (Option ℕ)
attribute_members a = a.protocols ∷ a.abilities ∷ a.content_size ∷ None ∷ a.link_count ∷ a.id ∷ []

abbrev pub content_of : Answered → Content
content_of (answers.done m) = branch 1 []
content_of (answers.fails m s) = failure (shape_of m) (status_word s)
content_of (answers.counted m x) = branch 1 (num x ∷ [])
content_of (answers.payload m bytes) = carried (shape_of m) bytes
content_of (answers.settled m) = fields (num 0 ∷ [])
content_of (answers.token n) = fields (num 0 ∷ held (Some (Token n)) ∷ [])
content_of (answers.attributes a) = branch 1 (members [] ∷ members (numbers (attribute_members a)) ∷ [])
content_of (answers.unknown ordinal) = fields (num framework_ordinal ∷ num framework_envelope ∷ [])

-- ---- messages

-- the framework's error alone is flexible
abbrev pub reply_header : ℕ → Answered → Header
reply_header txid (answers.done m) = plain_header txid (method_ordinal m)
reply_header txid (answers.fails m s) = plain_header txid (method_ordinal m)
reply_header txid (answers.counted m x) = plain_header txid (method_ordinal m)
reply_header txid (answers.payload m bytes) = plain_header txid (method_ordinal m)
reply_header txid (answers.settled m) = plain_header txid (method_ordinal m)
reply_header txid (answers.token n) = plain_header txid (method_ordinal method.GetToken)
reply_header txid (answers.attributes a) = plain_header txid (method_ordinal method.GetAttributes)
reply_header txid (answers.unknown ordinal) = record { txid = txid; flexible = true; ordinal = ordinal }

abbrev pub reply_body : Answered → List ℕ
reply_body a = body_bytes (written_layout a) (content_of a)

abbrev pub reply_bytes : ℕ → Answered → List ℕ
reply_bytes txid a = header_bytes (reply_header txid a) ++ reply_body a

abbrev pub reply_handles : Answered → List Handle
reply_handles a = body_handles (written_layout a) (content_of a)

abbrev pub event_bytes : Protocol → List ℕ
event_bytes kind = header_bytes (plain_header 0 event_ordinal) ++ body_bytes event_layout (branch (branch_of_kind kind) (members [] ∷ []))
