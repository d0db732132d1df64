-- The replies and the event that bytes and handles are, or why they are none.
use Rattle.std.specs.Prelude.{◌≡◌, ℕ, ℤ, ◌==◌, ◌&&◌, ◌⊎◌, Bool, true, false, not, List, [], ◌∷◌, length, Option, Some, None, is_none, Result, Ok, Err, slice_index_or, if◌then◌else◌, find}
use Rattle.std.specs.Int.{w32, cast_signed}
use Rattle.std.specs.Ordering.{int_eq}
use Rattle.fidl_names.specs.declared.methods.Handle.{Handle}
use Rattle.fidl_names.specs.declared.methods.Method.{Method}
use Rattle.fidl_names.specs.declared.statuses.Status.{Status}
use Rattle.fidl_names.specs.declared.statuses.Status.TheVariants as status
use Rattle.fidl_names.specs.StatusNumber.{number_of}
use Rattle.fidl_wire.specs.declared.faults.WireFault.{WireFault}
use Rattle.fidl_wire.specs.declared.faults.WireWhat.TheVariants.{Txid, Ordinal, Value}
use Rattle.fidl_wire.specs.declared.headers.Header.{Header}
use Rattle.fidl_wire.specs.Cursor.{Cursor}
use Rattle.fidl_wire.specs.Grammar.{IsSpelled}
use Rattle.fidl_wire.specs.Headers.{header_of, fault}
use Rattle.io_messages.specs.Members.{number_of as number_of_member}
use Rattle.fidl_wire.specs.Layout.{Item, Content, Member, struct, fields, branch, word, held, members}
use Rattle.fidl_wire.specs.Names.{method_ordinal, event_ordinal}
use Rattle.fidl_wire.specs.Reading.{◌>>=◌, body_of, variant_items}
use Rattle.io_messages.specs.declared.protocols.Protocol.{Protocol}
use Rattle.io_messages.specs.declared.replies.Attributes.{Attributes}
use Rattle.io_messages.specs.declared.replies.Reply.{Reply}
use Rattle.io_messages.specs.declared.replies.Shape.{Shape}
use Rattle.io_messages.specs.declared.replies.Shape.TheVariants as shape
use Rattle.fidl_names.specs.HandleNumber.{number_of_handle}
use Rattle.io_messages.specs.Kinds.{kind_with}
use Rattle.io_messages.specs.Requests.{IsPartAt, item, num_in, seq_in, items_in}
use Rattle.io_messages.specs.Shapes.{shape_of}
use Rattle.io_messages.specs.Replies.{Answered, done, fails, counted, payload, settled, token, attributes, unknown, answered, reply_layout, framework_cells, framework_ordinal, framework_envelope, method_with, event_layout, beside_payload}

-- ---- values

abbrev pub all_statuses : List Status
all_statuses =
    status.Ok ∷ status.Internal ∷ status.NotSupported ∷ status.NoResources ∷ status.NoMemory ∷ status.InvalidArgs ∷ status.BadHandle ∷ status.WrongType ∷ status.OutOfRange ∷ status.BufferTooSmall ∷ status.BadState ∷ status.ShouldWait ∷ status.PeerClosed ∷ status.NotFound ∷ status.AlreadyExists ∷ status.AccessDenied ∷ status.NotDir ∷ status.NotFile ∷ status.FileBig ∷ status.NoSpace ∷ status.NotEmpty ∷ []

-- the status with this number
unfoldable pub status_with : ℤ → Option Status
status_with z = find (λ s. int_eq (number_of s) z) all_statuses

-- where an error's number and a status stand
abbrev pub error_place : ℕ
error_place = 24

abbrev pub status_place : ℕ
status_place = 16

-- the failure with the number at a place, which is that of a status other than 0
abbrev pub named_failure : Method → ℕ → Option Status → Result Answered WireFault
named_failure m place None = Err (fault place Value)
named_failure m place (Some s) = Ok (fails m s)

unfoldable pub failed : Method → ℕ → ℕ → Result Answered WireFault
failed m place x = if x == 0 then Err (fault place Value) else named_failure m place (status_with (cast_signed w32 x))

-- the error of the result that is read next
abbrev pub error_in : Method → Cursor → Result Answered WireFault
error_in m c = variant_items word c >>= λ xs. failed m error_place (num_in 0 xs)

-- a status: beside one other than 0 nothing stands
abbrev pub by_status : Method → ℕ → Bool → Result Answered WireFault → Result Answered WireFault
by_status m x alone success =
    if x == 0 then success
    else if alone then failed m status_place x
    else Err (fault status_place Value)

abbrev pub ordinal_in : Content → ℕ
ordinal_in (fields items) = 0
ordinal_in (branch ordinal items) = ordinal

-- a result: its success, or the failure with the error's number
abbrev pub by_result : Method → Content → Answered → Result Answered WireFault
by_result m content success =
    if ordinal_in content == 1 then Ok success else failed m error_place (num_in 0 (items_in content))

abbrev pub held_of : Item → Option Handle
held_of (held h) = h
held_of _ = None

abbrev pub members_of : Item → List (Option Member)
members_of (members values) = values
members_of _ = []

abbrev pub is_empty : List ℕ → Bool
is_empty xs = length xs == 0

abbrev pub given_token : Option Handle → Result Answered WireFault
given_token None = Err (fault status_place Value)
given_token (Some h) = Ok (token (number_of_handle h))

abbrev pub member : ℕ → List (Option Member) → Option ℕ
member k values = number_of_member (slice_index_or values k None)

-- the attributes by the places of their members
abbrev pub attributes_from : List (Option Member) → Attributes
attributes_from values =
    record { protocols = member 0 values; abilities = member 1 values; content_size = member 2 values; link_count = member 4 values; id = member 5 values }

-- the reply of a shape with these fields, or the fault that a number may not stand there
abbrev pub answered_from : Shape → Method → Content → Result Answered WireFault
answered_from shape.Done m c = by_result m c (done m)
answered_from shape.Number m c = by_result m c (counted m (num_in 0 (items_in c)))
answered_from shape.Bytes m c = by_result m c (payload m (seq_in 0 (items_in c)))
answered_from shape.Attributes m c = by_result m c (attributes (attributes_from (members_of (item 1 (items_in c)))))
answered_from shape.Vector m c = Ok (payload m (seq_in 0 (items_in c)))
answered_from shape.Text m c = Ok (payload m (seq_in 0 (items_in c)))
answered_from shape.Listing m c = by_status m (num_in 0 (items_in c)) (is_empty (seq_in 2 (items_in c))) (Ok (payload m (seq_in 2 (items_in c))))
answered_from shape.Settled m c = by_status m (num_in 0 (items_in c)) true (Ok (settled m))
answered_from shape.Token m c = by_status m (num_in 0 (items_in c)) (is_none (held_of (item 1 (items_in c)))) (given_token (held_of (item 1 (items_in c))))

-- ---- reading

-- the fields of a reply, or the first fault, that on a value last
unfoldable pub reply_fields : Shape → Method → List ℕ → List Handle → Result Answered WireFault
reply_fields s m bytes handles = body_of (reply_layout s) bytes handles >>= λ content. answered_from s m content

-- the two numbers of the framework's error
abbrev pub are_framework_words : Result Content WireFault → Bool
are_framework_words (Err e) = false
are_framework_words (Ok c) = (num_in 0 (items_in c) == framework_ordinal) && (num_in 1 (items_in c) == framework_envelope)

unfoldable pub is_framework_error : List ℕ → List Handle → Bool
is_framework_error bytes handles = are_framework_words (body_of (struct framework_cells) bytes handles)

abbrev pub shaped_reply : Header → Method → Option Shape → List ℕ → List Handle → Result (ℕ × Answered) WireFault
shaped_reply h m None bytes handles = Err (fault 8 Ordinal)
shaped_reply h m (Some s) bytes handles =
    if h.txid == 0 then Err (fault 0 Txid) else (reply_fields s m bytes handles >>= λ a. Ok (h.txid, a))

abbrev pub named_reply : Header → Option Method → List ℕ → List Handle → Result (ℕ × Answered) WireFault
named_reply h None bytes handles = Err (fault 8 Ordinal)
named_reply h (Some m) bytes handles = shaped_reply h m (shape_of m) bytes handles

abbrev pub headed_reply : Result Header WireFault → List ℕ → List Handle → Result (ℕ × Answered) WireFault
headed_reply (Err e) bytes handles = Err e
headed_reply (Ok h) bytes handles =
    if not (h.txid == 0) && is_framework_error bytes handles then Ok (h.txid, unknown h.ordinal)
    else named_reply h (method_with h.ordinal) bytes handles

-- the reply that bytes and handles are, or why they are none: the header's first flaw, an ordinal that is no two-way method's, the
-- transaction id 0, the first fault of the fields, a number that may not stand there; but the framework's error is one for every ordinal
abbrev pub reply_of : List ℕ → List Handle → Result (ℕ × Answered) WireFault
reply_of bytes handles = headed_reply (header_of bytes) bytes handles

-- ---- the event

abbrev pub told_kind : Option Protocol → Result Protocol WireFault
told_kind None = Err (fault 16 Ordinal)
told_kind (Some kind) = Ok kind

-- the kind that an event's body tells
abbrev pub kind_in : Result Content WireFault → Result Protocol WireFault
kind_in body = body >>= λ content. told_kind (kind_with (ordinal_in content))

abbrev pub headed_event : Result Header WireFault → List ℕ → Result Protocol WireFault
headed_event (Err e) bytes = Err e
headed_event (Ok h) bytes =
    if not (h.ordinal == event_ordinal) then Err (fault 8 Ordinal)
    else if not (h.txid == 0) then Err (fault 0 Txid)
    else kind_in (body_of event_layout bytes [])

-- the kind that an event tells, or why the bytes are no event
abbrev pub event_of : List ℕ → Result Protocol WireFault
event_of bytes = headed_event (header_of bytes) bytes

-- ---- what bytes and handles are

-- the framework's error, with the ordinal that isn't known
pub record IsFrameworkError (bytes : List ℕ) (handles : List Handle) (txid ordinal : ℕ) : Type 0 where
  pub header : Header
  pub header_is : header_of bytes ≡ Ok header
  pub ordinal_is : header.ordinal ≡ ordinal
  pub txid_is : header.txid ≡ txid
  pub way : (txid == 0) ≡ false
  pub body : is_framework_error bytes handles ≡ true

-- a method's reply
pub record IsReply (bytes : List ℕ) (handles : List Handle) (txid : ℕ) (a : Answered) : Type 0 where
  pub header : Header
  pub method : Method
  pub shape : Shape
  pub content : Content
  pub header_is : header_of bytes ≡ Ok header
  pub ordinal_is : method_ordinal method ≡ header.ordinal
  pub shape_is : shape_of method ≡ Some shape
  pub txid_is : header.txid ≡ txid
  pub way : (txid == 0) ≡ false
  pub spelled : IsSpelled (reply_layout shape) content bytes handles
  pub fields_are : answered_from shape method content ≡ Ok a

-- bytes and handles are this reply with this transaction id: the framework's error, or a method's reply
abbrev pub ReadsReply : List ℕ → List Handle → ℕ → Answered → Type 0
ReadsReply bytes handles txid a =
    ((ordinal : ℕ) × (a ≡ unknown ordinal) × IsFrameworkError bytes handles txid ordinal) ⊎ IsReply bytes handles txid a

-- bytes without handles are an event that tells this kind
pub record ReadsEvent (bytes : List ℕ) (kind : Protocol) : Type 0 where
  pub header : Header
  pub content : Content
  pub header_is : header_of bytes ≡ Ok header
  pub ordinal_is : header.ordinal ≡ event_ordinal
  pub way : header.txid ≡ 0
  pub spelled : IsSpelled event_layout content bytes []
  pub kind_is : kind_with (ordinal_in content) ≡ Some kind

-- ---- the part that a reply lends

-- a payload is the part of the message behind all that the reply has beside it
abbrev pub IsPayloadOf : List ℕ → Answered → Type 0
IsPayloadOf message (payload m bytes) = IsPartAt message (beside_payload (shape_of m)) bytes
IsPayloadOf message _ = Unit {0}

-- ---- results of the code

abbrev pub reply_told : {E : Type 0} → Result (ℕ × Reply) E → Result (ℕ × Answered) E
reply_told (Ok r) = Ok (r.0, answered r.1)
reply_told (Err e) = Err e

abbrev pub answer_told : {E : Type 0} → Result Reply E → Result Answered E
answer_told (Ok r) = Ok (answered r)
answer_told (Err e) = Err e
