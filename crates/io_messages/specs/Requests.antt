-- The requests as messages: the layout of each method's fields, and what a request has in them.
use Rattle.std.specs.Prelude.{◌≡◌, ℕ, ◌+◌, ◌==◌, ◌&&◌, Bool, true, false, not, List, [], ◌∷◌, length, slice_range, Option, Some, None, Result, Ok, Err, unwrap_or, slice_index_or, if◌then◌else◌, find}
use Rattle.std.specs.Int.{w64, cast_unsigned, cast_signed}
use Rattle.fidl_names.specs.declared.methods.Handle.{Handle}
use Rattle.fidl_names.specs.declared.methods.Handle.TheVariants.{Endpoint, Token}
use Rattle.fidl_names.specs.HandleNumber.{number_of_handle}
use Rattle.fidl_names.specs.declared.methods.Method.{Method}
use Rattle.fidl_names.specs.declared.methods.Method.TheVariants as method
use Rattle.fidl_wire.specs.declared.faults.WireFault.{WireFault}
use Rattle.fidl_wire.specs.declared.faults.WireWhat.TheVariants.{Txid}
use Rattle.fidl_wire.specs.declared.headers.Header.{Header}
use Rattle.fidl_wire.specs.declared.kinds.HandleKind.TheVariants as kinds
use Rattle.fidl_wire.specs.declared.kinds.MemberKind.TheVariants as kind
use Rattle.fidl_wire.specs.Grammar.{IsSpelled}
use Rattle.fidl_wire.specs.Headers.{header_of, fault}
use Rattle.fidl_wire.specs.Layout.{Cell, Item, Content, Member, struct, fields, branch, number, pad, handle, text, vector, table, num, blank, held, seq, members}
use Rattle.fidl_wire.specs.Names.{method_ordinal}
use Rattle.fidl_wire.specs.Numbers.{padded}
use Rattle.fidl_wire.specs.Reading.{◌>>=◌, body_of}
use Rattle.io_messages.specs.declared.protocols.Protocol.{Protocol}
use Rattle.io_messages.specs.declared.requests.RequestFault.{RequestFault}
use Rattle.io_messages.specs.declared.requests.RequestFault.TheVariants.{Malformed, UnknownStrict, UnknownOneWay, UnknownTwoWay}
use Rattle.io_messages.specs.declared.requests.Request.{Request}
use Rattle.io_messages.specs.Asked.{Asked, asked, method_of}
use Rattle.io_messages.specs.Asked as asks
use Rattle.io_messages.specs.Members.{numbers, number_of}
use Rattle.io_messages.specs.Protocols.{has_method, all_methods}
use Rattle.io_messages.specs.Shapes.{is_one_way}

-- ---- cells

abbrev pub an_endpoint : Cell
an_endpoint = handle kinds.AnEndpoint false

abbrev pub a_token : Cell
a_token = handle kinds.AToken false

-- a table whose member 1 alone is known, a number that may be absent
abbrev pub options : Cell
options = table (kind.Number false ∷ [])

-- two names, and between them the token of the directory that the second is in
abbrev pub two_names : List Cell
two_names = text ∷ a_token ∷ pad 4 ∷ text ∷ []

-- the fields of each method's request
abbrev pub request_cells : Method → List Cell
request_cells method.Clone = an_endpoint ∷ []
request_cells method.Close = []
request_cells method.Query = []
request_cells method.GetAttributes = number 8 ∷ []
request_cells method.Sync = []
request_cells method.OpenPath = text ∷ number 8 ∷ options ∷ an_endpoint ∷ pad 4 ∷ []
request_cells method.ReadDirents = number 8 ∷ []
request_cells method.Rewind = []
request_cells method.GetToken = []
request_cells method.Rename = two_names
request_cells method.Link = two_names
request_cells method.Unlink = text ∷ options ∷ []
request_cells method.Watch = number 4 ∷ number 4 ∷ an_endpoint ∷ []
request_cells method.Read = number 8 ∷ []
request_cells method.ReadAt = number 8 ∷ number 8 ∷ []
request_cells method.Write = vector ∷ []
request_cells method.WriteAt = vector ∷ number 8 ∷ []
request_cells method.Seek = number 4 ∷ pad 4 ∷ number 8 ∷ []
request_cells method.Resize = number 8 ∷ []
request_cells method.EchoString = text ∷ []

-- ---- values

-- what a request has in its fields, as it is written: flags of 0 have no member
abbrev pub flags_member : ℕ → Option ℕ
flags_member flags = if flags == 0 then None else Some flags

abbrev pub held_endpoint : ℕ → Item
held_endpoint n = held (Some (Endpoint n))

abbrev pub held_token : ℕ → Item
held_token n = held (Some (Token n))

abbrev pub items_of : Asked → List Item
items_of (asks.clone endpoint) = held_endpoint endpoint ∷ []
items_of asks.close = []
items_of asks.query = []
items_of (asks.get_attributes bits) = num bits ∷ []
items_of asks.sync = []
items_of (asks.open_path path flags attributes object) =
    seq path ∷ num flags ∷ members (numbers (attributes ∷ [])) ∷ held_endpoint object ∷ blank ∷ []
items_of (asks.read_dirents max_bytes) = num max_bytes ∷ []
items_of asks.rewind = []
items_of asks.get_token = []
items_of (asks.rename src token dst) = seq src ∷ held_token token ∷ blank ∷ seq dst ∷ []
items_of (asks.link src token dst) = seq src ∷ held_token token ∷ blank ∷ seq dst ∷ []
items_of (asks.unlink name flags) = seq name ∷ members (numbers (flags_member flags ∷ [])) ∷ []
items_of (asks.watch mask options watcher) = num mask ∷ num options ∷ held_endpoint watcher ∷ []
items_of (asks.read count) = num count ∷ []
items_of (asks.read_at count offset) = num count ∷ num offset ∷ []
items_of (asks.write bytes) = seq bytes ∷ []
items_of (asks.write_at bytes offset) = seq bytes ∷ num offset ∷ []
items_of (asks.seek origin offset) = num origin ∷ blank ∷ num (cast_unsigned w64 offset) ∷ []
items_of (asks.resize size) = num size ∷ []
items_of (asks.echo_string value) = seq value ∷ []

-- the field of that place, by what it holds
abbrev pub item : ℕ → List Item → Item
item i items = slice_index_or items i blank

abbrev pub num_of : Item → ℕ
num_of (num x) = x
num_of _ = 0

abbrev pub seq_of : Item → List ℕ
seq_of (seq xs) = xs
seq_of _ = []

abbrev pub handle_of : Item → ℕ
handle_of (held (Some h)) = number_of_handle h
handle_of _ = 0

-- the member of a table with one that is known
abbrev pub first_member : List (Option Member) → Option Member
first_member [] = None
first_member (x ∷ xs) = x

abbrev pub member_of : Item → Option ℕ
member_of (members values) = number_of (first_member values)
member_of _ = None

abbrev pub num_in : ℕ → List Item → ℕ
num_in i items = num_of (item i items)

abbrev pub seq_in : ℕ → List Item → List ℕ
seq_in i items = seq_of (item i items)

abbrev pub handle_in : ℕ → List Item → ℕ
handle_in i items = handle_of (item i items)

abbrev pub member_in : ℕ → List Item → Option ℕ
member_in i items = member_of (item i items)

-- the request of a method with these fields, by their places
abbrev pub asked_from : Method → List Item → Asked
asked_from method.Clone xs = asks.clone (handle_in 0 xs)
asked_from method.Close xs = asks.close
asked_from method.Query xs = asks.query
asked_from method.GetAttributes xs = asks.get_attributes (num_in 0 xs)
asked_from method.Sync xs = asks.sync
asked_from method.OpenPath xs = asks.open_path (seq_in 0 xs) (num_in 1 xs) (member_in 2 xs) (handle_in 3 xs)
asked_from method.ReadDirents xs = asks.read_dirents (num_in 0 xs)
asked_from method.Rewind xs = asks.rewind
asked_from method.GetToken xs = asks.get_token
asked_from method.Rename xs = asks.rename (seq_in 0 xs) (handle_in 1 xs) (seq_in 3 xs)
asked_from method.Link xs = asks.link (seq_in 0 xs) (handle_in 1 xs) (seq_in 3 xs)
asked_from method.Unlink xs = asks.unlink (seq_in 0 xs) (unwrap_or (member_in 1 xs) 0)
asked_from method.Watch xs = asks.watch (num_in 0 xs) (num_in 1 xs) (handle_in 2 xs)
asked_from method.Read xs = asks.read (num_in 0 xs)
asked_from method.ReadAt xs = asks.read_at (num_in 0 xs) (num_in 1 xs)
asked_from method.Write xs = asks.write (seq_in 0 xs)
asked_from method.WriteAt xs = asks.write_at (seq_in 0 xs) (num_in 1 xs)
asked_from method.Seek xs = asks.seek (num_in 0 xs) (cast_signed w64 (num_in 2 xs))
asked_from method.Resize xs = asks.resize (num_in 0 xs)
asked_from method.EchoString xs = asks.echo_string (seq_in 0 xs)

-- ---- reading

-- a one-way message has the transaction id 0, and every other message another one
abbrev pub has_txid : Bool → ℕ → Bool
has_txid one_way txid = if one_way then txid == 0 else not (txid == 0)

-- bytes and handles are this request, with this transaction id, whatever their endpoint speaks
pub record IsAsked (bytes : List ℕ) (handles : List Handle) (txid : ℕ) (a : Asked) : Type 0 where
  pub header : Header
  pub method : Method
  pub items : List Item
  pub header_is : header_of bytes ≡ Ok header
  pub ordinal_is : method_ordinal method ≡ header.ordinal
  pub txid_is : header.txid ≡ txid
  pub way : has_txid (is_one_way method) txid ≡ true
  pub spelled : IsSpelled (struct (request_cells method)) (fields items) bytes handles
  pub fields_are : asked_from method items ≡ a

-- and the protocol of their endpoint has its method
pub record Reads (protocol : Protocol) (bytes : List ℕ) (handles : List Handle) (txid : ℕ) (a : Asked) : Type 0 where
  pub is_asked : IsAsked bytes handles txid a
  pub known : has_method protocol (method_of a) ≡ true

-- the method of a protocol with this ordinal
unfoldable pub method_in : Protocol → ℕ → Option Method
method_in protocol ordinal = find (λ m. has_method protocol m && (method_ordinal m == ordinal)) all_methods

-- why an ordinal that the protocol doesn't have is refused
abbrev pub unknown_of : Header → RequestFault
unknown_of h =
    if not h.flexible then UnknownStrict
    else if h.txid == 0 then UnknownOneWay
    else UnknownTwoWay h.txid h.ordinal

abbrev pub items_in : Content → List Item
items_in (fields items) = items
items_in (branch ordinal items) = items

-- the fields of a method's request, or the first fault
unfoldable pub fields_of : Method → List ℕ → List Handle → Result Asked WireFault
fields_of m bytes handles = body_of (struct (request_cells m)) bytes handles >>= λ content. Ok (asked_from m (items_in content))

abbrev pub or_malformed : {X : Type 0} → Result X WireFault → Result X RequestFault
or_malformed (Ok x) = Ok x
or_malformed (Err e) = Err (Malformed e)

abbrev pub with_txid : Bool → ℕ → Result Asked WireFault → Result (ℕ × Asked) WireFault
with_txid fits txid read = if fits then (read >>= λ a. Ok (txid, a)) else Err (fault 0 Txid)

-- a message of a method that the protocol has
abbrev pub known_request : Header → Option Method → List ℕ → List Handle → Result (ℕ × Asked) RequestFault
known_request h None bytes handles = Err (unknown_of h)
known_request h (Some m) bytes handles = or_malformed (with_txid (has_txid (is_one_way m) h.txid) h.txid (fields_of m bytes handles))

abbrev pub behind_header : Protocol → Result Header WireFault → List ℕ → List Handle → Result (ℕ × Asked) RequestFault
behind_header protocol (Err e) bytes handles = Err (Malformed e)
behind_header protocol (Ok h) bytes handles = known_request h (method_in protocol h.ordinal) bytes handles

-- the request that bytes and handles are, or why they are none: the header's first flaw, an ordinal that the protocol doesn't
-- have, the transaction id, the first fault of the fields
abbrev pub request_of : Protocol → List ℕ → List Handle → Result (ℕ × Asked) RequestFault
request_of protocol bytes handles = behind_header protocol (header_of bytes) bytes handles

-- ---- the parts that a request lends

-- a part is that of the message from this place on
abbrev pub IsPartAt : List ℕ → ℕ → List ℕ → Type 0
IsPartAt message place part = part ≡ slice_range message place (place + length part)

-- each text and each list of bytes is the part of the message behind the fields, or behind the text before it
abbrev pub ArePartsOf : List ℕ → Asked → Type 0
ArePartsOf message (asks.open_path path flags attributes object) = IsPartAt message 64 path
ArePartsOf message (asks.rename src token dst) = IsPartAt message 56 src × IsPartAt message (56 + padded (length src)) dst
ArePartsOf message (asks.link src token dst) = IsPartAt message 56 src × IsPartAt message (56 + padded (length src)) dst
ArePartsOf message (asks.unlink name flags) = IsPartAt message 48 name
ArePartsOf message (asks.write bytes) = IsPartAt message 32 bytes
ArePartsOf message (asks.write_at bytes offset) = IsPartAt message 40 bytes
ArePartsOf message (asks.echo_string value) = IsPartAt message 32 value
ArePartsOf message _ = Unit {0}

-- ---- a result of the code

-- what was read, without where it lies in memory
abbrev pub told : {E : Type 0} → Result (ℕ × Request) E → Result (ℕ × Asked) E
told (Ok r) = Ok (r.0, asked r.1)
told (Err e) = Err e

abbrev pub fields_told : {E : Type 0} → Result Request E → Result Asked E
fields_told (Ok r) = Ok (asked r)
fields_told (Err e) = Err e
