-- The one spelling of each request.
use Rattle.std.specs.Prelude.{FitsSigned, ◌≡◌, ℕ, ◌<◌, ◌≤◌, false, List, ◌++◌, length, Result, Ok, Err}
use Rattle.std.specs.Int.{w64}
use Rattle.std.specs.Str.{IsUtf8}
use Rattle.fidl_names.specs.declared.limits.TheConstants as limit
use Rattle.fidl_names.specs.declared.methods.Handle.{Handle}
use Rattle.fidl_wire.specs.declared.headers.Header.{Header}
use Rattle.fidl_wire.specs.Headers.{header_bytes}
use Rattle.fidl_wire.specs.Layout.{struct, fields}
use Rattle.fidl_wire.specs.Names.{method_ordinal}
use Rattle.fidl_wire.specs.Spelling.{body_bytes, body_handles, FitsBody}
use Rattle.fidl_wire.specs.Written.{Written}
use Rattle.io_messages.specs.declared.requests.TooLong.{TooLong}
use Rattle.io_messages.specs.Asked.{Asked, method_of}
use Rattle.io_messages.specs.Asked as asks
use Rattle.io_messages.specs.Requests.{request_cells, items_of}

-- the header of a message that is written: its other bits are zero
abbrev pub plain_header : ℕ → ℕ → Header
plain_header txid ordinal = record { txid = txid; flexible = false; ordinal = ordinal }

-- a request's fields
abbrev pub request_body : Asked → List ℕ
request_body a = body_bytes (struct (request_cells (method_of a))) (fields (items_of a))

abbrev pub request_handles : Asked → List Handle
request_handles a = body_handles (struct (request_cells (method_of a))) (fields (items_of a))

abbrev pub request_bytes : ℕ → Asked → List ℕ
request_bytes txid a = header_bytes (plain_header txid (method_ordinal (method_of a))) ++ request_body a

-- the texts of a request are UTF-8; the bytes of Write and WriteAt needn't be
abbrev pub HasTexts : Asked → Type 0
HasTexts (asks.open_path path flags attributes object) = IsUtf8 path
HasTexts (asks.rename src token dst) = IsUtf8 src × IsUtf8 dst
HasTexts (asks.link src token dst) = IsUtf8 src × IsUtf8 dst
HasTexts (asks.unlink name flags) = IsUtf8 name
HasTexts (asks.echo_string value) = IsUtf8 value
HasTexts _ = Unit {0}

-- an output has these bytes and handles now; or they are more than a message may have, and it is as it was
abbrev pub Wrote : List ℕ → List Handle → Result (Unit {0}) TooLong → Written → Written → Type 0
Wrote bytes handles (Ok u) old new = (new.bytes ≡ bytes) × (new.handles ≡ handles) × (length bytes ≤ limit.MAX_BYTES)
Wrote bytes handles (Err e) old new = (new ≡ old) × (limit.MAX_BYTES < length bytes)

-- a seek's offset is a signed number of eight bytes
abbrev pub HasOffset : Asked → Type 0
HasOffset (asks.seek origin offset) = FitsSigned w64 offset
HasOffset _ = Unit {0}

-- each number has the size of its field, and each text is UTF-8
pub record IsRequest (a : Asked) : Type 0 where
  pub offset : HasOffset a
  pub fits : FitsBody (struct (request_cells (method_of a))) (fields (items_of a))
