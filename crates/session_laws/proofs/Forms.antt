-- What a message is read as by its transaction id.
use Rattle.std.proofs.Common.{◌≡◌, ℕ, ◌==◌, ◌∙◌, nat_lt, length, Bool, true, false, not, cond, List, Option, Some, None, Result, Ok, Err, refl, sym, ap, subst}
use Rattle.std.specs.Prelude.{slice_index}
use Rattle.fidl_names.specs.declared.methods.Handle.{Handle}
use Rattle.fidl_names.specs.declared.methods.Method.{Method}
use Rattle.fidl_wire.specs.declared.faults.WireFault.{WireFault}
use Rattle.fidl_wire.specs.declared.headers.Header.{Header}
use Rattle.fidl_wire.specs.declared.faults.WireWhat.TheVariants.{Short, Magic, Version, Overflow}
use Rattle.fidl_wire.specs.Numbers.{has_bit}
use Rattle.fidl_wire.specs.Headers.{fault, fields_of, header_of}
use Rattle.fidl_wire.specs.Layout.{Content, struct}
use Rattle.fidl_wire.specs.Reading.{◌>>=◌, body_of}
use Rattle.io_messages.specs.Asked.{method_of}
use Rattle.io_messages.specs.declared.protocols.Protocol.{Protocol}
use Rattle.io_messages.specs.declared.requests.RequestFault.TheVariants.{Malformed, UnknownStrict, UnknownOneWay, UnknownTwoWay}
use Rattle.io_messages.specs.Requests.{asked_from, behind_header, has_txid, items_in, known_request, method_in, or_malformed, request_cells, request_of, with_txid}
use Rattle.io_messages.specs.Requests as requests
use Rattle.io_messages.specs.Shapes.{is_one_way}
use Rattle.io_messages.proofs.Known.{method_read}
use Rattle.vfs_journal.specs.Serving.{Read}
use Rattle.session_laws.specs.Pipelined.{txid_in}

-- a header that is read has the fields at their offsets
header_by : (short magic version overflow : Bool) (a b c d : WireFault) (x h : Header) →
    cond short (Err a) (cond (not magic) (Err b) (cond (not version) (Err c) (cond overflow (Err d) (Ok x)))) ≡ Ok h → x ≡ h
header_by true magic version overflow a b c d x h e = absurd (cc)
header_by false false version overflow a b c d x h e = absurd (cc)
header_by false true false overflow a b c d x h e = absurd (cc)
header_by false true true true a b c d x h e = absurd (cc)
header_by false true true false a b c d x h e = cc

header_fields : (bytes : List ℕ) (h : Header) → header_of bytes ≡ Ok h → fields_of bytes ≡ h
header_fields bytes h e =
    header_by (nat_lt (length bytes) 16) (slice_index bytes 7 == 1) (has_bit 0x02 (slice_index bytes 4)) (has_bit 0x40 (slice_index bytes 6))
    (fault (length bytes) Short) (fault 7 Magic) (fault 4 Version) (fault 6 Overflow) (fields_of bytes) h e

-- what a message with a transaction id is read as: a request has this id, none where its method is one-way; an unknown method that asks for
-- a reply has it too, and one that doesn't has none
abbrev pub HasId : ℕ → Read → Type 0
HasId id (Ok found) = (found.0 ≡ id) × (has_txid (is_one_way (method_of found.1)) id ≡ true)
HasId id (Err (Malformed fault)) = Unit {0}
HasId id (Err UnknownStrict) = Unit {0}
HasId id (Err UnknownOneWay) = (id == 0) ≡ true
HasId id (Err (UnknownTwoWay txid ordinal)) = (txid ≡ id) × ((id == 0) ≡ false)

unknown_has : (h : Header) (flexible zero : Bool) → (h.txid == 0) ≡ zero →
    HasId h.txid (Err (cond (not flexible) UnknownStrict (cond zero UnknownOneWay (UnknownTwoWay h.txid h.ordinal))))
unknown_has h false zero e = tt
unknown_has h true true e = e
unknown_has h true false e = (refl, e)

known_has : (h : Header) (m : Method) (fits : Bool) → has_txid (is_one_way m) h.txid ≡ fits → (body : Result Content WireFault) →
    HasId h.txid (or_malformed (with_txid fits h.txid (body >>= λ content. Ok (asked_from m (items_in content)))))
known_has h m false e body = tt
known_has h m true e (Err fault) = tt
known_has h m true e (Ok content) = (refl, ap (λ (k : Method). has_txid (is_one_way k) h.txid) (method_read m (items_in content)) ∙ e)

request_has : (h : Header) (o : Option Method) (bytes : List ℕ) (handles : List Handle) → HasId h.txid (known_request h o bytes handles)
unfolding requests.fields_of
request_has h None bytes handles = unknown_has h h.flexible (h.txid == 0) refl
request_has h (Some m) bytes handles = known_has h m (has_txid (is_one_way m) h.txid) refl (body_of (struct (request_cells m)) bytes handles)

pub read_has : (p : Protocol) (bytes : List ℕ) (handles : List Handle) → HasId (txid_in bytes) (request_of p bytes handles)
read_has p bytes handles = by_header (header_of bytes) refl where
  by_header : (r : Result Header WireFault) → header_of bytes ≡ r → HasId (txid_in bytes) (behind_header p r bytes handles)
  by_header (Err e) is = tt
  by_header (Ok h) is =
      subst (λ (id : ℕ). HasId id (known_request h (method_in p h.ordinal) bytes handles)) (ap (λ (k : Header). k.txid) (sym (header_fields bytes h is)))
      (request_has h (method_in p h.ordinal) bytes handles)
