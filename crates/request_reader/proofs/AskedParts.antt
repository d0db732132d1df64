-- What a message has that asks a file for a part of its bytes.
use Rattle.std.proofs.Common.{◌≡◌, ◌∙◌, ℕ, Bool, true, false, List, [], Option, Some, None, Result, Ok, Err, ap, refl, sym}
use Rattle.fidl_names.specs.declared.methods.Method.{Method}
use Rattle.fidl_names.specs.declared.methods.Method.TheVariants as method
use Rattle.fidl_wire.specs.declared.faults.WireFault.{WireFault}
use Rattle.fidl_wire.specs.declared.headers.Header.{Header}
use Rattle.fidl_wire.specs.Headers.{header_of}
use Rattle.fidl_wire.specs.Layout.{struct}
use Rattle.fidl_wire.specs.Names.{method_ordinal}
use Rattle.fidl_wire.specs.Reading.{◌>>=◌, body_of}
use Rattle.io_messages.specs.declared.protocols.Protocol.TheVariants as protocol
use Rattle.io_messages.specs.Asked.{Asked, method_of}
use Rattle.io_messages.specs.Asked as asks
use Rattle.io_messages.specs.declared.requests.RequestFault.{RequestFault}
use Rattle.io_messages.specs.Protocols.{has_method}
use Rattle.io_messages.specs.Shapes.{is_one_way}
use Rattle.io_messages.specs.Requests.{asked_from, behind_header, fields_of, has_txid, items_in, known_request, method_in, or_malformed, request_cells, request_of, with_txid}
use Rattle.io_messages.proofs.Known.{method_in-says, method_read}
use Rattle.request_reader.specs.Parts.{AsksPart}

-- what holds of each Read and of each ReadAt holds of each request for a part
pub by_part : (P : Asked → Type 0) → ((count : ℕ) → P (asks.read count)) → ((count offset : ℕ) → P (asks.read_at count offset)) → (a : Asked) → AsksPart a → P a
by_part P next at (asks.read count) part = next count
by_part P next at (asks.read_at count offset) part = at count offset
by_part P next at (asks.clone endpoint) part = absurd part
by_part P next at asks.close part = absurd part
by_part P next at asks.query part = absurd part
by_part P next at (asks.get_attributes bits) part = absurd part
by_part P next at asks.sync part = absurd part
by_part P next at (asks.open_path path flags attributes object) part = absurd part
by_part P next at (asks.read_dirents max_bytes) part = absurd part
by_part P next at asks.rewind part = absurd part
by_part P next at asks.get_token part = absurd part
by_part P next at (asks.rename src token dst) part = absurd part
by_part P next at (asks.link src token dst) part = absurd part
by_part P next at (asks.unlink name flags) part = absurd part
by_part P next at (asks.watch mask options watcher) part = absurd part
by_part P next at (asks.write bytes) part = absurd part
by_part P next at (asks.write_at bytes offset) part = absurd part
by_part P next at (asks.seek origin offset) part = absurd part
by_part P next at (asks.resize size) part = absurd part
by_part P next at (asks.echo_string value) part = absurd part

-- files have its method
pub file_has : (a : Asked) → AsksPart a → has_method protocol.File (method_of a) ≡ true
file_has = by_part (λ a. has_method protocol.File (method_of a) ≡ true) (λ count. refl) (λ count offset. refl)

-- which has a reply
pub has_reply : (a : Asked) → AsksPart a → is_one_way (method_of a) ≡ false
has_reply = by_part (λ a. is_one_way (method_of a) ≡ false) (λ count. refl) (λ count offset. refl)

-- what a message has that is such a request
pub record HasPart (ordinal id : ℕ) (bytes : List ℕ) (a : Asked) : Type 0 where
  pub ordinal_is : method_ordinal (method_of a) ≡ ordinal
  pub two_way : has_txid false id ≡ true
  pub fields : fields_of (method_of a) bytes [] ≡ Ok a

-- what is asked for, or a Close where nothing is
asked_in : Result Asked WireFault → Asked
asked_in (Ok a) = a
asked_in (Err e) = asks.close

told_in : Result (ℕ × Asked) RequestFault → Asked
told_in (Ok asked) = asked.1
told_in (Err e) = asks.close

-- the fields of a method's request are that method's
pub asked_by : (m : Method) (bytes : List ℕ) (a : Asked) → fields_of m bytes [] ≡ Ok a → method_of a ≡ m
unfolding fields_of asked_in
asked_by m bytes a is = from (body_of (struct (request_cells m)) bytes []) is
  where
    from : (r : Result _ WireFault) → (r >>= λ content. Ok (asked_from m (items_in content))) ≡ Ok a → method_of a ≡ m
    from (Ok content) is = ap method_of (sym (ap asked_in is)) ∙ method_read m _
    from (Err e) is = absurd (cc)

parts : (fits : Bool) (id : ℕ) (r : Result Asked WireFault) (txid : ℕ) (a : Asked) → or_malformed (with_txid fits id r) ≡ Ok (txid, a) → (fits ≡ true) × (r ≡ Ok a)
unfolding told_in
parts true id (Ok x) txid a is = (refl, ap Ok (ap told_in is))
parts true id (Err e) txid a is = absurd (cc)
parts false id r txid a is = absurd (cc)

known : (h : Header) (o : Option Method) (bytes : List ℕ) (txid : ℕ) (a : Asked) → AsksPart a → ((m : Method) → o ≡ Some m → method_ordinal m ≡ h.ordinal) →
    known_request h o bytes [] ≡ Ok (txid, a) → HasPart h.ordinal h.txid bytes a
known h None bytes txid a part has is = absurd (cc)
known h (Some m) bytes txid a part has is =
    let both = parts (has_txid (is_one_way m) h.txid) h.txid (fields_of m bytes []) txid a is in
    let named : method_of a ≡ m = asked_by m bytes a both.1 in
    record {
      ordinal_is = ap method_ordinal named ∙ has m refl;
      two_way = ap (λ (b : Bool). has_txid b h.txid) (sym (has_reply a part) ∙ ap is_one_way named) ∙ both.0;
      fields = ap (λ n. fields_of n bytes []) named ∙ both.1;
    }

pub has_part : (bytes : List ℕ) (h : Header) (txid : ℕ) (a : Asked) → AsksPart a → header_of bytes ≡ Ok h → request_of protocol.File bytes [] ≡ Ok (txid, a) → HasPart h.ordinal h.txid bytes a
has_part bytes h txid a part header is =
    known h (method_in protocol.File h.ordinal) bytes txid a part (λ m found. (method_in-says protocol.File h.ordinal m found).1)
    (sym (ap (λ (x : Result Header WireFault). behind_header protocol.File x bytes []) header) ∙ is)

-- only a Read asks for the next bytes
pub next_alone : (bytes : List ℕ) (a : Asked) → AsksPart a → fields_of method.Read bytes [] ≡ Ok a → (count : ℕ) × (fields_of method.Read bytes [] ≡ Ok (asks.read count))
next_alone bytes =
    by_part (λ a. fields_of method.Read bytes [] ≡ Ok a → (count : ℕ) × (fields_of method.Read bytes [] ≡ Ok (asks.read count))) (λ count is. (count, is))
    (λ count offset is. absurd (let wrong : method.ReadAt ≡ method.Read = asked_by method.Read bytes (asks.read_at count offset) is in cc))

-- and only a ReadAt for those at an offset
pub at_alone : (bytes : List ℕ) (a : Asked) → AsksPart a → fields_of method.ReadAt bytes [] ≡ Ok a → (count : ℕ) × ((offset : ℕ) × (fields_of method.ReadAt bytes [] ≡ Ok (asks.read_at count offset)))
at_alone bytes =
    by_part (λ a. fields_of method.ReadAt bytes [] ≡ Ok a → (count : ℕ) × ((offset : ℕ) × (fields_of method.ReadAt bytes [] ≡ Ok (asks.read_at count offset))))
    (λ count is. absurd (let wrong : method.Read ≡ method.ReadAt = asked_by method.ReadAt bytes (asks.read count) is in cc))
    (λ count offset is. (count, (offset, is)))

-- no other method asks for a part
pub no_other : (m : Method) (bytes : List ℕ) (a : Asked) → AsksPart a → fields_of m bytes [] ≡ Ok a → (m ≡ method.Read → ⊥) → (m ≡ method.ReadAt → ⊥) → ⊥
no_other m bytes =
    by_part (λ a. fields_of m bytes [] ≡ Ok a → (m ≡ method.Read → ⊥) → (m ≡ method.ReadAt → ⊥) → ⊥)
    (λ count is not_read not_at. not_read (sym (asked_by m bytes (asks.read count) is)))
    (λ count offset is not_read not_at. not_at (sym (asked_by m bytes (asks.read_at count offset) is)))
