-- A request is read exactly where it is spelled.
use Rattle.std.proofs.Common.{◌≡◌, ℕ, Bool, true, false, List, Option, Some, None, Result, Ok, Err, IfOk, refl, sym, ap, ◌∙◌, subst}
use Rattle.fidl_names.specs.declared.methods.Handle.{Handle}
use Rattle.fidl_names.specs.declared.methods.Method.{Method}
use Rattle.fidl_wire.specs.declared.faults.WireFault.{WireFault}
use Rattle.fidl_wire.specs.declared.headers.Header.{Header}
use Rattle.fidl_wire.specs.Grammar.{IsSpelled}
use Rattle.fidl_wire.specs.Headers.{header_of}
use Rattle.wire_laws.specs.Laws.{ReadsWhatIsSpelled, SpelledWhereRead}
use Rattle.fidl_wire.specs.Layout.{Item, Content, struct, fields, branch}
use Rattle.fidl_wire.specs.Names.{MethodsHaveTheirOwn}
use Rattle.fidl_wire.specs.Reading.{◌>>=◌, body_of}
use Rattle.io_messages.specs.declared.protocols.Protocol.{Protocol}
use Rattle.io_messages.specs.declared.requests.RequestFault.{RequestFault}
use Rattle.io_messages.specs.declared.requests.Request.{Request}
use Rattle.io_messages.specs.Asked.{Asked, asked}
use Rattle.io_messages.specs.Protocols.{has_method}
use Rattle.io_messages.specs.Requests.{IsAsked, Reads, request_cells, asked_from, items_in, fields_of, has_txid, method_in, with_txid, or_malformed, known_request, behind_header, request_of, told}
use Rattle.io_messages.specs.Shapes.{is_one_way}
use Rattle.io_messages.proofs.Known.{method_asked, method_in-has, method_in-says, only_method}
use Rattle.wire_laws.proofs.Leaving.{bind_ok}

-- ---- what is read is spelled

abbrev Read : Type 0
Read = ℕ × Asked

content_is : (law : SpelledWhereRead) (m : Method) (bytes : List ℕ) (handles : List Handle) (content : Content) → body_of (struct (request_cells m)) bytes handles ≡ Ok content → content ≡ fields (items_in content)
content_is law m bytes handles (fields xs) h = refl
content_is law m bytes handles (branch n xs) h = absurd ((law (struct (request_cells m)) (branch n xs) bytes handles h).body)

well_formed : (r : Result Read WireFault) (x : Read) → or_malformed r ≡ Ok x → r ≡ Ok x
well_formed (Ok y) x h = let same : y ≡ x = cc in ap (λ (v : Read). Ok v) same
well_formed (Err e) x h = absurd (cc)

way_ok : (b : Bool) (txid : ℕ) (r : Result Asked WireFault) (x : Read) → with_txid b txid r ≡ Ok x → (b ≡ true) × ((r >>= λ a. Ok (txid, a)) ≡ Ok x)
way_ok true txid r x h = (refl, h)
way_ok false txid r x h = absurd (cc)

fields_read : (law : SpelledWhereRead) (p : Protocol) (bytes : List ℕ) (handles : List Handle) (t : ℕ) (a : Asked) (h : Header) (m : Method) → header_of bytes ≡ Ok h →
    method_in p h.ordinal ≡ Some m → has_txid (is_one_way m) h.txid ≡ true → with_txid true h.txid (fields_of m bytes handles) ≡ Ok (t, a) → Reads p bytes handles t a
unfolding fields_of
fields_read law p bytes handles t a h m header named way read =
    let got = bind_ok (fields_of m bytes handles) _ (t, a) read in
    let body = bind_ok (body_of (struct (request_cells m)) bytes handles) _ got.0 got.1 in
    let whole : Read = (h.txid, got.0) in
    let same : whole ≡ (t, a) = cc got.2 in
    let says = method_in-says p h.ordinal m named in
    let txid : h.txid ≡ t = ap (λ (v : Read). v.0) same in
    let from : asked_from m (items_in body.0) ≡ got.0 = cc body.2 in
    let is : IsAsked bytes handles t a = record {
      header = h;
      method = m;
      items = items_in body.0;
      header_is = header;
      ordinal_is = says.1;
      txid_is = txid;
      way = subst (λ (n : ℕ). has_txid (is_one_way m) n ≡ true) txid way;
      spelled = subst (λ (c : Content). IsSpelled (struct (request_cells m)) c bytes handles) (content_is law m bytes handles body.0 body.1) (law (struct (request_cells m)) body.0 bytes handles body.1);
      fields_are = from ∙ ap (λ (v : Read). v.1) same;
    } in
    record { is_asked = is; known = ap (has_method p) (method_asked bytes handles t a is) ∙ says.0 }

named_read : (law : SpelledWhereRead) (p : Protocol) (bytes : List ℕ) (handles : List Handle) (t : ℕ) (a : Asked) (h : Header) (o : Option Method) → header_of bytes ≡ Ok h →
    method_in p h.ordinal ≡ o → known_request h o bytes handles ≡ Ok (t, a) → Reads p bytes handles t a
named_read law p bytes handles t a h None header named read = absurd (cc)
named_read law p bytes handles t a h (Some m) header named read =
    let way = way_ok (has_txid (is_one_way m) h.txid) h.txid (fields_of m bytes handles) (t, a) (well_formed (with_txid (has_txid (is_one_way m) h.txid) h.txid (fields_of m bytes handles)) (t, a) read) in
    fields_read law p bytes handles t a h m header named way.0 way.1

headed_read : (law : SpelledWhereRead) (p : Protocol) (bytes : List ℕ) (handles : List Handle) (t : ℕ) (a : Asked) (r : Result Header WireFault) → header_of bytes ≡ r →
    behind_header p r bytes handles ≡ Ok (t, a) → Reads p bytes handles t a
headed_read law p bytes handles t a (Err e) header read = absurd (cc)
headed_read law p bytes handles t a (Ok h) header read = named_read law p bytes handles t a h (method_in p h.ordinal) header refl read

pub what_is_read : (law : SpelledWhereRead) (p : Protocol) (bytes : List ℕ) (handles : List Handle) (t : ℕ) (a : Asked) → request_of p bytes handles ≡ Ok (t, a) → Reads p bytes handles t a
what_is_read law p bytes handles t a read = headed_read law p bytes handles t a (header_of bytes) refl read

-- a result of the code that is that reading
pub found_by : (law : SpelledWhereRead) (p : Protocol) (bytes : List ℕ) (handles : List Handle) (r : Result (ℕ × Request) RequestFault) → told r ≡ request_of p bytes handles →
    IfOk r (λ x. Reads p bytes handles x.0 (asked x.1))
found_by law p bytes handles (Ok x) h = what_is_read law p bytes handles x.0 (asked x.1) (sym h)
found_by law p bytes handles (Err e) h = tt

-- ---- what is spelled is read

spelled_fields : (law : ReadsWhatIsSpelled) (m : Method) (items : List Item) (bytes : List ℕ) (handles : List Handle) (a : Asked) → IsSpelled (struct (request_cells m)) (fields items) bytes handles →
    asked_from m items ≡ a → fields_of m bytes handles ≡ Ok a
unfolding fields_of
spelled_fields law m items bytes handles a spelled from =
    ap (λ (r : Result Content WireFault). r >>= λ c. Ok (asked_from m (items_in c))) (law (struct (request_cells m)) (fields items) bytes handles spelled)
    ∙ ap (λ (v : Asked). Ok v) from

told_known : (h : Header) (m : Method) (bytes : List ℕ) (handles : List Handle) (t : ℕ) (a : Asked) → h.txid ≡ t → has_txid (is_one_way m) t ≡ true → fields_of m bytes handles ≡ Ok a →
    known_request h (Some m) bytes handles ≡ Ok (t, a)
told_known h m bytes handles t a txid way read =
    ap (λ (n : ℕ). or_malformed (with_txid (has_txid (is_one_way m) n) n (fields_of m bytes handles))) txid
    ∙ ap (λ (b : Bool). or_malformed (with_txid b t (fields_of m bytes handles))) way
    ∙ ap (λ (r : Result Asked WireFault). or_malformed (with_txid true t r)) read

pub what_is_spelled : (law : ReadsWhatIsSpelled) → MethodsHaveTheirOwn → (p : Protocol) (bytes : List ℕ) (handles : List Handle) (t : ℕ) (a : Asked) → Reads p bytes handles t a → request_of p bytes handles ≡ Ok (t, a)
what_is_spelled law apart p bytes handles t a reads =
    let r = reads.is_asked in
    let known : has_method p r.method ≡ true = ap (has_method p) (sym (method_asked bytes handles t a r)) ∙ reads.known in
    let named = method_in-has p r.header.ordinal r.method known r.ordinal_is (only_method apart r.method r.header.ordinal r.ordinal_is) in
    ap (λ (x : Result Header WireFault). behind_header p x bytes handles) r.header_is
    ∙ ap (λ (o : Option Method). known_request r.header o bytes handles) named
    ∙ told_known r.header r.method bytes handles t a r.txid_is r.way (spelled_fields law r.method r.items bytes handles a r.spelled r.fields_are)

-- ---- two readings are one

same_header : (g h : Header) (r : Result Header WireFault) → r ≡ Ok g → r ≡ Ok h → g ≡ h
same_header g h r one other = cc

same_asked : (a b : Asked) (r : Result Asked WireFault) → r ≡ Ok a → r ≡ Ok b → a ≡ b
same_asked a b r one other = cc

-- whatever their endpoints speak
pub asked_once : (law : ReadsWhatIsSpelled) → MethodsHaveTheirOwn → (bytes : List ℕ) (handles : List Handle) (t u : ℕ) (a b : Asked) → IsAsked bytes handles t a → IsAsked bytes handles u b → (t ≡ u) × (a ≡ b)
asked_once law apart bytes handles t u a b r s =
    let headers : r.header ≡ s.header = same_header r.header s.header (header_of bytes) r.header_is s.header_is in
    let methods : r.method ≡ s.method = apart r.method s.method (r.ordinal_is ∙ ap (λ (h : Header). h.ordinal) headers ∙ sym s.ordinal_is) in
    let one = spelled_fields law r.method r.items bytes handles a r.spelled r.fields_are in
    let other = spelled_fields law s.method s.items bytes handles b s.spelled s.fields_are in (
      sym r.txid_is ∙ ap (λ (h : Header). h.txid) headers ∙ s.txid_is,
      same_asked a b (fields_of r.method bytes handles) one (ap (λ (m : Method). fields_of m bytes handles) methods ∙ other),
    )

pub read_once : (law : ReadsWhatIsSpelled) → MethodsHaveTheirOwn → (p : Protocol) (bytes : List ℕ) (handles : List Handle) (t u : ℕ) (a b : Asked) → Reads p bytes handles t a → Reads p bytes handles u b → (t ≡ u) × (a ≡ b)
read_once law apart p bytes handles t u a b r s = asked_once law apart bytes handles t u a b r.is_asked s.is_asked
