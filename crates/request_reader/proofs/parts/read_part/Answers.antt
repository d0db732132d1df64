use Rattle.std.proofs.Common.{◌≡◌, ◌∙◌, Bool, true, false, Option, Some, None, [], Result, ap, subst, sym, rules}
use Rattle.std.proofs.lemmas.Option.{same_Some}
use Rattle.fidl_names.specs.declared.methods.Method.{Method}
use Rattle.fidl_wire.specs.declared.faults.WireFault.{WireFault}
use Rattle.fidl_wire.specs.declared.headers.Header.{Header}
use Rattle.io_messages.specs.declared.protocols.Protocol.TheVariants as protocol
use Rattle.io_messages.specs.Asked.{Asked, asked, method_of}
use Rattle.io_messages.specs.Protocols.{has_method}
use Rattle.io_messages.specs.Requests.{behind_header, fields_of, has_txid, known_request, method_in, or_malformed, with_txid}
use Rattle.io_messages.specs.Shapes.{is_one_way}
use Rattle.io_messages.proofs.Known.{method_in-has}
use Rattle.request_reader.proofs.AskedParts.{asked_by, file_has, has_part, has_reply}
use Rattle.request_reader.proofs.parts.read_part.Goals as goal

pub returns-clause-read : goal.returns-clause-read
returns-clause-read c =
    let bytes = c.args.bytes.now in
    let header = c.in-Ok.header in
    let m = c.in_ok-method.method in
    let a : Asked = asked c.in_ok-request.request in
    let found = c.in_ok-method.ensures in
    let fields = c.in_ok-request.ensures.fields in
    let part = c.in_ok-request.ensures.part in
    let is : method_of a ≡ m = asked_by m bytes a fields in
    let named : method_in protocol.File header.ordinal ≡ Some m =
    method_in-has protocol.File header.ordinal m (subst (λ n. has_method protocol.File n ≡ true) is (file_has a part)) found.found found.only in
    let two_way : has_txid false header.txid ≡ true = search rules in
    let way : has_txid (is_one_way m) header.txid ≡ true = ap (λ (b : Bool). has_txid b header.txid) (ap is_one_way (sym is) ∙ has_reply a part) ∙ two_way in
    ap (λ (x : Result Header WireFault). behind_header protocol.File x bytes []) (sym c.in-Ok.ensures)
    ∙ ap (λ (o : Option Method). known_request header o bytes []) named
    ∙ ap (λ (b : Bool). or_malformed (with_txid b header.txid (fields_of m bytes []))) way
    ∙ ap (λ (r : Result Asked WireFault). or_malformed (with_txid true header.txid r)) fields

pub returns-then-header-eq0-clause-each : goal.returns-then-header-eq0-clause-each
returns-then-header-eq0-clause-each c txid a part asked =
    let has = has_part c.args.bytes.now c.in-Ok.header txid a part (sym c.in-Ok.ensures) asked in
    let none : c.in-Ok.header.txid ≡ 0 = c.if-header-eq0.true in
    absurd (let wrong : false ≡ true = ap (has_txid false) (sym none) ∙ has.two_way in cc)

pub returns-in_err-method-clause-each : goal.returns-in_err-method-clause-each
returns-in_err-method-clause-each c txid a part asked =
    let has = has_part c.args.bytes.now c.in-Ok.header txid a part (sym c.in-Ok.ensures) asked in
    let none : c.method.result ≡ None = c.in_err-method.was in
    absurd (let wrong = sym none ∙ c.method.ensures.only (method_of a) has.ordinal_is in cc)

pub returns-in_err-request-clause-each : goal.returns-in_err-request-clause-each
returns-in_err-request-clause-each c txid a part asked =
    let has = has_part c.args.bytes.now c.in-Ok.header txid a part (sym c.in-Ok.ensures) asked in
    let was : c.method.result ≡ Some c.in_ok-method.method = c.in_ok-method.was in
    let is : c.in_ok-method.method ≡ method_of a = same_Some _ _ (sym was ∙ c.method.ensures.only (method_of a) has.ordinal_is) in
    absurd (let wrong : false ≡ true = c.in_err-request.ensures.each a part (ap (λ n. fields_of n c.args.bytes.now []) is ∙ has.fields) in cc)
