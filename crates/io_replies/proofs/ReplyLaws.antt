-- A reply, and the event, is read exactly where it is spelled.
use Rattle.std.proofs.Common.{◌≡◌, ℕ, ◌&&◌, not, Bool, true, false, cond, nat_eq, List, [], Option, Some, None, Result, Ok, Err, IfOk, inl, inr, refl, sym, ap, ◌∙◌, subst, arith}
use Rattle.std.proofs.lemmas.Bool.Decides.{nat_tests}
use Rattle.fidl_names.specs.declared.methods.Handle.{Handle}
use Rattle.fidl_names.specs.declared.methods.Method.{Method}
use Rattle.fidl_wire.specs.declared.faults.WireFault.{WireFault}
use Rattle.fidl_wire.specs.declared.faults.WireWhat.TheVariants.{Txid, Ordinal}
use Rattle.fidl_wire.specs.declared.headers.Header.{Header}
use Rattle.fidl_wire.specs.Headers.{header_of, fault}
use Rattle.wire_laws.specs.Laws.{ReadsWhatIsSpelled, SpelledWhereRead}
use Rattle.fidl_wire.specs.Layout.{Content}
use Rattle.fidl_wire.specs.Names.{event_ordinal, MethodsHaveTheirOwn}
use Rattle.fidl_wire.specs.Reading.{◌>>=◌, body_of}
use Rattle.io_messages.specs.declared.protocols.Protocol.{Protocol}
use Rattle.io_messages.specs.declared.replies.Reply.{Reply}
use Rattle.io_messages.specs.declared.replies.Shape.{Shape}
use Rattle.io_messages.specs.Kinds.{kind_with}
use Rattle.io_messages.specs.Replies.{Answered, answered, reply_layout, method_with, event_layout}
use Rattle.io_replies.specs.Reading.{answered_from, reply_fields, is_framework_error, shaped_reply, named_reply, headed_reply, reply_of, IsFrameworkError, IsReply, ReadsReply, ReadsEvent, kind_in, told_kind, ordinal_in, headed_event, event_of, reply_told}
use Rattle.io_messages.specs.Replies as answers
use Rattle.io_messages.specs.Shapes.{shape_of}
use Rattle.io_replies.proofs.Framework.{no_framework_error}
use Rattle.io_messages.proofs.Known.{method_with-has, method_with-says, only_method}
use Rattle.wire_laws.proofs.Leaving.{bind_ok}

abbrev Told : Type 0
Told = ℕ × Answered

-- ---- what is read is spelled

way_ok : (b : Bool) (e : WireFault) (r : Result Told WireFault) (x : Told) → cond b (Err e) r ≡ Ok x → (b ≡ false) × (r ≡ Ok x)
way_ok true e r x h = absurd (cc)
way_ok false e r x h = (refl, h)

fields_read : (law : SpelledWhereRead) (bytes : List ℕ) (handles : List Handle) (t : ℕ) (a : Answered) (h : Header) (m : Method) (s : Shape) → header_of bytes ≡ Ok h → method_with h.ordinal ≡ Some m →
    shape_of m ≡ Some s → shaped_reply h m (Some s) bytes handles ≡ Ok (t, a) → IsReply bytes handles t a
unfolding reply_fields
fields_read law bytes handles t a h m s header named shaped read =
    let way = way_ok (nat_eq h.txid 0) (fault 0 Txid) _ (t, a) read in
    let got = bind_ok (reply_fields s m bytes handles) _ (t, a) way.1 in
    let body = bind_ok (body_of (reply_layout s) bytes handles) _ got.0 got.1 in
    let whole : Told = (h.txid, got.0) in
    let same : whole ≡ (t, a) = cc got.2 in
    let txid : h.txid ≡ t = ap (λ (v : Told). v.0) same in
    let answer : got.0 ≡ a = ap (λ (v : Told). v.1) same in
    record {
      header = h;
      method = m;
      shape = s;
      content = body.0;
      header_is = header;
      ordinal_is = method_with-says h.ordinal m named;
      shape_is = shaped;
      txid_is = txid;
      way = subst (λ (n : ℕ). nat_eq n 0 ≡ false) txid way.0;
      spelled = law (reply_layout s) body.0 bytes handles body.1;
      fields_are = body.2 ∙ ap (λ (v : Answered). Ok v) answer;
    }

shaped_read : (law : SpelledWhereRead) (bytes : List ℕ) (handles : List Handle) (t : ℕ) (a : Answered) (h : Header) (m : Method) (o : Option Shape) → header_of bytes ≡ Ok h → method_with h.ordinal ≡ Some m →
    shape_of m ≡ o → shaped_reply h m o bytes handles ≡ Ok (t, a) → IsReply bytes handles t a
shaped_read law bytes handles t a h m None header named shaped read = absurd (cc)
shaped_read law bytes handles t a h m (Some s) header named shaped read = fields_read law bytes handles t a h m s header named shaped read

named_read : (law : SpelledWhereRead) (bytes : List ℕ) (handles : List Handle) (t : ℕ) (a : Answered) (h : Header) (o : Option Method) → header_of bytes ≡ Ok h → method_with h.ordinal ≡ o →
    named_reply h o bytes handles ≡ Ok (t, a) → IsReply bytes handles t a
named_read law bytes handles t a h None header named read = absurd (cc)
named_read law bytes handles t a h (Some m) header named read = shaped_read law bytes handles t a h m (shape_of m) header named refl read

-- a message with txid 0 is no method's reply
no_txid : (h : Header) (o : Option Method) (bytes : List ℕ) (handles : List Handle) (x : Told) → nat_eq h.txid 0 ≡ true → named_reply h o bytes handles ≡ Ok x → ⊥
no_txid h None bytes handles x zero read = cc
no_txid h (Some m) bytes handles x zero read = shaped h m (shape_of m) bytes handles x zero read
  where
    taken : (b : Bool) (e : WireFault) (r : Result Told WireFault) (y : Told) → b ≡ true → cond b (Err e) r ≡ Ok y → ⊥
    taken true e r y k read = cc
    taken false e r y k read = cc

    shaped : (h : Header) (m : Method) (s : Option Shape) (bytes : List ℕ) (handles : List Handle) (x : Told) → nat_eq h.txid 0 ≡ true → shaped_reply h m s bytes handles ≡ Ok x → ⊥
    shaped h m None bytes handles x zero read = cc
    shaped h m (Some s) bytes handles x zero read = taken (nat_eq h.txid 0) _ _ x zero read

abbrev unknown_told : Header → Result Told WireFault
unknown_told h = Ok (h.txid, answers.unknown h.ordinal)

framework_read : (bytes : List ℕ) (handles : List Handle) (t : ℕ) (a : Answered) (h : Header) → header_of bytes ≡ Ok h → nat_eq h.txid 0 ≡ false → is_framework_error bytes handles ≡ true →
    unknown_told h ≡ Ok (t, a) → ReadsReply bytes handles t a
framework_read bytes handles t a h header way body read =
    let whole : Told = (h.txid, answers.unknown h.ordinal) in
    let same : whole ≡ (t, a) = cc in
    let txid : h.txid ≡ t = ap (λ (v : Told). v.0) same in
    inl (
      h.ordinal,
      sym (ap (λ (v : Told). v.1) same),
      record {
        header = h;
        header_is = header;
        ordinal_is = refl;
        txid_is = txid;
        way = subst (λ (n : ℕ). nat_eq n 0 ≡ false) txid way;
        body = body;
      },
    )

headed_cases : (law : SpelledWhereRead) (bytes : List ℕ) (handles : List Handle) (t : ℕ) (a : Answered) (h : Header) (zero framework : Bool) → header_of bytes ≡ Ok h → nat_eq h.txid 0 ≡ zero →
    is_framework_error bytes handles ≡ framework → cond (not zero && framework) (Ok (h.txid, answers.unknown h.ordinal)) (named_reply h (method_with h.ordinal) bytes handles) ≡ Ok (t, a) → ReadsReply bytes handles t a
headed_cases law bytes handles t a h false true header way body read = framework_read bytes handles t a h header way body read
headed_cases law bytes handles t a h true true header way body read = absurd (no_txid h (method_with h.ordinal) bytes handles (t, a) way read)
headed_cases law bytes handles t a h false false header way body read = inr (named_read law bytes handles t a h (method_with h.ordinal) header refl read)
headed_cases law bytes handles t a h true false header way body read = absurd (no_txid h (method_with h.ordinal) bytes handles (t, a) way read)

headed_read : (law : SpelledWhereRead) (bytes : List ℕ) (handles : List Handle) (t : ℕ) (a : Answered) (r : Result Header WireFault) → header_of bytes ≡ r → headed_reply r bytes handles ≡ Ok (t, a) → ReadsReply bytes handles t a
headed_read law bytes handles t a (Err e) header read = absurd (cc)
headed_read law bytes handles t a (Ok h) header read = headed_cases law bytes handles t a h (nat_eq h.txid 0) (is_framework_error bytes handles) header refl refl read

pub reply_is : (law : SpelledWhereRead) (bytes : List ℕ) (handles : List Handle) (t : ℕ) (a : Answered) → reply_of bytes handles ≡ Ok (t, a) → ReadsReply bytes handles t a
reply_is law bytes handles t a read = headed_read law bytes handles t a (header_of bytes) refl read

pub reply_found : (law : SpelledWhereRead) (bytes : List ℕ) (handles : List Handle) (r : Result (ℕ × Reply) WireFault) → reply_told r ≡ reply_of bytes handles → IfOk r (λ x. ReadsReply bytes handles x.0 (answered x.1))
reply_found law bytes handles (Ok x) h = reply_is law bytes handles x.0 (answered x.1) (sym h)
reply_found law bytes handles (Err e) h = tt

-- ---- what is spelled is read

abbrev choose : Bool → Bool → Header → List ℕ → List Handle → Result Told WireFault
choose zero framework h bytes handles = cond (not zero && framework) (Ok (h.txid, answers.unknown h.ordinal)) (named_reply h (method_with h.ordinal) bytes handles)

framework_spelled : (bytes : List ℕ) (handles : List Handle) (t ordinal : ℕ) → IsFrameworkError bytes handles t ordinal → reply_of bytes handles ≡ Ok (t, answers.unknown ordinal)
framework_spelled bytes handles t ordinal r =
    let way : nat_eq r.header.txid 0 ≡ false = subst (λ (n : ℕ). nat_eq n 0 ≡ false) (sym r.txid_is) r.way in
    ap (λ (x : Result Header WireFault). headed_reply x bytes handles) r.header_is
    ∙ ap (λ (z : Bool). choose z (is_framework_error bytes handles) r.header bytes handles) way
    ∙ ap (λ (f : Bool). choose false f r.header bytes handles) r.body
    ∙ ap (λ (n : ℕ). told n r.header.ordinal) r.txid_is ∙ ap (λ (n : ℕ). told t n) r.ordinal_is
  where
    told : ℕ → ℕ → Result Told WireFault
    told n ordinal = Ok (n, answers.unknown ordinal)

not_framework : (zero : Bool) (h : Header) (bytes : List ℕ) (handles : List Handle) → choose zero false h bytes handles ≡ named_reply h (method_with h.ordinal) bytes handles
not_framework true h bytes handles = refl
not_framework false h bytes handles = refl

method_spelled : (law : ReadsWhatIsSpelled) → MethodsHaveTheirOwn → (bytes : List ℕ) (handles : List Handle) (t : ℕ) (a : Answered) → IsReply bytes handles t a → reply_of bytes handles ≡ Ok (t, a)
unfolding reply_fields
method_spelled law apart bytes handles t a r =
    let body = law (reply_layout r.shape) r.content bytes handles r.spelled in
    let way : nat_eq r.header.txid 0 ≡ false = subst (λ (n : ℕ). nat_eq n 0 ≡ false) (sym r.txid_is) r.way in
    let named = method_with-has r.header.ordinal r.method r.ordinal_is (only_method apart r.method r.header.ordinal r.ordinal_is) in
    let read : reply_fields r.shape r.method bytes handles ≡ Ok a =
    ap (λ (x : Result Content WireFault). x >>= λ c. answered_from r.shape r.method c) body ∙ r.fields_are in
    ap (λ (x : Result Header WireFault). headed_reply x bytes handles) r.header_is
    ∙ ap (λ (f : Bool). choose (nat_eq r.header.txid 0) f r.header bytes handles) (no_framework_error r.shape bytes handles r.content body)
    ∙ not_framework (nat_eq r.header.txid 0) r.header bytes handles
    ∙ ap (λ (o : Option Method). named_reply r.header o bytes handles) named
    ∙ ap (λ (o : Option Shape). shaped_reply r.header r.method o bytes handles) r.shape_is
    ∙ ap (λ (b : Bool). timed b r.header.txid (reply_fields r.shape r.method bytes handles)) way
    ∙ ap (λ (x : Result Answered WireFault). timed false r.header.txid x) read
    ∙ ap (λ (n : ℕ). timed false n (Ok a)) r.txid_is
  where
    timed : Bool → ℕ → Result Answered WireFault → Result Told WireFault
    timed zero n r = cond zero (Err (fault 0 Txid)) (r >>= λ a. Ok (n, a))

pub reply_spelled : (law : ReadsWhatIsSpelled) → MethodsHaveTheirOwn → (bytes : List ℕ) (handles : List Handle) (t : ℕ) (a : Answered) → ReadsReply bytes handles t a → reply_of bytes handles ≡ Ok (t, a)
reply_spelled law apart bytes handles t a (inl r) = framework_spelled bytes handles t r.0 r.2 ∙ ap (λ (v : Answered). pair t v) (sym r.1)
  where
    pair : ℕ → Answered → Result Told WireFault
    pair n v = Ok (n, v)
reply_spelled law apart bytes handles t a (inr r) = method_spelled law apart bytes handles t a r

-- ---- the event

tested : {A : Type 0} → (b : Bool) (e : WireFault) (r : Result A WireFault) (x : A) → cond (not b) (Err e) r ≡ Ok x → (b ≡ true) × (r ≡ Ok x)
tested true e r x h = (refl, h)
tested false e r x h = absurd (cc)

same_number : (m n : ℕ) → nat_eq m n ≡ true → m ≡ n
same_number m n h = grind (arith, nat_tests)

number_same : (m n : ℕ) → m ≡ n → nat_eq m n ≡ true
number_same m n h = grind (arith, nat_tests)

is_told : (o : Option Protocol) (k : Protocol) → told_kind o ≡ Ok k → o ≡ Some k
is_told None k h = absurd (cc)
is_told (Some kind) k h = let same : kind ≡ k = cc in ap (λ (v : Protocol). Some v) same

event_read : (law : SpelledWhereRead) (bytes : List ℕ) (k : Protocol) (r : Result Header WireFault) → header_of bytes ≡ r → headed_event r bytes ≡ Ok k → ReadsEvent bytes k
event_read law bytes k (Err e) header read = absurd (cc)
event_read law bytes k (Ok h) header read =
    let ordinal = tested (nat_eq h.ordinal event_ordinal) (fault 8 Ordinal) _ k read in
    let way = tested (nat_eq h.txid 0) (fault 0 Txid) _ k ordinal.1 in
    let body = bind_ok (body_of event_layout bytes []) _ k way.1 in
    let kind = is_told (kind_with (ordinal_in body.0)) k body.2 in
    record {
      header = h;
      content = body.0;
      header_is = header;
      ordinal_is = same_number h.ordinal event_ordinal ordinal.0;
      way = same_number h.txid 0 way.0;
      spelled = law event_layout body.0 bytes [] body.1;
      kind_is = kind;
    }

pub event_found : (law : SpelledWhereRead) (bytes : List ℕ) (r : Result Protocol WireFault) → r ≡ event_of bytes → IfOk r (λ k. ReadsEvent bytes k)
event_found law bytes (Ok k) h = event_read law bytes k (header_of bytes) refl (sym h)
event_found law bytes (Err e) h = tt

abbrev chosen_event : Bool → Bool → List ℕ → Result Protocol WireFault
chosen_event ordinal way bytes =
    cond (not ordinal) (Err (fault 8 Ordinal)) (cond (not way) (Err (fault 0 Txid)) (kind_in (body_of event_layout bytes [])))

pub event_spelled : (law : ReadsWhatIsSpelled) (bytes : List ℕ) (k : Protocol) → ReadsEvent bytes k → event_of bytes ≡ Ok k
event_spelled law bytes k r =
    ap (λ (x : Result Header WireFault). headed_event x bytes) r.header_is
    ∙ ap (λ (b : Bool). chosen_event b (nat_eq r.header.txid 0) bytes) (number_same r.header.ordinal event_ordinal r.ordinal_is)
    ∙ ap (λ (b : Bool). chosen_event true b bytes) (number_same r.header.txid 0 r.way)
    ∙ ap kind_in (law event_layout r.content bytes [] r.spelled)
    ∙ ap told_kind r.kind_is

-- ---- at most one

pub reply_once : (law : ReadsWhatIsSpelled) → MethodsHaveTheirOwn → (bytes : List ℕ) (handles : List Handle) (t u : ℕ) (a b : Answered) → ReadsReply bytes handles t a → ReadsReply bytes handles u b → (t ≡ u) × (a ≡ b)
reply_once law apart bytes handles t u a b r s =
    let one = reply_spelled law apart bytes handles t a r in
    let other = reply_spelled law apart bytes handles u b s in
    let x : Told = (t, a) in
    let same : x ≡ (u, b) = cc (one, other) in
    (ap (λ (v : Told). v.0) same, ap (λ (v : Told). v.1) same)

pub no_reply : (law : ReadsWhatIsSpelled) (bytes : List ℕ) (handles : List Handle) (t u ordinal : ℕ) (a : Answered) → IsFrameworkError bytes handles t ordinal → IsReply bytes handles u a → ⊥
no_reply law bytes handles t u ordinal a error r =
    let other = no_framework_error r.shape bytes handles r.content (law (reply_layout r.shape) r.content bytes handles r.spelled) in
    let clash : true ≡ false = sym error.body ∙ other in
    cc

pub event_once : (law : ReadsWhatIsSpelled) (bytes : List ℕ) (k l : Protocol) → ReadsEvent bytes k → ReadsEvent bytes l → k ≡ l
event_once law bytes k l r s =
    let one = event_spelled law bytes k r in
    let other = event_spelled law bytes l s in
    cc (one, other)
