-- What is written for a reply is read.
use Rattle.std.proofs.Common.{◌≡◌, ◌≢◌, ℕ, ◌+◌, ◌^◌, ◌<◌, ◌≤◌, Bool, true, false, cond, nat_eq, List, [], ◌∷◌, ◌++◌, length, Option, Some, None, option_map, Result, Ok, Err, inl, inr, refl, sym, ap, ◌∙◌, subst, lit<, arith}
use Rattle.std.proofs.lemmas.Bool.Decides.{nat_tests}
use Rattle.fidl_names.specs.declared.limits.TheConstants as limit
use Rattle.fidl_names.specs.declared.methods.Handle.{Handle}
use Rattle.fidl_names.specs.declared.methods.Handle.TheVariants.{Token}
use Rattle.fidl_names.specs.declared.methods.Method.{Method}
use Rattle.fidl_names.specs.declared.methods.Method.TheVariants as method
use Rattle.fidl_names.specs.declared.statuses.Status.{Status}
use Rattle.fidl_names.specs.declared.statuses.Status.TheVariants as status
use Rattle.fidl_wire.specs.declared.faults.WireFault.{WireFault}
use Rattle.fidl_wire.specs.Grammar.{join, nothing}
use Rattle.fidl_wire.specs.Headers.{header_bytes}
use Rattle.wire_laws.specs.Laws.{HeadersAreRead, SpellingIsRead, SpellingIsSpelled}
use Rattle.fidl_wire.specs.declared.kinds.MemberKind.{MemberKind}
use Rattle.fidl_wire.specs.declared.kinds.MemberKind.TheVariants as kind
use Rattle.io_messages.specs.Members.{numbers}
use Rattle.io_messages.proofs.Known.{number_again}
use Rattle.io_replies.specs.Reading.{attributes_from}
use Rattle.fidl_wire.specs.Layout.{Member, a_number, Content, struct, fields, branch, object, number, vector, num, blank, held, seq, members}
use Rattle.fidl_wire.specs.Names.{method_ordinal}
use Rattle.fidl_names.specs.Numbers.{number_bytes}
use Rattle.fidl_wire.specs.Numbers.{padded}
use Rattle.fidl_wire.specs.Spelling.{FitMembers, FitsBody, FitsVariant, body_bytes, body_handles, given, inline_part, members_part}
use Rattle.io_messages.specs.declared.replies.Attributes.{Attributes}
use Rattle.io_messages.specs.declared.replies.Shape.{Shape}
use Rattle.io_messages.specs.declared.replies.Shape.TheVariants as shape
use Rattle.io_messages.specs.Replies.{Answered, attribute_cells, beside_payload, framework_cells, framework_envelope, framework_ordinal, known_attributes, reply_layout, result_of}
use Rattle.io_replies.specs.Reading.{ReadsReply, IsFrameworkError, IsReply, answered_from, are_framework_words, by_status, error_place, status_place, failed, is_framework_error, status_with}
use Rattle.io_messages.specs.Replies as answers
use Rattle.io_messages.specs.ReplyWriting.{CanCarry, CanFail, HasReply, PayloadFits, attribute_members, carried, failure, layout_of, reply_body, reply_bytes, reply_handles, reply_header, status_word}
use Rattle.io_replies.specs.Laws.{IsLong, NumbersFit}
use Rattle.io_messages.specs.Shapes.{shape_of}
use Rattle.io_messages.specs.Writing.{plain_header}
use Rattle.fidl_wire.proofs.Rows.{small_ordinal}
use Rattle.io_messages.proofs.Lengths.{length-header, length-number, padded-least, no_handles}
use Rattle.io_messages.proofs.Unions.{cat, list_length, object_length, padded_few, tables_most}

not_zero : (t : ℕ) → 0 < t → nat_eq t 0 ≡ false
not_zero t h = grind (arith, nat_tests)

-- ---- what each shape has in its fields

-- a method's reply, from the fields that it has
abbrev IsWritten : ℕ → Method → Option Shape → Content → Answered → Type 0
IsWritten t m o content a =
    IsReply (header_bytes (plain_header t (method_ordinal m)) ++ body_bytes (layout_of o) content) (body_handles (layout_of o) content) t a

is_written : SpellingIsSpelled → HeadersAreRead → (t : ℕ) (m : Method) (s : Shape) (content : Content) (a : Answered) → 0 < t → t < 2 ^ 32 → shape_of m ≡ Some s →
    FitsBody (reply_layout s) content → answered_from s m content ≡ Ok a → IsWritten t m (Some s) content a
is_written law again t m s content a way small shaped fits from = record {
  header = plain_header t (method_ordinal m);
  method = m;
  shape = s;
  content = content;
  header_is = again (plain_header t (method_ordinal m)) (body_bytes (reply_layout s) content) small (small_ordinal m);
  ordinal_is = refl;
  shape_is = shaped;
  txid_is = refl;
  way = not_zero t way;
  spelled = law (reply_layout s) content (header_bytes (plain_header t (method_ordinal m))) (length-header (plain_header t (method_ordinal m))) fits;
  fields_are = from;
}

-- ---- failures

-- a status other than 0 has a number of four bytes, by which it is found
record IsNamed (m : Method) (place : ℕ) (s : Status) : Type 0 where
  pub small : status_word s < 256 ^ 4
  pub found : failed m place (status_word s) ≡ Ok (answers.fails m s)

named : (m : Method) (place : ℕ) (s : Status) → s ≢ status.Ok → IsNamed m place s
unfolding failed status_with
named m place status.Ok h = absurd (h refl)
named m place status.Internal h = record { small = lit< tt; found = refl }
named m place status.NotSupported h = record { small = lit< tt; found = refl }
named m place status.NoResources h = record { small = lit< tt; found = refl }
named m place status.NoMemory h = record { small = lit< tt; found = refl }
named m place status.InvalidArgs h = record { small = lit< tt; found = refl }
named m place status.BadHandle h = record { small = lit< tt; found = refl }
named m place status.WrongType h = record { small = lit< tt; found = refl }
named m place status.OutOfRange h = record { small = lit< tt; found = refl }
named m place status.BufferTooSmall h = record { small = lit< tt; found = refl }
named m place status.BadState h = record { small = lit< tt; found = refl }
named m place status.ShouldWait h = record { small = lit< tt; found = refl }
named m place status.PeerClosed h = record { small = lit< tt; found = refl }
named m place status.NotFound h = record { small = lit< tt; found = refl }
named m place status.AlreadyExists h = record { small = lit< tt; found = refl }
named m place status.AccessDenied h = record { small = lit< tt; found = refl }
named m place status.NotDir h = record { small = lit< tt; found = refl }
named m place status.NotFile h = record { small = lit< tt; found = refl }
named m place status.FileBig h = record { small = lit< tt; found = refl }
named m place status.NoSpace h = record { small = lit< tt; found = refl }
named m place status.NotEmpty h = record { small = lit< tt; found = refl }

status_set : (m : Method) (s : Status) → s ≢ status.Ok → nat_eq (status_word s) 0 ≡ false
unfolding failed
status_set m s h = test (nat_eq (status_word s) 0) _ _ _ (named m status_place s h).found
  where
    test : (b : Bool) (e : WireFault) (r : Result Answered WireFault) (a : Answered) → cond b (Err e) r ≡ Ok a → b ≡ false
    test true e r a k = absurd (cc)
    test false e r a k = refl

-- a status beside which nothing stands
status_alone : (m : Method) (s : Status) (success : Result Answered WireFault) → s ≢ status.Ok → by_status m (status_word s) true success ≡ Ok (answers.fails m s)
status_alone m s success h =
    ap (λ (b : Bool). cond b success (failed m status_place (status_word s))) (status_set m s h) ∙ (named m status_place s h).found

failure_written : SpellingIsSpelled → HeadersAreRead → (t : ℕ) (m : Method) (s : Status) (o : Option Shape) → 0 < t → t < 2 ^ 32 → shape_of m ≡ o → CanFail o → s ≢ status.Ok →
    IsWritten t m o (failure o (status_word s)) (answers.fails m s)
failure_written law again t m s None way small shaped can set = absurd can
failure_written law again t m s (Some shape.Vector) way small shaped can set = absurd can
failure_written law again t m s (Some shape.Text) way small shaped can set = absurd can
failure_written law again t m s (Some shape.Done) way small shaped can set =
    let is = named m error_place s set in
    is_written law again t m shape.Done (branch 2 (num (status_word s) ∷ [])) (answers.fails m s) way small shaped (lit< tt, is.small) is.found
failure_written law again t m s (Some shape.Number) way small shaped can set =
    let is = named m error_place s set in
    is_written law again t m shape.Number (branch 2 (num (status_word s) ∷ [])) (answers.fails m s) way small shaped (lit< tt, is.small) is.found
failure_written law again t m s (Some shape.Bytes) way small shaped can set =
    let is = named m error_place s set in
    is_written law again t m shape.Bytes (branch 2 (num (status_word s) ∷ [])) (answers.fails m s) way small shaped (lit< tt, is.small) is.found
failure_written law again t m s (Some shape.Attributes) way small shaped can set =
    let is = named m error_place s set in
    is_written law again t m shape.Attributes (branch 2 (num (status_word s) ∷ [])) (answers.fails m s) way small shaped (lit< tt, is.small) is.found
failure_written law again t m s (Some shape.Listing) way small shaped can set =
    is_written law again t m shape.Listing (fields (num (status_word s) ∷ blank ∷ seq [] ∷ [])) (answers.fails m s) way small shaped
    ((named m status_place s set).small, (tt, (lit< tt, tt))) (status_alone m s _ set)
failure_written law again t m s (Some shape.Settled) way small shaped can set =
    is_written law again t m shape.Settled (fields (num (status_word s) ∷ [])) (answers.fails m s) way small shaped ((named m status_place s set).small, tt) (status_alone m s _ set)
failure_written law again t m s (Some shape.Token) way small shaped can set =
    is_written law again t m shape.Token (fields (num (status_word s) ∷ held None ∷ [])) (answers.fails m s) way small shaped
    ((named m status_place s set).small, (refl, tt)) (status_alone m s _ set)

-- ---- payloads

few : (xs : List ℕ) (n : ℕ) → n + padded (length xs) ≤ limit.MAX_BYTES → length xs < 256 ^ 8
few xs n h = omega (arith, padded-least (length xs), h)

list_fits : (xs : List ℕ) → 48 + padded (length xs) ≤ limit.MAX_BYTES → FitsVariant (object (vector ∷ [])) (seq xs ∷ [])
list_fits xs h = ((few xs 48 h, tt), lit< tt, omega (arith, list_length xs, h), lit< tt)

payload_written : SpellingIsSpelled → HeadersAreRead → (t : ℕ) (m : Method) (xs : List ℕ) (o : Option Shape) → 0 < t → t < 2 ^ 32 → shape_of m ≡ o → CanCarry o xs →
    beside_payload o + padded (length xs) ≤ limit.MAX_BYTES → IsWritten t m o (carried o xs) (answers.payload m xs)
payload_written law again t m xs (Some shape.Bytes) way small shaped can fits =
    is_written law again t m shape.Bytes (branch 1 (seq xs ∷ [])) (answers.payload m xs) way small shaped (lit< tt, list_fits xs fits) refl
payload_written law again t m xs (Some shape.Vector) way small shaped can fits =
    is_written law again t m shape.Vector (fields (seq xs ∷ [])) (answers.payload m xs) way small shaped (few xs 32 fits, tt) refl
payload_written law again t m xs (Some shape.Text) way small shaped can fits =
    is_written law again t m shape.Text (fields (seq xs ∷ [])) (answers.payload m xs) way small shaped ((can, few xs 32 fits), tt) refl
payload_written law again t m xs (Some shape.Listing) way small shaped can fits =
    is_written law again t m shape.Listing (fields (num 0 ∷ blank ∷ seq xs ∷ [])) (answers.payload m xs) way small shaped (lit< tt, (tt, (few xs 40 fits, tt))) refl
payload_written law again t m xs None way small shaped can fits = absurd can
payload_written law again t m xs (Some shape.Done) way small shaped can fits = absurd can
payload_written law again t m xs (Some shape.Number) way small shaped can fits = absurd can
payload_written law again t m xs (Some shape.Attributes) way small shaped can fits = absurd can
payload_written law again t m xs (Some shape.Settled) way small shaped can fits = absurd can
payload_written law again t m xs (Some shape.Token) way small shaped can fits = absurd can

-- ---- numbers and attributes

number_fits : (x : ℕ) → x < 2 ^ 64 → FitsVariant (object (number 8 ∷ [])) (num x ∷ [])
number_fits x h =
    ((h, tt), lit< tt, omega (arith, object_length (join (inline_part (number_bytes 8 x)) nothing) 8 0 (cat (number_bytes 8 x) [] 8 0 (length-number 8 x) refl) refl, padded_few 8), lit< tt)

-- a number that may be absent
abbrev a_known : MemberKind
a_known = kind.Number false

member_fits : (ks : List MemberKind) (v : Option ℕ) (vs : List (Option Member)) → IsLong v → FitMembers ks vs → FitMembers (a_known ∷ ks) (option_map a_number v ∷ vs)
member_fits ks None vs h rest = rest
member_fits ks (Some x) vs h rest = ((false, refl, h), rest)

members_fit : (a : Attributes) → NumbersFit (answers.attributes a) → FitMembers known_attributes (numbers (attribute_members a))
members_fit a h =
    let links = member_fits (a_known ∷ []) a.link_count (numbers (a.id ∷ [])) h.3 (member_fits [] a.id [] h.4 tt) in
    let sizes = member_fits (kind.Unknown ∷ a_known ∷ a_known ∷ []) a.content_size (numbers (None ∷ a.link_count ∷ a.id ∷ [])) h.2 links in
    member_fits (a_known ∷ a_known ∷ kind.Unknown ∷ a_known ∷ a_known ∷ []) a.protocols (numbers (a.abilities ∷ a.content_size ∷ None ∷ a.link_count ∷ a.id ∷ [])) h.0
    (member_fits (a_known ∷ kind.Unknown ∷ a_known ∷ a_known ∷ []) a.abilities (numbers (a.content_size ∷ None ∷ a.link_count ∷ a.id ∷ [])) h.1 sizes)

attributes_fit : (a : Attributes) → NumbersFit (answers.attributes a) → FitsVariant (object attribute_cells) (members [] ∷ members (numbers (attribute_members a)) ∷ [])
attributes_fit a h =
    let ms = numbers (attribute_members a) in
    let none : (members_part (given ms)).handles ++ [] ≡ [] = ap (λ (hs : List Handle). hs ++ []) (no_handles (given ms)) in (
      ((lit< tt, tt, refl), ((lit< tt, members_fit a h, refl), tt)),
      lit< tt,
      omega (arith, tables_most (attribute_members a) (omega arith)),
      subst (λ (hs : List Handle). length hs < 256 ^ 2) (sym none) (lit< tt),
    )

-- and they are got back from their members
attributes_again : (a : Attributes) → attributes_from (numbers (attribute_members a)) ≡ a
attributes_again a = rw (number_again a.protocols, number_again a.abilities, number_again a.content_size, number_again a.link_count, number_again a.id) refl

-- ---- the framework's error

framework_written : SpellingIsRead → HeadersAreRead → (t ordinal : ℕ) → 0 < t → t < 2 ^ 32 → ordinal < 2 ^ 64 →
    IsFrameworkError (reply_bytes t (answers.unknown ordinal)) (reply_handles (answers.unknown ordinal)) t ordinal
unfolding is_framework_error
framework_written read again t ordinal way small fits =
    let h = reply_header t (answers.unknown ordinal) in
    record {
      header = h;
      header_is = again h (reply_body (answers.unknown ordinal)) small fits;
      ordinal_is = refl;
      txid_is = refl;
      way = not_zero t way;
      body = ap are_framework_words (read (struct framework_cells) (fields (num framework_ordinal ∷ num framework_envelope ∷ [])) (header_bytes h) (length-header h) (lit< tt, (lit< tt, tt)));
    }

-- ---- every reply

-- where the method's reply has this shape
of_shape : (t : ℕ) (m : Method) (s : Shape) (content : Content) (a : Answered) → shape_of m ≡ Some s → IsWritten t m (Some s) content a → IsWritten t m (shape_of m) content a
of_shape t m s content a shaped is = subst (λ (o : Option Shape). IsWritten t m o content a) (sym shaped) is

pub written_reply : SpellingIsSpelled → SpellingIsRead → HeadersAreRead → (t : ℕ) (a : Answered) → 0 < t → t < 2 ^ 32 → HasReply a → PayloadFits a → NumbersFit a →
    ReadsReply (reply_bytes t a) (reply_handles a) t a
written_reply law read again t (answers.done m) way small has fits sizes =
    inr (of_shape t m shape.Done (branch 1 []) (answers.done m) has (is_written law again t m shape.Done (branch 1 []) (answers.done m) way small has (lit< tt, tt) refl))
written_reply law read again t (answers.fails m s) way small has fits sizes = inr (failure_written law again t m s (shape_of m) way small refl has.0 has.1)
written_reply law read again t (answers.counted m x) way small has fits sizes =
    inr (of_shape t m shape.Number (branch 1 (num x ∷ [])) (answers.counted m x) has
    (is_written law again t m shape.Number (branch 1 (num x ∷ [])) (answers.counted m x) way small has (lit< tt, number_fits x sizes) refl))
written_reply law read again t (answers.payload m xs) way small has fits sizes = inr (payload_written law again t m xs (shape_of m) way small refl has fits)
written_reply law read again t (answers.settled m) way small has fits sizes =
    inr (of_shape t m shape.Settled (fields (num 0 ∷ [])) (answers.settled m) has
    (is_written law again t m shape.Settled (fields (num 0 ∷ [])) (answers.settled m) way small has (lit< tt, tt) refl))
written_reply law read again t (answers.token n) way small has fits sizes =
    inr (is_written law again t method.GetToken shape.Token (fields (num 0 ∷ held (Some (Token n)) ∷ [])) (answers.token n) way small refl (lit< tt, (refl, tt)) refl)
written_reply law read again t (answers.attributes a) way small has fits sizes =
    inr (is_written law again t method.GetAttributes shape.Attributes (branch 1 (members [] ∷ members (numbers (attribute_members a)) ∷ [])) (answers.attributes a) way small refl (lit< tt, attributes_fit a sizes) (ap (λ (b : Attributes). Ok (answers.attributes b)) (attributes_again a)))
written_reply law read again t (answers.unknown ordinal) way small has fits sizes = inl (ordinal, refl, framework_written read again t ordinal way small sizes)
