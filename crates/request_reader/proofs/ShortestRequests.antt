-- What is written for a request is no longer than any bytes that are that request.
use Rattle.std.proofs.Common.{◌≡◌, ℕ, zero, suc, ◌≤◌, nat_eq, cond, Bool, true, false, List, [], ◌∷◌, ◌++◌, length, replicate, Option, Some, None, unwrap_or, refl, sym, ap, ◌∙◌, length-append, length-drop, append_assoc, arith}
use Rattle.std.specs.Int.{w64, cast_unsigned, cast_signed}
use Rattle.fidl_names.specs.declared.methods.Handle.{Handle}
use Rattle.fidl_names.specs.declared.methods.Handle.TheVariants.{Endpoint, Token}
use Rattle.fidl_names.specs.declared.methods.Method.{Method}
use Rattle.fidl_names.specs.declared.methods.Method.TheVariants as method
use Rattle.fidl_names.specs.Numbers.{number_bytes}
use Rattle.fidl_wire.specs.declared.kinds.HandleKind.TheVariants as kinds
use Rattle.fidl_wire.specs.declared.kinds.MemberKind.TheVariants as kind
use Rattle.fidl_wire.specs.Grammar.{AreMembers, IsMember, Lays, Part, Spells}
use Rattle.fidl_wire.specs.Headers.{header_bytes}
use Rattle.fidl_wire.specs.Layout.{Cell, Item, Member, a_number, a_vector, struct, fields, number, pad, handle, text, vector, table, held, num, blank, seq, members}
use Rattle.fidl_wire.specs.Names.{method_ordinal}
use Rattle.fidl_wire.specs.Numbers.{padded}
use Rattle.fidl_wire.specs.Spelling.{spelling_of_all, object_bytes, body_bytes, count_bytes, table_part}
use Rattle.fidl_wire.specs.Written.{padded_bytes}
use Rattle.fidl_wire.proofs.Padded.{length-padded_bytes}
use Rattle.io_messages.specs.Asked.{Asked, method_of}
use Rattle.io_messages.specs.Members.{numbers, number_of}
use Rattle.io_messages.specs.Requests.{IsAsked, request_cells, asked_from, items_of, item, num_of, seq_of, handle_of, held_endpoint, held_token, first_member, member_of, flags_member}
use Rattle.io_messages.specs.Writing.{plain_header, request_bytes, request_body}
use Rattle.io_messages.proofs.Known.{method_read}
use Rattle.io_messages.proofs.Lengths.{length-count}
use Rattle.wire_laws.specs.Laws.{SpellingIsShortest}
use Rattle.wire_laws.proofs.ReadHeaders.{length-header}
use Rattle.wire_laws.proofs.Spelled.{length-number_bytes}

-- ---- what a field has, by what is asked of it

-- the cells of requests: a handle is there and of one kind, and a table's member 1 alone is known
abbrev is_asked_for : Cell → Bool
is_asked_for (handle kinds.AnyHandle nullable) = false
is_asked_for (handle kinds.AnEndpoint nullable) = cond nullable false true
is_asked_for (handle kinds.AToken nullable) = cond nullable false true
is_asked_for (table (kind.Number false ∷ [])) = true
is_asked_for (table kinds) = false
is_asked_for cell = true

abbrev again : Cell → Item → Item
again (number size) x = num (num_of x)
again (pad size) x = blank
again (handle kinds.AToken nullable) x = held_token (handle_of x)
again (handle kind nullable) x = held_endpoint (handle_of x)
again text x = seq (seq_of x)
again vector x = seq (seq_of x)
again (table kinds) x = members (numbers (member_of x ∷ []))

no_members : (vs : List (Option Member)) (n : ℕ) (p : Part) → AreMembers [] vs n p → vs ≡ []
no_members vs zero p h = h.0
no_members vs (suc n) p (v, ws, first, rest, same, member, others, joined) = same ∙ no_members ws n rest others

one_again : (v : Option Member) (p : Part) → IsMember (kind.Number false) v p → numbers (number_of v ∷ []) ≡ v ∷ []
one_again None p h = refl
one_again (Some (a_number x)) p h = refl
one_again (Some (a_vector xs)) p h = let wrong = h.1 in absurd (cc)

one_member : (vs : List (Option Member)) (n : ℕ) (p : Part) → AreMembers (kind.Number false ∷ []) vs n p → numbers (number_of (first_member vs) ∷ []) ≡ vs
one_member vs zero p h = ap (λ (ws : List (Option Member)). numbers (number_of (first_member ws) ∷ [])) h.0 ∙ sym h.0
one_member vs (suc n) p (v, ws, first, rest, same, member, others, joined) =
    let none = no_members ws n rest others in
    let one : vs ≡ v ∷ [] = same ∙ ap (λ (us : List (Option Member)). v ∷ us) none in
    ap (λ (us : List (Option Member)). numbers (number_of (first_member us) ∷ [])) one ∙ one_again v first member ∙ sym one

number_again : (size : ℕ) (x : Item) (p : Part) → Spells (number size) x p → num (num_of x) ≡ x
number_again size (num n) p s = refl
number_again size _ p s = absurd s

blank_again : (size : ℕ) (x : Item) (p : Part) → Spells (pad size) x p → blank ≡ x
blank_again size blank p s = refl
blank_again size _ p s = absurd s

endpoint_again : (x : Item) (p : Part) → Spells (handle kinds.AnEndpoint false) x p → held_endpoint (handle_of x) ≡ x
endpoint_again (held None) p s = let wrong : false ≡ true = s.0 in absurd (cc)
endpoint_again (held (Some (Endpoint n))) p s = refl
endpoint_again (held (Some (Token n))) p s = let wrong : false ≡ true = s.0 in absurd (cc)
endpoint_again _ p s = absurd s

token_again : (x : Item) (p : Part) → Spells (handle kinds.AToken false) x p → held_token (handle_of x) ≡ x
token_again (held None) p s = let wrong : false ≡ true = s.0 in absurd (cc)
token_again (held (Some (Endpoint n))) p s = let wrong : false ≡ true = s.0 in absurd (cc)
token_again (held (Some (Token n))) p s = refl
token_again _ p s = absurd s

text_again : (x : Item) (p : Part) → Spells text x p → seq (seq_of x) ≡ x
text_again (seq xs) p s = refl
text_again _ p s = absurd s

vector_again : (x : Item) (p : Part) → Spells vector x p → seq (seq_of x) ≡ x
vector_again (seq xs) p s = refl
vector_again _ p s = absurd s

table_again : (x : Item) (p : Part) → Spells (table (kind.Number false ∷ [])) x p → members (numbers (member_of x ∷ [])) ≡ x
table_again (members vs) p s = ap (λ (us : List (Option Member)). members us) (one_member vs s.count s.slots s.members_are)
table_again _ p s = absurd s

item_again : (cell : Cell) (x : Item) (p : Part) → is_asked_for cell ≡ true → Spells cell x p → again cell x ≡ x
item_again (number size) x p h s = number_again size x p s
item_again (pad size) x p h s = blank_again size x p s
item_again (handle kinds.AnyHandle nullable) x p h s = absurd (cc)
item_again (handle kinds.AnEndpoint false) x p h s = endpoint_again x p s
item_again (handle kinds.AnEndpoint true) x p h s = absurd (cc)
item_again (handle kinds.AToken false) x p h s = token_again x p s
item_again (handle kinds.AToken true) x p h s = absurd (cc)
item_again text x p h s = text_again x p s
item_again vector x p h s = vector_again x p s
item_again (table (kind.Number false ∷ [])) x p h s = table_again x p s
item_again (table _) x p h s = absurd (cc)

abbrev all_again : ℕ → List Cell → List Item → List Item
all_again i [] items = []
all_again i (cell ∷ cells) items = again cell (item i items) ∷ all_again (suc i) cells items

abbrev AllAskedFor : List Cell → Type 0
AllAskedFor [] = Unit {0}
AllAskedFor (cell ∷ cells) = (is_asked_for cell ≡ true) × AllAskedFor cells

item_behind : (front : List Item) (x : Item) (xs : List Item) → item (length front) (front ++ x ∷ xs) ≡ x
item_behind [] x xs = refl
item_behind (y ∷ front) x xs = item_behind front x xs

items_again : (cells : List Cell) (front xs : List Item) (p : Part) → AllAskedFor cells → Lays cells xs p → all_again (length front) cells (front ++ xs) ≡ xs
items_again [] front [] p h lays = refl
items_again (cell ∷ cells) front (x ∷ xs) p h (first, rest, spells, lays, same) =
    let here : item (length front) (front ++ x ∷ xs) ≡ x = item_behind front x xs in
    let behind : front ++ x ∷ xs ≡ (front ++ x ∷ []) ++ xs = sym (append_assoc front (x ∷ []) xs) in
    let count : length (front ++ x ∷ []) ≡ suc (length front) = omega (arith, length-append front (x ∷ [])) in
    let one : again cell (item (length front) (front ++ x ∷ xs)) ≡ x = ap (again cell) here ∙ item_again cell x first h.0 spells in
    let others : all_again (suc (length front)) cells (front ++ x ∷ xs) ≡ xs =
    ap (λ (ys : List Item). all_again (suc (length front)) cells ys) behind
    ∙ ap (λ (n : ℕ). all_again n cells ((front ++ x ∷ []) ++ xs)) (sym count)
    ∙ items_again cells (front ++ x ∷ []) xs rest h.1 lays in
    cc
items_again _ front xs p h lays = absurd lays

-- ---- sizes

abbrev size : List Cell → List Item → ℕ
size cells xs = length (object_bytes (spelling_of_all cells xs))

-- an object of as many inline bytes and no more out of line is no longer
object_least : (p q : Part) → length p.inline ≡ length q.inline → length p.outside ≤ length q.outside → length (object_bytes p) ≤ length (object_bytes q)
object_least p q same least =
    omega (arith, length-append (padded_bytes p.inline) p.outside, length-append (padded_bytes q.inline) q.outside, length-padded_bytes p.inline, length-padded_bytes q.inline, ap padded same)

third_alike : (a b x y : List ℕ) → length x ≡ length y → length (a ++ (b ++ (x ++ []))) ≡ length (a ++ (b ++ (y ++ [])))
third_alike a b x y same =
    omega (arith, length-append a (b ++ (x ++ [])), length-append a (b ++ (y ++ [])), length-append b (x ++ []), length-append b (y ++ []), length-append x [], length-append y [])

-- another number has as many bytes
seek_least : (origin x y : ℕ) → size (request_cells method.Seek) (num origin ∷ blank ∷ num x ∷ []) ≤ size (request_cells method.Seek) (num origin ∷ blank ∷ num y ∷ [])
seek_least origin x y =
    object_least (spelling_of_all (request_cells method.Seek) (num origin ∷ blank ∷ num x ∷ [])) (spelling_of_all (request_cells method.Seek) (num origin ∷ blank ∷ num y ∷ []))
    (third_alike (number_bytes 4 origin) (replicate 4 0) (number_bytes 8 x) (number_bytes 8 y) (length-number_bytes 8 x ∙ sym (length-number_bytes 8 y)))
    (omega arith)

-- a table without a member is no longer than one that has it
second_alike : (a x y : List ℕ) → length x ≡ length y → length (a ++ (x ++ [])) ≡ length (a ++ (y ++ []))
second_alike a x y same =
    omega (arith, length-append a (x ++ []), length-append a (y ++ []), length-append x [], length-append y [])

none_least : (xs : List ℕ) (x : ℕ) → size (request_cells method.Unlink) (seq xs ∷ members (numbers (None ∷ [])) ∷ []) ≤ size (request_cells method.Unlink) (seq xs ∷ members (numbers (Some x ∷ [])) ∷ [])
none_least xs x =
    let there : List ℕ = (table_part (numbers (Some x ∷ []))).outside in
    object_least (spelling_of_all (request_cells method.Unlink) (seq xs ∷ members (numbers (None ∷ [])) ∷ [])) (spelling_of_all (request_cells method.Unlink) (seq xs ∷ members (numbers (Some x ∷ [])) ∷ []))
    (second_alike (count_bytes (length xs)) (count_bytes 0) (count_bytes 1) (length-count 0 ∙ sym (length-count 1)))
    (omega (arith, length-append (padded_bytes xs) [], length-append (padded_bytes xs) (there ++ [])))

-- so flags of 0, which have none
flags_least : (xs : List ℕ) (v : Option ℕ) → size (request_cells method.Unlink) (seq xs ∷ members (numbers (flags_member (unwrap_or v 0) ∷ [])) ∷ []) ≤ size (request_cells method.Unlink) (seq xs ∷ members (numbers (v ∷ [])) ∷ [])
flags_least xs None = omega arith
flags_least xs (Some x) = by (nat_eq x 0)
  where
    by : (b : Bool) → size (request_cells method.Unlink) (seq xs ∷ members (numbers (cond b None (Some x) ∷ [])) ∷ []) ≤ size (request_cells method.Unlink) (seq xs ∷ members (numbers (Some x ∷ [])) ∷ [])
    by true = none_least xs x
    by false = omega arith

fields_least : (m : Method) (items : List Item) → size (request_cells m) (items_of (asked_from m items)) ≤ size (request_cells m) (all_again 0 (request_cells m) items)
fields_least method.Seek items = seek_least (num_of (item 0 items)) (cast_unsigned w64 (cast_signed w64 (num_of (item 2 items)))) (num_of (item 2 items))
fields_least method.Unlink items = flags_least (seq_of (item 0 items)) (member_of (item 1 items))
fields_least _ items = omega arith

-- every field of every request is asked for
all_asked_for : (m : Method) → AllAskedFor (request_cells m)
all_asked_for method.Clone = (refl, tt)
all_asked_for method.Close = tt
all_asked_for method.Query = tt
all_asked_for method.GetAttributes = (refl, tt)
all_asked_for method.Sync = tt
all_asked_for method.OpenPath = (refl, (refl, (refl, (refl, (refl, tt)))))
all_asked_for method.ReadDirents = (refl, tt)
all_asked_for method.Rewind = tt
all_asked_for method.GetToken = tt
all_asked_for method.Rename = (refl, (refl, (refl, (refl, tt))))
all_asked_for method.Link = (refl, (refl, (refl, (refl, tt))))
all_asked_for method.Unlink = (refl, (refl, tt))
all_asked_for method.Watch = (refl, (refl, (refl, tt)))
all_asked_for method.Read = (refl, tt)
all_asked_for method.ReadAt = (refl, (refl, tt))
all_asked_for method.Write = (refl, tt)
all_asked_for method.WriteAt = (refl, (refl, tt))
all_asked_for method.Seek = (refl, (refl, (refl, tt)))
all_asked_for method.Resize = (refl, tt)
all_asked_for method.EchoString = (refl, tt)

body_least : (m : Method) (items : List Item) (p : Part) → Lays (request_cells m) items p → length (request_body (asked_from m items)) ≤ length (body_bytes (struct (request_cells m)) (fields items))
body_least m items p lays =
    let same : method_of (asked_from m items) ≡ m = method_read m items in
    let cells = ap (λ (n : Method). size (request_cells n) (items_of (asked_from m items))) same in
    let read = ap (λ (xs : List Item). size (request_cells m) xs) (items_again (request_cells m) [] items p (all_asked_for m) lays) in
    omega (arith, cells, read, fields_least m items)

pub shortest : SpellingIsShortest → (bytes : List ℕ) (handles : List Handle) (t : ℕ) (a : Asked) → IsAsked bytes handles t a → length (request_bytes t a) ≤ length bytes
shortest law bytes handles t a r =
    let header = header_bytes (plain_header t (method_ordinal (method_of a))) in
    let written = ap (λ (b : Asked). length (request_body b)) r.fields_are in
    let least = law (struct (request_cells r.method)) (fields r.items) bytes handles r.spelled in
    omega (arith, length-append header (request_body a), length-header (plain_header t (method_ordinal (method_of a))), written, body_least r.method r.items r.spelled.body.part r.spelled.body.lays, least, length-drop 16 bytes, r.spelled.header)
