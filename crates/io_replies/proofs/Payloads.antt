-- Where the payload of a reply stands.
use Rattle.std.proofs.Common.{◌≡◌, ℕ, ◌+◌, ◌||◌, not, Bool, true, false, cond, nat_le, nat_eq, List, [], ◌∷◌, length, slice_range, Option, Some, None, Result, Ok, Err, IfOk, inl, inr, refl, sym, ap, ◌∙◌, subst, arith}
use Rattle.std.proofs.lemmas.Bool.Decides.{nat_tests}
use Rattle.std.specs.Str.{is_utf8}
use Rattle.fidl_names.specs.declared.methods.Handle.{Handle}
use Rattle.fidl_names.specs.declared.methods.Method.{Method}
use Rattle.fidl_names.specs.declared.statuses.Status.{Status}
use Rattle.fidl_wire.specs.declared.reading.Branch.{Branch}
use Rattle.fidl_wire.specs.declared.faults.WireFault.{WireFault}
use Rattle.fidl_wire.specs.Cursor.{Cursor, outside_of, start}
use Rattle.fidl_wire.specs.Within.{IsPart}
use Rattle.fidl_wire.specs.declared.faults.WireWhat.TheVariants.{Value}
use Rattle.fidl_wire.specs.Headers.{fault}
use Rattle.wire_laws.specs.Laws.{ReadsWhatIsSpelled, SpelledWhereRead}
use Rattle.fidl_wire.specs.Layout.{Cell, Item, Content, Variant, struct, branch, pad, text, vector, num, seq, object}
use Rattle.fidl_names.specs.Numbers.{number_at}
use Rattle.fidl_wire.specs.Numbers.{padded, padding_after}
use Rattle.fidl_wire.specs.Reading.{body_of, known_variant, variant_items, cells_at, cell_at, list_cell, list_part, count_at, inline_at, passed, ordinal_at, branch_of, object_at, entered, within_branch, all_blank, finish_of}
use Rattle.io_messages.specs.declared.replies.Reply.{Reply}
use Rattle.io_messages.specs.declared.replies.Shape.{Shape}
use Rattle.io_messages.specs.declared.replies.Shape.TheVariants as shape
use Rattle.io_messages.specs.Replies.{Answered, answered, beside_payload, listing_cells, reply_layout, result_of}
use Rattle.io_replies.specs.Reading.{ReadsReply, IsPayloadOf, answered_from, by_result, by_status, error_place, failed, given_token, held_of, is_empty, named_failure, ordinal_in, reply_of, reply_told, status_place, status_with}
use Rattle.io_messages.specs.Replies as answers
use Rattle.io_messages.specs.Requests.{IsPartAt, item, items_in, num_in, seq_in, seq_of}
use Rattle.io_messages.specs.Shapes.{shape_of}
use Rattle.wire_laws.proofs.Leaving.{bind_ok, check_bind, Passes, blank_keeps, list_size}
use Rattle.io_replies.proofs.ReadObjects.{variants, object_read, result_read, same_items}
use Rattle.io_replies.proofs.ReplyLaws.{reply_is}

-- ---- lists

-- a list is the part of the message where the next object out of line stands
list_is_part : (is_text : Bool) (c : Cursor) (y : List ℕ × Cursor) → list_cell is_text c ≡ Ok y → IsPart y.0 c
list_is_part is_text c y h =
    let place = bind_ok (inline_at 16 c) _ y h in
    let count = bind_ok (count_at place.0 c) _ y place.2 in
    let fits = check_bind (nat_le (c.out + padded count.0) (length c.message)) _ _ y count.2 in
    let utf8 = check_bind (not is_text || is_utf8 (list_part place.0 count.0 c)) _ _ y fits.1 in
    let last = (bind_ok (all_blank c.message (c.out + count.0) (c.out + padded count.0)) _ y utf8.1).2 in
    let left : List ℕ × Cursor = (list_part place.0 count.0 c, record (passed 16 c) { out = c.out + padded count.0 }) in
    let same : left ≡ y = cc last in
    let size : length (list_part place.0 count.0 c) ≡ count.0 = list_size c count.0 fits.0 in
    subst (λ (v : List ℕ × Cursor). IsPart v.0 c) same (ap (λ (n : ℕ). slice_range c.message c.out (c.out + n)) (sym size))

vector_is_part : (c : Cursor) (y : Item × Cursor) → cell_at vector c ≡ Ok y → IsPart (seq_of y.0) c
unfolding cell_at
vector_is_part c y h =
    let list = bind_ok (list_cell false c) _ y h in
    let got : Item × Cursor = (seq list.0.0, list.0.1) in
    let same : got ≡ y = cc list.2 in
    subst (λ (v : Item × Cursor). IsPart (seq_of v.0) c) same (list_is_part false c list.0 list.1)

text_is_part : (c : Cursor) (y : Item × Cursor) → cell_at text c ≡ Ok y → IsPart (seq_of y.0) c
unfolding cell_at
text_is_part c y h =
    let list = bind_ok (list_cell true c) _ y h in
    let got : Item × Cursor = (seq list.0.0, list.0.1) in
    let same : got ≡ y = cc list.2 in
    subst (λ (v : Item × Cursor). IsPart (seq_of v.0) c) same (list_is_part true c list.0 list.1)

-- a part of the message that is read, at that place
placed : (m : List ℕ) (place : ℕ) (d : Cursor) (xs : List ℕ) → d.message ≡ m → d.out ≡ place → IsPart xs d → IsPartAt m place xs
placed m place d xs message out is =
    is ∙ ap (λ (n : ℕ). slice_range d.message n (n + length xs)) out ∙ ap (λ (bytes : List ℕ). slice_range bytes place (place + length xs)) message

-- what one cell has is all that an object of this cell has
cells_one : (cell : Cell) (c : Cursor) (y : List Item × Cursor) → cells_at (cell ∷ []) c ≡ Ok y → (x : Item × Cursor) × (cell_at cell c ≡ Ok x) × (x.0 ∷ [] ≡ y.0)
cells_one cell c y h =
    let x = bind_ok (cell_at cell c) _ y h in
    let got : List Item × Cursor = (x.0.0 ∷ [], x.0.1) in
    let same : got ≡ y = cc x.2 in
    (x.0, x.1, ap (λ (v : List Item × Cursor). v.0) same)

-- ---- each shape of reply that has one

vector_at : (m : List ℕ) (hs : List Handle) (content : Content) → body_of (struct (vector ∷ [])) m hs ≡ Ok content → IsPartAt m 32 (seq_in 0 (items_in content))
unfolding padding_after
vector_at m hs content h =
    let r = object_read (vector ∷ []) m hs content h in
    let one = cells_one vector (start m hs 16) (r.items, r.end) r.cells_are in
    let part = placed m 32 (start m hs 16) (seq_of one.0.0) refl refl (vector_is_part (start m hs 16) one.0 one.1) in
    subst (λ (c : Content). IsPartAt m 32 (seq_in 0 (items_in c))) r.content_is (subst (λ (xs : List Item). IsPartAt m 32 (seq_in 0 xs)) one.2 part)

text_at : (m : List ℕ) (hs : List Handle) (content : Content) → body_of (struct (text ∷ [])) m hs ≡ Ok content → IsPartAt m 32 (seq_in 0 (items_in content))
unfolding padding_after
text_at m hs content h =
    let r = object_read (text ∷ []) m hs content h in
    let one = cells_one text (start m hs 16) (r.items, r.end) r.cells_are in
    let part = placed m 32 (start m hs 16) (seq_of one.0.0) refl refl (text_is_part (start m hs 16) one.0 one.1) in
    subst (λ (c : Content). IsPartAt m 32 (seq_in 0 (items_in c))) r.content_is (subst (λ (xs : List Item). IsPartAt m 32 (seq_in 0 xs)) one.2 part)

listing_at : (m : List ℕ) (hs : List Handle) (content : Content) → body_of (struct listing_cells) m hs ≡ Ok content → IsPartAt m 40 (seq_in 2 (items_in content))
unfolding cell_at padding_after
listing_at m hs content h =
    let r = object_read listing_cells m hs content h in
    let outer = bind_ok (cells_at (pad 4 ∷ vector ∷ []) (passed 4 (start m hs 24))) _ (r.items, r.end) r.cells_are in
    let pads = bind_ok (cell_at (pad 4) (passed 4 (start m hs 24))) _ outer.0 outer.1 in
    let rest = bind_ok (cells_at (vector ∷ []) pads.0.1) _ outer.0 pads.2 in
    let one = cells_one vector pads.0.1 rest.0 rest.1 in
    let keeps = blank_keeps 4 (passed 4 (start m hs 24)) pads.0 pads.1 in
    let part = placed m 40 pads.0.1 (seq_of one.0.0) keeps.message keeps.out (vector_is_part pads.0.1 one.0 one.1) in
    let behind = same_items (pads.0.0 ∷ rest.0.0) outer.0.0 rest.0.1 outer.0.1 rest.2 in
    let items = same_items (num (number_at 4 16 m) ∷ outer.0.0) r.items outer.0.1 r.end outer.2 in
    let third = subst (λ (xs : List Item). IsPartAt m 40 (seq_in 2 (num (number_at 4 16 m) ∷ pads.0.0 ∷ xs))) one.2 part in
    let second = subst (λ (xs : List Item). IsPartAt m 40 (seq_in 2 (num (number_at 4 16 m) ∷ xs))) behind third in
    subst (λ (c : Content). IsPartAt m 40 (seq_in 2 (items_in c))) r.content_is (subst (λ (xs : List Item). IsPartAt m 40 (seq_in 2 xs)) items second)

-- behind the object of a branch
branch_passes : (c : Cursor) (x : Branch × Cursor) → branch_of 16 c ≡ Ok x → Passes 16 c x.1
unfolding branch_of
branch_passes c x h =
    let place = bind_ok (inline_at 16 c) _ x h in
    let within = bind_ok (object_at 16 place.0 c) _ x place.2 in
    let tested = bind_ok (entered (place.0 + 8) 16 c.message (outside_of c)) _ within.0 within.1 in
    let blank = bind_ok (all_blank c.message c.end (padded c.end)) _ within.0 tested.2 in
    let inside : within_branch 16 (place.0 + 8) c ≡ within.0 = cc blank.2 in
    let got : Branch × Cursor = (record { ordinal = number_at 8 place.0 c.message; inlined = None }, within.0) in
    let same : got ≡ x = cc within.2 in
    subst (λ (d : Cursor). Passes 16 c d) (inside ∙ ap (λ (v : Branch × Cursor). v.1) same) (record { message = refl; out = refl })

first_variant : (v : Variant) (c : Cursor) (n : ℕ) (xs : List Item) → n ≡ 1 → known_variant (variants v n) c ≡ Ok xs → variant_items v c ≡ Ok xs
first_variant v c n xs one known = subst (λ (k : ℕ). known_variant (variants v k) c ≡ Ok xs) one known

-- what the success of a result has
success_items : (v : Variant) (m : List ℕ) (hs : List Handle) (content : Content) → body_of (result_of v) m hs ≡ Ok content → ordinal_in content ≡ 1 →
    (xs : List Item) × (variant_items v (start m hs 16) ≡ Ok xs) × (xs ≡ items_in content)
unfolding ordinal_at
success_items v m hs content h one =
    let read = result_read v m hs content h in
    let items = bind_ok (known_variant (variants v (number_at 8 16 m)) (start m hs 16)) _ content read in
    let is : branch (number_at 8 16 m) items.0 ≡ content = cc items.2 in
    (items.0, first_variant v (start m hs 16) (number_at 8 16 m) items.0 (ap ordinal_in is ∙ one) items.1, ap items_in is)

bytes_at : (m : List ℕ) (hs : List Handle) (content : Content) → body_of (result_of (object (vector ∷ []))) m hs ≡ Ok content → ordinal_in content ≡ 1 → IsPartAt m 48 (seq_in 0 (items_in content))
unfolding padding_after
bytes_at m hs content h one =
    let success = success_items (object (vector ∷ [])) m hs content h one in
    let inside = bind_ok (branch_of 16 (start m hs 16)) _ success.0 success.1 in
    let passes = branch_passes (start m hs 16) inside.0 inside.1 in
    let all = bind_ok (cells_at (vector ∷ []) inside.0.1) _ success.0 inside.2 in
    let cell = cells_one vector inside.0.1 all.0 all.1 in
    let ended = bind_ok (finish_of all.0.1) _ success.0 all.2 in
    let same : all.0.0 ≡ success.0 = cc ended.2 in
    let part = placed m 48 inside.0.1 (seq_of cell.0.0) passes.message passes.out (vector_is_part inside.0.1 cell.0 cell.1) in
    items_part (cell.0.0 ∷ []) (items_in content) (cell.2 ∙ same ∙ success.2) part
  where
    items_part : (xs ys : List Item) → xs ≡ ys → IsPartAt m 48 (seq_in 0 xs) → IsPartAt m 48 (seq_in 0 ys)
    items_part xs ys same part = subst (λ (zs : List Item). IsPartAt m 48 (seq_in 0 zs)) same part

-- ---- what is answered

abbrev gives : Answered → Result Answered WireFault
gives a = Ok a

fails_payload : (bytes : List ℕ) (m : Method) (place x : ℕ) (a : Answered) → failed m place x ≡ Ok a → IsPayloadOf bytes a
unfolding failed
fails_payload bytes m place x a h = tested (nat_eq x 0) (status_with _) h
  where
    tested : (b : Bool) (o : Option Status) → cond b (Err (fault place Value)) (named_failure m place o) ≡ Ok a → IsPayloadOf bytes a
    tested true o h = absurd (cc)
    tested false None h = absurd (cc)
    tested false (Some s) h = let same : answers.fails m s ≡ a = cc in subst (λ (v : Answered). IsPayloadOf bytes v) same tt

result_payload : (bytes : List ℕ) (m : Method) (c : Content) (success a : Answered) → by_result m c success ≡ Ok a → (ordinal_in c ≡ 1 → IsPayloadOf bytes success) → IsPayloadOf bytes a
result_payload bytes m c success a h part = tested (nat_eq (ordinal_in c) 1) refl h
  where
    same_number : (n : ℕ) → nat_eq n 1 ≡ true → n ≡ 1
    same_number n h = grind (arith, nat_tests)

    tested : (b : Bool) → nat_eq (ordinal_in c) 1 ≡ b → cond b (Ok success) (failed m error_place (num_in 0 (items_in c))) ≡ Ok a → IsPayloadOf bytes a
    tested true k h = let same : success ≡ a = cc in subst (λ (v : Answered). IsPayloadOf bytes v) same (part (same_number (ordinal_in c) k))
    tested false k h = fails_payload bytes m error_place (num_in 0 (items_in c)) a h

status_payload : (bytes : List ℕ) (m : Method) (x : ℕ) (alone : Bool) (success : Result Answered WireFault) (a : Answered) → by_status m x alone success ≡ Ok a → (success ≡ Ok a → IsPayloadOf bytes a) → IsPayloadOf bytes a
status_payload bytes m x alone success a h part = tested (nat_eq x 0) alone h
  where
    tested : (b alone : Bool) → cond b success (cond alone (failed m status_place x) (Err (fault status_place Value))) ≡ Ok a → IsPayloadOf bytes a
    tested true alone h = part h
    tested false true h = fails_payload bytes m status_place x a h
    tested false false h = absurd (cc)

-- one that isn't a payload
other_payload : (bytes : List ℕ) (b a : Answered) → IsPayloadOf bytes b → gives b ≡ Ok a → IsPayloadOf bytes a
other_payload bytes b a is h = let same : b ≡ a = cc in subst (λ (v : Answered). IsPayloadOf bytes v) same is

token_payload : (bytes : List ℕ) (o : Option Handle) (a : Answered) → given_token o ≡ Ok a → IsPayloadOf bytes a
token_payload bytes None a h = absurd (cc)
token_payload bytes (Some x) a h = other_payload bytes (answers.token _) a tt h

-- the payload of a method whose reply has this shape
of_shape : (bytes : List ℕ) (m : Method) (s : Shape) (xs : List ℕ) → shape_of m ≡ Some s → IsPartAt bytes (beside_payload (Some s)) xs → IsPayloadOf bytes (answers.payload m xs)
of_shape bytes m s xs shaped part = subst (λ (o : Option Shape). IsPartAt bytes (beside_payload o) xs) (sym shaped) part

payload_of : (s : Shape) (m : Method) (bytes : List ℕ) (hs : List Handle) (c : Content) (a : Answered) → shape_of m ≡ Some s → body_of (reply_layout s) bytes hs ≡ Ok c → answered_from s m c ≡ Ok a → IsPayloadOf bytes a
payload_of shape.Done m bytes hs c a shaped read from = result_payload bytes m c (answers.done m) a from (λ _. tt)
payload_of shape.Number m bytes hs c a shaped read from = result_payload bytes m c (answers.counted m (num_in 0 (items_in c))) a from (λ _. tt)
payload_of shape.Bytes m bytes hs c a shaped read from =
    result_payload bytes m c (answers.payload m (seq_in 0 (items_in c))) a from (λ one. of_shape bytes m shape.Bytes _ shaped (bytes_at bytes hs c read one))
payload_of shape.Attributes m bytes hs c a shaped read from = result_payload bytes m c (answers.attributes _) a from (λ _. tt)
payload_of shape.Vector m bytes hs c a shaped read from =
    other_payload bytes (answers.payload m (seq_in 0 (items_in c))) a (of_shape bytes m shape.Vector _ shaped (vector_at bytes hs c read)) from
payload_of shape.Text m bytes hs c a shaped read from =
    other_payload bytes (answers.payload m (seq_in 0 (items_in c))) a (of_shape bytes m shape.Text _ shaped (text_at bytes hs c read)) from
payload_of shape.Listing m bytes hs c a shaped read from =
    status_payload bytes m (num_in 0 (items_in c)) (is_empty (seq_in 2 (items_in c))) (Ok (answers.payload m (seq_in 2 (items_in c)))) a from
    (other_payload bytes (answers.payload m (seq_in 2 (items_in c))) a (of_shape bytes m shape.Listing _ shaped (listing_at bytes hs c read)))
payload_of shape.Settled m bytes hs c a shaped read from =
    status_payload bytes m (num_in 0 (items_in c)) true (Ok (answers.settled m)) a from (other_payload bytes (answers.settled m) a tt)
payload_of shape.Token m bytes hs c a shaped read from =
    status_payload bytes m (num_in 0 (items_in c)) _ (given_token (held_of (item 1 (items_in c)))) a from (token_payload bytes (held_of (item 1 (items_in c))) a)

payload_is : (law : ReadsWhatIsSpelled) (bytes : List ℕ) (hs : List Handle) (t : ℕ) (a : Answered) → ReadsReply bytes hs t a → IsPayloadOf bytes a
payload_is law bytes hs t a (inl r) = subst (λ (v : Answered). IsPayloadOf bytes v) (sym r.1) tt
payload_is law bytes hs t a (inr r) = payload_of r.shape r.method bytes hs r.content a r.shape_is (law (reply_layout r.shape) r.content bytes hs r.spelled) r.fields_are

-- a result of the code that is that reading
pub payload_found : (law : ReadsWhatIsSpelled) → SpelledWhereRead → (bytes : List ℕ) (hs : List Handle) (r : Result (ℕ × Reply) WireFault) → reply_told r ≡ reply_of bytes hs → IfOk r (λ x. IsPayloadOf bytes (answered x.1))
payload_found law spelled bytes hs (Ok x) h = payload_is law bytes hs x.0 (answered x.1) (reply_is spelled bytes hs x.0 (answered x.1) (sym h))
payload_found law spelled bytes hs (Err e) h = tt
