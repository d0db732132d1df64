-- What a message of bytes says are bytes, and the text of an Echo fits into its reply.
use Rattle.std.proofs.Common.{◌≡◌, ℕ, zero, suc, ◌+◌, ◌-◌, ◌^◌, ◌<◌, ◌≤◌, ◌%◌, List, [], ◌∷◌, ◌++◌, length, drop, map, replicate, refl, sym, ap, subst, ◌∙◌, All, arith}
use Rattle.std.proofs.lemmas.List.{length-append, length-drop, length-map}
use Rattle.std.proofs.lemmas.List.Elements.{All-nil, All-cons, All-head, All-tail, All-drop, All-map}
use Rattle.fidl_names.specs.HandleNumber.{number_of_handle}
use Rattle.fidl_names.specs.Numbers.{AreBytes}
use Rattle.fidl_names.specs.declared.methods.Handle.{Handle}
use Rattle.fidl_names.specs.declared.methods.Method.{Method}
use Rattle.fidl_names.specs.declared.methods.Method.TheVariants as method
use Rattle.fidl_wire.specs.Grammar.{IsList, IsSpelled, Lays, Part, Spells, join, nothing}
use Rattle.fidl_wire.specs.Headers.{header_bytes}
use Rattle.fidl_wire.specs.Layout.{Cell, Item, blank, fields, handle, held, members, num, number, pad, seq, struct, table, text, vector}
use Rattle.fidl_wire.specs.Numbers.{padding_after}
use Rattle.fidl_wire.specs.Spelling.{count_bytes}
use Rattle.fidl_wire.specs.Written.{padded_bytes}
use Rattle.io_messages.specs.Asked.{Asked}
use Rattle.io_messages.specs.Asked as asks
use Rattle.io_messages.specs.Replies as answers
use Rattle.io_messages.specs.ReplyWriting.{content_of, reply_body, reply_bytes, reply_handles, reply_header, written_layout}
use Rattle.io_messages.specs.Requests.{Reads, asked_from, request_cells, seq_in, seq_of}
use Rattle.io_messages.specs.declared.protocols.Protocol.{Protocol}
use Rattle.frame_laws.proofs.Replies.{HasFrame, IsMessage, message_frame}
use Rattle.journal_laws.proofs.Texts.{both_written, none_written}
use Rattle.frame_laws.proofs.Written.{body_is, header_written, length-count, length-header}

-- ---- parts of lists

pub All-left : {X : Type 0} (P : X → Type 0) (xs ys : List X) → All P (xs ++ ys) → All P xs
All-left P [] ys h = All-nil P
All-left P (x ∷ xs) ys h = All-cons P x xs (All-head P x (xs ++ ys) h) (All-left P xs ys (All-tail P x (xs ++ ys) h))

pub All-right : {X : Type 0} (P : X → Type 0) (xs ys : List X) → All P (xs ++ ys) → All P ys
All-right P [] ys h = h
All-right P (x ∷ xs) ys h = All-right P xs ys (All-tail P x (xs ++ ys) h)

-- ---- items

abbrev IsOfBytes : Item → Type 0
IsOfBytes (num x) = Unit {0}
IsOfBytes blank = Unit {0}
IsOfBytes (held h) = Unit {0}
IsOfBytes (seq xs) = AreBytes xs
IsOfBytes (members values) = Unit {0}

abbrev AreOfBytes : List Item → Type 0
AreOfBytes [] = Unit {0}
AreOfBytes (x ∷ xs) = IsOfBytes x × AreOfBytes xs

list_read : (xs : List ℕ) (p : Part) → IsList xs p → AreBytes p.outside → AreBytes xs
list_read xs p is h = All-left (λ b. b < 256) xs (replicate (padding_after (length xs)) 0) (subst AreBytes is.outside_is h)

item_read : (cell : Cell) (x : Item) (p : Part) → Spells cell x p → AreBytes p.outside → IsOfBytes x
item_read text (seq xs) p spells h = list_read xs p spells.1 h
item_read vector (seq xs) p spells h = list_read xs p spells h
item_read (number size) (seq xs) p spells h = absurd spells
item_read (pad size) (seq xs) p spells h = absurd spells
item_read (handle kind nullable) (seq xs) p spells h = absurd spells
item_read (table known) (seq xs) p spells h = absurd spells
item_read cell (num x) p spells h = tt
item_read cell blank p spells h = tt
item_read cell (held o) p spells h = tt
item_read cell (members values) p spells h = tt

items_read : (cells : List Cell) (items : List Item) (p : Part) → Lays cells items p → AreBytes p.outside → AreOfBytes items
items_read [] [] p lays h = tt
items_read [] (x ∷ xs) p lays h = absurd lays
items_read (cell ∷ cells) [] p lays h = absurd lays
items_read (cell ∷ cells) (x ∷ xs) p (first, rest, spells, lays, joined) h =
    let whole : AreBytes (first.outside ++ rest.outside) = subst (λ (q : Part). AreBytes q.outside) joined h in (
      item_read cell x first spells (All-left (λ b. b < 256) first.outside rest.outside whole),
      items_read cells xs rest lays (All-right (λ b. b < 256) first.outside rest.outside whole),
    )

one_text : (x : Item) → IsOfBytes x → AreBytes (seq_of x)
one_text (seq xs) h = h
one_text (num x) h = none_written
one_text blank h = none_written
one_text (held o) h = none_written
one_text (members values) h = none_written

text_at : (i : ℕ) (items : List Item) → AreOfBytes items → AreBytes (seq_in i items)
text_at i [] h = none_written
text_at zero (x ∷ xs) h = one_text x h.0
text_at (suc i) (x ∷ xs) h = text_at i xs h.1

-- ---- requests

-- its texts and the bytes that it carries
abbrev pub AsksInBytes : Asked → Type 0
AsksInBytes (asks.open_path path flags attributes object) = AreBytes path
AsksInBytes (asks.rename src token dst) = AreBytes src × AreBytes dst
AsksInBytes (asks.link src token dst) = AreBytes src × AreBytes dst
AsksInBytes (asks.unlink name flags) = AreBytes name
AsksInBytes (asks.write bytes) = AreBytes bytes
AsksInBytes (asks.write_at bytes offset) = AreBytes bytes
AsksInBytes (asks.echo_string value) = AreBytes value
AsksInBytes _ = Unit {0}

asked_in_bytes : (m : Method) (items : List Item) → AreOfBytes items → AsksInBytes (asked_from m items)
asked_in_bytes method.OpenPath items h = text_at 0 items h
asked_in_bytes method.Rename items h = (text_at 0 items h, text_at 3 items h)
asked_in_bytes method.Link items h = (text_at 0 items h, text_at 3 items h)
asked_in_bytes method.Unlink items h = text_at 0 items h
asked_in_bytes method.Write items h = text_at 0 items h
asked_in_bytes method.WriteAt items h = text_at 0 items h
asked_in_bytes method.EchoString items h = text_at 0 items h
asked_in_bytes _ items h = tt

spelled_in_bytes : (cells : List Cell) (items : List Item) (bytes : List ℕ) (handles : List Handle) → IsSpelled (struct cells) (fields items) bytes handles → AreBytes bytes → AreOfBytes items
spelled_in_bytes cells items bytes handles spelled h =
    let body : AreBytes (padded_bytes spelled.body.part.inline ++ spelled.body.part.outside) = subst AreBytes spelled.body.bytes_are (All-drop (λ b. b < 256) 16 bytes h) in
    items_read cells items spelled.body.part spelled.body.lays (All-right (λ b. b < 256) (padded_bytes spelled.body.part.inline) spelled.body.part.outside body)

pub read_in_bytes : (p : Protocol) (bytes : List ℕ) (handles : List Handle) (txid : ℕ) (a : Asked) → Reads p bytes handles txid a → AreBytes bytes → AsksInBytes a
read_in_bytes p bytes handles txid a reads h =
    let r = reads.is_asked in
    subst AsksInBytes r.fields_are (asked_in_bytes r.method r.items (spelled_in_bytes (request_cells r.method) r.items bytes handles r.spelled h))

-- ---- the text of an Echo

only_echo : (m : Method) (items : List Item) (value : List ℕ) → asked_from m items ≡ asks.echo_string value → m ≡ method.EchoString
only_echo method.EchoString items value e = refl
only_echo _ items value e = absurd (cc)

-- a message that spells a text has its padded bytes behind 32 others
text_size : (value : List ℕ) (first rest part : Part) (bytes : List ℕ) → IsList value first → rest ≡ nothing → part ≡ join first rest →
    drop 16 bytes ≡ padded_bytes part.inline ++ part.outside → 16 ≤ length bytes → 32 + length (padded_bytes value) ≤ length bytes
text_size value first rest part bytes list none joined spelled header =
    let outside : length part.outside ≡ length (padded_bytes value) =
    ap (λ (p : Part). length p.outside) joined ∙ ap (λ (p : Part). length (first.outside ++ p.outside)) none ∙ length-append first.outside [] ∙ omega (arith, ap length list.outside_is) in
    let inline : length part.inline ≡ 16 =
    ap (λ (p : Part). length p.inline) joined ∙ ap (λ (p : Part). length (first.inline ++ p.inline)) none ∙ length-append first.inline [] ∙ omega (arith, list.count.size_is) in
    omega (
      arith,
      outside,
      inline,
      header,
      length-drop 16 bytes,
      ap length spelled,
      length-append (padded_bytes part.inline) part.outside,
      length-append part.inline (replicate (padding_after (length part.inline)) 0),
    )

laid_text : (items : List Item) (part : Part) (bytes : List ℕ) → Lays (text ∷ []) items part → drop 16 bytes ≡ padded_bytes part.inline ++ part.outside → 16 ≤ length bytes →
    32 + length (padded_bytes (seq_in 0 items)) ≤ length bytes
laid_text (seq value ∷ []) part bytes (first, rest, spells, none, joined) spelled header = text_size value first rest part bytes spells.1 none joined spelled header
laid_text (num n ∷ []) part bytes (first, rest, spells, none, joined) spelled header = absurd spells
laid_text (blank ∷ []) part bytes (first, rest, spells, none, joined) spelled header = absurd spells
laid_text (held h ∷ []) part bytes (first, rest, spells, none, joined) spelled header = absurd spells
laid_text (members values ∷ []) part bytes (first, rest, spells, none, joined) spelled header = absurd spells
laid_text (x ∷ y ∷ more) part bytes (first, rest, spells, others, joined) spelled header = absurd others
laid_text [] part bytes lays spelled header = absurd lays

text_read : (m : Method) (items : List Item) (bytes : List ℕ) (handles : List Handle) (value : List ℕ) → asked_from m items ≡ asks.echo_string value → IsSpelled (struct (request_cells m)) (fields items) bytes handles →
    32 + length (padded_bytes value) ≤ length bytes
text_read m items bytes handles value from spelled =
    let echo = only_echo m items value from in
    let text' = subst (λ (k : Method). IsSpelled (struct (request_cells k)) (fields items) bytes handles) echo spelled in
    let same : asks.echo_string (seq_in 0 items) ≡ asks.echo_string value = ap (λ (k : Method). asked_from k items) (sym echo) ∙ from in
    subst (λ (v : List ℕ). 32 + length (padded_bytes v) ≤ length bytes) (same_text same) (laid_text items text'.body.part bytes text'.body.lays text'.body.bytes_are text'.header) where
      same_text : {a b : List ℕ} → asks.echo_string a ≡ asks.echo_string b → a ≡ b
      same_text e = cc

-- sixteen bytes have no padding
sixteen : (xs : List ℕ) → length xs ≡ 16 → length (padded_bytes xs) ≡ 16
unfolding padding_after
sixteen xs e =
    let none : (8 - length xs % 8) % 8 ≡ 0 = rw e refl in
    length-append xs (replicate ((8 - length xs % 8) % 8) 0) ∙ ap (λ (n : ℕ). length xs + length (replicate {A = ℕ} n 0)) none ∙ omega (arith, e)

echo_size : (txid : ℕ) (value : List ℕ) → length (reply_bytes txid (answers.payload method.EchoString value)) ≡ 32 + length (padded_bytes value)
echo_size txid value =
    let a = answers.payload method.EchoString value in
    let inline = count_bytes (length value) ++ [] in
    omega (
      arith,
      length-append (header_bytes (reply_header txid a)) (reply_body a),
      length-header (reply_header txid a),
      length-append (padded_bytes inline) (padded_bytes value ++ []),
      sixteen inline (length-append (count_bytes (length value)) [] ∙ omega (arith, length-count (length value))),
      length-append (padded_bytes value) [],
    )

-- the reply to an Echo that was read from a message fits where the message did
pub echoes : (p : Protocol) (bytes : List ℕ) (handles : List Handle) (txid : ℕ) (value : List ℕ) → Reads p bytes handles txid (asks.echo_string value) → IsMessage bytes →
    HasFrame (answers.payload method.EchoString value)
echoes p bytes handles txid value reads h asker numbered =
    let a = answers.payload method.EchoString value in
    let r = reads.is_asked in
    let room = text_read r.method r.items bytes handles value r.fields_are r.spelled in
    let body = body_is (written_layout a) (content_of a) (read_in_bytes p bytes handles txid (asks.echo_string value) reads h.bytes, tt) in
    message_frame asker.endpoint (map number_of_handle (reply_handles a)) (reply_bytes asker.txid a) numbered
    (All-map (λ n. n < 2 ^ 32) number_of_handle (reply_handles a) body.handles)
    (omega (arith, length-map (reply_handles a) number_of_handle, body.few))
    (record {
      bytes = both_written (header_bytes (reply_header asker.txid a)) (reply_body a) (header_written (reply_header asker.txid a)) body.bytes;
      short = omega (arith, echo_size asker.txid value, room, h.short);
    })
