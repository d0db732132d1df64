-- That the text of a message which was read can be echoed.
use Rattle.std.proofs.Common.{◌≡◌, ◌∙◌, ℕ, ◌+◌, ◌≤◌, true, List, [], ◌∷◌, ◌++◌, length, drop, refl, sym, ap, subst, arith}
use Rattle.std.proofs.lemmas.List.{length-append, length-drop}
use Rattle.std.specs.Str.{IsUtf8}
use Rattle.fidl_names.specs.declared.limits.TheConstants as limit
use Rattle.fidl_names.specs.declared.methods.Handle.{Handle}
use Rattle.fidl_names.specs.declared.methods.Method.{Method}
use Rattle.fidl_names.specs.declared.methods.Method.TheVariants as method
use Rattle.fidl_wire.specs.Grammar.{Part, nothing, join, IsList, IsSpelled, Lays}
use Rattle.fidl_wire.specs.Layout.{Item, text, num, blank, held, seq, members, struct, fields}
use Rattle.fidl_wire.specs.Numbers.{padded, padding_after}
use Rattle.fidl_wire.specs.Written.{padded_bytes}
use Rattle.fidl_wire.proofs.Padded.{length-padded_bytes}
use Rattle.io_messages.specs.Asked.{Asked}
use Rattle.io_messages.specs.declared.protocols.Protocol.TheVariants as protocol
use Rattle.io_messages.specs.Protocols.{has_method}
use Rattle.io_messages.specs.Replies.{payload}
use Rattle.io_messages.specs.ReplyWriting.{PayloadFits}
use Rattle.io_messages.specs.Requests.{Reads, request_cells, asked_from, seq_in}
use Rattle.io_messages.proofs.Known.{method_asked}
use Rattle.file_conn.specs.Texts.{text_of}

-- the one method of the service
one_method : (m : Method) → has_method protocol.Echo m ≡ true → m ≡ method.EchoString
one_method method.EchoString has = refl
one_method method.Clone has = cc
one_method method.Close has = cc
one_method method.Query has = cc
one_method method.GetAttributes has = cc
one_method method.Sync has = cc
one_method method.OpenPath has = cc
one_method method.ReadDirents has = cc
one_method method.Rewind has = cc
one_method method.GetToken has = cc
one_method method.Rename has = cc
one_method method.Link has = cc
one_method method.Unlink has = cc
one_method method.Watch has = cc
one_method method.Read has = cc
one_method method.ReadAt has = cc
one_method method.Write has = cc
one_method method.WriteAt has = cc
one_method method.Seek has = cc
one_method method.Resize has = cc

padded_sixteen : (n : ℕ) → n ≡ 16 → padded n ≡ 16
unfolding padding_after
padded_sixteen n is = rw is refl

-- a message that spells a text has 32 bytes, and behind them the text with its padding
room_of_text : (value : List ℕ) (first rest part : Part) (bytes : List ℕ) → IsList value first → rest ≡ nothing → part ≡ join first rest →
    drop 16 bytes ≡ padded_bytes part.inline ++ part.outside → 16 ≤ length bytes → 32 + padded (length value) ≤ length bytes
room_of_text value first rest part bytes list none joined spelled header =
    let outside : length part.outside ≡ padded (length value) =
    ap (λ p. length p.outside) joined ∙ ap (λ p. length (first.outside ++ p.outside)) none ∙ length-append first.outside [] ∙ omega (arith, ap length list.outside_is, length-padded_bytes value) in
    let inline : length part.inline ≡ 16 =
    ap (λ p. length p.inline) joined ∙ ap (λ p. length (first.inline ++ p.inline)) none ∙ length-append first.inline [] ∙ omega (arith, list.count.size_is) in
    omega (arith, outside, length-padded_bytes part.inline, padded_sixteen (length part.inline) inline, header, length-drop 16 bytes, ap length spelled, length-append (padded_bytes part.inline) part.outside)

-- so the text is one that fits
laid_text : (items : List Item) (part : Part) (bytes : List ℕ) → Lays (text ∷ []) items part → drop 16 bytes ≡ padded_bytes part.inline ++ part.outside → 16 ≤ length bytes →
    IsUtf8 (seq_in 0 items) × (32 + padded (length (seq_in 0 items)) ≤ length bytes)
laid_text (seq value ∷ []) part bytes (first, rest, spells, none, joined) spelled header =
    (spells.0, room_of_text value first rest part bytes spells.1 none joined spelled header)
laid_text (num n ∷ []) part bytes (first, rest, spells, none, joined) spelled header = absurd spells
laid_text (blank ∷ []) part bytes (first, rest, spells, none, joined) spelled header = absurd spells
laid_text (held h ∷ []) part bytes (first, rest, spells, none, joined) spelled header = absurd spells
laid_text (members values ∷ []) part bytes (first, rest, spells, none, joined) spelled header = absurd spells
laid_text (x ∷ y ∷ more) part bytes (first, rest, spells, others, joined) spelled header = absurd others
laid_text [] part bytes lays spelled header = absurd lays

spelled_text : (items : List Item) (bytes : List ℕ) (handles : List Handle) → IsSpelled (struct (request_cells method.EchoString)) (fields items) bytes handles →
    IsUtf8 (seq_in 0 items) × (32 + padded (length (seq_in 0 items)) ≤ length bytes)
spelled_text items bytes handles spelled = laid_text items spelled.body.part bytes spelled.body.lays spelled.body.bytes_are spelled.header

-- what was read from a message is a text, and its reply fits where the message does
pub read_text : (bytes : List ℕ) (handles : List Handle) (txid : ℕ) (a : Asked) → Reads protocol.Echo bytes handles txid a → length bytes ≤ limit.MAX_BYTES →
    IsUtf8 (text_of a) × PayloadFits (payload method.EchoString (text_of a))
read_text bytes handles txid a reads few =
    let r = reads.is_asked in
    let echo = one_method r.method (ap (has_method protocol.Echo) (sym (method_asked bytes handles txid a r)) ∙ reads.known) in
    let found = spelled_text r.items bytes handles (subst (λ m. IsSpelled (struct (request_cells m)) (fields r.items) bytes handles) echo r.spelled) in
    let same : text_of a ≡ seq_in 0 r.items = ap text_of (sym r.fields_are) ∙ ap (λ m. text_of (asked_from m r.items)) echo in
    rw same (found.0, omega (arith, found.1, few))
