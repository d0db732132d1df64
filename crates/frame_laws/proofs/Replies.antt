-- That replies and the other frames of an answer are frames.
use Rattle.std.proofs.Common.{◌≡◌, ℕ, ℤ, ◌^◌, ◌<◌, ◌≤◌, ◌==◌, ◌&&◌, Bool, true, false, List, [], ◌∷◌, ◌++◌, length, map, Option, Some, None, All, refl, sym, subst, arith}
use Rattle.std.specs.Prelude.{IsTrue}
use Rattle.std.specs.Int.{w32, cast_unsigned}
use Rattle.std.proofs.lemmas.List.{length-append, length-map}
use Rattle.std.proofs.lemmas.List.Elements.{All-nil, All-cons, All-map}
use Rattle.link_frames.specs.declared.kinds.FrameKind.TheVariants as kind
use Rattle.link_frames.specs.declared.kinds.Refusal.{Refusal}
use Rattle.link_frames.specs.declared.kinds.Side.TheVariants.{Any}
use Rattle.link_frames.specs.Frames.{IsFrame, frame_with}
use Rattle.link_frames.specs.Refusals.{status_of}
use Rattle.fidl_names.specs.HandleNumber.{number_of_handle}
use Rattle.fidl_names.specs.Numbers.{AreBytes, number_bytes}
use Rattle.fidl_names.specs.StatusNumber.{number_of}
use Rattle.fidl_names.specs.declared.limits.TheConstants as limit
use Rattle.fidl_names.specs.declared.statuses.Status.{Status}
use Rattle.fidl_wire.specs.Epitaphs.{epitaph_bytes, epitaph_header}
use Rattle.fidl_wire.specs.Headers.{header_bytes}
use Rattle.fidl_wire.specs.Layout.{Item, branch, members}
use Rattle.fidl_wire.specs.Names.{event_ordinal}
use Rattle.fidl_wire.specs.Spelling.{body_bytes}
use Rattle.io_messages.specs.Replies.{Answered, event_layout}
use Rattle.io_messages.specs.Replies as answers
use Rattle.io_messages.specs.ReplyWriting.{attribute_members, branch_of_kind, carried, content_of, event_bytes, failure, layout_of, reply_body, reply_bytes, reply_handles, reply_header, written_layout}
use Rattle.io_messages.specs.Shapes.{shape_of}
use Rattle.io_messages.specs.Writing.{plain_header}
use Rattle.io_messages.specs.declared.protocols.Protocol.{Protocol}
use Rattle.io_messages.specs.declared.replies.Shape.{Shape}
use Rattle.io_messages.specs.declared.replies.Shape.TheVariants as shape
use Rattle.vfs_journal.specs.Outcomes.{Asker, announcement, close_frame, ending, reply_frame}
use Rattle.vfs_journal.specs.Output.{refused_frame}
use Rattle.frame_laws.proofs.Sizes.{body_size, is_small, numbers_most, rooms_of}
use Rattle.journal_laws.proofs.Texts.{both_written, none_written}
use Rattle.frame_laws.proofs.Written.{AreWritable, body_is, header_written, items_of, length-header, length-number, number_written, numbers_of_bytes}

-- ---- frames by their parts

-- an endpoint's number has 32 bits
abbrev pub FitsWord : ℕ → Type 0
FitsWord endpoint = endpoint < 2 ^ 32

-- the bytes of a message
pub record IsMessage (text : List ℕ) : Type 0 where
  pub bytes : AreBytes text
  pub short : length text ≤ limit.MAX_BYTES

pub message_frame : (endpoint : ℕ) (handles bytes : List ℕ) → FitsWord endpoint → All (λ h. h < 2 ^ 32) handles → length handles ≤ limit.MAX_HANDLES → IsMessage bytes →
    IsFrame Any (frame_with endpoint kind.Message handles bytes)
message_frame endpoint handles bytes numbered low few message' = record {
  way = refl;
  shape = record { few_handles = few; few_bytes = message'.short; shape = refl };
  endpoint = numbered;
  handles = low;
  bytes = message'.bytes;
}

pub plain_frame : (endpoint : ℕ) (bytes : List ℕ) → FitsWord endpoint → IsMessage bytes → IsFrame Any (frame_with endpoint kind.Message [] bytes)
plain_frame endpoint bytes numbered message' = message_frame endpoint [] bytes numbered (All-nil (λ h. h < 2 ^ 32)) (omega arith) message'

pub closes : (endpoint : ℕ) → FitsWord endpoint → IsFrame Any (close_frame endpoint)
closes endpoint numbered = record {
  way = refl;
  shape = record { few_handles = omega arith; few_bytes = omega arith; shape = refl };
  endpoint = numbered;
  handles = All-nil (λ h. h < 2 ^ 32);
  bytes = none_written;
}

pub refuses : (endpoint : ℕ) (why : Refusal) → FitsWord endpoint → IsFrame Any (refused_frame endpoint why)
refuses endpoint why numbered =
    let word = cast_unsigned w32 (number_of (status_of why)) in
    let four = length-number 4 word in
    record {
      way = refl;
      shape = record { few_handles = omega arith; few_bytes = omega (arith, four); shape = subst (λ (n : ℕ). IsTrue (true && (n == 4))) (sym four) refl };
      endpoint = numbered;
      handles = All-nil (λ h. h < 2 ^ 32);
      bytes = number_written 4 word;
    }

-- ---- the last message, and the first

epitaph_is : (status : ℤ) → IsMessage (epitaph_bytes status)
epitaph_is status =
    let word = cast_unsigned w32 status in
    record {
      bytes = both_written (header_bytes epitaph_header ++ number_bytes 4 word) (number_bytes 4 0) (both_written (header_bytes epitaph_header) (number_bytes 4 word) (header_written epitaph_header) (number_written 4 word)) (number_written 4 0);
      short = omega (arith, length-append (header_bytes epitaph_header ++ number_bytes 4 word) (number_bytes 4 0), length-append (header_bytes epitaph_header) (number_bytes 4 word), length-header epitaph_header, length-number 4 word, length-number 4 0);
    }

pub ends : (endpoint : ℕ) (status : Status) → FitsWord endpoint → All (IsFrame Any) (ending endpoint status)
ends endpoint status numbered =
    All-cons (IsFrame Any) (frame_with endpoint kind.Message [] (epitaph_bytes (number_of status))) (close_frame endpoint ∷ []) (plain_frame endpoint (epitaph_bytes (number_of status)) numbered (epitaph_is (number_of status)))
    (All-cons (IsFrame Any) (close_frame endpoint) [] (closes endpoint numbered) (All-nil (IsFrame Any)))

event_is : (p : Protocol) → IsMessage (event_bytes p)
event_is p =
    let header = plain_header 0 event_ordinal in
    let content = branch (branch_of_kind p) (members [] ∷ []) in
    let size = body_size event_layout content refl in
    record {
      bytes = both_written (header_bytes header) (body_bytes event_layout content) (header_written header) (body_is event_layout content (tt, tt)).bytes;
      short = omega (arith, length-append (header_bytes header) (body_bytes event_layout content), length-header header, size);
    }

pub announces : (endpoint : ℕ) (p : Protocol) (announced : Bool) → FitsWord endpoint → All (IsFrame Any) (announcement endpoint p announced)
announces endpoint p true numbered =
    All-cons (IsFrame Any) (frame_with endpoint kind.Message [] (event_bytes p)) [] (plain_frame endpoint (event_bytes p) numbered (event_is p)) (All-nil (IsFrame Any))
announces endpoint p false numbered = All-nil (IsFrame Any)

-- ---- replies

-- it is a frame, whoever asked
abbrev pub HasFrame : Answered → Type 0
HasFrame a = (asker : Asker) → FitsWord asker.endpoint → IsFrame Any (reply_frame asker a)

-- a payload of bytes, of fewer than a message may have with room for all beside them; a token's number
abbrev pub IsWithin : Answered → Type 0
IsWithin (answers.payload m bytes) = AreBytes bytes × (length bytes ≤ 65000)
IsWithin (answers.token n) = n < 2 ^ 32
IsWithin _ = Unit {0}

small_layout : (o : Option Shape) → is_small (layout_of o) ≡ true
small_layout None = refl
small_layout (Some shape.Done) = refl
small_layout (Some shape.Number) = refl
small_layout (Some shape.Bytes) = refl
small_layout (Some shape.Attributes) = refl
small_layout (Some shape.Vector) = refl
small_layout (Some shape.Text) = refl
small_layout (Some shape.Listing) = refl
small_layout (Some shape.Settled) = refl
small_layout (Some shape.Token) = refl

small_written : (a : Answered) → is_small (written_layout a) ≡ true
small_written (answers.done m) = small_layout (shape_of m)
small_written (answers.fails m s) = small_layout (shape_of m)
small_written (answers.counted m x) = small_layout (shape_of m)
small_written (answers.payload m bytes) = small_layout (shape_of m)
small_written (answers.settled m) = small_layout (shape_of m)
small_written (answers.token n) = refl
small_written (answers.attributes a) = refl
small_written (answers.unknown ordinal) = refl

-- the items of a reply: few, with few bytes out of line
record AreFew (xs : List Item) : Type 0 where
  written : AreWritable xs
  few : length xs ≤ 3
  room : rooms_of xs ≤ 65200

few_failing : (o : Option Shape) (x : ℕ) → AreFew (items_of (failure o x))
few_failing None x = record { written = (tt, tt); few = omega arith; room = omega arith }
few_failing (Some shape.Done) x = record { written = (tt, tt); few = omega arith; room = omega arith }
few_failing (Some shape.Number) x = record { written = (tt, tt); few = omega arith; room = omega arith }
few_failing (Some shape.Bytes) x = record { written = (tt, tt); few = omega arith; room = omega arith }
few_failing (Some shape.Attributes) x = record { written = (tt, tt); few = omega arith; room = omega arith }
few_failing (Some shape.Vector) x = record { written = (tt, tt); few = omega arith; room = omega arith }
few_failing (Some shape.Text) x = record { written = (tt, tt); few = omega arith; room = omega arith }
few_failing (Some shape.Listing) x = record { written = (tt, (tt, (none_written, tt))); few = omega arith; room = omega arith }
few_failing (Some shape.Settled) x = record { written = (tt, tt); few = omega arith; room = omega arith }
few_failing (Some shape.Token) x = record { written = (tt, (tt, tt)); few = omega arith; room = omega arith }

few_carried : (o : Option Shape) (bytes : List ℕ) → AreBytes bytes → length bytes ≤ 65000 → AreFew (items_of (carried o bytes))
few_carried None bytes h l = record { written = (h, tt); few = omega arith; room = omega (arith, l) }
few_carried (Some shape.Done) bytes h l = record { written = (h, tt); few = omega arith; room = omega (arith, l) }
few_carried (Some shape.Number) bytes h l = record { written = (h, tt); few = omega arith; room = omega (arith, l) }
few_carried (Some shape.Bytes) bytes h l = record { written = (h, tt); few = omega arith; room = omega (arith, l) }
few_carried (Some shape.Attributes) bytes h l = record { written = (h, tt); few = omega arith; room = omega (arith, l) }
few_carried (Some shape.Vector) bytes h l = record { written = (h, tt); few = omega arith; room = omega (arith, l) }
few_carried (Some shape.Text) bytes h l = record { written = (h, tt); few = omega arith; room = omega (arith, l) }
few_carried (Some shape.Listing) bytes h l = record { written = (tt, (tt, (h, tt))); few = omega arith; room = omega (arith, l) }
few_carried (Some shape.Settled) bytes h l = record { written = (h, tt); few = omega arith; room = omega (arith, l) }
few_carried (Some shape.Token) bytes h l = record { written = (h, tt); few = omega arith; room = omega (arith, l) }

few_items : (a : Answered) → IsWithin a → AreFew (items_of (content_of a))
few_items (answers.done m) h = record { written = tt; few = omega arith; room = omega arith }
few_items (answers.fails m s) h = few_failing (shape_of m) _
few_items (answers.counted m x) h = record { written = (tt, tt); few = omega arith; room = omega arith }
few_items (answers.payload m bytes) h = few_carried (shape_of m) bytes h.0 h.1
few_items (answers.settled m) h = record { written = (tt, tt); few = omega arith; room = omega arith }
few_items (answers.token n) h = record { written = (tt, (h, tt)); few = omega arith; room = omega arith }
few_items (answers.attributes a) h = record { written = (tt, (numbers_of_bytes (attribute_members a), tt)); few = omega arith; room = omega (arith, numbers_most (attribute_members a)) }
few_items (answers.unknown ordinal) h = record { written = (tt, (tt, tt)); few = omega arith; room = omega arith }

pub replies_within : (a : Answered) → IsWithin a → HasFrame a
replies_within a h asker numbered =
    let items = few_items a h in
    let body = body_is (written_layout a) (content_of a) items.written in
    let size = body_size (written_layout a) (content_of a) (small_written a) in
    let header = reply_header asker.txid a in
    message_frame asker.endpoint (map number_of_handle (reply_handles a)) (reply_bytes asker.txid a) numbered
    (All-map (λ h. h < 2 ^ 32) number_of_handle (reply_handles a) body.handles)
    (omega (arith, length-map (reply_handles a) number_of_handle, body.few, items.few))
    (record {
      bytes = both_written (header_bytes header) (reply_body a) (header_written header) body.bytes;
      short = omega (arith, length-append (header_bytes header) (reply_body a), length-header header, size, items.few, items.room);
    })
