-- Which replies there are among the frames of an outcome.
use Rattle.std.proofs.Common.{◌≡◌, ℕ, ◌==◌, ◌&&◌, ◌⊎◌, ◌<◌, ◌^◌, ◌∙◌, Bool, true, false, not, cond, List, [], ◌∷◌, ◌++◌, filter, map, Option, Ok, Err, refl, sym, ap, subst, inl, inr, append_assoc, eq-eqb, lit<}
use Rattle.byteorder.specs.Numbers.{little_number-reads_back}
use Rattle.link_frames.specs.declared.kinds.FrameKind.TheVariants as kind
use Rattle.link_frames.specs.Frames.{Frame, frame_with}
use Rattle.fidl_names.specs.HandleNumber.{handle_with, number_of_handle}
use Rattle.fidl_names.specs.Numbers.{number_at, number_bytes}
use Rattle.fidl_names.specs.StatusNumber.{number_of}
use Rattle.fidl_names.specs.declared.methods.Method.TheVariants as method
use Rattle.fidl_names.specs.declared.statuses.Status.{Status}
use Rattle.fidl_names.specs.declared.statuses.Status.TheVariants as status
use Rattle.fidl_wire.specs.Epitaphs.{epitaph_bytes, epitaph_header}
use Rattle.fidl_wire.specs.Headers.{flags_of, header_bytes}
use Rattle.fidl_wire.specs.Layout.{branch, members}
use Rattle.fidl_wire.specs.Names.{event_ordinal}
use Rattle.fidl_wire.specs.Spelling.{body_bytes}
use Rattle.fidl_wire.specs.declared.headers.Header.{Header}
use Rattle.std.specs.Int.{w32, cast_unsigned}
use Rattle.io_messages.specs.Asked.{Asked, method_of}
use Rattle.io_messages.specs.Asked as asks
use Rattle.io_messages.specs.Replies.{Answered, done, settled, unknown, event_layout}
use Rattle.io_messages.specs.Replies as answered
use Rattle.io_messages.specs.ReplyWriting.{branch_of_kind, event_bytes, reply_body, reply_bytes, reply_handles, reply_header}
use Rattle.io_messages.specs.Requests.{has_txid}
use Rattle.io_messages.specs.Shapes.{is_one_way}
use Rattle.io_messages.specs.Writing.{plain_header}
use Rattle.io_messages.specs.declared.protocols.Protocol.{Protocol}
use Rattle.io_messages.specs.declared.protocols.Protocol.TheVariants as protocol
use Rattle.io_messages.specs.declared.requests.RequestFault.{RequestFault}
use Rattle.io_messages.specs.declared.requests.RequestFault.TheVariants.{Malformed, UnknownStrict, UnknownOneWay, UnknownTwoWay}
use Rattle.node_graph.specs.Tree.{Tree}
use Rattle.conn_rules.specs.Answers.{Answer, replies, closes, binds, watches, forwards, refuses, ends, hangs_up, silent}
use Rattle.conn_rules.specs.declared.births.Room.{Room}
use Rattle.vfs_journal.specs.Entries.{Sending, message, hang_up}
use Rattle.vfs_journal.specs.History.{is_watcher}
use Rattle.vfs_journal.specs.Outcomes.{Asker, announcement, close_frame, ending, frames_of, reply_frame}
use Rattle.vfs_journal.specs.Serving.{Moment, Read, asker_of, context_at, fault_answer, fault_txid, object_of, outcome_of_message, outcome_of_read, outcome_of_sending, read_by, request_act}
use Rattle.journal_laws.proofs.Acts.{IsAnswer, IsClone, IsClose, IsOpenAnswer, IsReply, IsToken, IsWatch, act_answers}
use Rattle.session_laws.proofs.Forms.{HasId, read_has}
use Rattle.session_laws.specs.Pipelined.{is_reply_on, txid_in, txid_of}

-- ---- the transaction id of what is written

-- a transaction id has 32 bits
abbrev pub IsShort : ℕ → Type 0
IsShort txid = txid < 2 ^ 32

front_id : (x : ℕ) (rest : List ℕ) → IsShort x → txid_in (number_bytes 4 x ++ rest) ≡ x
unfolding number_at number_bytes
front_id x rest h = little_number-reads_back 4 x rest h

pub header_id : (h : Header) (rest : List ℕ) → IsShort h.txid → txid_in (header_bytes h ++ rest) ≡ h.txid
header_id h rest short =
    let id = number_bytes 4 h.txid in
    let four : List ℕ = 0x02 ∷ 0 ∷ flags_of h.flexible ∷ 1 ∷ [] in
    let ordinal = number_bytes 8 h.ordinal in
    ap txid_in (append_assoc (id ++ four) ordinal rest ∙ append_assoc id four (ordinal ++ rest)) ∙ front_id h.txid (four ++ (ordinal ++ rest)) short

epitaph_id : (status : Status) → txid_in (epitaph_bytes (number_of status)) ≡ 0
epitaph_id status =
    ap txid_in (append_assoc (header_bytes epitaph_header) (number_bytes 4 (cast_unsigned w32 (number_of status))) (number_bytes 4 0))
    ∙ header_id epitaph_header (number_bytes 4 (cast_unsigned w32 (number_of status)) ++ number_bytes 4 0) (lit< tt)

event_id : (protocol : Protocol) → txid_in (event_bytes protocol) ≡ 0
event_id protocol = header_id (plain_header 0 event_ordinal) (body_bytes event_layout (branch (branch_of_kind protocol) (members [] ∷ []))) (lit< tt)

replied_id : (txid : ℕ) (a : Answered) → (reply_header txid a).txid ≡ txid
replied_id txid (answered.done m) = refl
replied_id txid (answered.fails m s) = refl
replied_id txid (answered.counted m x) = refl
replied_id txid (answered.payload m bytes) = refl
replied_id txid (answered.settled m) = refl
replied_id txid (answered.token n) = refl
replied_id txid (answered.attributes a) = refl
replied_id txid (answered.unknown ordinal) = refl

reply_id : (txid : ℕ) (a : Answered) → IsShort txid → txid_in (reply_bytes txid a) ≡ txid
reply_id txid a short =
    header_id (reply_header txid a) (reply_body a) (subst IsShort (sym (replied_id txid a)) short) ∙ replied_id txid a

-- ---- which frames are replies

and_no : (b : Bool) → (b && false) ≡ false
and_no true = refl
and_no false = refl

-- a message without a transaction id is none
no_reply : (e own : ℕ) (handles bytes : List ℕ) → txid_in bytes ≡ 0 → is_reply_on e (frame_with own kind.Message handles bytes) ≡ false
no_reply e own handles bytes z = ap (λ (id : ℕ). (own == e) && not (id == 0)) z ∙ and_no (own == e)

-- nor is a message on another endpoint
pub other_reply : (e own : ℕ) (handles bytes : List ℕ) → (own == e) ≡ false → is_reply_on e (frame_with own kind.Message handles bytes) ≡ false
other_reply e own handles bytes other = ap (λ (same : Bool). same && not (txid_in bytes == 0)) other

one_reply : (own : ℕ) (handles bytes : List ℕ) → (txid_in bytes == 0) ≡ false → is_reply_on own (frame_with own kind.Message handles bytes) ≡ true
one_reply own handles bytes id =
    ap (λ (same : Bool). same && not (txid_in bytes == 0)) (eq-eqb own own refl) ∙ ap (λ (zero : Bool). not zero) id

-- there is one reply on an endpoint, with this transaction id
abbrev pub IsReplied : ℕ → ℕ → List Frame → Type 0
IsReplied own txid frames = (reply : Frame) × (filter (is_reply_on own) frames ≡ reply ∷ []) × (txid_in reply.bytes ≡ txid)

-- what an answer's frames are to an endpoint with this transaction id: there is no reply on another endpoint; with an id there is one on
-- this, unless it ends with a status; and none without
pub record AreFramed (own txid : ℕ) (frames : List Frame) : Type 0 where
  pub others : (e : ℕ) → (own == e) ≡ false → filter (is_reply_on e) frames ≡ []
  pub one_way : (txid == 0) ≡ true → filter (is_reply_on own) frames ≡ []
  pub two_way : (txid == 0) ≡ false →
      ((status : Status) × (frames ≡ ending own status)) ⊎ IsReplied own txid frames

-- no reply at all, where none is asked for
unasked : (own txid : ℕ) (frames : List Frame) → (txid == 0) ≡ true → ((e : ℕ) → filter (is_reply_on e) frames ≡ []) → AreFramed own txid frames
unasked own txid frames zero none = record { others = λ e other. none e; one_way = λ z. none own; two_way = λ z. absurd (cc) }

-- frames of which the first alone may be a reply
first_kept : (p : Frame → Bool) (frame : Frame) (b : Bool) → p frame ≡ b → cond (p frame) (frame ∷ []) [] ≡ cond b (frame ∷ []) []
first_kept p frame b e = ap (λ (c : Bool). cond c (frame ∷ []) []) e

ended_none : (e own : ℕ) (status : Status) → filter (is_reply_on e) (ending own status) ≡ []
ended_none e own status =
    first_kept (is_reply_on e) (frame_with own kind.Message [] (epitaph_bytes (number_of status))) false
    (no_reply e own [] (epitaph_bytes (number_of status)) (epitaph_id status))

ended : (own txid : ℕ) (status : Status) → AreFramed own txid (ending own status)
ended own txid status = record {
  others = λ e other. ended_none e own status;
  one_way = λ z. ended_none own own status;
  two_way = λ z. inl (status, refl);
}

announced_none : (e object : ℕ) (p : Protocol) (b : Bool) → filter (is_reply_on e) (announcement object p b) ≡ []
announced_none e object p false = refl
announced_none e object p true =
    first_kept (is_reply_on e) (frame_with object kind.Message [] (event_bytes p)) false (no_reply e object [] (event_bytes p) (event_id p))

-- of these frames the reply alone is one
abbrev OnlyReplies : Asker → Answered → List Frame → Type 0
OnlyReplies asker a frames = (e : ℕ) → filter (is_reply_on e) frames ≡ cond (is_reply_on e (reply_frame asker a)) (reply_frame asker a ∷ []) []

only_replied : (asker : Asker) (a : Answered) (frames : List Frame) → OnlyReplies asker a frames → IsShort asker.txid → (asker.txid == 0) ≡ false → IsReplied asker.endpoint asker.txid frames
only_replied asker a frames are short id =
    let handles = map number_of_handle (reply_handles a) in
    let bytes = reply_bytes asker.txid a in
    let same : txid_in bytes ≡ asker.txid = reply_id asker.txid a short in (
      reply_frame asker a,
      are asker.endpoint ∙ first_kept (is_reply_on asker.endpoint) (reply_frame asker a) true (one_reply asker.endpoint handles bytes (ap (λ (n : ℕ). n == 0) same ∙ id)),
      same,
    )

-- a reply, and what is none behind it
replied_with : (asker : Asker) (a : Answered) (frames : List Frame) → OnlyReplies asker a frames → IsShort asker.txid → (asker.txid == 0) ≡ false → AreFramed asker.endpoint asker.txid frames
replied_with asker a frames are short id = record {
  others = λ e other.
      are e ∙ first_kept (is_reply_on e) (reply_frame asker a) false (other_reply e asker.endpoint (map number_of_handle (reply_handles a)) (reply_bytes asker.txid a) other);
  one_way = λ z. absurd (cc);
  two_way = λ z. inr (only_replied asker a frames are short id);
}

replied : (asker : Asker) (a : Answered) → IsShort asker.txid → (asker.txid == 0) ≡ false → AreFramed asker.endpoint asker.txid (frames_of asker (replies a))
replied asker a short id = replied_with asker a (reply_frame asker a ∷ []) (λ e. refl) short id

closed : (asker : Asker) → IsShort asker.txid → (asker.txid == 0) ≡ false → AreFramed asker.endpoint asker.txid (frames_of asker closes)
closed asker short id = replied_with asker (done method.Close) (reply_frame asker (done method.Close) ∷ close_frame asker.endpoint ∷ []) (λ e. refl) short id

-- ---- what requests are answered

-- the answer of a method that has a reply, and of one that has none
abbrev IsTwoWay : Answer → Type 0
IsTwoWay (replies a) = Unit {0}
IsTwoWay closes = Unit {0}
IsTwoWay (watches mask) = Unit {0}
IsTwoWay _ = ⊥

abbrev IsOneWay : Answer → Type 0
IsOneWay (binds birth announced) = Unit {0}
IsOneWay (refuses status) = Unit {0}
IsOneWay (forwards mount flags rest) = Unit {0}
IsOneWay _ = ⊥

two_way_framed : (asker : Asker) (answer : Answer) → IsTwoWay answer → IsShort asker.txid → (asker.txid == 0) ≡ false → AreFramed asker.endpoint asker.txid (frames_of asker answer)
two_way_framed asker (replies a) is short id = replied asker a short id
two_way_framed asker closes is short id = closed asker short id
two_way_framed asker (watches mask) is short id = replied asker (settled method.Watch) short id
two_way_framed asker (binds birth announced) is short id = absurd is
two_way_framed asker (forwards mount flags rest) is short id = absurd is
two_way_framed asker (refuses status) is short id = absurd is
two_way_framed asker (ends status) is short id = absurd is
two_way_framed asker hangs_up is short id = absurd is
two_way_framed asker silent is short id = absurd is

-- such an answer is a reply, whatever it says
two_way_replied : (asker : Asker) (answer : Answer) → IsTwoWay answer → IsShort asker.txid → (asker.txid == 0) ≡ false → IsReplied asker.endpoint asker.txid (frames_of asker answer)
two_way_replied asker (replies a) is short id = only_replied asker a (reply_frame asker a ∷ []) (λ e. refl) short id
two_way_replied asker closes is short id = only_replied asker (done method.Close) (reply_frame asker (done method.Close) ∷ close_frame asker.endpoint ∷ []) (λ e. refl) short id
two_way_replied asker (watches mask) is short id = only_replied asker (settled method.Watch) (reply_frame asker (settled method.Watch) ∷ []) (λ e. refl) short id
two_way_replied asker (binds birth announced) is short id = absurd is
two_way_replied asker (forwards mount flags rest) is short id = absurd is
two_way_replied asker (refuses status) is short id = absurd is
two_way_replied asker (ends status) is short id = absurd is
two_way_replied asker hangs_up is short id = absurd is
two_way_replied asker silent is short id = absurd is

one_way_framed : (asker : Asker) (answer : Answer) → IsOneWay answer → (asker.txid == 0) ≡ true → AreFramed asker.endpoint asker.txid (frames_of asker answer)
one_way_framed asker (binds birth announced) is zero = unasked asker.endpoint asker.txid _ zero (λ e. announced_none e asker.object birth.protocol announced)
one_way_framed asker (refuses status) is zero = unasked asker.endpoint asker.txid _ zero (λ e. ended_none e asker.object status)
one_way_framed asker (forwards mount flags rest) is zero = unasked asker.endpoint asker.txid [] zero (λ e. refl)
one_way_framed asker (replies a) is zero = absurd is
one_way_framed asker closes is zero = absurd is
one_way_framed asker (watches mask) is zero = absurd is
one_way_framed asker (ends status) is zero = absurd is
one_way_framed asker hangs_up is zero = absurd is
one_way_framed asker silent is zero = absurd is

reply_two_way : (answer : Answer) → IsReply answer → IsTwoWay answer
reply_two_way (replies a) is = tt
reply_two_way closes is = absurd is
reply_two_way (watches mask) is = absurd is
reply_two_way (binds birth announced) is = absurd is
reply_two_way (forwards mount flags rest) is = absurd is
reply_two_way (refuses status) is = absurd is
reply_two_way (ends status) is = absurd is
reply_two_way hangs_up is = absurd is
reply_two_way silent is = absurd is

watch_two_way : (answer : Answer) → IsWatch answer → IsTwoWay answer
watch_two_way (replies a) is = tt
watch_two_way (watches mask) is = tt
watch_two_way closes is = absurd is
watch_two_way (binds birth announced) is = absurd is
watch_two_way (forwards mount flags rest) is = absurd is
watch_two_way (refuses status) is = absurd is
watch_two_way (ends status) is = absurd is
watch_two_way hangs_up is = absurd is
watch_two_way silent is = absurd is

close_two_way : (answer : Answer) → IsClose answer → IsTwoWay answer
close_two_way (replies a) is = tt
close_two_way closes is = tt
close_two_way (watches mask) is = absurd is
close_two_way (binds birth announced) is = absurd is
close_two_way (forwards mount flags rest) is = absurd is
close_two_way (refuses status) is = absurd is
close_two_way (ends status) is = absurd is
close_two_way hangs_up is = absurd is
close_two_way silent is = absurd is

token_two_way : (next : Option ℕ) (answer : Answer) → IsToken next answer → IsTwoWay answer
token_two_way next (replies a) is = tt
token_two_way next closes is = absurd is
token_two_way next (watches mask) is = absurd is
token_two_way next (binds birth announced) is = absurd is
token_two_way next (forwards mount flags rest) is = absurd is
token_two_way next (refuses status) is = absurd is
token_two_way next (ends status) is = absurd is
token_two_way next hangs_up is = absurd is
token_two_way next silent is = absurd is

clone_one_way : (answer : Answer) → IsClone answer → IsOneWay answer
clone_one_way (binds birth announced) is = tt
clone_one_way (refuses status) is = tt
clone_one_way (replies a) is = absurd is
clone_one_way closes is = absurd is
clone_one_way (watches mask) is = absurd is
clone_one_way (forwards mount flags rest) is = absurd is
clone_one_way (ends status) is = absurd is
clone_one_way hangs_up is = absurd is
clone_one_way silent is = absurd is

open_one_way : (tree : Tree) (path : List ℕ) (word : ℕ) (answer : Answer) → IsOpenAnswer tree path word answer → IsOneWay answer
open_one_way tree path word (binds birth announced) is = tt
open_one_way tree path word (refuses status) is = tt
open_one_way tree path word (forwards mount flags rest) is = tt
open_one_way tree path word (replies a) is = absurd is
open_one_way tree path word closes is = absurd is
open_one_way tree path word (watches mask) is = absurd is
open_one_way tree path word (ends status) is = absurd is
open_one_way tree path word hangs_up is = absurd is
open_one_way tree path word silent is = absurd is

-- a request is answered in the way of its method
abbrev IsInWay : Bool → Answer → Type 0
IsInWay true answer = IsOneWay answer
IsInWay false answer = IsTwoWay answer

in_way : (room : Room) (tree : Tree) (request : Asked) (answer : Answer) → IsAnswer room tree request answer → IsInWay (is_one_way (method_of request)) answer
in_way room tree (asks.clone endpoint) answer is = clone_one_way answer is
in_way room tree asks.close answer is = close_two_way answer is
in_way room tree (asks.open_path path flags given object) answer is = open_one_way tree path flags answer is
in_way room tree asks.get_token answer is = token_two_way room.token answer is
in_way room tree (asks.watch mask options watcher) answer is = watch_two_way answer is
in_way room tree _ answer is = reply_two_way answer is

not_zero : (zero : Bool) → not zero ≡ true → zero ≡ false
not_zero true e = absurd (cc)
not_zero false e = refl

way_framed : (asker : Asker) (answer : Answer) (one_way : Bool) → IsInWay one_way answer → has_txid one_way asker.txid ≡ true → IsShort asker.txid → AreFramed asker.endpoint asker.txid (frames_of asker answer)
way_framed asker answer true is id short = one_way_framed asker answer is id
way_framed asker answer false is id short = two_way_framed asker answer is short (not_zero (asker.txid == 0) id)

-- ---- what sendings are answered

fault_framed : (moment : Moment) (id : ℕ) (fault : RequestFault) → IsShort id → HasId id (Err fault) →
    AreFramed moment.bound.endpoint id (frames_of (asker_of moment.bound (fault_txid fault) 0) (fault_answer fault))
fault_framed moment id (Malformed fault) short has = ended moment.bound.endpoint id status.InvalidArgs
fault_framed moment id UnknownStrict short has = ended moment.bound.endpoint id status.NotSupported
fault_framed moment id UnknownOneWay short has = unasked moment.bound.endpoint id [] has (λ e. refl)
fault_framed moment id (UnknownTwoWay txid ordinal) short has =
    subst (λ (n : ℕ). AreFramed moment.bound.endpoint n (frames_of (asker_of moment.bound txid 0) (replies (unknown ordinal)))) has.0
    (replied (asker_of moment.bound txid 0) (unknown ordinal) (subst IsShort (sym has.0) short) (ap (λ (n : ℕ). n == 0) has.0 ∙ has.1))

read_framed : (moment : Moment) (id : ℕ) (read : Read) → IsShort id → HasId id read → AreFramed moment.bound.endpoint id (outcome_of_read moment read).frames
read_framed moment id (Err fault) short has = fault_framed moment id fault short has
read_framed moment id (Ok found) short has =
    let asker = asker_of moment.bound found.0 (object_of found.1) in
    let answer = (request_act moment found.1).answer in
    subst (λ (n : ℕ). AreFramed moment.bound.endpoint n (frames_of asker answer)) has.0
    (way_framed asker answer (is_one_way (method_of found.1)) (in_way moment.room moment.tree found.1 answer (act_answers (context_at moment) found.1).0)
    (ap (has_txid (is_one_way (method_of found.1))) has.0 ∙ has.1) (subst IsShort (sym has.0) short))

-- what is read so has a reply: a request whose method has one, or an unknown method that asks for one
abbrev pub HasReply : Read → Type 0
HasReply (Ok found) = is_one_way (method_of found.1) ≡ false
HasReply (Err (UnknownTwoWay txid ordinal)) = Unit {0}
HasReply (Err (Malformed fault)) = ⊥
HasReply (Err UnknownStrict) = ⊥
HasReply (Err UnknownOneWay) = ⊥

way_replied : (asker : Asker) (answer : Answer) (one_way : Bool) → one_way ≡ false → IsInWay one_way answer → has_txid one_way asker.txid ≡ true → IsShort asker.txid → IsReplied asker.endpoint asker.txid (frames_of asker answer)
way_replied asker answer true two is id short = absurd (cc)
way_replied asker answer false two is id short = two_way_replied asker answer is short (not_zero (asker.txid == 0) id)

read_replied : (moment : Moment) (id : ℕ) (read : Read) → IsShort id → HasId id read → HasReply read → IsReplied moment.bound.endpoint id (outcome_of_read moment read).frames
read_replied moment id (Ok found) short has two =
    let asker = asker_of moment.bound found.0 (object_of found.1) in
    let answer = (request_act moment found.1).answer in
    subst (λ (n : ℕ). IsReplied moment.bound.endpoint n (frames_of asker answer)) has.0
    (way_replied asker answer (is_one_way (method_of found.1)) two (in_way moment.room moment.tree found.1 answer (act_answers (context_at moment) found.1).0)
    (ap (has_txid (is_one_way (method_of found.1))) has.0 ∙ has.1) (subst IsShort (sym has.0) short))
read_replied moment id (Err (UnknownTwoWay txid ordinal)) short has two =
    let asker = asker_of moment.bound txid 0 in
    subst (λ (n : ℕ). IsReplied moment.bound.endpoint n (frames_of asker (replies (unknown ordinal)))) has.0
    (two_way_replied asker (replies (unknown ordinal)) tt (subst IsShort (sym has.0) short) (ap (λ (n : ℕ). n == 0) has.0 ∙ has.1))
read_replied moment id (Err (Malformed fault)) short has two = absurd two
read_replied moment id (Err UnknownStrict) short has two = absurd two
read_replied moment id (Err UnknownOneWay) short has two = absurd two

-- a watcher's endpoint answers nothing, and each other one what is asked
pub record IsFramed (p : Protocol) (own : ℕ) (sending : Sending) (frames : List Frame) : Type 0 where
  pub watcher : is_watcher p ≡ true → frames ≡ []
  pub framed : is_watcher p ≡ false → AreFramed own (txid_of sending) frames
  pub replied : (bytes handles : List ℕ) → is_watcher p ≡ false → sending ≡ message bytes handles → HasReply (read_by p bytes handles) → IsReplied own (txid_of sending) frames

-- what a sending is read as; a hang-up as nothing that asks for a reply
abbrev read_as : Protocol → Sending → Read
read_as p (message bytes handles) = read_by p bytes handles
read_as p hang_up = Err UnknownOneWay

other_framed : (moment : Moment) (p : Protocol) (bytes handles : List ℕ) → is_watcher p ≡ false → IsShort (txid_in bytes) →
    IsFramed p moment.bound.endpoint (message bytes handles) (outcome_of_read moment (read_by p bytes handles)).frames
other_framed moment p bytes handles other short = record {
  watcher = λ w. absurd (cc);
  framed = λ n. read_framed moment (txid_in bytes) (read_by p bytes handles) short (read_has p bytes (map handle_with handles));
  replied = λ bs hs n e has.
      read_replied moment (txid_in bytes) (read_by p bytes handles) short (read_has p bytes (map handle_with handles)) (subst HasReply (ap (read_as p) (sym e)) has);
}

message_framed : (moment : Moment) (p : Protocol) (bytes handles : List ℕ) → IsShort (txid_in bytes) →
    IsFramed p moment.bound.endpoint (message bytes handles) (outcome_of_message moment p bytes handles).frames
message_framed moment protocol.Directory bytes handles short = other_framed moment protocol.Directory bytes handles refl short
message_framed moment protocol.File bytes handles short = other_framed moment protocol.File bytes handles refl short
message_framed moment protocol.Node bytes handles short = other_framed moment protocol.Node bytes handles refl short
message_framed moment protocol.Echo bytes handles short = other_framed moment protocol.Echo bytes handles refl short
message_framed moment protocol.Watcher bytes handles short = record { watcher = λ w. refl; framed = λ n. absurd (cc); replied = λ bs hs n e has. absurd (cc) }

pub sending_framed : (moment : Moment) (sending : Sending) → IsShort (txid_of sending) →
    IsFramed moment.bound.birth.protocol moment.bound.endpoint sending (outcome_of_sending moment sending).frames
unfolding outcome_of_sending
sending_framed moment (message bytes handles) short = message_framed moment moment.bound.birth.protocol bytes handles short
sending_framed moment hang_up short = record {
  watcher = λ w. refl;
  framed = λ n. unasked moment.bound.endpoint 0 [] refl (λ e. refl);
  replied = λ bs hs n e has. absurd (subst HasReply (ap (read_as moment.bound.birth.protocol) (sym e)) has);
}
