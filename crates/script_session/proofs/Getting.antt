-- A frame comes back: what is known of calls behind it.
use Rattle.std.proofs.Common.{◌≡◌, ℕ, ◌<◌, ◌≤◌, ◌+◌, ◌-◌, Bool, true, false, not, cond, List, [], ◌∷◌, Option, Some, None, Result, Ok, Err, refl, sym, ap, ◌∙◌, subst, arith, add-zero}
use Rattle.std.specs.Prelude.{◌&&◌, ◌||◌, ◌==◌, ℤ, All, is_some, map}
use Rattle.std.specs.FinMap as finite
use Rattle.std.specs.Option.{option_map_or}
use Rattle.std.proofs.lemmas.Bool.{eqb-true, eq-eqb}
use Rattle.fidl_names.specs.declared.methods.Method.{Method}
use Rattle.fidl_wire.specs.declared.faults.WireFault.{WireFault}
use Rattle.fidl_wire.specs.declared.headers.Header.{Header}
use Rattle.fidl_wire.specs.Epitaphs.{is_epitaph}
use Rattle.fidl_wire.specs.Headers.{header_of}
use Rattle.fidl_wire.specs.Names.{event_ordinal}
use Rattle.link_frames.specs.declared.kinds.FrameKind.{FrameKind}
use Rattle.link_frames.specs.declared.kinds.FrameKind.TheVariants as kind
use Rattle.link_frames.specs.Frames.{Frame}
use Rattle.io_client.specs.Calls.{Calls, answered_at, call_at, is_waiting, is_watched}
use Rattle.io_replies.specs.Reading.{event_of}
use Rattle.io_client.specs.Taking.{by_call, by_header, calls_behind, calls_behind_message, told_event}
use Rattle.script_session.specs.Answering.{Past, gets, count_answers, count_calls, headed_txid, is_answer, is_open, is_reply_to, kind_txid, message_txid, one_if, txid_of, was_watched}
use Rattle.script_session.specs.Telling.{IsWithin, Knows}
use Rattle.script_session.proofs.Keys.{one_less, some_wait, waits_less}

and_false : (a : Bool) → a && false ≡ false
and_false true = refl
and_false false = refl

and_left : (a b : Bool) → a && b ≡ true → a ≡ true
and_left true b h = refl
and_left false b h = h

and_right : (a b : Bool) → a && b ≡ true → b ≡ true
and_right true b h = h
and_right false b h = cc

-- ---- a frame that answers nothing

abbrev IsNoReply : Past → Frame → Type 0
IsNoReply past frame = (e x : ℕ) → was_watched past e ≡ false → is_open past e x ≡ true → is_reply_to e x frame ≡ false

stays_open : (reply opened : Bool) → (opened ≡ true → reply ≡ false) → opened ≡ not reply && opened
stays_open true true h = cc (h refl)
stays_open true false h = refl
stays_open false opened h = refl

-- what waits stays, where the frame is no reply to it and no answer
nothing_answered : (past : Past) (calls : Calls) (frame : Frame) → Knows past calls → IsNoReply past frame → is_answer past frame ≡ false → Knows (gets frame ∷ past) calls
nothing_answered past calls frame knows none quiet = record {
  watched = knows.watched;
  waits = λ e x h. knows.waits e x h ∙ stays_open (is_reply_to e x frame) (is_open past e x) (none e x h);
  count = ap (λ b. finite.len calls.waiting + (count_answers past + one_if b)) quiet ∙ ap (λ n. finite.len calls.waiting + n) (add-zero (count_answers past)) ∙ knows.count;
}

-- a frame without a transaction id
reply_without : (e x : ℕ) (frame : Frame) (found : Option ℕ) → found ≡ None → (e == frame.endpoint) && option_map_or (λ t. x == t) found false ≡ false
reply_without e x frame found h = ap (λ o. (e == frame.endpoint) && option_map_or (λ t. x == t) o false) h ∙ and_false (e == frame.endpoint)

answer_without : (past : Past) (frame : Frame) (found : Option ℕ) → found ≡ None → not (was_watched past frame.endpoint) && option_map_or (is_open past frame.endpoint) found false ≡ false
answer_without past frame found h =
    ap (λ o. not (was_watched past frame.endpoint) && option_map_or (is_open past frame.endpoint) o false) h ∙ and_false (not (was_watched past frame.endpoint))

pub without_known : (past : Past) (calls : Calls) (frame : Frame) → txid_of frame ≡ None → Knows past calls → Knows (gets frame ∷ past) calls
without_known past calls frame none knows =
    nothing_answered past calls frame knows (λ e x h opened. reply_without e x frame (txid_of frame) none) (answer_without past frame (txid_of frame) none)

-- a frame on an endpoint that a Watch carried
reply_elsewhere : (past : Past) (frame : Frame) (e : ℕ) (same : Bool) → (e == frame.endpoint) ≡ same → was_watched past frame.endpoint ≡ true → was_watched past e ≡ false → same ≡ false
reply_elsewhere past frame e true is watched h =
    let one : e ≡ frame.endpoint = eqb-true e frame.endpoint is in
    let wrong : true ≡ false = sym watched ∙ ap (was_watched past) (sym one) ∙ h in
    cc
reply_elsewhere past frame e false is watched h = refl

watched_known : (past : Past) (calls : Calls) (frame : Frame) → was_watched past frame.endpoint ≡ true → Knows past calls → Knows (gets frame ∷ past) calls
watched_known past calls frame watched knows =
    nothing_answered past calls frame knows
    (λ e x h opened. ap (λ b. b && option_map_or (λ t. x == t) (txid_of frame) false) (reply_elsewhere past frame e (e == frame.endpoint) refl watched h))
    (ap (λ b. not b && option_map_or (is_open past frame.endpoint) (txid_of frame) false) watched)

-- ---- a message with a transaction id, on another endpoint

one_answered : (waits later answers calls : ℕ) → later ≡ waits - 1 → (waits ≡ 0 → ⊥) → waits + answers ≡ calls → later + (answers + 1) ≡ calls
one_answered waits later answers calls less some before = omega (arith, less, some, before)

module _ (past : Past) (calls : Calls) (frame : Frame) (txid : ℕ) (knows : Knows past calls) (with_id : txid_of frame ≡ Some txid) (free : was_watched past frame.endpoint ≡ false) where
  reply_is : (e x : ℕ) → is_reply_to e x frame ≡ (e == frame.endpoint) && (x == txid)
  reply_is e x = ap (λ o. (e == frame.endpoint) && option_map_or (λ t. x == t) o false) with_id

  answer_is : is_answer past frame ≡ is_open past frame.endpoint txid
  answer_is =
      ap (λ o. not (was_watched past frame.endpoint) && option_map_or (is_open past frame.endpoint) o false) with_id
      ∙ ap (λ b. not b && is_open past frame.endpoint txid) free

  waits_is : is_waiting calls frame.endpoint txid ≡ is_open past frame.endpoint txid
  waits_is = knows.waits frame.endpoint txid free

  -- no call waits for it
  other_key : (e x : ℕ) (same : Bool) → (e == frame.endpoint) && (x == txid) ≡ same → is_open past frame.endpoint txid ≡ false → is_open past e x ≡ true → same ≡ false
  other_key e x true is none opened =
      let one : e ≡ frame.endpoint = eqb-true e frame.endpoint (and_left (e == frame.endpoint) (x == txid) is) in
      let two : x ≡ txid = eqb-true x txid (and_right (e == frame.endpoint) (x == txid) is) in
      let wrong : true ≡ false = sym opened ∙ ap (λ k. is_open past k x) one ∙ ap (is_open past frame.endpoint) two ∙ none in
      cc
  other_key e x false is none opened = refl

  pub unmatched_known : call_at calls frame.endpoint txid ≡ None → Knows (gets frame ∷ past) calls
  unmatched_known none =
      let closed : is_open past frame.endpoint txid ≡ false = sym waits_is ∙ ap (λ (o : Option Method). is_some o) none in
      nothing_answered past calls frame knows
      (λ e x h opened. reply_is e x ∙ other_key e x ((e == frame.endpoint) && (x == txid)) refl closed opened)
      (answer_is ∙ closed)

  -- one does
  gone : (same waits : Bool) → cond same false waits ≡ not same && waits
  gone true waits = refl
  gone false waits = refl

  pub answered_known : (m : Method) → call_at calls frame.endpoint txid ≡ Some m → Knows (gets frame ∷ past) (answered_at calls frame.endpoint txid)
  answered_known m there =
      let opened : is_open past frame.endpoint txid ≡ true = sym waits_is ∙ ap (λ (o : Option Method). is_some o) there in
      let less = one_less calls.waiting frame.endpoint txid m there in
      let some = some_wait calls.waiting frame.endpoint txid m there in
      let before = knows.count in
      record {
        watched = knows.watched;
        waits = λ e x h.
            waits_less calls.waiting frame.endpoint txid e x ∙ gone ((e == frame.endpoint) && (x == txid)) (is_waiting calls e x)
            ∙ ap (λ b. not b && is_waiting calls e x) (sym (reply_is e x)) ∙ ap (λ b. not (is_reply_to e x frame) && b) (knows.waits e x h);
        count = ap (λ b. finite.len (finite.remove calls.waiting (frame.endpoint, txid)) + (count_answers past + one_if b)) (answer_is ∙ opened) ∙ one_answered (finite.len calls.waiting) (finite.len (finite.remove calls.waiting (frame.endpoint, txid))) (count_answers past) (count_calls past) less some before;
      }

-- ---- any message

id_is : (frame : Frame) → frame.kind ≡ kind.Message → txid_of frame ≡ message_txid frame.bytes
unfolding txid_of
id_is frame is = ap (λ k. kind_txid k frame.bytes) is

pub no_message_id : (frame : Frame) → (frame.kind ≡ kind.Message → ⊥) → txid_of frame ≡ None
unfolding txid_of
no_message_id frame other = by_kind frame.kind other where
  by_kind : (k : FrameKind) → (k ≡ kind.Message → ⊥) → kind_txid k frame.bytes ≡ None
  by_kind kind.Message h = absurd (h refl)
  by_kind kind.Close h = refl
  by_kind kind.Turn h = refl
  by_kind kind.Pick h = refl
  by_kind kind.Refused h = refl

module _ (past : Past) (old new : Calls) (frame : Frame) (is : frame.kind ≡ kind.Message) (knows : Knows past old) where
  as_before : new ≡ old → Knows (gets frame ∷ past) old → Knows (gets frame ∷ past) new
  as_before same known = subst (Knows (gets frame ∷ past)) (sym same) known

  by_waiting : (h : Header) (found : Option Method) → call_at old frame.endpoint h.txid ≡ found → txid_of frame ≡ Some h.txid → was_watched past frame.endpoint ≡ false →
      new ≡ (by_call old frame h found).1 → Knows (gets frame ∷ past) new
  by_waiting h None found with_id free e = as_before e (unmatched_known past old frame h.txid knows with_id free found)
  by_waiting h (Some m) found with_id free e = subst (Knows (gets frame ∷ past)) (sym e) (answered_known past old frame h.txid knows with_id free m found)

  by_ordinal : (h : Header) (event : Bool) → txid_of frame ≡ cond event None (Some h.txid) → was_watched past frame.endpoint ≡ false →
      new ≡ (cond event (told_event (event_of frame.bytes), old) (by_call old frame h (call_at old frame.endpoint h.txid))).1 → Knows (gets frame ∷ past) new
  by_ordinal h true with_id free e = as_before e (without_known past old frame with_id knows)
  by_ordinal h false with_id free e = by_waiting h (call_at old frame.endpoint h.txid) refl with_id free e

  by_head : (found : Result Header WireFault) → txid_of frame ≡ headed_txid found → was_watched past frame.endpoint ≡ false → new ≡ (by_header old frame found).1 →
      Knows (gets frame ∷ past) new
  by_head (Err flaw) with_id free e = as_before e (without_known past old frame with_id knows)
  by_head (Ok h) with_id free e = by_ordinal h (h.ordinal == event_ordinal) with_id free e

  by_epitaph : (epitaph : Bool) → is_epitaph frame.bytes ≡ epitaph → is_watched old frame.endpoint ≡ false →
      new ≡ cond epitaph old (by_header old frame (header_of frame.bytes)).1 → Knows (gets frame ∷ past) new
  by_epitaph true told free e =
      as_before e (without_known past old frame (id_is frame is ∙ ap (λ b. cond b None (headed_txid (header_of frame.bytes))) told) knows)
  by_epitaph false told free e =
      by_head (header_of frame.bytes) (id_is frame is ∙ ap (λ b. cond b None (headed_txid (header_of frame.bytes))) told) (sym (knows.watched frame.endpoint) ∙ free) e

  by_watched : (watched : Bool) → is_watched old frame.endpoint ≡ watched →
      new ≡ cond (watched || is_epitaph frame.bytes) old (by_header old frame (header_of frame.bytes)).1 → Knows (gets frame ∷ past) new
  by_watched true told e = as_before e (watched_known past old frame (sym (knows.watched frame.endpoint) ∙ told) knows)
  by_watched false told e = by_epitaph (is_epitaph frame.bytes) refl told e

  pub message_known : new ≡ calls_behind_message old frame → Knows (gets frame ∷ past) new
  message_known e = by_watched (is_watched old frame.endpoint) refl e

-- ---- which calls wait

still : (same waits : Bool) → cond same false waits ≡ true → waits ≡ true
still true waits h = cc
still false waits h = h

module _ (low most : ℕ) (old new : Calls) (frame : Frame) (within : IsWithin low most old) where
  same_within : new ≡ old → IsWithin low most new
  same_within same = subst (IsWithin low most) (sym same) within

  less_within : (txid : ℕ) (m : Method) → call_at old frame.endpoint txid ≡ Some m → IsWithin low most (answered_at old frame.endpoint txid)
  less_within txid m there =
      let less = one_less old.waiting frame.endpoint txid m there in
      let few = within.few in
      record {
        below = λ e x h. within.below e x (still ((e == frame.endpoint) && (x == txid)) (is_waiting old e x) (sym (waits_less old.waiting frame.endpoint txid e x) ∙ h));
        few = omega (arith, less, few);
      }

  within_waiting : (h : Header) (found : Option Method) → call_at old frame.endpoint h.txid ≡ found → new ≡ (by_call old frame h found).1 → IsWithin low most new
  within_waiting h None found e = same_within e
  within_waiting h (Some m) found e = subst (IsWithin low most) (sym e) (less_within h.txid m found)

  within_ordinal : (h : Header) (event : Bool) →
      new ≡ (cond event (told_event (event_of frame.bytes), old) (by_call old frame h (call_at old frame.endpoint h.txid))).1 → IsWithin low most new
  within_ordinal h true e = same_within e
  within_ordinal h false e = within_waiting h (call_at old frame.endpoint h.txid) refl e

  within_head : (found : Result Header WireFault) → new ≡ (by_header old frame found).1 → IsWithin low most new
  within_head (Err flaw) e = same_within e
  within_head (Ok h) e = within_ordinal h (h.ordinal == event_ordinal) e

  within_same : (same : Bool) → new ≡ cond same old (by_header old frame (header_of frame.bytes)).1 → IsWithin low most new
  within_same true e = same_within e
  within_same false e = within_head (header_of frame.bytes) e

  pub message_within : new ≡ calls_behind_message old frame → IsWithin low most new
  message_within e = within_same (is_watched old frame.endpoint || is_epitaph frame.bytes) e

-- what waits behind a message
pub kind_behind : (old new : Calls) (frame : Frame) (k : FrameKind) → k ≡ kind.Message → new ≡ calls_behind k old frame → new ≡ calls_behind_message old frame
kind_behind old new frame k is behind = subst (λ q. new ≡ calls_behind q old frame) is behind
