-- A frame that passes: what is told of it, and what waits then.
use Rattle.std.proofs.Common.{◌≡◌, Bool, true, false, refl, sym, ap, ◌∙◌}
use Rattle.std.specs.Prelude.{ℕ, ℤ, ◌||◌, map, Option, Some, None, Result, Ok}
use Rattle.std.specs.FinMap as finite
use Rattle.std.proofs.lemmas.Bool.{eq-eqb, ne_eqb}
use Rattle.fidl_names.specs.HandleNumber.{handle_with}
use Rattle.fidl_names.specs.declared.methods.Method.{Method}
use Rattle.fidl_wire.specs.declared.faults.WireFault.{WireFault}
use Rattle.fidl_wire.specs.declared.headers.Header.{Header}
use Rattle.fidl_wire.specs.Epitaphs.{IsEpitaph, is_epitaph}
use Rattle.fidl_wire.specs.declared.faults.WireWhat.TheVariants.{Ordinal}
use Rattle.fidl_wire.specs.Headers.{fault, header_of}
use Rattle.fidl_wire.specs.Names.{event_ordinal, method_ordinal}
use Rattle.link_frames.specs.declared.kinds.FrameKind.{FrameKind}
use Rattle.link_frames.specs.declared.kinds.FrameKind.TheVariants as kind
use Rattle.link_frames.specs.Frames.{Frame}
use Rattle.io_messages.specs.Replies.{Answered}
use Rattle.io_replies.specs.Reading.{reply_of}
use Rattle.io_client.specs.Calls.{Calls, answered_at, call_at, call_cmp, is_watched}
use Rattle.io_client.specs.Taking.{IsNoEpitaph, TakesMessage, Taking, answer_to, bad, by_call, by_header, calls_behind, calls_behind_message, reply}
use Rattle.io_client.proofs.Epitaphs.{epitaph_told, is_told, none_told, not_told}
use Rattle.io_client.proofs.Tables.{calls_total, calls_exact, remove-none}

-- no call waits there, or one waits no more
by_found : (calls : Calls) (f : Frame) (h : Header) (found : Option Method) → call_at calls f.endpoint h.txid ≡ found →
    answered_at calls f.endpoint h.txid ≡ (by_call calls f h found).1
by_found calls f h None none = λ i. record calls { waiting = remove-none calls_total calls_exact calls.waiting (f.endpoint, h.txid) none i }
by_found calls f h (Some m) there = refl

pub by_head : (calls : Calls) (f : Frame) (h : Header) (read : Result Header WireFault) → read ≡ Ok h → (h.ordinal ≡ event_ordinal → ⊥) →
    answered_at calls f.endpoint h.txid ≡ (by_header calls f read).1
by_head calls f h read is other = rw (is, ne_eqb h.ordinal event_ordinal other) (by_found calls f h (call_at calls f.endpoint h.txid) refl)

-- the reply to a call, which waits no more
pub by_reply : (calls : Calls) (f : Frame) (h : Header) (m : Method) (read : Result Header WireFault) (told : Taking) (waiting : finite.FinMap call_cmp Method) →
    read ≡ Ok h → (h.ordinal ≡ event_ordinal → ⊥) → call_at calls f.endpoint h.txid ≡ Some m → told ≡ answer_to h m (reply_of f.bytes (map handle_with f.handles)) →
    waiting ≡ finite.remove calls.waiting (f.endpoint, h.txid) → (told, record { waiting = waiting; watched = calls.watched }) ≡ by_header calls f read
by_reply calls f h m read told waiting is other there answers without = rw (is, ne_eqb h.ordinal event_ordinal other, there, answers, without) refl

-- where the reply has the ordinal of the call's method
pub reply_taken : (h : Header) (m : Method) (txid ordinal : ℕ) (a : Answered) (read : Result (ℕ × Answered) WireFault) → read ≡ Ok (txid, a) → h.ordinal ≡ ordinal → ordinal ≡ method_ordinal m →
    reply txid a ≡ answer_to h m read
reply_taken h m txid ordinal a read is same of = rw (is, eq-eqb h.ordinal (method_ordinal m) (same ∙ of)) refl

-- where it has another
pub reply_of_other : (h : Header) (m : Method) (txid ordinal : ℕ) (a : Answered) (read : Result (ℕ × Answered) WireFault) (e : WireFault) → read ≡ Ok (txid, a) → (h.ordinal ≡ ordinal → ⊥) →
    ordinal ≡ method_ordinal m → e ≡ fault 8 Ordinal → bad e ≡ answer_to h m read
reply_of_other h m txid ordinal a read e is other of flaw = rw (is, ne_eqb h.ordinal (method_ordinal m) (λ same. other (same ∙ sym of))) (ap bad flaw)

-- what waits behind a message
pub behind_watched : (calls : Calls) (f : Frame) → is_watched calls f.endpoint ≡ true → calls ≡ calls_behind_message calls f
behind_watched calls f there = rw there refl

or_true : (b : Bool) → b || true ≡ true
or_true true = refl
or_true false = refl

pub behind_epitaph : (calls : Calls) (f : Frame) (status : ℤ) → IsEpitaph f.bytes status → calls ≡ calls_behind_message calls f
behind_epitaph calls f status is = rw (is_told f.bytes status is, or_true (is_watched calls f.endpoint)) refl

pub behind_other : (calls new : Calls) (f : Frame) → is_watched calls f.endpoint ≡ false → IsNoEpitaph f.bytes →
    new ≡ (by_header calls f (header_of f.bytes)).1 → new ≡ calls_behind_message calls f
behind_other calls new f free none is = rw (free, none_told f.bytes none) is

-- what waits behind another frame
pub behind_quiet : (k : FrameKind) (calls : Calls) (f : Frame) → (k ≡ kind.Message → ⊥) → calls ≡ calls_behind k calls f
behind_quiet kind.Message calls f other = absurd (other refl)
behind_quiet kind.Close calls f other = refl
behind_quiet kind.Refused calls f other = refl
behind_quiet kind.Turn calls f other = refl
behind_quiet kind.Pick calls f other = refl

-- what is told of a message says what waits behind it
pub behind_taken : (calls new : Calls) (f : Frame) (told : Taking) → TakesMessage calls f told new → new ≡ calls_behind_message calls f
behind_taken calls new f told takes = by_watched (is_watched calls f.endpoint) refl where
  by_epitaph : (ends : Bool) → is_epitaph f.bytes ≡ ends → is_watched calls f.endpoint ≡ false → new ≡ calls_behind_message calls f
  by_epitaph true e free =
      let one = epitaph_told f.bytes e in
      (takes.ended free one.0 one.1).1 ∙ behind_epitaph calls f one.0 one.1
  by_epitaph false e free =
      let none : IsNoEpitaph f.bytes = not_told f.bytes e in
      behind_other calls new f free none (ap (λ (p : Taking × Calls). p.1) (takes.other free none))

  by_watched : (watched : Bool) → is_watched calls f.endpoint ≡ watched → new ≡ calls_behind_message calls f
  by_watched true there = (takes.watched there).1 ∙ behind_watched calls f there
  by_watched false free = by_epitaph (is_epitaph f.bytes) refl free
