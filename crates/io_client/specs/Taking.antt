-- What a frame from the servers is to a client.
use Rattle.std.specs.Prelude.{◌≡◌, ℕ, ℤ, Bool, true, false, ◌==◌, ◌||◌, if◌then◌else◌, List, map, Option, Some, None, Result, Ok, Err}
use Rattle.std.specs.Int.{w32, cast_signed}
use Rattle.fidl_names.specs.declared.methods.Method.{Method}
use Rattle.fidl_names.specs.HandleNumber.{handle_with}
use Rattle.fidl_names.specs.Numbers.{number_at}
use Rattle.fidl_wire.specs.declared.faults.WireFault.{WireFault}
use Rattle.fidl_wire.specs.declared.faults.WireWhat.TheVariants.{Ordinal}
use Rattle.fidl_wire.specs.declared.headers.Header.{Header}
use Rattle.fidl_wire.specs.Headers.{header_of, fault}
use Rattle.fidl_wire.specs.Names.{method_ordinal, event_ordinal}
use Rattle.fidl_wire.specs.Epitaphs.{IsEpitaph, is_epitaph}
use Rattle.link_frames.specs.declared.kinds.FrameKind.{FrameKind}
use Rattle.link_frames.specs.declared.kinds.FrameKind.TheVariants as kind
use Rattle.link_frames.specs.Frames.{Frame}
use Rattle.io_messages.specs.declared.protocols.Protocol.{Protocol}
use Rattle.io_messages.specs.Replies.{Answered, answered}
use Rattle.io_replies.specs.Reading.{IsPayloadOf, reply_of, event_of}
use Rattle.watch_events.specs.Events.{left}
use Rattle.io_client.specs.declared.taking.Taken.{Taken}
use Rattle.io_client.specs.declared.taking.Taken.TheVariants as code
use Rattle.io_client.specs.Calls.{Calls, call_at, is_watched, answered_at}

-- a frame, without where its parts lie in memory
pub data Taking : Type 0 where
  reply : (txid : ℕ) (a : Answered) → Taking
  event : (kind : Protocol) → Taking
  watch : (bytes : List ℕ) → Taking
  epitaph : (status : ℤ) → Taking
  closed : Taking
  refused : (status : ℤ) → Taking
  unmatched : (endpoint txid : ℕ) → Taking
  bad : (e : WireFault) → Taking

-- what an answer of the code says
abbrev pub taking : Taken → Taking
taking (code.Reply txid r) = reply txid (answered r)
taking (code.Event kind) = event kind
taking (code.Watch events) = watch (left events)
taking (code.Epitaph status) = epitaph status
taking code.Closed = closed
taking (code.Refused status) = refused status
taking (code.Unmatched endpoint txid) = unmatched endpoint txid
taking (code.Bad e) = bad e

-- what a call's message is: its reply, where that has the ordinal of the call's method
abbrev pub answer_to : Header → Method → Result (ℕ × Answered) WireFault → Taking
answer_to h m (Err e) = bad e
answer_to h m (Ok r) = if h.ordinal == method_ordinal m then reply r.0 r.1 else bad (fault 8 Ordinal)

-- a message by its header, and what waits then: it answers the call with its endpoint and transaction id, if one waits
abbrev pub by_call : Calls → Frame → Header → Option Method → Taking × Calls
by_call calls f h None = (unmatched f.endpoint h.txid, calls)
by_call calls f h (Some m) =
    (answer_to h m (reply_of f.bytes (map handle_with f.handles)), answered_at calls f.endpoint h.txid)

abbrev pub told_event : Result Protocol WireFault → Taking
told_event (Err e) = bad e
told_event (Ok kind) = event kind

-- the event has an ordinal of its own, and any other message may answer a call
abbrev pub by_header : Calls → Frame → Result Header WireFault → Taking × Calls
by_header calls f (Err e) = (bad e, calls)
by_header calls f (Ok h) =
    if h.ordinal == event_ordinal then (told_event (event_of f.bytes), calls)
    else by_call calls f h (call_at calls f.endpoint h.txid)

-- the bytes are no epitaph
abbrev pub IsNoEpitaph : List ℕ → Type 0
IsNoEpitaph bytes = (status : ℤ) → IsEpitaph bytes status → ⊥

-- this is what a message is, and what waits then: one to a watcher first, then an epitaph, then by its header
pub record TakesMessage (old : Calls) (f : Frame) (t : Taking) (new : Calls) : Type 0 where
  pub watched : is_watched old f.endpoint ≡ true → (t ≡ watch f.bytes) × (new ≡ old)
  pub ended : is_watched old f.endpoint ≡ false → (status : ℤ) → IsEpitaph f.bytes status → (t ≡ epitaph status) × (new ≡ old)
  pub other : is_watched old f.endpoint ≡ false → IsNoEpitaph f.bytes → (t, new) ≡ by_header old f (header_of f.bytes)

-- this is what a frame from the servers is, and what waits then
abbrev pub Takes : FrameKind → Calls → Frame → Taking → Calls → Type 0
Takes kind.Message old f t new = TakesMessage old f t new
Takes kind.Close old f t new = (t ≡ closed) × (new ≡ old)
Takes kind.Refused old f t new = (t ≡ refused (cast_signed w32 (number_at 4 0 f.bytes))) × (new ≡ old)
Takes kind.Turn old f t new = ⊥
Takes kind.Pick old f t new = ⊥

-- what waits behind a message: all that did behind one to a watcher and behind an epitaph, else what its header leaves
abbrev pub calls_behind_message : Calls → Frame → Calls
calls_behind_message calls f =
    if is_watched calls f.endpoint || is_epitaph f.bytes then calls else (by_header calls f (header_of f.bytes)).1

-- what waits behind a frame from the servers: behind any but a message all that did
abbrev pub calls_behind : FrameKind → Calls → Frame → Calls
calls_behind kind.Message calls f = calls_behind_message calls f
calls_behind _ calls f = calls

-- a frame that servers send
abbrev pub is_from_servers : FrameKind → Bool
is_from_servers kind.Message = true
is_from_servers kind.Close = true
is_from_servers kind.Refused = true
is_from_servers kind.Turn = false
is_from_servers kind.Pick = false

-- the payload of a reply is lent from its place in the message
abbrev pub LendsPayload : List ℕ → Taken → Type 0
LendsPayload bytes (code.Reply txid r) = IsPayloadOf bytes (answered r)
LendsPayload bytes _ = Unit {0}
