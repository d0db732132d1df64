-- What a client waits for, and how its calls change that.
use Rattle.std.specs.Prelude.{◌≡◌, ℕ, Bool, nat_lt, is_some, if◌then◌else◌, [], ◌∷◌, map, length, Option, Some, None, Result, Err, IfErr}
use Rattle.std.specs.FinMap as finite
use Rattle.std.specs.FinSet as set
use Rattle.std.specs.declared.cmp.Ordering.{Ordering}
use Rattle.std.specs.Ordering.{nat_cmp, ordering_then}
use Rattle.fidl_names.specs.declared.limits.TheConstants as limit
use Rattle.fidl_names.specs.declared.methods.Method.{Method}
use Rattle.fidl_names.specs.First.{cause_if, first_of}
use Rattle.fidl_names.specs.HandleNumber.{number_of_handle}
use Rattle.link_frames.specs.declared.kinds.FrameKind.TheVariants as kind
use Rattle.link_frames.specs.Frames.{Frame, frame_with}
use Rattle.io_messages.specs.Asked.{Asked, method_of}
use Rattle.io_messages.specs.Asked as asks
use Rattle.io_messages.specs.Shapes.{is_one_way}
use Rattle.io_messages.specs.Writing.{request_bytes, request_handles}
use Rattle.io_client.specs.declared.faults.ClientFault.{ClientFault}
use Rattle.io_client.specs.declared.faults.ClientFault.TheVariants as fault

-- calls in the order of their endpoints, and then of their transaction ids
abbrev pub call_cmp : ℕ × ℕ → ℕ × ℕ → Ordering
call_cmp x y = ordering_then (nat_cmp x.0 y.0) (nat_cmp x.1 y.1)

-- the calls that wait for their reply, by endpoint and transaction id, and the endpoints that a Watch carried
pub record Calls : Type 0 where
  pub waiting : finite.FinMap call_cmp Method
  pub watched : set.FinSet nat_cmp

abbrev pub none_yet : Calls
none_yet = record { waiting = finite.empty; watched = set.empty }

-- the method of the call that waits there
abbrev pub call_at : Calls → ℕ → ℕ → Option Method
call_at calls endpoint txid = finite.get calls.waiting (endpoint, txid)

abbrev pub is_waiting : Calls → ℕ → ℕ → Bool
is_waiting calls endpoint txid = is_some (call_at calls endpoint txid)

-- the endpoint gets messages to a watcher
abbrev pub is_watched : Calls → ℕ → Bool
is_watched calls endpoint = set.contains calls.watched endpoint

-- this endpoint is watched from now on, and for good
abbrev pub with_watched : Calls → Option ℕ → Calls
with_watched calls None = calls
with_watched calls (Some watcher) = record calls { watched = set.insert calls.watched watcher }

-- a call waits, and the endpoint that a Watch carries is watched
abbrev pub noted : Calls → ℕ → ℕ → Method → Option ℕ → Calls
noted calls endpoint txid method watcher =
    with_watched (record calls { waiting = finite.insert calls.waiting (endpoint, txid) method }) watcher

-- the call that waits there is answered
abbrev pub answered_at : Calls → ℕ → ℕ → Calls
answered_at calls endpoint txid = record calls { waiting = finite.remove calls.waiting (endpoint, txid) }

-- the endpoint that a Watch carries
abbrev pub watcher_of : Asked → Option ℕ
watcher_of (asks.watch mask options watcher) = Some watcher
watcher_of _ = None

-- a request was sent: a two-way call waits
abbrev pub sent : Calls → ℕ → ℕ → Asked → Calls
sent calls endpoint txid a =
    if is_one_way (method_of a) then calls else noted calls endpoint txid (method_of a) (watcher_of a)

-- the frame of a request
abbrev pub request_frame : ℕ → ℕ → Asked → Frame
request_frame endpoint txid a = frame_with endpoint kind.Message (map number_of_handle (request_handles a)) (request_bytes txid a)

-- why a request isn't sent: its message would be too long, or a call waits there
abbrev pub send_refusal : Calls → ℕ → ℕ → Asked → Option ClientFault
send_refusal calls endpoint txid a =
    first_of
    (cause_if (nat_lt limit.MAX_BYTES (length (request_bytes txid a))) fault.TooLong
    ∷ cause_if (is_waiting calls endpoint txid) fault.Busy
    ∷ [])

-- why a call isn't noted
abbrev pub note_refusal : Calls → ℕ → ℕ → Option ClientFault
note_refusal calls endpoint txid = cause_if (is_waiting calls endpoint txid) fault.Busy

-- the answer is the refusal, and where there is none success, or want of memory
abbrev pub Answers : Result (Unit {0}) ClientFault → Option ClientFault → Type 0
Answers result None = IfErr result (λ e. e ≡ fault.NoMemory)
Answers result (Some e) = result ≡ Err e
