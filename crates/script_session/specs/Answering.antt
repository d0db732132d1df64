-- What happens in a session that is played from a script, and which of the frames that come back
-- answer a call.
use Rattle.std.specs.Prelude.{ℕ, ◌+◌, ◌==◌, ◌&&◌, ◌||◌, not, Bool, true, false, if◌then◌else◌, List, [], ◌∷◌, Option, Some, None, Result, Ok, Err}
use Rattle.std.specs.Option.{option_map_or}
use Rattle.fidl_wire.specs.declared.faults.WireFault.{WireFault}
use Rattle.fidl_wire.specs.declared.headers.Header.{Header}
use Rattle.fidl_wire.specs.Epitaphs.{is_epitaph}
use Rattle.fidl_wire.specs.Headers.{header_of}
use Rattle.fidl_wire.specs.Names.{event_ordinal}
use Rattle.link_frames.specs.declared.kinds.FrameKind.{FrameKind}
use Rattle.link_frames.specs.declared.kinds.FrameKind.TheVariants as kind
use Rattle.link_frames.specs.Frames.{Frame}
use Rattle.vfs_script.specs.declared.calls.Call.{Call}

-- a frame of the script is sent, with the call that it makes, if any; or a frame comes back
pub data Happening : Type 0 where
  sends : (call : Option Call) → Happening
  gets : (frame : Frame) → Happening

-- what happened so far: the newest stands first
abbrev pub Past : Type 0
Past = List Happening

-- ---- the transaction id of a message

-- a message with a flaw in its header has none, and the event has none
abbrev pub headed_txid : Result Header WireFault → Option ℕ
headed_txid (Err flaw) = None
headed_txid (Ok header) = if header.ordinal == event_ordinal then None else Some header.txid

abbrev pub message_txid : List ℕ → Option ℕ
message_txid bytes = if is_epitaph bytes then None else headed_txid (header_of bytes)

abbrev pub kind_txid : FrameKind → List ℕ → Option ℕ
kind_txid kind.Message bytes = message_txid bytes
kind_txid _ bytes = None

-- the transaction id by which a frame may answer a call: that of a message which is neither an
-- epitaph nor the event
unfoldable pub txid_of : Frame → Option ℕ
txid_of frame = kind_txid frame.kind frame.bytes

-- the frame is such a message on this endpoint with this transaction id
abbrev pub is_reply_to : ℕ → ℕ → Frame → Bool
is_reply_to endpoint txid frame = (endpoint == frame.endpoint) && option_map_or (λ found. txid == found) (txid_of frame) false

-- ---- calls

abbrev pub is_call : ℕ → ℕ → Option Call → Bool
is_call endpoint txid None = false
is_call endpoint txid (Some call) = (endpoint == call.endpoint) && (txid == call.txid)

-- the call is a Watch that carries this endpoint
abbrev pub is_watch_of : ℕ → Option Call → Bool
is_watch_of endpoint None = false
is_watch_of endpoint (Some call) = option_map_or (λ watcher. endpoint == watcher) call.watcher false

-- a Watch carried this endpoint
abbrev pub was_watched : Past → ℕ → Bool
was_watched [] endpoint = false
was_watched (sends call ∷ past) endpoint = is_watch_of endpoint call || was_watched past endpoint
was_watched (gets frame ∷ past) endpoint = was_watched past endpoint

-- a call was made on this endpoint with this transaction id, and no message with both came back
-- since
abbrev pub is_open : Past → ℕ → ℕ → Bool
is_open [] endpoint txid = false
is_open (sends call ∷ past) endpoint txid = is_call endpoint txid call || is_open past endpoint txid
is_open (gets frame ∷ past) endpoint txid = not (is_reply_to endpoint txid frame) && is_open past endpoint txid

-- a frame answers a call where it is the first message behind that call with its endpoint and
-- transaction id, and no Watch carried the endpoint by then
abbrev pub is_answer : Past → Frame → Bool
is_answer past frame = not (was_watched past frame.endpoint) && option_map_or (is_open past frame.endpoint) (txid_of frame) false

-- ---- counts

abbrev pub one_if : Bool → ℕ
one_if true = 1
one_if false = 0

abbrev pub one_of : Option Call → ℕ
one_of None = 0
one_of (Some call) = 1

-- how many calls were made, and how many frames answered one
abbrev pub count_calls : Past → ℕ
count_calls [] = 0
count_calls (sends call ∷ past) = count_calls past + one_of call
count_calls (gets frame ∷ past) = count_calls past

abbrev pub count_answers : Past → ℕ
count_answers [] = 0
count_answers (sends call ∷ past) = count_answers past
count_answers (gets frame ∷ past) = count_answers past + one_if (is_answer past frame)
