-- Requests that are sent, and calls that are noted.
use Rattle.std.proofs.Common.{◌≡◌, ℕ, Bool, false, cond, List, ◌++◌, map, Option, Some, None, Result, Err, refl, sym, ap, ◌∙◌}
use Rattle.std.specs.Prelude.{IfErr}
use Rattle.fidl_names.specs.HandleNumber.{number_of_handle}
use Rattle.fidl_names.specs.declared.methods.Handle.{Handle}
use Rattle.fidl_names.specs.declared.methods.Method.{Method}
use Rattle.link_frames.specs.Frames.{frame_with, spelling}
use Rattle.link_frames.specs.declared.kinds.FrameKind.TheVariants as kind
use Rattle.io_messages.specs.Asked.{Asked, method_of}
use Rattle.io_messages.specs.Shapes.{is_one_way}
use Rattle.io_messages.specs.Writing.{request_bytes, request_handles}
use Rattle.io_client.specs.Calls.{Answers, Calls, call_at, note_refusal, noted, request_frame, sent, watcher_of}
use Rattle.io_client.specs.declared.faults.ClientFault.{ClientFault}
use Rattle.io_client.specs.declared.faults.ClientFault.TheVariants as fault

-- a call with a reply
pub noted_sent : (old : Calls) (endpoint txid : ℕ) (a : Asked) (m : Method) (watcher : Option ℕ) → m ≡ method_of a → watcher ≡ watcher_of a → is_one_way m ≡ false →
    noted old endpoint txid m watcher ≡ sent old endpoint txid a
noted_sent old endpoint txid a m watcher is watches two_way =
    ap (λ (x : Method). noted old endpoint txid x watcher) is ∙ ap (noted old endpoint txid (method_of a)) watches
    ∙ ap (λ (b : Bool). cond b old (noted old endpoint txid (method_of a) (watcher_of a))) (sym two_way ∙ ap is_one_way is)

-- a call waits there, or none does
pub note_busy : (calls : Calls) (endpoint txid : ℕ) (m : Method) → call_at calls endpoint txid ≡ Some m → Answers (Err fault.Busy) (note_refusal calls endpoint txid)
note_busy calls endpoint txid m waits = rw waits refl

pub note_free : (calls : Calls) (endpoint txid : ℕ) (result : Result (Unit {0}) ClientFault) → call_at calls endpoint txid ≡ None → IfErr result (λ e. e ≡ fault.NoMemory) →
    Answers result (note_refusal calls endpoint txid)
note_free calls endpoint txid result none answer = rw none answer

-- the frame of a request
pub frame_written : (before after : List ℕ) (endpoint txid : ℕ) (a : Asked) (handles : List Handle) (bytes : List ℕ) →
    after ≡ before ++ spelling (frame_with endpoint kind.Message (map number_of_handle handles) bytes) → handles ≡ request_handles a → bytes ≡ request_bytes txid a →
    after ≡ before ++ spelling (request_frame endpoint txid a)
frame_written before after endpoint txid a handles bytes is by_handles by_bytes =
    is ∙ ap (λ (hs : List Handle). before ++ spelling (frame_with endpoint kind.Message (map number_of_handle hs) bytes)) by_handles
    ∙ ap (λ (bs : List ℕ). before ++ spelling (frame_with endpoint kind.Message (map number_of_handle (request_handles a)) bs)) by_bytes
