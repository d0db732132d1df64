-- What a serving writes, changes and tells.
use Rattle.std.proofs.Common.{◌≡◌, ℕ, List, [], ◌∷◌, map, Ok, Err, refl, All, lit<, arith}
use Rattle.std.proofs.lemmas.List.Elements.{All-nil, All-cons}
use Rattle.link_frames.specs.declared.kinds.Side.TheVariants.{Any}
use Rattle.link_frames.specs.Frames.{IsFrame}
use Rattle.fidl_names.specs.HandleNumber.{handle_with}
use Rattle.fidl_names.specs.declared.methods.Method.TheVariants as method
use Rattle.io_messages.specs.Asked.{Asked}
use Rattle.io_messages.specs.Asked as asks
use Rattle.io_messages.specs.Replies.{done, settled, unknown}
use Rattle.io_messages.specs.declared.protocols.Protocol.{Protocol}
use Rattle.io_messages.specs.declared.protocols.Protocol.TheVariants as protocol
use Rattle.io_messages.specs.declared.requests.RequestFault.{RequestFault}
use Rattle.io_messages.specs.declared.requests.RequestFault.TheVariants.{Malformed, UnknownStrict, UnknownOneWay, UnknownTwoWay}
use Rattle.request_reader.proofs.RequestLaws.{what_is_read}
use Rattle.conn_rules.specs.Answers.{Act, Answer, binds, closes, ends, forwards, hangs_up, only, refuses, replies, silent, watches}
use Rattle.vfs_journal.specs.Entries.{Sending, hang_up, message}
use Rattle.vfs_journal.specs.Outcomes.{Asker, Outcome, close_frame, frames_of, outcome_with, reply_frame}
use Rattle.vfs_journal.specs.Serving.{Moment, Read, asker_of, context_at, fault_answer, fault_txid, object_of, outcome_of_message, outcome_of_read, outcome_of_sending, read_by, request_act}
use Rattle.journal_laws.proofs.Below.{Below}
use Rattle.journal_laws.proofs.Requests.{Carries, carries}
use Rattle.frame_laws.proofs.Acts.{CanEcho, HasReplyFrame, IsReady, IsWritable, act_writable, answered_only}
use Rattle.frame_laws.proofs.Fields.{echoes, read_in_bytes}
use Rattle.frame_laws.proofs.Replies as frame
use Rattle.frame_laws.proofs.Replies.{FitsWord, IsMessage, announces, replies_within}
use Rattle.frame_laws.proofs.Trees.{BringsBytes}
use Rattle.frame_laws.proofs.Watching.{TellsName}

-- the frames of an answer are frames; its change brings bytes, and it tells names
pub record IsWritten (outcome : Outcome) : Type 0 where
  pub frames : All (IsFrame Any) outcome.frames
  pub change : BringsBytes outcome.change
  pub told : All TellsName outcome.told

-- ---- answers

frames_written : (asker : Asker) (answer : Answer) → FitsWord asker.endpoint → FitsWord asker.object → HasReplyFrame answer → All (IsFrame Any) (frames_of asker answer)
frames_written asker (replies a) own object h = All-cons (IsFrame Any) (reply_frame asker a) [] (h asker own) (All-nil (IsFrame Any))
frames_written asker closes own object h =
    All-cons (IsFrame Any) (reply_frame asker (done method.Close)) (close_frame asker.endpoint ∷ []) (replies_within (done method.Close) tt asker own)
    (All-cons (IsFrame Any) (close_frame asker.endpoint) [] (frame.closes asker.endpoint own) (All-nil (IsFrame Any)))
frames_written asker (binds birth announced) own object h = announces asker.object birth.protocol announced object
frames_written asker (watches mask) own object h = All-cons (IsFrame Any) (reply_frame asker (settled method.Watch)) [] (replies_within (settled method.Watch) tt asker own) (All-nil (IsFrame Any))
frames_written asker (forwards mount flags rest) own object h = All-nil (IsFrame Any)
frames_written asker (refuses status) own object h = frame.ends asker.object status object
frames_written asker (ends status) own object h = frame.ends asker.endpoint status own
frames_written asker hangs_up own object h = All-nil (IsFrame Any)
frames_written asker silent own object h = All-nil (IsFrame Any)

outcome_written : (asker : Asker) (act : Act) → FitsWord asker.endpoint → FitsWord asker.object → IsWritable act → IsWritten (outcome_with asker act)
outcome_written asker act own object h = record { frames = frames_written asker act.answer own object h.reply; change = h.change; told = h.told }

-- ---- messages

-- the endpoint that a request carries, 0 for none
object_fits : (a : Asked) (handles : List ℕ) → Carries a handles → FitsWord (object_of a)
object_fits (asks.clone endpoint) handles h = let low = h.low in omega (arith, low)
object_fits (asks.open_path path flags attributes object) handles h = let low = h.low in omega (arith, low)
object_fits (asks.watch mask options watcher) handles h = let low = h.low in omega (arith, low)
object_fits _ handles h = lit< tt

can_echo : Below → (p : Protocol) (bytes handles : List ℕ) (txid : ℕ) (a : Asked) → read_by p bytes handles ≡ Ok (txid, a) → IsMessage bytes → CanEcho a
can_echo below p bytes handles txid (asks.echo_string value) read h =
    echoes p bytes (map handle_with handles) txid value (what_is_read below.spelled p bytes (map handle_with handles) txid (asks.echo_string value) read) h
can_echo below p bytes handles txid _ read h = tt

fault_answered : (fault : RequestFault) → HasReplyFrame (fault_answer fault)
fault_answered (Malformed fault) = tt
fault_answered UnknownStrict = tt
fault_answered UnknownOneWay = tt
fault_answered (UnknownTwoWay txid ordinal) = replies_within (unknown ordinal) tt

module _ (below : Below) (moment : Moment) (own : FitsWord moment.bound.endpoint) (ready : IsReady (context_at moment)) where
  read_written : (p : Protocol) (bytes handles : List ℕ) → IsMessage bytes → (r : Read) → read_by p bytes handles ≡ r → IsWritten (outcome_of_read moment r)
  read_written p bytes handles h (Ok (txid, a)) read =
      outcome_written (asker_of moment.bound txid (object_of a)) (request_act moment a) own (object_fits a handles (carries below.spelled p bytes handles txid a read))
      (act_writable (context_at moment) ready a
      (read_in_bytes p bytes (map handle_with handles) txid a (what_is_read below.spelled p bytes (map handle_with handles) txid a read) h.bytes)
      (can_echo below p bytes handles txid a read h))
  read_written p bytes handles h (Err fault) read =
      outcome_written (asker_of moment.bound (fault_txid fault) 0) (only moment.position (fault_answer fault)) own (lit< tt)
      (answered_only moment.position (fault_answer fault) (fault_answered fault))

  message_written : (p : Protocol) (bytes handles : List ℕ) → IsMessage bytes → IsWritten (outcome_of_message moment p bytes handles)
  message_written protocol.Watcher bytes handles h = outcome_written (asker_of moment.bound 0 0) (only moment.position silent) own (lit< tt) (answered_only moment.position silent tt)
  message_written protocol.Directory bytes handles h = read_written protocol.Directory bytes handles h (read_by protocol.Directory bytes handles) refl
  message_written protocol.File bytes handles h = read_written protocol.File bytes handles h (read_by protocol.File bytes handles) refl
  message_written protocol.Node bytes handles h = read_written protocol.Node bytes handles h (read_by protocol.Node bytes handles) refl
  message_written protocol.Echo bytes handles h = read_written protocol.Echo bytes handles h (read_by protocol.Echo bytes handles) refl

-- what was sent is a message, or that the client closed its end
abbrev pub IsSendable : Sending → Type 0
IsSendable (message bytes handles) = IsMessage bytes
IsSendable hang_up = Unit {0}

pub sending_written : Below → (moment : Moment) → FitsWord moment.bound.endpoint → IsReady (context_at moment) → (sending : Sending) → IsSendable sending → IsWritten (outcome_of_sending moment sending)
unfolding outcome_of_sending
sending_written below moment own ready (message bytes handles) h = message_written below moment own ready moment.bound.birth.protocol bytes handles h
sending_written below moment own ready hang_up h =
    outcome_written (asker_of moment.bound 0 0) (only moment.position hangs_up) own (lit< tt) (answered_only moment.position hangs_up tt)
