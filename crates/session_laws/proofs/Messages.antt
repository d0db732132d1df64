-- On which endpoints the messages of an outcome are.
use Rattle.std.proofs.Common.{◌≡◌, ℕ, ◌==◌, ◌&&◌, Bool, true, false, cond, List, [], ◌∷◌, filter, Option, Some, None, Ok, Err, refl, sym, ap, ◌∙◌}
use Rattle.std.proofs.Math.Bool.{and-false}
use Rattle.std.proofs.lemmas.Bool.{or_parts}
use Rattle.fidl_names.specs.StatusNumber.{number_of}
use Rattle.fidl_names.specs.declared.methods.Method.TheVariants as method
use Rattle.fidl_wire.specs.Epitaphs.{epitaph_bytes}
use Rattle.link_frames.specs.declared.kinds.FrameKind.TheVariants as kind
use Rattle.link_frames.specs.Frames.{Frame, frame_with}
use Rattle.link_admission.specs.Numbering.{among}
use Rattle.io_messages.specs.Asked.{Asked}
use Rattle.io_messages.specs.Replies.{done, settled}
use Rattle.io_messages.specs.ReplyWriting.{event_bytes}
use Rattle.io_messages.specs.declared.protocols.Protocol.{Protocol}
use Rattle.io_messages.specs.declared.protocols.Protocol.TheVariants as protocol
use Rattle.io_messages.specs.declared.requests.RequestFault.{RequestFault}
use Rattle.io_messages.specs.declared.requests.RequestFault.TheVariants.{Malformed, UnknownStrict, UnknownOneWay, UnknownTwoWay}
use Rattle.node_graph.specs.Tree.{stay}
use Rattle.conn_rules.specs.Answers.{Act, Answer, binds, closes, ends, forwards, hangs_up, only, refuses, replies, silent, watches}
use Rattle.vfs_journal.specs.Entries.{Sending, message, hang_up}
use Rattle.vfs_journal.specs.History.{is_watcher}
use Rattle.vfs_journal.specs.Outcomes.{Asker, Outcome, announcement, bound_of, ends_of, frames_of, outcome_with, reply_frame}
use Rattle.vfs_journal.specs.Output.{is_message}
use Rattle.vfs_journal.specs.Serving.{Moment, Read, asker_of, fault_answer, fault_txid, object_of, outcome_of_message, outcome_of_read, outcome_of_sending, read_by, request_act}
use Rattle.vfs_journal.specs.Starts.{Bound}
use Rattle.session_laws.specs.Sight.{is_message_on}
use Rattle.session_laws.proofs.Acts.{IsPlain}

-- ---- frames on other endpoints

-- there is no message on an endpoint among these
abbrev pub NoneOn : ℕ → List Frame → Type 0
NoneOn endpoint frames = filter (is_message_on endpoint) frames ≡ []

abbrev pub IsOther : ℕ → ℕ → Type 0
IsOther endpoint other = (other == endpoint) ≡ false

pub other_frame : (endpoint : ℕ) (frame : Frame) → IsOther endpoint frame.endpoint → is_message_on endpoint frame ≡ false
other_frame endpoint frame other = ap (λ (same : Bool). is_message frame.kind && same) other ∙ and-false (is_message frame.kind)

-- frames of which the first alone may be a message
first_other : (endpoint : ℕ) (frame : Frame) → IsOther endpoint frame.endpoint → cond (is_message_on endpoint frame) (frame ∷ []) [] ≡ []
first_other endpoint frame other = ap (λ (b : Bool). cond b (frame ∷ []) []) (other_frame endpoint frame other)

-- ---- answers

-- the endpoint that an answer binds, if it binds one, is another
abbrev pub BindsOther : ℕ → Option Bound → Type 0
BindsOther endpoint bound = (new : Bound) → bound ≡ Some new → IsOther endpoint new.endpoint

announced_none : (endpoint object : ℕ) (p : Protocol) (b : Bool) → IsOther endpoint object → NoneOn endpoint (announcement object p b)
announced_none endpoint object p false other = refl
announced_none endpoint object p true other = first_other endpoint (frame_with object kind.Message [] (event_bytes p)) other

-- an answer's messages are on the endpoint that is served, and on those that it ends or binds
answer_none : (endpoint : ℕ) (asker : Asker) (answer : Answer) → IsOther endpoint asker.endpoint → among endpoint (ends_of asker answer) ≡ false → BindsOther endpoint (bound_of asker answer) → NoneOn endpoint (frames_of asker answer)
answer_none endpoint asker (replies a) own ended new = first_other endpoint (reply_frame asker a) own
answer_none endpoint asker closes own ended new = first_other endpoint (reply_frame asker (done method.Close)) own
answer_none endpoint asker (binds birth announced) own ended new = announced_none endpoint asker.object birth.protocol announced (new _ refl)
answer_none endpoint asker (watches mask) own ended new = first_other endpoint (reply_frame asker (settled method.Watch)) own
answer_none endpoint asker (forwards mount flags rest) own ended new = refl
answer_none endpoint asker (refuses status) own ended new =
    first_other endpoint (frame_with asker.object kind.Message [] (epitaph_bytes (number_of status))) (or_parts (asker.object == endpoint) false ended).0
answer_none endpoint asker (ends status) own ended new = first_other endpoint (frame_with asker.endpoint kind.Message [] (epitaph_bytes (number_of status))) own
answer_none endpoint asker hangs_up own ended new = refl
answer_none endpoint asker silent own ended new = refl

-- ---- who binds a watcher

-- where a watcher is bound there are messages on the endpoint that is served alone, and the tree stays
pub record BindsWatcher (own : ℕ) (outcome : Outcome) : Type 0 where
  pub elsewhere : (endpoint : ℕ) → IsOther endpoint own → NoneOn endpoint outcome.frames
  pub stays : outcome.change ≡ stay

-- what an outcome does on a connection at an endpoint
pub record Writes (own : ℕ) (outcome : Outcome) : Type 0 where
  pub elsewhere : (endpoint : ℕ) → IsOther endpoint own → among endpoint outcome.ends ≡ false → BindsOther endpoint outcome.bound → NoneOn endpoint outcome.frames
  pub watcher : (bound : Bound) → outcome.bound ≡ Some bound → is_watcher bound.birth.protocol ≡ true → BindsWatcher own outcome

binds_watcher : (asker : Asker) (act : Act) (answer : Answer) → act.answer ≡ answer → IsPlain act.change answer → (bound : Bound) → bound_of asker answer ≡ Some bound → is_watcher bound.birth.protocol ≡ true → BindsWatcher asker.endpoint (outcome_with asker act)
binds_watcher asker act (watches mask) e plain bound new is = record {
  elsewhere = λ endpoint own. ap (λ (a : Answer). filter (is_message_on endpoint) (frames_of asker a)) e ∙ first_other endpoint (reply_frame asker (settled method.Watch)) own;
  stays = plain;
}
binds_watcher asker act (binds birth announced) e plain bound new is =
    let made : Bound = record { endpoint = asker.object; server = asker.server; birth = birth; mask = 0 } in
    let same : made ≡ bound = cc in
    let wrong : true ≡ false = sym is ∙ ap (λ (x : Bound). is_watcher x.birth.protocol) (sym same) ∙ plain in
    absurd (cc)
binds_watcher asker act (replies a) e plain bound new is = absurd (cc)
binds_watcher asker act closes e plain bound new is = absurd (cc)
binds_watcher asker act (forwards mount flags rest) e plain bound new is = absurd (cc)
binds_watcher asker act (refuses status) e plain bound new is = absurd (cc)
binds_watcher asker act (ends status) e plain bound new is = absurd (cc)
binds_watcher asker act hangs_up e plain bound new is = absurd (cc)
binds_watcher asker act silent e plain bound new is = absurd (cc)

pub act_writes : (asker : Asker) (act : Act) → IsPlain act.change act.answer → Writes asker.endpoint (outcome_with asker act)
act_writes asker act plain = record {
  elsewhere = λ endpoint own ended new. answer_none endpoint asker act.answer own ended new;
  watcher = λ bound new is. binds_watcher asker act act.answer refl plain bound new is;
}

-- ---- what sendings are answered

-- the answer to what is no request
abbrev pub IsIdle : Answer → Type 0
IsIdle (replies a) = Unit {0}
IsIdle (ends status) = Unit {0}
IsIdle hangs_up = Unit {0}
IsIdle silent = Unit {0}
IsIdle _ = ⊥

pub idle_plain : (answer : Answer) → IsIdle answer → IsPlain stay answer
idle_plain (replies a) h = tt
idle_plain (ends status) h = tt
idle_plain hangs_up h = tt
idle_plain silent h = tt
idle_plain closes h = absurd h
idle_plain (binds birth announced) h = absurd h
idle_plain (watches mask) h = absurd h
idle_plain (forwards mount flags rest) h = absurd h
idle_plain (refuses status) h = absurd h

fault_idle : (fault : RequestFault) → IsIdle (fault_answer fault)
fault_idle (Malformed fault) = tt
fault_idle UnknownStrict = tt
fault_idle UnknownOneWay = tt
fault_idle (UnknownTwoWay txid ordinal) = tt

-- what holds of the outcomes of requests on connections that are no watchers', and of those of what is no request, holds of each
module _ (P : Outcome → Type 0) (moment : Moment)
    (requests : (txid : ℕ) (request : Asked) → is_watcher moment.bound.birth.protocol ≡ false → P (outcome_with (asker_of moment.bound txid (object_of request)) (request_act moment request)))
    (idle : (txid : ℕ) (answer : Answer) → IsIdle answer → P (outcome_with (asker_of moment.bound txid 0) (only moment.position answer))) where
  read_holds : (read : Read) → is_watcher moment.bound.birth.protocol ≡ false → P (outcome_of_read moment read)
  read_holds (Ok found) plain = requests found.0 found.1 plain
  read_holds (Err fault) plain = idle (fault_txid fault) (fault_answer fault) (fault_idle fault)

  message_holds : (p : Protocol) (bytes handles : List ℕ) → (is_watcher p ≡ false → is_watcher moment.bound.birth.protocol ≡ false) → P (outcome_of_message moment p bytes handles)
  message_holds protocol.Watcher bytes handles plain = idle 0 silent tt
  message_holds protocol.Directory bytes handles plain = read_holds (read_by protocol.Directory bytes handles) (plain refl)
  message_holds protocol.File bytes handles plain = read_holds (read_by protocol.File bytes handles) (plain refl)
  message_holds protocol.Node bytes handles plain = read_holds (read_by protocol.Node bytes handles) (plain refl)
  message_holds protocol.Echo bytes handles plain = read_holds (read_by protocol.Echo bytes handles) (plain refl)

  pub sending_holds : (sending : Sending) → P (outcome_of_sending moment sending)
  unfolding outcome_of_sending
  sending_holds (message bytes handles) = message_holds moment.bound.birth.protocol bytes handles (λ e. e)
  sending_holds hang_up = idle 0 hangs_up tt

-- on a watcher's endpoint nothing is written, bound or told
pub record IsSilent (outcome : Outcome) : Type 0 where
  pub frames : outcome.frames ≡ []
  pub bound : outcome.bound ≡ None
  pub told : outcome.told ≡ []

message_silent : (moment : Moment) (p : Protocol) (bytes handles : List ℕ) → is_watcher p ≡ true → IsSilent (outcome_of_message moment p bytes handles)
message_silent moment protocol.Watcher bytes handles is = record { frames = refl; bound = refl; told = refl }
message_silent moment protocol.Directory bytes handles is = absurd (cc)
message_silent moment protocol.File bytes handles is = absurd (cc)
message_silent moment protocol.Node bytes handles is = absurd (cc)
message_silent moment protocol.Echo bytes handles is = absurd (cc)

pub watcher_silent : (moment : Moment) (sending : Sending) → is_watcher moment.bound.birth.protocol ≡ true → IsSilent (outcome_of_sending moment sending)
unfolding outcome_of_sending
watcher_silent moment (message bytes handles) is = message_silent moment moment.bound.birth.protocol bytes handles is
watcher_silent moment hang_up is = record { frames = refl; bound = refl; told = refl }
