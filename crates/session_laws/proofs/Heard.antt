-- A serving binds, sends on, gives and changes only what a request on its connection asks for.
use Rattle.std.proofs.Common.{◌≡◌, ℕ, Bool, List, Some, None, Ok, Err, refl, sym, ap, ◌∙◌}
use Rattle.io_messages.specs.Asked.{Asked}
use Rattle.io_messages.specs.declared.protocols.Protocol.{Protocol}
use Rattle.io_messages.specs.declared.protocols.Protocol.TheVariants as protocol
use Rattle.io_messages.specs.declared.requests.RequestFault.TheVariants.{Malformed, UnknownStrict, UnknownOneWay, UnknownTwoWay}
use Rattle.io_rights.specs.Operations.{none}
use Rattle.node_graph.specs.Tree.{stay}
use Rattle.fidl_names.specs.HandleNumber.{end_of_mount}
use Rattle.conn_rules.specs.Onward.{onward_bytes}
use Rattle.conn_rules.specs.Answers.{Answer, replies, closes, binds, watches, forwards, refuses, ends, hangs_up, silent}
use Rattle.conn_rules.specs.Births.{Birth}
use Rattle.vfs_journal.specs.Entries.{Sending, message, hang_up}
use Rattle.vfs_journal.specs.Outcomes.{Asker, Forwarded, Outcome, bound_of, forward_of, outcome_with}
use Rattle.vfs_journal.specs.Serving.{Moment, Read, asker_of, object_of, outcome_of_message, outcome_of_read, outcome_of_sending, read_by, request_act}
use Rattle.vfs_journal.specs.Starts.{Bound}

-- ---- requests

-- nothing is bound, goes on, is given or changes, or a request was read, and its row says what
pub data Heard (moment : Moment) (sending : Sending) (outcome : Outcome) : Type 0 where
  unheard : outcome.bound ≡ None → outcome.forward ≡ None → outcome.token ≡ None → outcome.change ≡ stay → Heard moment sending outcome
  heard : (bytes handles : List ℕ) (txid : ℕ) (request : Asked) → sending ≡ message bytes handles → read_by moment.bound.birth.protocol bytes handles ≡ Ok (txid, request) →
      outcome ≡ outcome_with (asker_of moment.bound txid (object_of request)) (request_act moment request) → Heard moment sending outcome

read_heard : (moment : Moment) (bytes handles : List ℕ) (r : Read) → read_by moment.bound.birth.protocol bytes handles ≡ r → Heard moment (message bytes handles) (outcome_of_read moment r)
read_heard moment bytes handles (Ok (txid, request)) read = heard bytes handles txid request refl read refl
read_heard moment bytes handles (Err (Malformed fault)) read = unheard refl refl refl refl
read_heard moment bytes handles (Err UnknownStrict) read = unheard refl refl refl refl
read_heard moment bytes handles (Err UnknownOneWay) read = unheard refl refl refl refl
read_heard moment bytes handles (Err (UnknownTwoWay txid ordinal)) read = unheard refl refl refl refl

message_heard : (moment : Moment) (bytes handles : List ℕ) (p : Protocol) → moment.bound.birth.protocol ≡ p → Heard moment (message bytes handles) (outcome_of_message moment p bytes handles)
message_heard moment bytes handles protocol.Watcher is = unheard refl refl refl refl
message_heard moment bytes handles protocol.Directory is = read_heard moment bytes handles (read_by protocol.Directory bytes handles) (ap (λ (p : Protocol). read_by p bytes handles) is)
message_heard moment bytes handles protocol.File is = read_heard moment bytes handles (read_by protocol.File bytes handles) (ap (λ (p : Protocol). read_by p bytes handles) is)
message_heard moment bytes handles protocol.Node is = read_heard moment bytes handles (read_by protocol.Node bytes handles) (ap (λ (p : Protocol). read_by p bytes handles) is)
message_heard moment bytes handles protocol.Echo is = read_heard moment bytes handles (read_by protocol.Echo bytes handles) (ap (λ (p : Protocol). read_by p bytes handles) is)

pub sending_heard : (moment : Moment) (sending : Sending) → Heard moment sending (outcome_of_sending moment sending)
unfolding outcome_of_sending
sending_heard moment (message bytes handles) = message_heard moment bytes handles moment.bound.birth.protocol refl
sending_heard moment hang_up = unheard refl refl refl refl

-- ---- answers

-- what an answer binds: a connection that it says, or a watcher
pub data BindsAs (answer : Answer) (new : Bound) : Type 0 where
  connection : (birth : Birth) (announced : Bool) → answer ≡ binds birth announced → new.birth ≡ birth → BindsAs answer new
  watcher : new.birth.rights ≡ none → BindsAs answer new

same_birth : (x y : Bound) → Some x ≡ Some y → y.birth ≡ x.birth
same_birth x y e = let same : y ≡ x = cc in ap (λ (b : Bound). b.birth) same

pub binds_as : (asker : Asker) (answer : Answer) (new : Bound) → bound_of asker answer ≡ Some new → BindsAs answer new
binds_as asker (binds birth announced) new e = connection birth announced refl (same_birth _ new e)
binds_as asker (watches mask) new e = watcher (ap (λ (b : Birth). b.rights) (same_birth _ new e))
binds_as asker (replies a) new e = absurd (cc)
binds_as asker closes new e = absurd (cc)
binds_as asker (forwards mount flags rest) new e = absurd (cc)
binds_as asker (refuses status) new e = absurd (cc)
binds_as asker (ends status) new e = absurd (cc)
binds_as asker hangs_up new e = absurd (cc)
binds_as asker silent new e = absurd (cc)

-- what an answer sends on
pub record SendsOn (asker : Asker) (answer : Answer) (forward : Forwarded) : Type 0 where
  pub mount : ℕ
  pub flags : ℕ
  pub rest : List (List ℕ)
  pub is : answer ≡ forwards mount flags rest
  pub bytes : forward.bytes ≡ onward_bytes flags rest forward.object

same_forward : (x y : Forwarded) → Some x ≡ Some y → y ≡ x
same_forward x y e = cc

pub sends_on : (asker : Asker) (answer : Answer) (forward : Forwarded) → forward_of asker answer ≡ Some forward → SendsOn asker answer forward
sends_on asker (forwards mount flags rest) forward e =
    let same = same_forward (record { endpoint = end_of_mount mount; bytes = onward_bytes flags rest asker.object; object = asker.object }) forward e in
    record {
      mount = mount;
      flags = flags;
      rest = rest;
      is = refl;
      bytes = ap (λ (f : Forwarded). f.bytes) same ∙ ap (λ (n : ℕ). onward_bytes flags rest n) (sym (ap (λ (f : Forwarded). f.object) same));
    }
sends_on asker (binds birth announced) forward e = absurd (cc)
sends_on asker (watches mask) forward e = absurd (cc)
sends_on asker (replies a) forward e = absurd (cc)
sends_on asker closes forward e = absurd (cc)
sends_on asker (refuses status) forward e = absurd (cc)
sends_on asker (ends status) forward e = absurd (cc)
sends_on asker hangs_up forward e = absurd (cc)
sends_on asker silent forward e = absurd (cc)
