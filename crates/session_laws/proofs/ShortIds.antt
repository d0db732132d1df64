-- The transaction ids of what is sent have 32 bits.
use Rattle.std.proofs.Common.{◌≡◌, ℕ, ◌<◌, List, [], ◌∷◌, Option, Some, None, Ok, Err, sym, zero, suc, subst, lit<, arith}
use Rattle.std.specs.Prelude.{slice_index}
use Rattle.std.proofs.lemmas.List.Elements.{All-head, All-tail}
use Rattle.byteorder.specs.Numbers.{little_from-lt}
use Rattle.fidl_names.specs.Numbers.{AreBytes, number_at}
use Rattle.conn_rules.specs.Answers.{Act, Answer, replies, closes, binds, watches, forwards, refuses, ends, hangs_up, only, silent}
use Rattle.fidl_wire.specs.Names.{method_ordinal}
use Rattle.fidl_names.specs.declared.methods.Method.TheVariants as method
use Rattle.io_messages.specs.Asked as asks
use Rattle.io_messages.specs.Writing.{plain_header, request_body}
use Rattle.io_messages.specs.declared.protocols.Protocol.{Protocol}
use Rattle.io_messages.specs.declared.protocols.Protocol.TheVariants as protocol
use Rattle.path_walk.specs.Paths.{text_of}
use Rattle.conn_rules.specs.Onward.{onward_bytes}
use Rattle.vfs_journal.specs.Entries.{Journal, Sending, Sent, message, hang_up}
use Rattle.vfs_journal.specs.History.{History, bound_at}
use Rattle.vfs_journal.specs.Outcomes.{Asker, Forwarded, Outcome, forward_of, no_outcome, outcome_with}
use Rattle.vfs_journal.specs.Past.{history_of}
use Rattle.vfs_journal.specs.Serving.{Moment, Read, asker_of, fault_answer, fault_txid, moment_of, object_of, request_act, outcome_at, outcome_of, outcome_of_message, outcome_of_read, outcome_of_sending, read_by}
use Rattle.vfs_journal.specs.Starts.{Bound, Start}
use Rattle.journal_laws.proofs.Stepping.{IsSentNext, messaging, hanging_up, going_on}
use Rattle.session_laws.proofs.Framed.{IsShort, header_id}
use Rattle.session_laws.specs.Pipelined.{txid_in, txid_of}

-- ---- outcomes are those of acts

read_holds : (P : Outcome → Type 0) → ((asker : Asker) (act : Act) → P (outcome_with asker act)) → (moment : Moment) (read : Read) → P (outcome_of_read moment read)
read_holds P each moment (Ok found) = each (asker_of moment.bound found.0 (object_of found.1)) (request_act moment found.1)
read_holds P each moment (Err fault) = each (asker_of moment.bound (fault_txid fault) 0) (only moment.position (fault_answer fault))

message_holds : (P : Outcome → Type 0) → ((asker : Asker) (act : Act) → P (outcome_with asker act)) → (moment : Moment) (p : Protocol) (bytes handles : List ℕ) → P (outcome_of_message moment p bytes handles)
message_holds P each moment protocol.Directory bytes handles = read_holds P each moment (read_by protocol.Directory bytes handles)
message_holds P each moment protocol.File bytes handles = read_holds P each moment (read_by protocol.File bytes handles)
message_holds P each moment protocol.Node bytes handles = read_holds P each moment (read_by protocol.Node bytes handles)
message_holds P each moment protocol.Echo bytes handles = read_holds P each moment (read_by protocol.Echo bytes handles)
message_holds P each moment protocol.Watcher bytes handles = each (asker_of moment.bound 0 0) (only moment.position silent)

sending_holds : (P : Outcome → Type 0) → ((asker : Asker) (act : Act) → P (outcome_with asker act)) → (moment : Moment) (sending : Sending) → P (outcome_of_sending moment sending)
unfolding outcome_of_sending
sending_holds P each moment (message bytes handles) = message_holds P each moment moment.bound.birth.protocol bytes handles
sending_holds P each moment hang_up = each (asker_of moment.bound 0 0) (only moment.position hangs_up)

-- what holds of each act's outcome, and of that which serves nothing, holds of each
pub outcome_holds : (P : Outcome → Type 0) → ((asker : Asker) (act : Act) → P (outcome_with asker act)) → P no_outcome →
    (start : Start) (past : History) (one : Sent) → P (outcome_of start past one)
outcome_holds P each none start past one = by_bound (bound_at start past one.endpoint) where
  by_bound : (o : Option Bound) → P (outcome_at start past one o)
  by_bound None = none
  by_bound (Some bound) = sending_holds P each (moment_of start past bound) one.sending

-- ---- what goes on has no transaction id

onward_id : (flags : ℕ) (rest : List (List ℕ)) (object : ℕ) → txid_in (onward_bytes flags rest object) ≡ 0
onward_id flags rest object =
    header_id (plain_header 0 (method_ordinal method.OpenPath)) (request_body (asks.open_path (text_of rest) flags None object)) (lit< tt)

abbrev GoesOnShort : Outcome → Type 0
GoesOnShort outcome = (f : Forwarded) → outcome.forward ≡ Some f → IsShort (txid_in f.bytes)

answer_goes_on : (asker : Asker) (answer : Answer) (f : Forwarded) → forward_of asker answer ≡ Some f → IsShort (txid_in f.bytes)
answer_goes_on asker (forwards mount flags rest) f e =
    let same : onward_bytes flags rest asker.object ≡ f.bytes = cc in
    subst (λ (bytes : List ℕ). IsShort (txid_in bytes)) same (subst IsShort (sym (onward_id flags rest asker.object)) (lit< tt))
answer_goes_on asker (replies a) f e = absurd (cc)
answer_goes_on asker closes f e = absurd (cc)
answer_goes_on asker (binds birth announced) f e = absurd (cc)
answer_goes_on asker (watches mask) f e = absurd (cc)
answer_goes_on asker (refuses status) f e = absurd (cc)
answer_goes_on asker (ends status) f e = absurd (cc)
answer_goes_on asker hangs_up f e = absurd (cc)
answer_goes_on asker silent f e = absurd (cc)

goes_on_short : (start : Start) (past : History) (one : Sent) → GoesOnShort (outcome_of start past one)
goes_on_short start past one = outcome_holds GoesOnShort (λ asker act. answer_goes_on asker act.answer) (λ f e. absurd (cc)) start past one

-- what is admitted has bytes, so that its id has 32 bits
byte_below : (bytes : List ℕ) → AreBytes bytes → (k : ℕ) → slice_index bytes k < 256
byte_below [] h k = omega arith
byte_below (x ∷ xs) h zero = All-head (λ y. y < 256) x xs h
byte_below (x ∷ xs) h (suc k) = byte_below xs (All-tail (λ y. y < 256) x xs h) k

short_id : (bytes : List ℕ) → AreBytes bytes → IsShort (txid_in bytes)
unfolding number_at
short_id bytes h = little_from-lt 0 4 bytes (byte_below bytes h)

-- what is sent next has an id of 32 bits
pub short_next : (start : Start) (earlier : Journal) (one : Sent) → IsSentNext start earlier one → IsShort (txid_of one.sending)
short_next start earlier one (messaging _ frame h is kind admits) = short_id frame.bytes is.bytes
short_next start earlier one (hanging_up _ frame h is kind admits) = lit< tt
short_next start earlier one (going_on before k forward h first e) = goes_on_short start (history_of start before) k forward e
