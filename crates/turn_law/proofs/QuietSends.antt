-- A message that changes nothing is answered so that nothing changes, and what goes on of it behind a mount changes nothing either.
use Rattle.std.proofs.Common.{◌≡◌, ℕ, ◌<◌, ◌^◌, ◌||◌, Bool, true, false, List, [], ◌∷◌, map, Some, None, Result, Ok, Err, refl, sym, ap, ◌∙◌, subst}
use Rattle.std.proofs.lemmas.Bool.{true≢false}
use Rattle.fidl_names.specs.declared.methods.Handle.{Handle}
use Rattle.fidl_names.specs.HandleNumber.{handle_with}
use Rattle.fidl_wire.specs.declared.faults.WireFault.{WireFault}
use Rattle.fidl_wire.specs.declared.headers.Header.{Header}
use Rattle.fidl_wire.specs.Names.{method_ordinal}
use Rattle.fidl_wire.proofs.Rows.{method_ordinal-injective}
use Rattle.wire_laws.specs.Laws.{SpelledWhereRead}
use Rattle.io_flags.specs.Grants.{going_on, onward}
use Rattle.io_flags.specs.Words.{FlagSet, flags_of, holds, makes}
use Rattle.io_flags.specs.declared.names.Flag.TheVariants as flag
use Rattle.io_flags.proofs.SetWords.{flags_of-word_of}
use Rattle.io_messages.specs.Asked.{Asked, method_of}
use Rattle.io_messages.specs.Asked as asks
use Rattle.io_messages.specs.Protocols.{has_method}
use Rattle.io_messages.specs.Replies.{Answered}
use Rattle.io_messages.specs.Replies as answered
use Rattle.io_messages.specs.Requests.{IsAsked}
use Rattle.io_messages.specs.declared.protocols.Protocol.{Protocol}
use Rattle.io_messages.specs.declared.protocols.Protocol.TheVariants as protocol
use Rattle.io_messages.specs.declared.requests.RequestFault.{RequestFault}
use Rattle.io_messages.specs.declared.requests.RequestFault.TheVariants.{Malformed, UnknownStrict, UnknownOneWay, UnknownTwoWay}
use Rattle.io_messages.proofs.Known.{method_asked}
use Rattle.request_reader.proofs.RequestLaws.{what_is_read, what_is_spelled}
use Rattle.io_rights.specs.Operations.{OperationSet}
use Rattle.path_walk.specs.Paths.{IsPath, text_of}
use Rattle.conn_rules.specs.Onward.{onward_bytes}
use Rattle.conn_rules.specs.Answers.{Answer, replies, closes, binds, watches, forwards, refuses, ends, hangs_up, silent, Act}
use Rattle.vfs_journal.specs.Entries.{Sending, message, hang_up}
use Rattle.vfs_journal.specs.Outcomes.{Asker, bound_of, outcome_with, token_in, token_of}
use Rattle.vfs_journal.specs.History.{is_watcher}
use Rattle.vfs_journal.specs.Serving.{Moment, Read, asker_of, context_at, fault_answer, outcome_of_message, outcome_of_read, outcome_of_sending, read_by, request_act}
use Rattle.vfs_journal.specs.Starts.{Bound}
use Rattle.journal_laws.proofs.Acts.{IsNoToken}
use Rattle.journal_laws.proofs.Below.{Below}
use Rattle.journal_laws.proofs.Onward.{onward_reads}
use Rattle.turn_law.specs.Premises.{Changes, is_change, makes_or_cuts}
use Rattle.turn_law.specs.Quiet.{IsNoWatcher, IsQuiet, IsStill}
use Rattle.turn_law.proofs.StillActs.{IsStillAct, IsStillAnswer, act_still, still_only}

-- ---- what is read

pub quiet_read : SpelledWhereRead → (p : Protocol) (bytes handles : List ℕ) (t : ℕ) (a : Asked) → ¬ (Changes bytes handles) → read_by p bytes handles ≡ Ok (t, a) → is_change a ≡ false
quiet_read law p bytes handles t a quiet read = by_test (is_change a) refl where
  by_test : (b : Bool) → is_change a ≡ b → is_change a ≡ false
  by_test true e = absurd (quiet (record { txid = t; request = a; reads = (what_is_read law p bytes (map handle_with handles) t a read).is_asked; change = e }))
  by_test false e = e

-- ---- outcomes

no_token : (asker : Asker) (a : Answered) → IsNoToken a → token_in asker a ≡ None
no_token asker (answered.token n) h = absurd h
no_token asker _ h = refl

ungiven : (asker : Asker) (answer : Answer) → IsStillAnswer answer → token_of asker answer ≡ None
ungiven asker (replies a) h = no_token asker a h
ungiven asker _ h = refl

unwatched : (asker : Asker) (answer : Answer) → IsStillAnswer answer → (bound : Bound) → bound_of asker answer ≡ Some bound → IsNoWatcher bound × (bound.mask ≡ 0)
unwatched asker (binds birth announced) h bound e = subst (λ (b : Bound). IsNoWatcher b × (b.mask ≡ 0)) (some_same e) (h, refl) where
  some_same : {x y : Bound} → Some x ≡ Some y → x ≡ y
  some_same same = cc
unwatched asker (watches mask) h bound e = absurd h
unwatched asker (replies a) h bound e = absurd (cc)
unwatched asker closes h bound e = absurd (cc)
unwatched asker (forwards mount flags rest) h bound e = absurd (cc)
unwatched asker (refuses status) h bound e = absurd (cc)
unwatched asker (ends status) h bound e = absurd (cc)
unwatched asker hangs_up h bound e = absurd (cc)
unwatched asker silent h bound e = absurd (cc)

act_outcome : (asker : Asker) (act : Act) → IsStillAct act → IsStill (outcome_with asker act)
act_outcome asker act h = record {
  stays = h.stays;
  untold = h.untold;
  ungiven = ungiven asker act.answer h.answer;
  bound = unwatched asker act.answer h.answer;
}

fault_still : (fault : RequestFault) → IsStillAnswer (fault_answer fault)
fault_still (Malformed fault) = tt
fault_still UnknownStrict = tt
fault_still UnknownOneWay = tt
fault_still (UnknownTwoWay txid ordinal) = tt

read_still : SpelledWhereRead → (moment : Moment) → IsNoWatcher moment.bound → (p : Protocol) (bytes handles : List ℕ) → ¬ (Changes bytes handles) → (r : Read) → read_by p bytes handles ≡ r → IsStill (outcome_of_read moment r)
read_still law moment speaks p bytes handles quiet (Ok found) e =
    act_outcome _ (request_act moment found.1) (act_still (context_at moment) speaks found.1 (quiet_read law p bytes handles found.0 found.1 quiet e))
read_still law moment speaks p bytes handles quiet (Err fault) e =
    act_outcome _ _ (still_only moment.position (fault_answer fault) (fault_still fault))

message_still : SpelledWhereRead → (moment : Moment) → IsNoWatcher moment.bound → (bytes handles : List ℕ) → ¬ (Changes bytes handles) → (p : Protocol) → is_watcher p ≡ false → IsStill (outcome_of_message moment p bytes handles)
message_still law moment speaks bytes handles quiet protocol.Watcher other = absurd (true≢false other)
message_still law moment speaks bytes handles quiet protocol.Directory other = read_still law moment speaks protocol.Directory bytes handles quiet _ refl
message_still law moment speaks bytes handles quiet protocol.File other = read_still law moment speaks protocol.File bytes handles quiet _ refl
message_still law moment speaks bytes handles quiet protocol.Node other = read_still law moment speaks protocol.Node bytes handles quiet _ refl
message_still law moment speaks bytes handles quiet protocol.Echo other = read_still law moment speaks protocol.Echo bytes handles quiet _ refl

pub sending_still : SpelledWhereRead → (moment : Moment) → IsNoWatcher moment.bound → (sending : Sending) → IsQuiet sending → IsStill (outcome_of_sending moment sending)
unfolding outcome_of_sending
sending_still law moment speaks (message bytes handles) quiet = message_still law moment speaks bytes handles quiet moment.bound.birth.protocol speaks
sending_still law moment speaks hang_up quiet = act_outcome (asker_of moment.bound 0 0) _ (still_only moment.position hangs_up tt)

-- ---- what goes on

-- bytes and handles are one request at most
ok_same : {h g : Header} → (let r : Result Header WireFault = Ok h in r) ≡ Ok g → h ≡ g
ok_same e = cc

read_same : {x y : ℕ × Asked} → (let r : Read = Ok x in r) ≡ Ok y → x.1 ≡ y.1
read_same e = ap asked_in e where
  asked_in : Read → Asked
  asked_in (Ok found) = found.1
  asked_in (Err fault) = asks.close

one_request : Below → (p : Protocol) (bytes : List ℕ) (handles : List Handle) (t u : ℕ) (a b : Asked) → has_method p (method_of a) ≡ true → IsAsked bytes handles t a → IsAsked bytes handles u b → b ≡ a
one_request below p bytes handles t u a b known one other =
    let spelled = what_is_spelled below.reads (method_ordinal-injective below.apart) p bytes handles in
    let headers : one.header ≡ other.header = ok_same (sym one.header_is ∙ other.header_is) in
    let ordinals : method_ordinal one.method ≡ method_ordinal other.method =
    one.ordinal_is ∙ ap (λ (h : Header). h.ordinal) headers ∙ sym other.ordinal_is in
    let same : method_of a ≡ method_of b =
    method_asked bytes handles t a one ∙ method_ordinal-injective below.apart one.method other.method ordinals ∙ sym (method_asked bytes handles u b other) in
    read_same (sym (spelled u b (record { is_asked = other; known = ap (has_method p) (sym same) ∙ known })) ∙ spelled t a (record { is_asked = one; known = known }))

-- the flags that go on make and cut what they did
goes_on_alike : (word : ℕ) (limit : OperationSet) → makes_or_cuts (onward word limit) ≡ makes_or_cuts word
unfolding onward
goes_on_alike word limit =
    ap (λ (set : FlagSet). makes set || (holds set flag.UnnamedTemporary || holds set flag.FileTruncate)) (flags_of-word_of (going_on (flags_of word) limit))

pub onward_quiet : Below → (word : ℕ) (limit : OperationSet) (flags : ℕ) (rest : List (List ℕ)) (object : ℕ) (bytes : List ℕ) → makes_or_cuts word ≡ false → flags ≡ onward word limit →
    IsPath (text_of rest) rest → flags < 256 ^ 8 → object < 0x80000000 → bytes ≡ onward_bytes flags rest object → ¬ (Changes bytes (object ∷ []))
onward_quiet below word limit flags rest object bytes quiet left path small low is changes =
    let handles = map handle_with (object ∷ []) in
    let reads = onward_reads below flags rest object path small low in
    let asked = (what_is_read below.spelled protocol.Directory (onward_bytes flags rest object) handles 0 (asks.open_path (text_of rest) flags None object) reads).is_asked in
    let other = subst (λ (bs : List ℕ). IsAsked bs handles changes.txid changes.request) is changes.reads in
    let same = one_request below protocol.Directory (onward_bytes flags rest object) handles 0 changes.txid (asks.open_path (text_of rest) flags None object) changes.request refl asked other in
    true≢false (sym changes.change ∙ ap is_change same ∙ ap makes_or_cuts left ∙ goes_on_alike word limit ∙ quiet)
