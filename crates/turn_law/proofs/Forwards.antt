-- What goes on behind a mount is an Open, in whatever moment; it leaves the mount's end as it was, and writes on its object alone.
use Rattle.std.proofs.Common.{◌≡◌, ℕ, ◌^◌, ◌+◌, ◌<◌, List, [], ◌∷◌, ◌++◌, length, Option, Some, None, Ok, Err, refl, sym, ap, ◌∙◌, subst, length-append, arith}
use Rattle.fidl_names.specs.First.{first_of}
use Rattle.fidl_names.specs.declared.methods.Method.{Method}
use Rattle.fidl_names.specs.declared.methods.Method.TheVariants as method
use Rattle.fidl_names.specs.declared.statuses.Status.{Status}
use Rattle.io_flags.specs.Grants.{going_on, onward}
use Rattle.io_flags.specs.Words.{flags_of}
use Rattle.io_flags.proofs.SetWords.{word_of-small}
use Rattle.io_messages.specs.Asked.{Asked, method_of}
use Rattle.io_messages.specs.Asked as asks
use Rattle.io_messages.specs.declared.protocols.Protocol.{Protocol}
use Rattle.io_messages.specs.declared.protocols.Protocol.TheVariants as protocol
use Rattle.io_messages.specs.declared.requests.RequestFault.{RequestFault}
use Rattle.io_messages.specs.declared.requests.RequestFault.TheVariants.{Malformed, UnknownStrict, UnknownOneWay, UnknownTwoWay}
use Rattle.io_rights.specs.Operations.{OperationSet}
use Rattle.node_graph.specs.Tree.{Tree, name_in}
use Rattle.path_walk.specs.Paths.{IsPath, names_of, text_of}
use Rattle.conn_rules.specs.Onward.{onward_bytes}
use Rattle.conn_rules.specs.declared.births.Room.{Room}
use Rattle.conn_rules.specs.Acts.{act_of, method_refusals}
use Rattle.conn_rules.specs.Answers.{Act, Answer, binds, closes, ends, forwards, hangs_up, refuses, replies, silent, watches}
use Rattle.conn_rules.specs.Births.{Position}
use Rattle.conn_rules.specs.Contexts.{Context}
use Rattle.conn_rules.specs.Nodes.{kind_here}
use Rattle.conn_rules.specs.Opens.{arrival_refusals, by_walk, entry_refusals, making_refusals, open_act}
use Rattle.conn_rules.specs.Refusals.{unless}
use Rattle.conn_rules.specs.Walks.{Walk, arrives, crosses, missing, stops, walk}
use Rattle.vfs_journal.specs.Entries.{Sending, hang_up, message}
use Rattle.vfs_journal.specs.Outcomes.{Asker, Forwarded, forward_of}
use Rattle.vfs_journal.specs.Session.{weight_of, weight_of_read}
use Rattle.vfs_journal.specs.Serving.{Moment, Read, asker_of, context_at, fault_answer, fault_txid, object_of, outcome_of_message, outcome_of_read, outcome_of_sending, read_by, request_act}
use Rattle.journal_laws.proofs.Acts.{IsAnswer, IsClone, IsClose, IsOpenAnswer, IsReply, IsToken, IsWatch, act_answers}
use Rattle.journal_laws.proofs.Below.{Below}
use Rattle.journal_laws.proofs.Onward.{onward_reads, path_left}
use Rattle.journal_laws.proofs.Requests.{Carries, carries, opens_directory}

-- ---- what goes on

-- an Open of names that are a path, with flags of eight bytes, and with an object that is no token
pub record IsOnward (forward : Forwarded) : Type 0 where
  pub flags : ℕ
  pub rest : List (List ℕ)
  pub bytes : forward.bytes ≡ onward_bytes flags rest forward.object
  pub path : IsPath (text_of rest) rest
  pub small : flags < 256 ^ 8
  pub low : forward.object < 0x80000000

-- and it weighs less than this
pub record IsLighter (weight : ℕ) (forward : Forwarded) : Type 0 where
  pub on : IsOnward forward
  pub less : weight_of (message forward.bytes (forward.object ∷ [])) < weight

forward_same : {x y : Forwarded} → Some x ≡ Some y → x ≡ y
forward_same e = cc

onward_weighs : Below → (flags : ℕ) (rest : List (List ℕ)) (object : ℕ) → IsPath (text_of rest) rest → flags < 256 ^ 8 → object < 0x80000000 →
    weight_of (message (onward_bytes flags rest object) (object ∷ [])) ≡ 1 + length rest
onward_weighs below flags rest object path small low =
    ap weight_of_read (onward_reads below flags rest object path small low) ∙ ap (λ names. 1 + length names) (below.complete (text_of rest) rest path).1

onward_small : (word : ℕ) (limit : OperationSet) → onward word limit < 256 ^ 8
unfolding onward
onward_small word limit = word_of-small (going_on (flags_of word) limit)

path_onward : Below → (path : List ℕ) (front rest : List (List ℕ)) → IsPath path (names_of path) → names_of path ≡ front ++ rest → IsPath (text_of rest) rest
path_onward below path front rest h split =
    path_left front rest (subst (λ names. IsPath (text_of names) names) split (subst (λ (t : List ℕ). IsPath t (names_of path)) h.spelled h))

open_onward : Below → (asker : Asker) (tree : Tree) (path : List ℕ) (word weight : ℕ) (answer : Answer) → weight ≡ 1 + length (names_of path) → IsOpenAnswer tree path word answer → asker.object < 0x80000000 →
    (forward : Forwarded) → forward_of asker answer ≡ Some forward → IsLighter weight forward
open_onward below asker tree path word weight (forwards mount flags rest) weighs h low forward e =
    let path' = path_onward below path h.walked.front rest (below.sound path h.good) h.walked.split in
    let small = subst (λ (n : ℕ). n < 256 ^ 8) (sym h.left) (onward_small word h.limit) in
    let split = ap length h.walked.split ∙ length-append h.walked.front rest in
    let some = h.walked.some in
    let own = onward_weighs below flags rest asker.object path' small low in
    subst (IsLighter weight) (forward_same e)
    (record { on = record { flags = flags; rest = rest; bytes = refl; path = path'; small = small; low = low }; less = omega (arith, weighs, split, some, own) })
open_onward below asker tree path word weight (binds birth announced) weighs h low forward e = absurd (cc)
open_onward below asker tree path word weight (refuses status) weighs h low forward e = absurd (cc)
open_onward below asker tree path word weight (replies a) weighs h low forward e = absurd h
open_onward below asker tree path word weight closes weighs h low forward e = absurd h
open_onward below asker tree path word weight (watches mask) weighs h low forward e = absurd h
open_onward below asker tree path word weight (ends status) weighs h low forward e = absurd h
open_onward below asker tree path word weight hangs_up weighs h low forward e = absurd h
open_onward below asker tree path word weight silent weighs h low forward e = absurd h

-- ---- an Open leaves its connection where it is

position_unless : (o : Option Status) (position : Position) (m : Method) (act : Act) → act.position ≡ position → (unless o position m act).position ≡ position
position_unless None position m act h = h
position_unless (Some s) position m act h = refl

walk_position : (context : Context) (word : ℕ) (w : Walk) → (by_walk context word w).position ≡ context.position
walk_position context word (arrives node masks) = position_unless (first_of (arrival_refusals context.room word (kind_here context.tree node))) context.position method.OpenPath _ refl
walk_position context word (missing directory name masks) = position_unless (first_of (making_refusals context.tree context.room word (name_in directory name))) context.position method.OpenPath _ refl
walk_position context word (crosses mount rest masks) = refl
walk_position context word (stops s) = refl

pub open_position : (context : Context) (path : List ℕ) (word : ℕ) (given : Option ℕ) (object : ℕ) → (act_of context (asks.open_path path word given object)).position ≡ context.position
unfolding act_of
open_position context path word given object =
    position_unless (first_of (method_refusals context.birth method.OpenPath)) context.position method.OpenPath (open_act context path word)
    (position_unless (first_of (entry_refusals context.birth word path)) context.position method.OpenPath _ (walk_position context word (walk context.tree word (names_of path) context.birth.node)))

-- ---- in whatever moment

none_onward : {A : Type 0} (asker : Asker) (answer : Answer) → ((mount flags : ℕ) (rest : List (List ℕ)) → answer ≡ forwards mount flags rest → ⊥) → (forward : Forwarded) → forward_of asker answer ≡ Some forward → A
none_onward asker (forwards mount flags rest) none forward e = absurd (none mount flags rest refl)
none_onward asker (replies a) none forward e = absurd (cc)
none_onward asker closes none forward e = absurd (cc)
none_onward asker (binds birth announced) none forward e = absurd (cc)
none_onward asker (watches mask) none forward e = absurd (cc)
none_onward asker (refuses status) none forward e = absurd (cc)
none_onward asker (ends status) none forward e = absurd (cc)
none_onward asker hangs_up none forward e = absurd (cc)
none_onward asker silent none forward e = absurd (cc)

-- an Open weighs one more than its path has names
abbrev Weighs : ℕ → Asked → Type 0
Weighs weight (asks.open_path path word given object) = weight ≡ 1 + length (names_of path)
Weighs weight _ = Unit {0}

request_onward : Below → (asker : Asker) (room : Room) (tree : Tree) (request : Asked) (answer : Answer) (handles : List ℕ) (weight : ℕ) → asker.object ≡ object_of request → IsAnswer room tree request answer → Carries request handles →
    Weighs weight request → (forward : Forwarded) → forward_of asker answer ≡ Some forward → IsLighter weight forward
request_onward below asker room tree (asks.open_path path word given object) answer handles weight at h c w forward e =
    open_onward below asker tree path word weight answer w h (subst (λ (n : ℕ). n < 0x80000000) (sym at) c.low) forward e
request_onward below asker room tree (asks.clone endpoint) answer handles weight at h c w forward e = none_onward asker answer (λ m f r is. subst IsClone is h) forward e
request_onward below asker room tree (asks.watch mask options watcher) answer handles weight at h c w forward e = none_onward asker answer (λ m f r is. subst IsWatch is h) forward e
request_onward below asker room tree asks.close answer handles weight at h c w forward e = none_onward asker answer (λ m f r is. subst IsClose is h) forward e
request_onward below asker room tree asks.get_token answer handles weight at h c w forward e = none_onward asker answer (λ m f r is. subst (IsToken room.token) is h) forward e
request_onward below asker room tree _ answer handles weight at h c w forward e = none_onward asker answer (λ m f r is. subst IsReply is h) forward e

request_weighs : Below → (p : Protocol) (bytes handles : List ℕ) (t : ℕ) (a : Asked) → read_by p bytes handles ≡ Ok (t, a) → Weighs (weight_of (message bytes handles)) a
request_weighs below p bytes handles t (asks.open_path path word given object) e =
    ap weight_of_read (opens_directory below.spelled below.reads below.apart p bytes handles t path word given object e)
request_weighs below p bytes handles t _ e = tt

read_onward : Below → (moment : Moment) (p : Protocol) (bytes handles : List ℕ) (r : Read) → read_by p bytes handles ≡ r → (forward : Forwarded) → (outcome_of_read moment r).forward ≡ Some forward → IsLighter (weight_of (message bytes handles)) forward
read_onward below moment p bytes handles (Ok found) e forward f =
    request_onward below (asker_of moment.bound found.0 (object_of found.1)) moment.room moment.tree found.1 (request_act moment found.1).answer handles (weight_of (message bytes handles)) refl
    (act_answers (context_at moment) found.1).0 (carries below.spelled p bytes handles found.0 found.1 e) (request_weighs below p bytes handles found.0 found.1 e) forward f
read_onward below moment p bytes handles (Err fault) e forward f = none_onward (asker_of moment.bound (fault_txid fault) 0) (fault_answer fault) (no_forward fault) forward f where
  no_forward : (x : RequestFault) (mount flags : ℕ) (rest : List (List ℕ)) → fault_answer x ≡ forwards mount flags rest → ⊥
  no_forward (Malformed why) m fl r is = cc
  no_forward UnknownStrict m fl r is = cc
  no_forward UnknownOneWay m fl r is = cc
  no_forward (UnknownTwoWay txid ordinal) m fl r is = cc

message_onward : Below → (moment : Moment) (bytes handles : List ℕ) (p : Protocol) (forward : Forwarded) → (outcome_of_message moment p bytes handles).forward ≡ Some forward → IsLighter (weight_of (message bytes handles)) forward
message_onward below moment bytes handles protocol.Watcher forward e = absurd (cc)
message_onward below moment bytes handles protocol.Directory forward e = read_onward below moment protocol.Directory bytes handles _ refl forward e
message_onward below moment bytes handles protocol.File forward e = read_onward below moment protocol.File bytes handles _ refl forward e
message_onward below moment bytes handles protocol.Node forward e = read_onward below moment protocol.Node bytes handles _ refl forward e
message_onward below moment bytes handles protocol.Echo forward e = read_onward below moment protocol.Echo bytes handles _ refl forward e

pub sending_goes : Below → (moment : Moment) (sending : Sending) (forward : Forwarded) → (outcome_of_sending moment sending).forward ≡ Some forward → IsLighter (weight_of sending) forward
unfolding outcome_of_sending
sending_goes below moment (message bytes handles) forward e = message_onward below moment bytes handles moment.bound.birth.protocol forward e
sending_goes below moment hang_up forward e = absurd (cc)
