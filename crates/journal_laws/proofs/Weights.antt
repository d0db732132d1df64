-- Each serving lowers the sum of the weights of what waits.
use Rattle.std.proofs.Common.{◌≡◌, ℕ, ◌+◌, ◌<◌, ◌≤◌, ◌==◌, Bool, true, false, not, if◌then◌else◌, List, [], ◌∷◌, length, Option, Some, None, Ok, Err, filter, Contains, sum_by, refl, ap, ◌∙◌, subst, length-append, arith}
use Rattle.std.proofs.lemmas.Bool.{eq-eqb}
use Rattle.std.proofs.lemmas.List.Filters.{sum_by-filter_both}
use Rattle.std.proofs.lemmas.List.Sums.{sum_by-append, get_or-le-sum_by}
use Rattle.link_admission.specs.Numbering.{among}
use Rattle.io_messages.specs.declared.protocols.Protocol.TheVariants as protocol
use Rattle.io_messages.specs.Asked.{Asked}
use Rattle.io_messages.specs.Asked as asks
use Rattle.io_messages.specs.declared.protocols.Protocol.{Protocol}
use Rattle.node_graph.specs.Tree.{Tree}
use Rattle.path_walk.specs.Paths.{text_of, names_of}
use Rattle.vfs_journal.specs.Deaths.{others}
use Rattle.vfs_journal.specs.Entries.{Sent, Sending, Journal, message, hang_up, sends, serves}
use Rattle.vfs_journal.specs.History.{History, waiting, waits}
use Rattle.vfs_journal.specs.Outcomes.{Forwarded}
use Rattle.conn_rules.specs.Onward.{onward_bytes}
use Rattle.vfs_journal.specs.Past.{event_of, behind, history_of}
use Rattle.vfs_journal.specs.Serving.{Read, read_by, outcome_of}
use Rattle.vfs_journal.specs.Session.{head, sent_behind, with_forward, after_serving, weight, weight_of, weight_of_read}
use Rattle.journal_laws.specs.Soundness.{IsStart}
use Rattle.vfs_journal.specs.Starts.{Start}
use Rattle.journal_laws.proofs.Among.{carried_is}
use Rattle.journal_laws.proofs.Below.{Below}
use Rattle.journal_laws.proofs.Kept.{IsKept, GoesRight, is_serving, goes_right, client_low}
use Rattle.journal_laws.proofs.Members.{kept}
use Rattle.journal_laws.proofs.Onward.{onward_reads}
use Rattle.journal_laws.proofs.Outcomes.{IsOpened}
use Rattle.journal_laws.proofs.Requests.{opens_directory}
use Rattle.journal_laws.proofs.Stepping.{Stepped}
use Rattle.journal_laws.proofs.Steps.{sendings_wait_last, servings_take_effect}
use Rattle.journal_laws.proofs.Views.{is_view}

abbrev heavy : Sent → ℕ
heavy one = weight_of one.sending

-- nothing weighs nothing
read_weighs : (r : Read) → 0 < weight_of_read r
read_weighs (Ok (txid, asks.open_path path flags attributes object)) = omega arith
read_weighs (Ok (txid, _)) = omega arith
read_weighs (Err fault) = omega arith

weighs : (sending : Sending) → 0 < weight_of sending
weighs (message bytes handles) = read_weighs (read_by protocol.Directory bytes handles)
weighs hang_up = omega arith

pub member_weighs : (ones : List Sent) (one : Sent) → Contains ones one → weight_of one.sending ≤ sum_by heavy ones
member_weighs ones one h = subst (λ (x : Sent). weight_of x.sending ≤ sum_by heavy ones) h.2 (get_or-le-sum_by heavy ones h.0 one h.1)

pub something_weighs : (ones : List Sent) (one : Sent) → Contains ones one → 0 < sum_by heavy ones
something_weighs ones one h = let some = weighs one.sending in let less = member_weighs ones one h in omega arith

filter_weighs : (p : Sent → Bool) (ones : List Sent) → sum_by heavy (filter p ones) ≤ sum_by heavy ones
filter_weighs p ones = let both = sum_by-filter_both p (λ one. not (p one)) (λ one. refl) heavy ones in omega arith

not-not : (b : Bool) → b ≡ not (not b)
not-not true = refl
not-not false = refl

-- the others weigh less by what one does
others_weigh : (past : History) (k : Sent) → Contains (waiting past) k → sum_by heavy (others past k) + weight_of k.sending ≤ sum_by heavy (waiting past)
others_weigh past k h =
    let both = sum_by-filter_both (λ other. not (other.place == k.place)) (λ other. other.place == k.place) (λ other. not-not (other.place == k.place)) heavy (waiting past) in
    let own = member_weighs (filter (λ other. other.place == k.place) (waiting past)) k (kept (λ other. other.place == k.place) (waiting past) k h (eq-eqb k.place k.place refl)) in
    omega arith

served_weighs : (start : Start) (past : History) (k : Sent) → Contains (waiting past) k → weight (behind start (serves k) past) + weight_of k.sending ≤ weight past
served_weighs start past k h =
    let queue = ap (sum_by heavy) (servings_take_effect start past k).queue in
    let left = filter_weighs (λ other. not (among other.endpoint (event_of start past (serves k)).deaths)) (others past k) in
    let rest = others_weigh past k h in
    omega arith

one_weighs : (new : Sent) (b : Bool) → sum_by heavy (if b then new ∷ [] else []) ≤ weight_of new.sending
one_weighs new true = omega arith
one_weighs new false = omega arith

sent_weighs : (start : Start) (past : History) (new : Sent) → weight (behind start (sends new) past) ≤ weight past + weight_of new.sending
sent_weighs start past new =
    let queue = ap (sum_by heavy) (sendings_wait_last start past new).queue in
    let both = sum_by-append heavy (waiting past) (if waits past new then new ∷ [] else []) in
    let one = one_weighs new (waits past new) in
    omega arith

-- what goes on weighs less
onward_weighs : Below → (flags : ℕ) (rest : List (List ℕ)) (object : ℕ) (bytes : List ℕ) → GoesRight flags rest → object < 0x80000000 → bytes ≡ onward_bytes flags rest object → weight_of (message bytes (object ∷ [])) ≡ 1 + length rest
onward_weighs below flags rest object bytes right low is =
    ap (λ bs. weight_of_read (read_by protocol.Directory bs (object ∷ []))) is
    ∙ ap weight_of_read (onward_reads below flags rest object right.path right.small low)
    ∙ ap (λ names. 1 + length names) (below.complete (text_of rest) rest right.path).1

open_weighs : Below → (k : Sent) (tree : Tree) (p : Protocol) (f : Forwarded) → (on : IsOpened tree p k.sending f) → weight_of k.sending ≡ 1 + length (names_of on.path)
open_weighs below k tree p f on =
    ap weight_of on.sent
    ∙ ap weight_of_read (opens_directory below.spelled below.reads below.apart p on.bytes on.handles on.txid on.path on.word on.given f.object on.read)

forward_weighs : Below → (start : Start) (journal : Journal) (k : Sent) (f : Forwarded) → IsStart start → Stepped start journal → IsKept start journal → head start (history_of start journal) k.endpoint ≡ Some k →
    (outcome_of start (history_of start journal) k).forward ≡ Some f → weight_of (message f.bytes (f.object ∷ [])) < weight_of k.sending
forward_weighs below start journal k f s steps past h e =
    let history = history_of start journal in
    let serving' = is_serving below start journal k s steps past.sound h in
    let on = serving'.parts.goes_on f e in
    let right = goes_right below start history k f s past.sound (is_view start journal steps) serving' e in
    let low = client_low f.object (carried_is k f.object (serving'.answered.goes_on f e).0).0 in
    let new = onward_weighs below on.flags on.rest f.object f.bytes right (omega arith) on.bytes_are in
    let old = open_weighs below k _ _ f on in
    let split = ap length on.onward.walked.split ∙ length-append on.onward.walked.front on.rest in
    let some = on.onward.walked.some in
    omega arith

weighs_by : Below → (start : Start) (journal : Journal) (k : Sent) → IsStart start → Stepped start journal → IsKept start journal → head start (history_of start journal) k.endpoint ≡ Some k →
    (o : Option Forwarded) → (outcome_of start (history_of start journal) k).forward ≡ o → weight (history_of start (with_forward k.place (serves k ∷ journal) o)) < weight (history_of start journal)
unfolding history_of
weighs_by below start journal k s steps past h None e =
    let history = history_of start journal in
    let less = served_weighs start history k (is_serving below start journal k s steps past.sound h).answered.waits in
    let some = weighs k.sending in
    omega arith
weighs_by below start journal k s steps past h (Some f) e =
    let history = history_of start journal in
    let mid = behind start (serves k) history in
    let less = served_weighs start history k (is_serving below start journal k s steps past.sound h).answered.waits in
    let more = sent_weighs start mid (sent_behind (serves k ∷ journal) f.endpoint (message f.bytes (f.object ∷ [])) (Some k.place)) in
    let smaller = forward_weighs below start journal k f s steps past h e in
    omega arith

pub serving_weighs : Below → (start : Start) (journal : Journal) (k : Sent) → IsStart start → Stepped start journal → IsKept start journal → head start (history_of start journal) k.endpoint ≡ Some k →
    weight (history_of start (after_serving start journal k)) < weight (history_of start journal)
serving_weighs below start journal k s steps past h = weighs_by below start journal k s steps past h (outcome_of start (history_of start journal) k).forward refl
