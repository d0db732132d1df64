-- A serving never takes more places than were left for what waited.
use Rattle.std.proofs.Common.{◌≡◌, ℕ, ◌+◌, ◌*◌, ◌<◌, ◌≤◌, ◌==◌, Bool, true, false, not, is_some, if◌then◌else◌, List, [], ◌∷◌, ◌++◌, length, Option, Some, None, Ok, Err, All, filter, Contains, sum_by, refl, ap, ◌∙◌, subst, length-append, arith}
use Rattle.std.specs.List.{join_with_byte}
use Rattle.std.proofs.lemmas.Bool.{eq-eqb}
use Rattle.std.proofs.lemmas.List.Elements.{All-head, All-tail}
use Rattle.std.proofs.lemmas.List.Filters.{sum_by-filter_both}
use Rattle.std.proofs.lemmas.List.Sums.{sum_by-append, get_or-le-sum_by}
use Rattle.link_admission.specs.Numbering.{among}
use Rattle.io_messages.specs.Asked as asks
use Rattle.io_messages.specs.declared.protocols.Protocol.TheVariants as protocol
use Rattle.io_messages.specs.declared.protocols.Protocol.{Protocol}
use Rattle.node_graph.specs.Tree.{Tree}
use Rattle.path_walk.specs.Names.{IsName, slash}
use Rattle.path_walk.specs.Paths.{IsPath, names_of, path_fault, text_of}
use Rattle.path_walk.specs.declared.faults.PathFault.{PathFault}
use Rattle.path_walk.proofs.NameLemmas.{name-some}
use Rattle.vfs_journal.specs.Entries.{Sent, Sending, Journal, message, hang_up}
use Rattle.vfs_journal.specs.Outcomes.{Forwarded}
use Rattle.conn_rules.specs.Onward.{onward_bytes}
use Rattle.vfs_journal.specs.Past.{history_of}
use Rattle.vfs_journal.specs.Serving.{Read, read_by, outcome_of}
use Rattle.vfs_journal.specs.Session.{head}
use Rattle.vfs_journal.specs.Starts.{Start}
use Rattle.vfs_journal.specs.Lawful.{Lawful}
use Rattle.vfs_journal.specs.View.{View, deaths_in, event_in, head_in, onward_in, onward_sent, others_in, outcome_in, sending_in, serving_in, then_in}
use Rattle.journal_laws.specs.Soundness.{IsStart}
use Rattle.journal_laws.specs.Viewing.{view_behind}
use Rattle.journal_laws.proofs.Among.{carried_is}
use Rattle.journal_laws.proofs.Below.{Below}
use Rattle.journal_laws.proofs.Kept.{GoesRight, is_serving, goes_right, client_low, lawful_kept}
use Rattle.journal_laws.proofs.LookedUp.{is_first}
use Rattle.journal_laws.proofs.Members.{kept}
use Rattle.journal_laws.proofs.Onward.{onward_reads}
use Rattle.journal_laws.proofs.Outcomes.{IsOpened}
use Rattle.journal_laws.proofs.Requests.{opens_directory}
use Rattle.journal_laws.proofs.Stepping.{stepped}
use Rattle.journal_laws.proofs.ViewParts.{head_is_in, outcome_is_in}
use Rattle.journal_laws.proofs.Views.{is_view}
use Rattle.vfs_world.specs.Places.{names_left, names_read, places_left}

-- ---- a path has few names

joined_long : (name : List ℕ) (names : List (List ℕ)) → All IsName (name ∷ names) → 2 * length (name ∷ names) ≤ length (join_with_byte slash (name ∷ names)) + 1
joined_long name [] valid = let some = name-some name (All-head IsName name [] valid) in omega arith
joined_long name (next ∷ names) valid =
    let some = name-some name (All-head IsName name (next ∷ names) valid) in
    let rest = joined_long next names (All-tail IsName name (next ∷ names) valid) in
    let long : length (name ++ slash ∷ join_with_byte slash (next ∷ names)) ≡ length name + length (slash ∷ join_with_byte slash (next ∷ names)) = length-append name (slash ∷ join_with_byte slash (next ∷ names)) in
    omega arith

text_long : (names : List (List ℕ)) → All IsName names → 2 * length names ≤ length (text_of names) + 1
unfolding text_of
text_long [] valid = omega arith
text_long (name ∷ names) valid = joined_long name names valid

path_few : (text : List ℕ) (names : List (List ℕ)) → IsPath text names → length names ≤ 2048
path_few text names path =
    let long = text_long names path.valid in
    let same = ap length path.spelled in
    let short = path.short in
    omega arith

none_is : {X : Type 0} (o : Option X) → is_some o ≡ false → o ≡ None
none_is None e = refl
none_is (Some x) e = absurd (cc)

open_few : Below → (path : List ℕ) (b : Bool) → is_some (path_fault path) ≡ b → (if b then 0 else length (names_of path)) ≤ 2048
open_few below path true e = omega arith
open_few below path false e = path_few path (names_of path) (below.sound path (none_is (path_fault path) e))

read_few : Below → (r : Read) → names_read r ≤ 2048
read_few below (Ok (txid, asks.open_path path flags attributes object)) = open_few below path (is_some (path_fault path)) refl
read_few below (Ok (txid, _)) = omega arith
read_few below (Err fault) = omega arith

pub few_left : Below → (sending : Sending) → names_left sending ≤ 2048
few_left below (message bytes handles) = read_few below (read_by protocol.Directory bytes handles)
few_left below hang_up = omega arith

-- ---- what entries can take

abbrev takes : Sent → ℕ
takes one = 1 + 2 * names_left one.sending

member_takes : (ones : List Sent) (one : Sent) → Contains ones one → takes one ≤ sum_by takes ones
member_takes ones one h = subst (λ (x : Sent). takes x ≤ sum_by takes ones) h.2 (get_or-le-sum_by takes ones h.0 one h.1)

filter_takes : (p : Sent → Bool) (ones : List Sent) → sum_by takes (filter p ones) ≤ sum_by takes ones
filter_takes p ones = let both = sum_by-filter_both p (λ one. not (p one)) (λ one. refl) takes ones in omega arith

not-not : (b : Bool) → b ≡ not (not b)
not-not true = refl
not-not false = refl

others_take : (view : View) (sent : Sent) → Contains view.waiting sent → sum_by takes (others_in view sent) + takes sent ≤ places_left view
others_take view sent h =
    let both = sum_by-filter_both (λ other. not (other.place == sent.place)) (λ other. other.place == sent.place) (λ other. not-not (other.place == sent.place)) takes view.waiting in
    let own = member_takes (filter (λ other. other.place == sent.place) view.waiting) sent (kept (λ other. other.place == sent.place) view.waiting sent h (eq-eqb sent.place sent.place refl)) in
    omega arith

served_takes : (view : View) (sent : Sent) → Contains view.waiting sent → places_left (serving_in view sent (event_in view sent)) + takes sent ≤ places_left view
served_takes view sent h =
    let left = filter_takes (λ other. not (among other.endpoint (deaths_in view sent))) (others_in view sent) in
    let rest = others_take view sent h in
    omega arith

pub sending_takes : (view : View) (new : Sent) → places_left (sending_in view new) ≡ places_left view + (1 + 2 * names_left new.sending)
sending_takes view new =
    let both = sum_by-append takes view.waiting (new ∷ []) in
    omega arith

-- ---- what goes on has fewer names left

good_names : (path : List ℕ) (f : Option PathFault) → f ≡ None → (if is_some f then 0 else length (names_of path)) ≡ length (names_of path)
good_names path None e = refl
good_names path (Some fault) e = absurd (cc)

onward_names : Below → (flags : ℕ) (rest : List (List ℕ)) (object : ℕ) (bytes : List ℕ) → GoesRight flags rest → object < 0x80000000 → bytes ≡ onward_bytes flags rest object → names_left (message bytes (object ∷ [])) ≡ length rest
onward_names below flags rest object bytes right low is =
    let complete = below.complete (text_of rest) rest right.path in
    ap (λ bs. names_read (read_by protocol.Directory bs (object ∷ []))) is
    ∙ ap names_read (onward_reads below flags rest object right.path right.small low)
    ∙ good_names (text_of rest) (path_fault (text_of rest)) complete.0
    ∙ ap length complete.1

open_names : Below → (k : Sent) (tree : Tree) (p : Protocol) (f : Forwarded) → (on : IsOpened tree p k.sending f) → names_left k.sending ≡ length (names_of on.path)
open_names below k tree p f on =
    ap names_left on.sent
    ∙ ap names_read (opens_directory below.spelled below.reads below.apart p on.bytes on.handles on.txid on.path on.word on.given f.object on.read)
    ∙ good_names on.path (path_fault on.path) on.onward.good

forward_names : Below → (start : Start) (journal : Journal) (k : Sent) (f : Forwarded) → IsStart start → Lawful start journal → head start (history_of start journal) k.endpoint ≡ Some k →
    (outcome_of start (history_of start journal) k).forward ≡ Some f → names_left (message f.bytes (f.object ∷ [])) < names_left k.sending
forward_names below start journal k f s lawful h e =
    let history = history_of start journal in
    let steps = stepped start journal lawful in
    let past = lawful_kept below start s journal lawful in
    let serving' = is_serving below start journal k s steps past.sound h in
    let on = serving'.parts.goes_on f e in
    let right = goes_right below start history k f s past.sound (is_view start journal steps) serving' e in
    let low = client_low f.object (carried_is k f.object (serving'.answered.goes_on f e).0).0 in
    let new = onward_names below on.flags on.rest f.object f.bytes right (omega arith) on.bytes_are in
    let old = open_names below k _ _ f on in
    let split = ap length on.onward.walked.split ∙ length-append on.onward.walked.front on.rest in
    let some = on.onward.walked.some in
    omega arith

-- ---- a serving

onward_takes : (view mid : View) (sent : Sent) (o : Option Forwarded) → mid.places ≡ view.places + 1 → places_left mid + takes sent ≤ places_left view →
    ((f : Forwarded) → o ≡ Some f → names_left (message f.bytes (f.object ∷ [])) < names_left sent.sending) →
    (onward_in mid sent o).places + places_left (onward_in mid sent o) ≤ view.places + places_left view
onward_takes view mid sent None at less fewer = omega arith
onward_takes view mid sent (Some f) at less fewer =
    let more = sending_takes mid (onward_sent mid.places sent f) in
    let few = fewer f refl in
    omega arith

pub serving_takes : Below → (start : Start) (journal : Journal) (sent : Sent) → IsStart start → Lawful start journal → head_in (view_behind start journal) sent.endpoint ≡ Some sent →
    (then_in (view_behind start journal) sent).places + places_left (then_in (view_behind start journal) sent)
    ≤ (view_behind start journal).places + places_left (view_behind start journal)
serving_takes below start journal sent s lawful h =
    let view = view_behind start journal in
    let past = history_of start journal in
    let first = head_is_in start past sent.endpoint ∙ h in
    onward_takes view (serving_in view sent (event_in view sent)) sent (outcome_in view sent).forward refl (served_takes view sent (is_first view sent h).waits)
    (λ f e. forward_names below start journal sent f s lawful first (ap (λ o. o.forward) (outcome_is_in start past sent) ∙ e))
