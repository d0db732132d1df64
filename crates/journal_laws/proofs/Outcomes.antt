-- What the outcome of a serving has: what it ends, binds, forwards and gives.
use Rattle.std.proofs.Common.{◌≡◌, ℕ, ◌+◌, ◌≤◌, ◌==◌, ◌||◌, ◌⊎◌, Bool, true, false, if◌then◌else◌, List, [], ◌∷◌, length, nat_le, Option, Some, None, Ok, Err, refl, sym, ap, ◌∙◌, subst, inl, inr, arith}
use Rattle.std.proofs.lemmas.Bool.{eqb-true}
use Rattle.fidl_names.specs.declared.limits.TheConstants as limit
use Rattle.link_admission.specs.Numbering.{among}
use Rattle.io_messages.specs.declared.protocols.Protocol.{Protocol}
use Rattle.io_messages.specs.declared.protocols.Protocol.TheVariants as protocol
use Rattle.io_messages.specs.declared.requests.RequestFault.TheVariants.{Malformed, UnknownStrict, UnknownOneWay, UnknownTwoWay}
use Rattle.io_messages.specs.Asked.{Asked}
use Rattle.io_messages.specs.Asked as asks
use Rattle.io_messages.specs.Replies.{Answered}
use Rattle.io_messages.specs.Replies as answered
use Rattle.node_graph.specs.Tree.{Tree}
use Rattle.fidl_names.specs.HandleNumber.{end_of_mount}
use Rattle.conn_rules.specs.declared.births.Room.{Room}
use Rattle.conn_rules.specs.Answers.{Answer, replies, closes, binds, watches, forwards, refuses, ends, hangs_up, silent}
use Rattle.vfs_journal.specs.Entries.{Sent, Sending, message, hang_up, handles_of}
use Rattle.vfs_journal.specs.History.{History, bound_at, trees_of, tree_at}
use Rattle.vfs_journal.specs.Outcomes.{Asker, Forwarded, Given, Outcome, bound_of, forward_of, ends_of, token_of}
use Rattle.conn_rules.specs.Onward.{onward_bytes}
use Rattle.vfs_journal.specs.Serving.{context_at, Read, Moment, moment_of, read_by, object_of, asker_of, request_act, outcome_of_read, outcome_of_message, outcome_of_sending, outcome_at, outcome_of}
use Rattle.vfs_journal.specs.Starts.{Bound, Start}
use Rattle.vfs_journal.specs.Tokens.{next_token, tokens_out, all_given}
use Rattle.journal_laws.proofs.Acts.{IsAnswer, IsReply, IsNoToken, IsClone, IsWatch, IsToken, IsClose, IsOpenAnswer, GoesOn, KeepsMounts, act_answers}
use Rattle.journal_laws.proofs.Below.{Below}
use Rattle.journal_laws.proofs.Requests.{Carries, IsCarried, carries}

-- what goes on is an Open that was read, whose walk crosses a mount of this tree; it carries the same endpoint, and nothing else happens
pub record IsOpened (tree : Tree) (p : Protocol) (sending : Sending) (forward : Forwarded) : Type 0 where
  pub bytes : List ℕ
  pub handles : List ℕ
  pub path : List ℕ
  pub txid : ℕ
  pub word : ℕ
  pub mount : ℕ
  pub flags : ℕ
  pub given : Option ℕ
  pub rest : List (List ℕ)
  pub sent : sending ≡ message bytes handles
  pub read : read_by p bytes handles ≡ Ok (txid, asks.open_path path word given forward.object)
  pub onward : GoesOn tree path word mount flags rest
  pub to : forward.endpoint ≡ end_of_mount mount
  pub bytes_are : forward.bytes ≡ onward_bytes flags rest forward.object
  pub carried : IsCarried forward.object handles

-- an outcome's parts, of the sending that is served on a bound endpoint
pub record HasParts (next : Option ℕ) (tree : Tree) (bound : Bound) (sending : Sending) (ended : List ℕ) (new : Option Bound) (forward : Option Forwarded) (token : Option Given) : Type 0 where
  pub ends_in : (n : ℕ) → among n ended ≡ true → (n ≡ bound.endpoint) ⊎ IsCarried n (handles_of sending)
  pub bound_in : (x : Bound) → new ≡ Some x → IsCarried x.endpoint (handles_of sending)
  pub goes_on : (f : Forwarded) → forward ≡ Some f → IsOpened tree bound.birth.protocol sending f
  pub alone : (f : Forwarded) → forward ≡ Some f → (ended ≡ []) × (new ≡ None)
  pub token_next : (g : Given) → token ≡ Some g → next ≡ Some g.token

abbrev pub IsOutcome : Option ℕ → Tree → Bound → Sending → Outcome → Type 0
IsOutcome next tree bound sending outcome = HasParts next tree bound sending outcome.ends outcome.bound outcome.forward outcome.token × KeepsMounts outcome.change

abbrev Answers : Option ℕ → Tree → Bound → Sending → Asker → Answer → Type 0
Answers next tree bound sending asker answer = HasParts next tree bound sending (ends_of asker answer) (bound_of asker answer) (forward_of asker answer) (token_of asker answer)

among_one : (n m : ℕ) → among n (m ∷ []) ≡ true → n ≡ m
among_one n m h = by_test (m == n) refl h where
  by_test : (b : Bool) → (m == n) ≡ b → (b || false) ≡ true → n ≡ m
  by_test true is h = sym (eqb-true m n is)
  by_test false is h = absurd (cc)

-- nothing is ended, bound, forwarded or given
nothing_done : (next : Option ℕ) (tree : Tree) (bound : Bound) (sending : Sending) → HasParts next tree bound sending [] None None None
nothing_done next tree bound sending = record {
  ends_in = λ n h. absurd (cc);
  bound_in = λ x h. absurd (cc);
  goes_on = λ f h. absurd (cc);
  alone = λ f h. absurd (cc);
  token_next = λ g h. absurd (cc);
}

-- the endpoint that is served is ended
own_ended : (next : Option ℕ) (tree : Tree) (bound : Bound) (sending : Sending) → HasParts next tree bound sending (bound.endpoint ∷ []) None None None
own_ended next tree bound sending = record {
  ends_in = λ n h. inl (among_one n bound.endpoint h);
  bound_in = λ x h. absurd (cc);
  goes_on = λ f h. absurd (cc);
  alone = λ f h. absurd (cc);
  token_next = λ g h. absurd (cc);
}

-- the endpoint that is carried is ended, or bound
carried_ended : (next : Option ℕ) (tree : Tree) (bound : Bound) (sending : Sending) (object : ℕ) → IsCarried object (handles_of sending) → HasParts next tree bound sending (object ∷ []) None None None
carried_ended next tree bound sending object c = record {
  ends_in = λ n h. inr (subst (λ (m : ℕ). IsCarried m (handles_of sending)) (sym (among_one n object h)) c);
  bound_in = λ x h. absurd (cc);
  goes_on = λ f h. absurd (cc);
  alone = λ f h. absurd (cc);
  token_next = λ g h. absurd (cc);
}

carried_bound : (next : Option ℕ) (tree : Tree) (bound : Bound) (sending : Sending) (new : Bound) → IsCarried new.endpoint (handles_of sending) → HasParts next tree bound sending [] (Some new) None None
carried_bound next tree bound sending new c = record {
  ends_in = λ n h. absurd (cc);
  bound_in = λ x h. let same : new ≡ x = cc in subst (λ (b : Bound). IsCarried b.endpoint (handles_of sending)) same c;
  goes_on = λ f h. absurd (cc);
  alone = λ f h. absurd (cc);
  token_next = λ g h. absurd (cc);
}

reply_parts : (next : Option ℕ) (tree : Tree) (bound : Bound) (sending : Sending) (asker : Asker) (a : Answered) → IsNoToken a → Answers next tree bound sending asker (replies a)
reply_parts next tree bound sending asker (answered.token n) h = absurd h
reply_parts next tree bound sending asker (answered.done m) h = nothing_done next tree bound sending
reply_parts next tree bound sending asker (answered.fails m s) h = nothing_done next tree bound sending
reply_parts next tree bound sending asker (answered.counted m x) h = nothing_done next tree bound sending
reply_parts next tree bound sending asker (answered.payload m bytes) h = nothing_done next tree bound sending
reply_parts next tree bound sending asker (answered.settled m) h = nothing_done next tree bound sending
reply_parts next tree bound sending asker (answered.attributes a) h = nothing_done next tree bound sending
reply_parts next tree bound sending asker (answered.unknown ordinal) h = nothing_done next tree bound sending

plain_parts : (next : Option ℕ) (tree : Tree) (bound : Bound) (sending : Sending) (asker : Asker) (answer : Answer) → IsReply answer → Answers next tree bound sending asker answer
plain_parts next tree bound sending asker (replies a) h = reply_parts next tree bound sending asker a h
plain_parts next tree bound sending asker closes h = absurd h
plain_parts next tree bound sending asker (binds birth announced) h = absurd h
plain_parts next tree bound sending asker (watches mask) h = absurd h
plain_parts next tree bound sending asker (forwards mount flags rest) h = absurd h
plain_parts next tree bound sending asker (refuses status) h = absurd h
plain_parts next tree bound sending asker (ends status) h = absurd h
plain_parts next tree bound sending asker hangs_up h = absurd h
plain_parts next tree bound sending asker silent h = absurd h

clone_parts : (next : Option ℕ) (tree : Tree) (bound : Bound) (sending : Sending) (asker : Asker) (answer : Answer) → IsCarried asker.object (handles_of sending) → IsClone answer → Answers next tree bound sending asker answer
clone_parts next tree bound sending asker (binds birth announced) c h = carried_bound next tree bound sending _ c
clone_parts next tree bound sending asker (refuses status) c h = carried_ended next tree bound sending asker.object c
clone_parts next tree bound sending asker (replies a) c h = absurd h
clone_parts next tree bound sending asker closes c h = absurd h
clone_parts next tree bound sending asker (watches mask) c h = absurd h
clone_parts next tree bound sending asker (forwards mount flags rest) c h = absurd h
clone_parts next tree bound sending asker (ends status) c h = absurd h
clone_parts next tree bound sending asker hangs_up c h = absurd h
clone_parts next tree bound sending asker silent c h = absurd h

watch_parts : (next : Option ℕ) (tree : Tree) (bound : Bound) (sending : Sending) (asker : Asker) (answer : Answer) → IsCarried asker.object (handles_of sending) → IsWatch answer → Answers next tree bound sending asker answer
watch_parts next tree bound sending asker (watches mask) c h = carried_bound next tree bound sending _ c
watch_parts next tree bound sending asker (replies a) c h = reply_parts next tree bound sending asker a h
watch_parts next tree bound sending asker (binds birth announced) c h = absurd h
watch_parts next tree bound sending asker (refuses status) c h = absurd h
watch_parts next tree bound sending asker closes c h = absurd h
watch_parts next tree bound sending asker (forwards mount flags rest) c h = absurd h
watch_parts next tree bound sending asker (ends status) c h = absurd h
watch_parts next tree bound sending asker hangs_up c h = absurd h
watch_parts next tree bound sending asker silent c h = absurd h

close_parts : (next : Option ℕ) (tree : Tree) (bound : Bound) (sending : Sending) (asker : Asker) (answer : Answer) → asker.endpoint ≡ bound.endpoint → IsClose answer → Answers next tree bound sending asker answer
close_parts next tree bound sending asker closes e h = subst (λ (n : ℕ). HasParts next tree bound sending (n ∷ []) None None None) (sym e) (own_ended next tree bound sending)
close_parts next tree bound sending asker (replies a) e h = reply_parts next tree bound sending asker a h
close_parts next tree bound sending asker (binds birth announced) e h = absurd h
close_parts next tree bound sending asker (watches mask) e h = absurd h
close_parts next tree bound sending asker (refuses status) e h = absurd h
close_parts next tree bound sending asker (forwards mount flags rest) e h = absurd h
close_parts next tree bound sending asker (ends status) e h = absurd h
close_parts next tree bound sending asker hangs_up e h = absurd h
close_parts next tree bound sending asker silent e h = absurd h

token_given : (next : Option ℕ) (tree : Tree) (bound : Bound) (sending : Sending) (given : Given) → next ≡ Some given.token → HasParts next tree bound sending [] None None (Some given)
token_given next tree bound sending given is = record {
  ends_in = λ n h. absurd (cc);
  bound_in = λ x h. absurd (cc);
  goes_on = λ f h. absurd (cc);
  alone = λ f h. absurd (cc);
  token_next = λ g h. let same : given ≡ g = cc in subst (λ (x : Given). next ≡ Some x.token) same is;
}

token_parts : (next : Option ℕ) (tree : Tree) (bound : Bound) (sending : Sending) (asker : Asker) (answer : Answer) → IsToken next answer → Answers next tree bound sending asker answer
token_parts next tree bound sending asker (replies (answered.token n)) h = token_given next tree bound sending _ h
token_parts next tree bound sending asker (replies (answered.done m)) h = nothing_done next tree bound sending
token_parts next tree bound sending asker (replies (answered.fails m s)) h = nothing_done next tree bound sending
token_parts next tree bound sending asker (replies (answered.counted m x)) h = nothing_done next tree bound sending
token_parts next tree bound sending asker (replies (answered.payload m bytes)) h = nothing_done next tree bound sending
token_parts next tree bound sending asker (replies (answered.settled m)) h = nothing_done next tree bound sending
token_parts next tree bound sending asker (replies (answered.attributes a)) h = nothing_done next tree bound sending
token_parts next tree bound sending asker (replies (answered.unknown ordinal)) h = nothing_done next tree bound sending
token_parts next tree bound sending asker closes h = absurd h
token_parts next tree bound sending asker (binds birth announced) h = absurd h
token_parts next tree bound sending asker (watches mask) h = absurd h
token_parts next tree bound sending asker (refuses status) h = absurd h
token_parts next tree bound sending asker (forwards mount flags rest) h = absurd h
token_parts next tree bound sending asker (ends status) h = absurd h
token_parts next tree bound sending asker hangs_up h = absurd h
token_parts next tree bound sending asker silent h = absurd h

-- ---- an Open

open_parts : (next : Option ℕ) (tree : Tree) (bound : Bound) (bytes handles : List ℕ) (txid : ℕ) (path : List ℕ) (word : ℕ) (given : Option ℕ) (object : ℕ) (answer : Answer) →
    read_by bound.birth.protocol bytes handles ≡ Ok (txid, asks.open_path path word given object) → IsCarried object handles → IsOpenAnswer tree path word answer →
    Answers next tree bound (message bytes handles) (asker_of bound txid object) answer
open_parts next tree bound bytes handles txid path word given object (binds birth announced) read c h = carried_bound next tree bound (message bytes handles) _ c
open_parts next tree bound bytes handles txid path word given object (refuses status) read c h = carried_ended next tree bound (message bytes handles) object c
open_parts next tree bound bytes handles txid path word given object (forwards mount flags rest) read c h = record {
  ends_in = λ n h. absurd (cc);
  bound_in = λ x h. absurd (cc);
  goes_on = λ f e.
      let is : record { endpoint = end_of_mount mount; bytes = onward_bytes flags rest object; object = object } ≡ f = cc in
      subst (λ (x : Forwarded). IsOpened tree bound.birth.protocol (message bytes handles) x) is
      (record {
        bytes = bytes;
        handles = handles;
        path = path;
        txid = txid;
        word = word;
        mount = mount;
        flags = flags;
        given = given;
        rest = rest;
        sent = refl;
        read = read;
        onward = h;
        to = refl;
        bytes_are = refl;
        carried = c;
      });
  alone = λ f e. (refl, refl);
  token_next = λ g h. absurd (cc);
}
open_parts next tree bound bytes handles txid path word given object (replies a) read c h = absurd h
open_parts next tree bound bytes handles txid path word given object closes read c h = absurd h
open_parts next tree bound bytes handles txid path word given object (watches mask) read c h = absurd h
open_parts next tree bound bytes handles txid path word given object (ends status) read c h = absurd h
open_parts next tree bound bytes handles txid path word given object hangs_up read c h = absurd h
open_parts next tree bound bytes handles txid path word given object silent read c h = absurd h

-- it ends nothing but what it carries
open_ends : (tree : Tree) (bound : Bound) (handles : List ℕ) (txid : ℕ) (path : List ℕ) (word object : ℕ) (answer : Answer) → IsCarried object handles → IsOpenAnswer tree path word answer →
    (n : ℕ) → among n (ends_of (asker_of bound txid object) answer) ≡ true → IsCarried n handles
open_ends tree bound handles txid path word object (refuses status) c h n e = subst (λ (m : ℕ). IsCarried m handles) (sym (among_one n object e)) c
open_ends tree bound handles txid path word object (binds birth announced) c h n e = absurd (cc)
open_ends tree bound handles txid path word object (forwards mount flags rest) c h n e = absurd (cc)
open_ends tree bound handles txid path word object (replies a) c h n e = absurd h
open_ends tree bound handles txid path word object closes c h n e = absurd h
open_ends tree bound handles txid path word object (watches mask) c h n e = absurd h
open_ends tree bound handles txid path word object (ends status) c h n e = absurd h
open_ends tree bound handles txid path word object hangs_up c h n e = absurd h
open_ends tree bound handles txid path word object silent c h n e = absurd h

-- ---- every sending

request_parts : (tree : Tree) (room : Room) (bound : Bound) (bytes handles : List ℕ) (txid : ℕ) (a : Asked) (answer : Answer) →
    read_by bound.birth.protocol bytes handles ≡ Ok (txid, a) → Carries a handles → IsAnswer room tree a answer →
    Answers room.token tree bound (message bytes handles) (asker_of bound txid (object_of a)) answer
request_parts tree room bound bytes handles txid (asks.clone endpoint) answer read c h = clone_parts room.token tree bound (message bytes handles) (asker_of bound txid endpoint) answer c h
request_parts tree room bound bytes handles txid asks.close answer read c h = close_parts room.token tree bound (message bytes handles) (asker_of bound txid 0) answer refl h
request_parts tree room bound bytes handles txid (asks.open_path path word given object) answer read c h = open_parts room.token tree bound bytes handles txid path word given object answer read c h
request_parts tree room bound bytes handles txid (asks.watch mask options watcher) answer read c h = watch_parts room.token tree bound (message bytes handles) (asker_of bound txid watcher) answer c h
request_parts tree room bound bytes handles txid asks.get_token answer read c h = token_parts room.token tree bound (message bytes handles) (asker_of bound txid 0) answer h
request_parts tree room bound bytes handles txid _ answer read c h = plain_parts room.token tree bound (message bytes handles) (asker_of bound txid 0) answer h

read_outcome : Below → (moment : Moment) (bytes handles : List ℕ) → (r : Read) → read_by moment.bound.birth.protocol bytes handles ≡ r →
    IsOutcome moment.room.token moment.tree moment.bound (message bytes handles) (outcome_of_read moment r)
read_outcome below moment bytes handles (Ok (txid, a)) read =
    let act = act_answers (context_at moment) a in
    (request_parts moment.tree moment.room moment.bound bytes handles txid a (request_act moment a).answer read (carries below.spelled moment.bound.birth.protocol bytes handles txid a read) act.0, act.1)
read_outcome below moment bytes handles (Err (Malformed fault)) read = (own_ended moment.room.token moment.tree moment.bound (message bytes handles), tt)
read_outcome below moment bytes handles (Err UnknownStrict) read = (own_ended moment.room.token moment.tree moment.bound (message bytes handles), tt)
read_outcome below moment bytes handles (Err UnknownOneWay) read = (nothing_done moment.room.token moment.tree moment.bound (message bytes handles), tt)
read_outcome below moment bytes handles (Err (UnknownTwoWay txid ordinal)) read = (nothing_done moment.room.token moment.tree moment.bound (message bytes handles), tt)

message_outcome : Below → (moment : Moment) (bytes handles : List ℕ) → (p : Protocol) → moment.bound.birth.protocol ≡ p →
    IsOutcome moment.room.token moment.tree moment.bound (message bytes handles) (outcome_of_message moment p bytes handles)
message_outcome below moment bytes handles protocol.Watcher is = (nothing_done moment.room.token moment.tree moment.bound (message bytes handles), tt)
message_outcome below moment bytes handles protocol.Directory is = read_outcome below moment bytes handles (read_by protocol.Directory bytes handles) (ap (λ (p : Protocol). read_by p bytes handles) is)
message_outcome below moment bytes handles protocol.File is = read_outcome below moment bytes handles (read_by protocol.File bytes handles) (ap (λ (p : Protocol). read_by p bytes handles) is)
message_outcome below moment bytes handles protocol.Node is = read_outcome below moment bytes handles (read_by protocol.Node bytes handles) (ap (λ (p : Protocol). read_by p bytes handles) is)
message_outcome below moment bytes handles protocol.Echo is = read_outcome below moment bytes handles (read_by protocol.Echo bytes handles) (ap (λ (p : Protocol). read_by p bytes handles) is)

sending_outcome : Below → (moment : Moment) (sending : Sending) → IsOutcome moment.room.token moment.tree moment.bound sending (outcome_of_sending moment sending)
unfolding outcome_of_sending
sending_outcome below moment (message bytes handles) = message_outcome below moment bytes handles moment.bound.birth.protocol refl
sending_outcome below moment hang_up = (own_ended moment.room.token moment.tree moment.bound hang_up, tt)

-- the next token is a token's number
pub token_is_high : (past : History) (n : ℕ) → next_token past ≡ Some n → 0x80000000 ≤ n
token_is_high past n e = by_test (nat_le limit.MAX_TOKENS (length (tokens_out past)) || nat_le 0x80000000 (length (all_given past))) e where
  by_test : (b : Bool) → (if b then None else Some (limit.FIRST_TOKEN + length (all_given past))) ≡ Some n → 0x80000000 ≤ n
  by_test true e = absurd (cc)
  by_test false e = let same : limit.FIRST_TOKEN + length (all_given past) ≡ n = cc in omega arith

pub outcome_is : Below → (start : Start) (past : History) (one : Sent) (bound : Bound) → bound_at start past one.endpoint ≡ Some bound →
    IsOutcome (next_token past) (tree_at (trees_of start past) bound.server) bound one.sending (outcome_of start past one)
outcome_is below start past one bound is =
    subst (λ (o : Option Bound). IsOutcome (next_token past) (tree_at (trees_of start past) bound.server) bound one.sending (outcome_at start past one o)) (sym is)
    (sending_outcome below (moment_of start past bound) one.sending)

-- where an Open is read by a directory connection, nothing ends but what it carries
opened_by : Below → (moment : Moment) (bytes handles : List ℕ) (txid : ℕ) (path : List ℕ) (word : ℕ) (given : Option ℕ) (object : ℕ) (r : Read) → r ≡ Ok (txid, asks.open_path path word given object) →
    IsCarried object handles → (n : ℕ) → among n (outcome_of_read moment r).ends ≡ true → IsCarried n handles
opened_by below moment bytes handles txid path word given object r is c =
    subst (λ (x : Read). (n : ℕ) → among n (outcome_of_read moment x).ends ≡ true → IsCarried n handles) (sym is)
    (open_ends moment.tree moment.bound handles txid path word object (request_act moment (asks.open_path path word given object)).answer c
    (act_answers (context_at moment) (asks.open_path path word given object)).0)

pub opened_ends : Below → (start : Start) (past : History) (one : Sent) (bound : Bound) (bytes handles : List ℕ) (txid : ℕ) (path : List ℕ) (word : ℕ) (given : Option ℕ) (object : ℕ) →
    bound_at start past one.endpoint ≡ Some bound → bound.birth.protocol ≡ protocol.Directory → one.sending ≡ message bytes handles →
    read_by protocol.Directory bytes handles ≡ Ok (txid, asks.open_path path word given object) → IsCarried object handles →
    (n : ℕ) → among n (outcome_of start past one).ends ≡ true → IsCarried n handles
unfolding outcome_of_sending
opened_ends below start past one bound bytes handles txid path word given object at directory sent read c =
    let moment = moment_of start past bound in
    let whole : outcome_of start past one ≡ outcome_of_read moment (read_by protocol.Directory bytes handles) =
    ap (λ (o : Option Bound). outcome_at start past one o) at
    ∙ ap (λ (s : Sending). outcome_of_sending moment s) sent
    ∙ ap (λ (p : Protocol). outcome_of_message moment p bytes handles) directory in
    subst (λ (o : Outcome). (n : ℕ) → among n o.ends ≡ true → IsCarried n handles) (sym whole)
    (opened_by below moment bytes handles txid path word given object (read_by protocol.Directory bytes handles) read c)
