-- What is known behind an admitted message or hang-up.
use Rattle.std.proofs.Common.{◌≡◌, ℕ, ◌+◌, ◌≤◌, ◌==◌, ◌&&◌, ◌||◌, Bool, true, false, cond, not, List, [], ◌∷◌, ◌++◌, length, Option, Some, None, refl, sym, ap, ◌∙◌, subst, if◌then◌else◌, arith, length-append}
use Rattle.std.specs.Prelude.{unwrap_or}
use Rattle.std.specs.List.{list_any}
use Rattle.std.proofs.lemmas.Bool.{eqb-true, or_parts, and_from, and_parts, false_from_ne_true, true≢false}
use Rattle.std.proofs.lemmas.List.Sums.{length-filter}
use Rattle.std.proofs.lemmas.List.Folds.{list_any-append}
use Rattle.std.specs.Ordering.{nat_cmp, eq_by_cmp}
use Rattle.std.specs.FinMap as map
use Rattle.std.specs.FinMap.{get-insert}
use Rattle.std.proofs.lemmas.Cmp.{nat_cmp_total}
use Rattle.std.proofs.lemmas.Bool.Decides.{nat_tests}
use Rattle.fidl_names.specs.declared.limits.TheConstants as limit
use Rattle.link_frames.specs.declared.kinds.FrameKind.{FrameKind}
use Rattle.link_frames.specs.declared.kinds.FrameKind.TheVariants as kind
use Rattle.link_admission.specs.declared.kinds.Standing.{Standing}
use Rattle.link_admission.specs.declared.kinds.Standing.TheVariants as standing
use Rattle.link_admission.specs.Admission.{admission, may_travel, Admits, AdmitsKind}
use Rattle.link_frames.specs.Frames.{Frame}
use Rattle.fidl_names.specs.HandleNumber.{is_client}
use Rattle.link_admission.specs.Numbering.{among}
use Rattle.link_admission.specs.Standings.{Known, Sends, hung_up as hung_up_in}
use Rattle.link_admission.proofs.Travelling.{unused_by, held_by as held_when}
use Rattle.vfs_journal.specs.Entries.{Sent, Sending, Journal, message, hang_up, handles_of, endpoints_in, is_hang_up, sends}
use Rattle.vfs_journal.specs.History.{History, all_sent, waiting, travelling, waits, was_served, was_carried, is_dead, is_live, is_used, hung_up, live_count}
use Rattle.journal_laws.specs.Knowing.{Knows, token_out}
use Rattle.vfs_journal.specs.Lawful.{Lawful}
use Rattle.vfs_journal.specs.Outcomes.{Given}
use Rattle.vfs_journal.specs.Past.{behind, history_of}
use Rattle.vfs_journal.specs.Session.{look_ups, sent_behind}
use Rattle.journal_laws.specs.Soundness.{IsStart}
use Rattle.vfs_journal.specs.Starts.{Start}
use Rattle.vfs_journal.specs.Tokens.{all_given, is_held, was_given, waits_with, tokens_out}
use Rattle.journal_laws.proofs.Among.{carried_is, carried_from, one_passes}
use Rattle.journal_laws.proofs.Below.{Below}
use Rattle.journal_laws.proofs.Kept.{client_low, close_admitted, lawful_kept, message_admitted, refusal_of}
use Rattle.journal_laws.proofs.KnowingAdmits.{used_where}
use Rattle.journal_laws.proofs.KnowingCount.{same_bool}
use Rattle.journal_laws.proofs.KnowingLists.{or-none}
use Rattle.journal_laws.proofs.KnowingServed.{sent_lives}
use Rattle.journal_laws.proofs.KnowingTokens.{holds_from, next_from, out_of, outs_same, token_same, token_sent}
use Rattle.journal_laws.proofs.Lists.{eqb_sym}
use Rattle.journal_laws.proofs.Sound.{view, Sound, endpoint_known}
use Rattle.journal_laws.proofs.Stepping.{stepped}
use Rattle.journal_laws.proofs.Steps.{sendings_wait_last}
use Rattle.journal_laws.proofs.Views.{sent_view, new_waits, fresh_unserved}

le_refl_of : (n : ℕ) → n ≤ n
le_refl_of n = omega arith

abbrev pub stands : Bool → Bool → Bool → Standing
stands dead live closed' = if dead then standing.Dead else if live then (if closed' then standing.HungUp else standing.Live) else standing.Unused

-- ---- one more that is sent and waits

-- what looking back says then
record IsBehind (start : Start) (now past : History) (new : Sent) : Type 0 where
  dead : (n : ℕ) → is_dead now n ≡ is_dead past n
  live : (n : ℕ) → is_live start now n ≡ (is_live start past n || among n (endpoints_in new))
  closed : (n : ℕ) → hung_up now n ≡ (hung_up past n || (is_hang_up new.sending && (new.endpoint == n)))
  carried : (n : ℕ) → was_carried now n ≡ (was_carried past n || among n (handles_of new.sending))
  given : all_given now ≡ all_given past
  queue : waiting now ≡ waiting past ++ new ∷ []
  count : live_count start now ≡ live_count start past + length (endpoints_in new)

waits_so : (past : History) (new : Sent) → was_served past new ≡ false → is_dead past new.endpoint ≡ false → waits past new ≡ true
waits_so past new unserved alive = ap (λ (b : Bool). not b && not (is_dead past new.endpoint)) unserved ∙ ap not alive

is_behind : (start : Start) (journal : Journal) (endpoint : ℕ) (sending' : Sending) → Lawful start journal → is_dead (history_of start journal) endpoint ≡ false →
    IsBehind start (history_of start (sends (sent_behind journal endpoint sending' None) ∷ journal)) (history_of start journal) (sent_behind journal endpoint sending' None)
unfolding history_of
is_behind start journal endpoint sending' lawful alive =
    let past = history_of start journal in
    let new = sent_behind journal endpoint sending' None in
    let now = behind start (sends new) past in
    let h = sendings_wait_last start past new in
    let unserved = fresh_unserved start journal new (stepped start journal lawful) (le_refl_of (length journal)) in
    let w = waits_so past new unserved alive in
    let travels : travelling now ≡ travelling past ++ endpoints_in new = h.travels ∙ ap (λ (b : Bool). travelling past ++ (if b then endpoints_in new else [])) w in
    record {
      dead = h.same.dead;
      live = λ n. sent_lives (view start past) (view start now) new n (sent_view start past new) (new_waits start past new unserved alive);
      closed = h.closed;
      carried = h.carried;
      given = h.same.tokens;
      queue = h.queue ∙ ap (λ (b : Bool). waiting past ++ (if b then new ∷ [] else [])) w;
      count =
          let a = ap length h.same.alive in
          let b = ap length travels in
          let c = length-append (travelling past) (endpoints_in new) in
          omega arith;
    }

-- ---- tokens

waits_too : (start : Start) (past now : History) (new : Sent) → IsBehind start now past new → (n : ℕ) → waits_with now n ≡ (waits_with past n || among n (handles_of new.sending))
waits_too start past now new h n =
    ap (list_any (λ (one : Sent). among n (handles_of one.sending))) h.queue
    ∙ list_any-append (λ (one : Sent). among n (handles_of one.sending)) (waiting past) (new ∷ [])
    ∙ ap (λ (b : Bool). waits_with past n || b) (or-none (among n (handles_of new.sending)))

-- where a token that is out stands, where what is carried of what was given was held, and no client's number was given
token_then : (start : Start) (past now : History) (new : Sent) → IsBehind start now past new → (n : ℕ) → (among n (handles_of new.sending) ≡ true → is_client n ≡ false → is_held past n ≡ true) → (is_client n ≡ true → was_given past n ≡ false) →
    (if not (is_client n) && among n (handles_of new.sending) then Some false else token_out past n) ≡ token_out now n
token_then start past now new h n held none =
    token_sent (is_client n) (among n (handles_of new.sending)) (was_given past n) (was_carried past n) (waits_with past n) held none
    ∙ ap (λ (c : Bool). out_of (was_given past n) c (waits_with past n || among n (handles_of new.sending))) (sym (h.carried n))
    ∙ ap (λ (w : Bool). out_of (was_given past n) (was_carried now n) w) (sym (waits_too start past now new h n))
    ∙ ap (λ (ones : List Given). out_of (list_any (λ g. g.token == n) ones) (was_carried now n) (waits_with now n)) (sym h.given)

-- a token that was held and is carried waits, and any other one is where it was
out_by : (g c w m : Bool) → (m ≡ true → (g && not c) ≡ true) → ((g && not (c || m)) || (w || m)) ≡ ((g && not c) || w)
out_by g c w false h = ap (λ (b : Bool). (g && not b) || (w || false)) (or-none c) ∙ ap (λ (b : Bool). (g && not c) || b) (or-none w)
out_by true true w true h = absurd (true≢false (sym (h refl)))
out_by true false true true h = refl
out_by true false false true h = refl
out_by false c w true h = absurd (true≢false (sym (h refl)))

-- the same tokens are out, where what is carried of what was given was held
same_out : (start : Start) (past now : History) (new : Sent) → IsBehind start now past new →
    ((n : ℕ) → was_given past n ≡ true → among n (handles_of new.sending) ≡ true → is_held past n ≡ true) → tokens_out now ≡ tokens_out past
same_out start past now new h held = outs_same now past h.given agree where
  agree : (n : ℕ) → was_given past n ≡ true → (is_held now n || waits_with now n) ≡ (is_held past n || waits_with past n)
  agree n there =
      ap (λ (ones : List Given). (list_any (λ g. g.token == n) ones && not (was_carried now n)) || waits_with now n) h.given
      ∙ ap (λ (b : Bool). (was_given past n && not b) || waits_with now n) (h.carried n)
      ∙ ap (λ (b : Bool). (was_given past n && not (was_carried past n || among n (handles_of new.sending))) || b) (waits_too start past now new h n)
      ∙ out_by (was_given past n) (was_carried past n) (waits_with past n) (among n (handles_of new.sending)) (held n there)

-- no client's number is a token's
pub no_token : (start : Start) (history : History) (n : ℕ) → Sound start (view start history) → is_client n ≡ true → was_given history n ≡ false
no_token start history n past client = false_from_ne_true (was_given history n)
    (λ h.
    let given = one_passes (λ (given : Given). given.token == n) (all_given history) h in
    let high = past.tokens given.0 given.1 in
    let at = eqb-true given.0.token n given.2 in
    let low = client_low n client in
    omega arith)

-- a number with this standing
pub stands_then : (m : map.FinMap nat_cmp Standing) (e n : ℕ) (s : Standing) → unwrap_or (map.get (map.insert m e s) n) standing.Unused ≡ (if e == n then s else unwrap_or (map.get m n) standing.Unused)
stands_then m e n s =
    ap (λ (o : Option Standing). unwrap_or o standing.Unused) (get-insert nat_cmp_total m e s n ∙ ap (λ (b : Bool). cond b (Some s) (map.get m n)) (same_number n e ∙ eqb_sym n e))
    ∙ chosen (e == n) where
      same_number : (a b : ℕ) → eq_by_cmp nat_cmp a b ≡ (a == b)
      same_number a b = grind (arith, nat_tests)

      chosen : (b : Bool) → unwrap_or (cond b (Some s) (map.get m n)) standing.Unused ≡ (if b then s else unwrap_or (map.get m n) standing.Unused)
      chosen true = refl
      chosen false = refl

-- ---- a message

message_stands : (d l c m x : Bool) → (m ≡ true → (d ≡ false) × (c ≡ false)) → (if m then standing.Live else stands d l c) ≡ stands d (l || m) (c || (false && x))
message_stands d l c false x h = ap (λ (a : Bool). stands d a c) (sym (or-none l)) ∙ ap (λ (b : Bool). stands d (l || false) b) (sym (or-none c))
message_stands d l c true x h = let at = h refl in rw (at.0, at.1, live_either l) where
  live_either : (l : Bool) → (l || true) ≡ true
  live_either true = refl
  live_either false = refl

-- what a message carries of clients' numbers is new
new_numbers : Below → (start : Start) (journal : Journal) (n : ℕ) → IsStart start → Lawful start journal → may_travel (look_ups start (history_of start journal)) n ≡ true →
    is_client n ≡ true → (is_dead (history_of start journal) n ≡ false) × (hung_up (history_of start journal) n ≡ false)
new_numbers below start journal n s lawful travel client =
    let history = history_of start journal in
    let past = (lawful_kept below start s journal lawful).sound in
    let unheld : is_held history n ≡ false = ap (λ (b : Bool). b && not (was_carried history n)) (no_token start history n past client) in
    let unused : is_used start history n ≡ false = unused_by (look_ups start history) n travel unheld in (
      (or_parts (is_dead history n) (is_live start history n) (sym (used_where below start journal n s lawful client) ∙ unused)).0,
      false_from_ne_true (hung_up history n)
          (λ g.
          let one = one_passes (λ (sent : Sent). is_hang_up sent.sending && (sent.endpoint == n)) (all_sent history) g in
          let at = eqb-true one.0.endpoint n (and_parts (is_hang_up one.0.sending) (one.0.endpoint == n) one.2).1 in
          true≢false (sym (ap (is_used start history) (sym at) ∙ endpoint_known start (all_sent history) one.0 s (ap is_client at ∙ client) (past.right one.0 one.1)) ∙ unused)),
    )

among_clients : (one : Sent) (n : ℕ) → among n (endpoints_in one) ≡ (is_client n && among n (handles_of one.sending))
among_clients one n = same_bool (among n (endpoints_in one)) (is_client n && among n (handles_of one.sending))
    (λ h. let at = carried_is one n h in and_from (is_client n) (among n (handles_of one.sending)) at.0 at.1)
    (λ h. let at = and_parts (is_client n) (among n (handles_of one.sending)) h in carried_from one n at.0 at.1)

pub messages_known : Below → (start : Start) (journal : Journal) (frame : Frame) (known new : Known) → IsStart start → Lawful start journal → frame.kind ≡ kind.Message →
    admission (look_ups start (history_of start journal)) frame ≡ None → Knows start (history_of start journal) known → Admits known frame new →
    Knows start (history_of start (sends (sent_behind journal frame.endpoint (message frame.bytes frame.handles) None) ∷ journal)) new
messages_known below start journal frame known new s lawful is admits k became =
    let past = history_of start journal in
    let one = sent_behind journal frame.endpoint (message frame.bytes frame.handles) None in
    let now = history_of start (sends one ∷ journal) in
    let sound = (lawful_kept below start s journal lawful).sound in
    let sent' : Sends known frame.handles new = subst (λ (x : FrameKind). AdmitsKind x known frame.endpoint frame.handles new) is became in
    let admitted = message_admitted start past frame.endpoint frame.handles (refusal_of (look_ups start past) frame kind.Message is admits) in
    let h = is_behind start journal frame.endpoint (message frame.bytes frame.handles) lawful admitted.alive in
    let tokens : (n : ℕ) → map.get new.tokens n ≡ token_out now n = λ n.
    sent'.tokens n
    ∙ ap (λ (o : Option Bool). if not (is_client n) && among n frame.handles then Some false else o) (k.tokens n)
    ∙ token_then start past now one h n (λ carried other. held_when (look_ups start past) n (admitted.travel n carried) other) (no_token start past n sound) in
    let out : new.out ≡ length (tokens_out now) = sent'.same_out ∙ k.out ∙ sym (ap length (same_out start past now one h (λ n given carried. held_is n given (admitted.travel n carried)))) in
    let given : new.next ≡ limit.FIRST_TOKEN + length (all_given now) = sent'.same_next ∙ k.given ∙ sym (ap (λ (ones : List Given). limit.FIRST_TOKEN + length ones) h.given) in
    record {
      standing = λ n.
          let m = is_client n && among n frame.handles in
          sent'.standing n
          ∙ ap (λ (x : Standing). if m then standing.Live else x) (k.standing n)
          ∙ message_stands (is_dead past n) (is_live start past n) (hung_up past n) m (frame.endpoint == n)
          (λ e. let at = and_parts (is_client n) (among n frame.handles) e in new_numbers below start journal n s lawful (admitted.travel n at.1) at.0)
          ∙ ap (λ (b : Bool). stands (is_dead past n) (is_live start past n || b) (hung_up past n || (false && (frame.endpoint == n)))) (sym (among_clients one n))
          ∙ ap (λ (b : Bool). stands b (is_live start past n || among n (endpoints_in one)) (hung_up past n || (false && (frame.endpoint == n)))) (sym (h.dead n))
          ∙ ap (λ (b : Bool). stands (is_dead now n) b (hung_up past n || (false && (frame.endpoint == n)))) (sym (h.live n))
          ∙ ap (λ (b : Bool). stands (is_dead now n) (is_live start now n) b) (sym (h.closed n));
      live = let a = sent'.live in let b = h.count in let c = length-filter is_client frame.handles in let d = k.live in omega arith;
      waiting = let a = sent'.waiting in let b = ap length h.queue in let c = length-append (waiting past) (one ∷ []) in let d = k.waiting in omega arith;
      servers = sent'.same_servers ∙ k.servers;
      holds = λ n. holds_from now new n (tokens n);
      next = next_from now new out given;
      tokens = tokens;
      out = out;
      given = given;
    } where
      held_is : (n : ℕ) → was_given (history_of start journal) n ≡ true → may_travel (look_ups start (history_of start journal)) n ≡ true → is_held (history_of start journal) n ≡ true
      held_is n given may = held_when (look_ups start (history_of start journal)) n may
          (false_from_ne_true (is_client n) (λ client. true≢false (sym given ∙ no_token start (history_of start journal) n (lawful_kept below start s journal lawful).sound client)))

-- ---- a hang-up

close_stands : (d l c m : Bool) → (m ≡ true → (d ≡ false) × (l ≡ true)) → (if m then standing.HungUp else stands d l c) ≡ stands d (l || false) (c || (true && m))
close_stands d l c false h = ap (λ (a : Bool). stands d a c) (sym (or-none l)) ∙ ap (λ (b : Bool). stands d (l || false) b) (sym (or-none c))
close_stands d l c true h = let at = h refl in rw (at.0, at.1, closed_either c) where
  closed_either : (c : Bool) → (c || true) ≡ true
  closed_either true = refl
  closed_either false = refl

pub hang_ups_known : Below → (start : Start) (journal : Journal) (frame : Frame) (known new : Known) → IsStart start → Lawful start journal → frame.kind ≡ kind.Close →
    admission (look_ups start (history_of start journal)) frame ≡ None → Knows start (history_of start journal) known → Admits known frame new →
    Knows start (history_of start (sends (sent_behind journal frame.endpoint hang_up None) ∷ journal)) new
hang_ups_known below start journal frame known new s lawful is admits k became =
    let past = history_of start journal in
    let one = sent_behind journal frame.endpoint hang_up None in
    let now = history_of start (sends one ∷ journal) in
    let e = frame.endpoint in
    let is_new : new ≡ hung_up_in known e = subst (λ (x : FrameKind). AdmitsKind x known e frame.handles new) is became in
    let admitted = close_admitted start past e frame.handles (refusal_of (look_ups start past) frame kind.Close is admits) in
    let h = is_behind start journal e hang_up lawful admitted.alive in
    let carries_none = λ (n : ℕ) (carried : among n [] ≡ true). true≢false (sym carried) in
    let tokens : (n : ℕ) → map.get known.tokens n ≡ token_out now n = λ n.
    k.tokens n ∙ token_same past now n (sym h.given) (sym (h.carried n ∙ or-none (was_carried past n))) (sym (waits_too start past now one h n ∙ or-none (waits_with past n))) in
    let out : known.out ≡ length (tokens_out now) = k.out ∙ sym (ap length (same_out start past now one h (λ n given carried. absurd (carries_none n carried)))) in
    let given : known.next ≡ limit.FIRST_TOKEN + length (all_given now) = k.given ∙ sym (ap (λ (ones : List Given). limit.FIRST_TOKEN + length ones) h.given) in
    subst (Knows start now) (sym is_new)
    (record {
      standing = λ n.
          stands_then known.standings e n standing.HungUp
          ∙ ap (λ (x : Standing). if e == n then standing.HungUp else x) (k.standing n)
          ∙ close_stands (is_dead past n) (is_live start past n) (hung_up past n) (e == n)
          (λ same. let at = eqb-true e n same in (ap (is_dead past) (sym at) ∙ admitted.alive, ap (is_live start past) (sym at) ∙ admitted.live))
          ∙ ap (λ (b : Bool). stands b (is_live start past n || false) (hung_up past n || (true && (e == n)))) (sym (h.dead n))
          ∙ ap (λ (b : Bool). stands (is_dead now n) b (hung_up past n || (true && (e == n)))) (sym (h.live n))
          ∙ ap (λ (b : Bool). stands (is_dead now n) (is_live start now n) b) (sym (h.closed n));
      live = let b = h.count in let d = k.live in omega arith;
      waiting = let b = ap length h.queue in let c = length-append (waiting past) (one ∷ []) in let d = k.waiting in omega arith;
      servers = k.servers;
      holds = λ n. holds_from now (hung_up_in known e) n (tokens n);
      next = next_from now (hung_up_in known e) out given;
      tokens = tokens;
      out = out;
      given = given;
    })
