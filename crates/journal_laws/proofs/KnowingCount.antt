-- No endpoint lives twice, each known one lives or is dead, and so many fewer live as die.
use Rattle.std.proofs.Common.{◌≡◌, ◌≢◌, ℕ, zero, suc, ◌+◌, ◌<◌, ◌≤◌, ◌==◌, ◌&&◌, ◌||◌, ◌⊎◌, Bool, true, false, not, is_some, nat_le, nat_lt, List, [], ◌∷◌, ◌++◌, length, map, find, Option, Some, None, Ok, Err, All, AllPairs, Contains, refl, sym, ap, ◌∙◌, subst, inl, inr, if◌then◌else◌, arith, length-append}
use Rattle.std.proofs.lemmas.List.{length-map}
use Rattle.std.specs.List.{list_any, range_with_len}
use Rattle.std.proofs.lemmas.Bool.{eqb-true, eq-eqb, ne_eqb, or_cases, or_left, or_right, or_from, and_from, and_parts, le-leb, leb-true, lt-ltb, ltb-true, cases_eq, false_from_ne_true, true≢false, not-true}
use Rattle.std.proofs.lemmas.List.Elements.{All-head, All-tail, Contains-append_left}
use Rattle.std.proofs.lemmas.List.Kept.{AllPairs-filter}
use Rattle.link_frames.specs.declared.kinds.FrameKind.TheVariants as kind
use Rattle.fidl_names.specs.HandleNumber.{is_client, end_of_mount}
use Rattle.link_admission.specs.Numbering.{among}
use Rattle.io_messages.specs.declared.protocols.Protocol.{Protocol}
use Rattle.io_messages.specs.declared.protocols.Protocol.TheVariants as protocol
use Rattle.conn_rules.specs.Answers.{Answer, replies, closes, binds, watches, forwards, refuses as refuses_to, ends, hangs_up, silent}
use Rattle.vfs_journal.specs.Deaths.{first_deaths, is_settled, deaths_of, others}
use Rattle.vfs_journal.specs.Entries.{Sent, Sending, Journal, message, hang_up, handles_of, endpoints_in, sends}
use Rattle.vfs_journal.specs.History.{History, all_sent, births, living, waiting, travelling, is_dead, is_live, bound_at, live_count}
use Rattle.vfs_journal.specs.Lawful.{Lawful, begun, refused, sent, closed, served}
use Rattle.vfs_journal.specs.Outcomes.{Asker, Outcome, ends_of as ends_by}
use Rattle.vfs_journal.specs.Past.{behind, history_of}
use Rattle.vfs_journal.specs.Serving.{Read, Moment, moment_of, read_by, object_of, asker_of, request_act, fault_txid, fault_answer, outcome_of_read, outcome_of_message, outcome_of_sending, outcome_at, outcome_of}
use Rattle.vfs_journal.specs.Session.{head, look_ups, sent_behind, after_serving}
use Rattle.journal_laws.specs.Soundness.{IsStart, OtherEndpoint, mount_ends}
use Rattle.vfs_journal.specs.Starts.{Bound, Start}
use Rattle.journal_laws.proofs.Among.{one_passes, member_of, among_of, carried_from, carrier_of, is_found}
use Rattle.journal_laws.proofs.Apart.{births_apart, carry_apart, endpoints_apart, travelling_apart}
use Rattle.journal_laws.proofs.Below.{Below}
use Rattle.journal_laws.proofs.Kept.{close_admitted, is_serving, lawful_kept, message_admitted, refusal_of}
use Rattle.journal_laws.proofs.KnowingLists.{Apart, from_pairs, no_more, apart_append, apart_one, apart_filter, ends_of, AreOwn, own_filter, apart_spread}
use Rattle.journal_laws.proofs.KnowingServed.{after_served, unsettled, live_in, bound_lives, sent_lives, used_more}
use Rattle.journal_laws.proofs.Members.{kept_of}
use Rattle.journal_laws.proofs.Lists.{pairs-head, pairs-tail}
use Rattle.journal_laws.proofs.Served.{IsAnswered, other_of}
use Rattle.journal_laws.proofs.Sound.{View, view, IsView, Transit, used, bound_in, nothing_left}
use Rattle.journal_laws.proofs.Spreading.{among-append, among_sides}
use Rattle.journal_laws.proofs.Stepping.{Stepped, stepped, none}
use Rattle.journal_laws.proofs.Views.{is_view, refused_view, sent_view, new_waits, fresh_unserved}

le_refl_of : (n : ℕ) → n ≤ n
le_refl_of n = omega arith

pub same_bool : (a b : Bool) → (a ≡ true → b ≡ true) → (b ≡ true → a ≡ true) → a ≡ b
same_bool true b f g = sym (f refl)
same_bool false b f g = sym (false_from_ne_true b (λ h. true≢false (sym (g h))))

-- ---- each known endpoint lives or is dead

abbrev pub IsAccounted : Start → View → Type 0
IsAccounted start v = (n : ℕ) → is_client n ≡ true → used start v.sent n ≡ true → (v.dead n ≡ true) ⊎ (live_in v n ≡ true)

begun_accounted : (start : Start) → IsAccounted start (view start (history_of start []))
unfolding history_of
begun_accounted start n client h = inr (first_lives (is_view start [] none) n (or_cases (list_any (λ (bound : Bound). bound.endpoint == n) start.firsts) false h)) where
  first_lives : IsView (view start []) → (n : ℕ) → (list_any (λ (bound : Bound). bound.endpoint == n) start.firsts ≡ true) ⊎ (false ≡ true) → live_in (view start []) n ≡ true
  first_lives is n (inl h) =
      let b = one_passes (λ (bound : Bound). bound.endpoint == n) start.firsts h in
      bound_lives (view start []) b.0 n
      (is.born_living b.0 (Contains-append_left (start.firsts ++ start.mounts) [] b.0 (Contains-append_left start.firsts start.mounts b.0 b.1)) refl)
      (eqb-true b.0.endpoint n b.2)
  first_lives is n (inr h) = absurd (true≢false (sym h))

-- an admitted sending
sent_accounted : (start : Start) (earlier : Journal) (endpoint : ℕ) (sending' : Sending) → Stepped start earlier → is_dead (history_of start earlier) endpoint ≡ false →
    IsAccounted start (view start (history_of start earlier)) → IsAccounted start (view start (history_of start (sends (sent_behind earlier endpoint sending' None) ∷ earlier)))
unfolding history_of
sent_accounted start earlier endpoint sending' steps alive past =
    let history = history_of start earlier in
    let new = sent_behind earlier endpoint sending' None in
    let now = behind start (sends new) history in
    let adds = sent_view start history new in
    let waits = new_waits start history new (fresh_unserved start earlier new steps (le_refl_of (length earlier))) alive in
    let lives = λ (n : ℕ). sent_lives (view start history) (view start now) new n adds waits in
    λ n client h. by_used n client (lives n) (adds.dead n) (used_more start (all_sent history) new n (subst (λ sents. used start sents n ≡ true) adds.sent h)) where
      still : (d e a b c : Bool) → d ≡ e → a ≡ (b || c) → (e ≡ true) ⊎ (b ≡ true) → (d ≡ true) ⊎ (a ≡ true)
      still d e a b c p q (inl h) = inl (p ∙ h)
      still d e a b c p q (inr h) = inr (q ∙ or_left b c h)

      by_used : {d a : Bool} (n : ℕ) → is_client n ≡ true → a ≡ (live_in (view start (history_of start earlier)) n || among n (endpoints_in (sent_behind earlier endpoint sending' None))) →
          d ≡ is_dead (history_of start earlier) n → (used start (all_sent (history_of start earlier)) n ≡ true) ⊎ (among n (handles_of sending') ≡ true) → (d ≡ true) ⊎ (a ≡ true)
      by_used {d} {a} n client lives dead (inl h) = still d (is_dead (history_of start earlier) n) a (live_in (view start (history_of start earlier)) n) (among n (endpoints_in (sent_behind earlier endpoint sending' None))) dead lives (past n client h)
      by_used n client lives dead (inr h) =
          inr (lives ∙ or_right (live_in (view start (history_of start earlier)) n) (among n (endpoints_in (sent_behind earlier endpoint sending' None))) (carried_from (sent_behind earlier endpoint sending' None) n client h))

served_accounted : Below → (start : Start) (earlier : Journal) (k : Sent) → IsStart start → Lawful start earlier → head start (history_of start earlier) k.endpoint ≡ Some k →
    IsAccounted start (view start (history_of start earlier)) → IsAccounted start (view start (history_of start (after_serving start earlier k)))
served_accounted below start earlier k s lawful h past =
    let history = history_of start earlier in
    let now = history_of start (after_serving start earlier k) in
    let deaths = deaths_of history k (outcome_of start history k) in
    let after = after_served below start earlier k s lawful h in
    λ n client u. now_by (is_dead now n) (is_live start now n) (among n deaths) (is_dead history n) (is_live start history n) (after.dead n) (after.live n) (past n client (after.known n u)) where
      now_by : (d a among' e b : Bool) → d ≡ (among' || e) → a ≡ (b && not among') → (e ≡ true) ⊎ (b ≡ true) → (d ≡ true) ⊎ (a ≡ true)
      now_by d a among' e b p q (inl h) = inl (p ∙ or_right among' e h)
      now_by d a true e b p q (inr h) = inl p
      now_by d a false e b p q (inr h) = inr (q ∙ ap (λ (x : Bool). x && true) h)

pub lawful_accounted : Below → (start : Start) → IsStart start → (journal : Journal) → Lawful start journal → IsAccounted start (view start (history_of start journal))
unfolding history_of
lawful_accounted below start s journal begun = begun_accounted start
lawful_accounted below start s journal (refused earlier frame why h is admits) =
    subst (IsAccounted start) (refused_view start (history_of start earlier) frame.endpoint why) (lawful_accounted below start s earlier h)
lawful_accounted below start s journal (sent earlier frame h is at admits) =
    sent_accounted start earlier frame.endpoint (message frame.bytes frame.handles) (stepped start earlier h)
    (message_admitted start (history_of start earlier) frame.endpoint frame.handles (refusal_of (look_ups start (history_of start earlier)) frame kind.Message at admits)).alive
    (lawful_accounted below start s earlier h)
lawful_accounted below start s journal (closed earlier frame h is at admits) =
    sent_accounted start earlier frame.endpoint hang_up (stepped start earlier h)
    (close_admitted start (history_of start earlier) frame.endpoint frame.handles (refusal_of (look_ups start (history_of start earlier)) frame kind.Close at admits)).alive
    (lawful_accounted below start s earlier h)
lawful_accounted below start s journal (served earlier entry h is) = served_accounted below start earlier entry s h is (lawful_accounted below start s earlier h)

-- ---- no endpoint lives twice

pub named_is_bound : (bounds : List Bound) (n : ℕ) → among n (ends_of bounds) ≡ bound_in bounds n
named_is_bound [] n = refl
named_is_bound (b ∷ bounds) n = by_test (b.endpoint == n) (named_is_bound bounds n) where
  by_test : (c : Bool) → among n (ends_of bounds) ≡ bound_in bounds n → (c || among n (ends_of bounds)) ≡ is_some (if c then Some b else find (λ bound. bound.endpoint == n) bounds)
  by_test true rest = refl
  by_test false rest = rest

-- the ends of mounts by their numbers

in_range : (a m n : ℕ) → among n (map end_of_mount (range_with_len a m)) ≡ true → (0x40000000 + a ≤ n) × (n < 0x40000000 + a + m)
in_range a zero n h = absurd (true≢false (sym h))
in_range a (suc m) n h = by_side (or_cases (0x40000000 + a == n) (among n (map end_of_mount (range_with_len (a + 1) m))) h) (in_range (a + 1) m n) where
  by_side : ((0x40000000 + a == n) ≡ true) ⊎ (among n (map end_of_mount (range_with_len (a + 1) m)) ≡ true) →
      (among n (map end_of_mount (range_with_len (a + 1) m)) ≡ true → (0x40000000 + (a + 1) ≤ n) × (n < 0x40000000 + (a + 1) + m)) → (0x40000000 + a ≤ n) × (n < 0x40000000 + a + suc m)
  by_side (inl e) rest = let at = eqb-true (0x40000000 + a) n e in (omega arith, omega arith)
  by_side (inr g) rest = let low = (rest g).0 in let high = (rest g).1 in (omega arith, omega arith)

pub range_in : (a m n : ℕ) → 0x40000000 + a ≤ n → n < 0x40000000 + a + m → among n (map end_of_mount (range_with_len a m)) ≡ true
range_in a zero n low high = absurd (omega arith)
range_in a (suc m) n low high = by_test (cases_eq (0x40000000 + a) n) (λ apart. range_in (a + 1) m n (omega arith) (omega arith)) where
  by_test : (0x40000000 + a ≡ n) ⊎ (0x40000000 + a ≡ n → ⊥) → ((0x40000000 + a ≡ n → ⊥) → among n (map end_of_mount (range_with_len (a + 1) m)) ≡ true) → among n (map end_of_mount (range_with_len a (suc m))) ≡ true
  by_test (inl e) rest = or_left (0x40000000 + a == n) (among n (map end_of_mount (range_with_len (a + 1) m))) (eq-eqb (0x40000000 + a) n e)
  by_test (inr apart) rest = or_right (0x40000000 + a == n) (among n (map end_of_mount (range_with_len (a + 1) m))) (rest apart)

-- the numbers of the ends of a start's mounts
pub mounts_among : (start : Start) (n : ℕ) → mount_ends start ≡ map end_of_mount (range_with_len 0 (length start.mounts)) → among n (mount_ends start) ≡ (nat_le 0x40000000 n && nat_lt n (0x40000000 + length start.mounts))
mounts_among start n numbered =
    ap (among n) numbered
    ∙ same_bool (among n (map end_of_mount (range_with_len 0 (length start.mounts)))) (nat_le 0x40000000 n && nat_lt n (0x40000000 + length start.mounts))
    (λ h. let at = in_range 0 (length start.mounts) n h in and_from (nat_le 0x40000000 n) (nat_lt n (0x40000000 + length start.mounts)) (le-leb 0x40000000 n at.0) (lt-ltb n (0x40000000 + length start.mounts) at.1))
    (λ h.
    let at = and_parts (nat_le 0x40000000 n) (nat_lt n (0x40000000 + length start.mounts)) h in
    range_in 0 (length start.mounts) n (leb-true 0x40000000 n at.0) (ltb-true n (0x40000000 + length start.mounts) at.1))

unlike : (b : Bound) (bounds : List Bound) → All (OtherEndpoint b) bounds → among b.endpoint (ends_of bounds) ≡ false
unlike b [] h = refl
unlike b (x ∷ bounds) h =
    or_from (x.endpoint == b.endpoint) (among b.endpoint (ends_of bounds)) (ne_eqb x.endpoint b.endpoint (λ e. All-head (OtherEndpoint b) x bounds h (sym e)))
    (unlike b bounds (All-tail (OtherEndpoint b) x bounds h))

bounds_apart : (bounds : List Bound) → AllPairs OtherEndpoint bounds → Apart (ends_of bounds)
bounds_apart [] h = tt
bounds_apart (b ∷ bounds) h = (unlike b bounds (pairs-head OtherEndpoint b bounds h), bounds_apart bounds (pairs-tail OtherEndpoint b bounds h))

-- who lives was born, and none is born twice
lives_apart : Below → (start : Start) → IsStart start → (journal : Journal) → Lawful start journal → Apart (ends_of (living start (history_of start journal)))
lives_apart below start s journal lawful =
    let past = history_of start journal in
    bounds_apart (living start past)
    (AllPairs-filter OtherEndpoint (λ bound. not (is_dead past bound.endpoint)) (births start past) (births_apart below start s journal lawful))

-- ---- deaths, once each

answer_ends : (asker : Asker) (answer : Answer) → Apart (ends_by asker answer)
answer_ends asker (replies a) = tt
answer_ends asker closes = apart_one asker.endpoint
answer_ends asker (binds birth announced) = tt
answer_ends asker (watches mask) = tt
answer_ends asker (forwards mount flags rest) = tt
answer_ends asker (refuses_to status) = apart_one asker.object
answer_ends asker (ends status) = apart_one asker.endpoint
answer_ends asker hangs_up = apart_one asker.endpoint
answer_ends asker silent = tt

read_ends : (moment : Moment) (read : Read) → Apart (outcome_of_read moment read).ends
read_ends moment (Ok found) = answer_ends (asker_of moment.bound found.0 (object_of found.1)) (request_act moment found.1).answer
read_ends moment (Err fault) = answer_ends (asker_of moment.bound (fault_txid fault) 0) (fault_answer fault)

message_ends : (moment : Moment) (p : Protocol) (bytes handles : List ℕ) → Apart (outcome_of_message moment p bytes handles).ends
message_ends moment protocol.Watcher bytes handles = tt
message_ends moment protocol.Directory bytes handles = read_ends moment (read_by protocol.Directory bytes handles)
message_ends moment protocol.File bytes handles = read_ends moment (read_by protocol.File bytes handles)
message_ends moment protocol.Node bytes handles = read_ends moment (read_by protocol.Node bytes handles)
message_ends moment protocol.Echo bytes handles = read_ends moment (read_by protocol.Echo bytes handles)

sending_ends : (moment : Moment) (sending' : Sending) → Apart (outcome_of_sending moment sending').ends
unfolding outcome_of_sending
sending_ends moment (message bytes handles) = message_ends moment moment.bound.birth.protocol bytes handles
sending_ends moment hang_up = apart_one moment.bound.endpoint

outcome_ends : (start : Start) (history : History) (k : Sent) (o : Option Bound) → Apart (outcome_at start history k o).ends
outcome_ends start history k None = tt
outcome_ends start history k (Some b) = sending_ends (moment_of start history b) k.sending

-- what waits carries nothing twice
pub waiting_own : Below → (start : Start) (journal : Journal) → IsStart start → Lawful start journal → AreOwn (waiting (history_of start journal))
waiting_own below start journal s lawful =
    let is = is_view start journal (stepped start journal lawful) in
    record {
      rises = is.rises;
      each = λ one p. from_pairs (endpoints_in one) (endpoints_apart one (carry_apart start journal lawful one (is.waits one p)));
      once = (lawful_kept below start s journal lawful).transit.once;
    }

unsettled_is : (k : Sent) (o : Outcome) (n : ℕ) → among n (unsettled k o) ≡ true → (among n (endpoints_in k) ≡ true) × (not (is_settled o n) ≡ true)
unsettled_is k o n h =
    let at = kept_of (λ endpoint. not (is_settled o endpoint)) (endpoints_in k) n (member_of n (unsettled k o) h) in
    (among_of n (endpoints_in k) at.0, at.1)

ends_settle : (o : Outcome) (n : ℕ) → among n o.ends ≡ true → is_settled o n ≡ true
ends_settle o n h = or_right _ _ (or_left _ _ h)

pub deaths_apart : Below → (start : Start) (journal : Journal) (k : Sent) → IsStart start → Lawful start journal → head start (history_of start journal) k.endpoint ≡ Some k →
    Apart (deaths_of (history_of start journal) k (outcome_of start (history_of start journal) k))
deaths_apart below start journal k s lawful h =
    let history = history_of start journal in
    let o = outcome_of start history k in
    let past = lawful_kept below start s journal lawful in
    let own = waiting_own below start journal s lawful in
    let answered = (is_serving below start journal k s (stepped start journal lawful) past.sound h).answered in
    apart_spread (first_deaths k o) (others history k) (own_filter (λ other. not (other.place == k.place)) (waiting history) own)
    (apart_append o.ends (unsettled k o) (outcome_ends start history k (bound_at start history k.endpoint)) (apart_filter (λ endpoint. not (is_settled o endpoint)) (endpoints_in k) (own.each k answered.waits))
    (λ n e. false_from_ne_true (among n (unsettled k o)) (λ g. true≢false (sym (ends_settle o n e) ∙ not-true (is_settled o n) (unsettled_is k o n g).1))))
    (λ n one dies there. false_from_ne_true (among n (endpoints_in one))
    (λ c.
    let at = other_of (waiting history) k one there in
    carried_twice n one at.0 at.1 c past.transit answered (among_sides n o.ends (unsettled k o) dies))) where
      both : (n : ℕ) (one : Sent) → Transit start (view start (history_of start journal)) nothing_left → Contains (waiting (history_of start journal)) one → one.place ≢ k.place → among n (endpoints_in one) ≡ true →
          Contains (waiting (history_of start journal)) k → among n (endpoints_in k) ≡ true → ⊥
      both n one transit there apart c waits g = apart (ap (λ (x : Sent). x.place) (transit.once one k n there waits c g))

      by_end : (n : ℕ) (one : Sent) → Transit start (view start (history_of start journal)) nothing_left → Contains (waiting (history_of start journal)) one → one.place ≢ k.place → among n (endpoints_in one) ≡ true →
          IsAnswered (view start (history_of start journal)) k (outcome_of start (history_of start journal) k) → ((n ≡ k.endpoint) × (is_client n ≡ true)) ⊎ (among n (endpoints_in k) ≡ true) → ⊥
      by_end n one transit there apart c answered (inl at) =
          true≢false
          (sym (is_found (λ bound. bound.endpoint == n) (living start (history_of start journal)) answered.bound answered.lives (eq-eqb answered.bound.endpoint n (answered.at ∙ sym at.0)))
          ∙ transit.unbound one n there c)
      by_end n one transit there apart c answered (inr g) = both n one transit there apart c answered.waits g

      carried_twice : (n : ℕ) (one : Sent) → Contains (waiting (history_of start journal)) one → one.place ≢ k.place → among n (endpoints_in one) ≡ true → Transit start (view start (history_of start journal)) nothing_left →
          IsAnswered (view start (history_of start journal)) k (outcome_of start (history_of start journal) k) →
          (among n (outcome_of start (history_of start journal) k).ends ≡ true) ⊎ (among n (unsettled k (outcome_of start (history_of start journal) k)) ≡ true) → ⊥
      carried_twice n one there apart c transit answered (inl e) = by_end n one transit there apart c answered (answered.ends_in n e)
      carried_twice n one there apart c transit answered (inr g) = both n one transit there apart c answered.waits (unsettled_is k (outcome_of start (history_of start journal) k) n g).0

-- ---- the count

abbrev pub all_ends : Start → History → List ℕ
all_ends start history = ends_of (living start history) ++ travelling history

ends_live : (start : Start) (history : History) (n : ℕ) → among n (all_ends start history) ≡ is_live start history n
ends_live start history n =
    among-append n (ends_of (living start history)) (travelling history) ∙ ap (λ (b : Bool). b || among n (travelling history)) (named_is_bound (living start history) n)

ends_count : (start : Start) (history : History) → length (all_ends start history) ≡ live_count start history
ends_count start history =
    length-append (ends_of (living start history)) (travelling history) ∙ ap (λ (n : ℕ). n + length (travelling history)) (length-map (living start history) (λ (bound : Bound). bound.endpoint))

-- no endpoint lives twice
pub ends_apart : Below → (start : Start) (journal : Journal) → IsStart start → Lawful start journal → Apart (all_ends start (history_of start journal))
ends_apart below start journal s lawful =
    let history = history_of start journal in
    let transit = (lawful_kept below start s journal lawful).transit in
    apart_append (ends_of (living start history)) (travelling history) (lives_apart below start s journal lawful) (from_pairs (travelling history) (travelling_apart start journal lawful (is_view start journal (stepped start journal lawful)) transit))
    (λ n h. false_from_ne_true (among n (travelling history))
    (λ g.
    let one = carrier_of n (waiting history) g in
    true≢false (sym h ∙ named_is_bound (living start history) n ∙ transit.unbound one.0 n one.1 one.2)))

-- so many fewer live as die
pub fewer_live : Below → (start : Start) (journal : Journal) (k : Sent) → IsStart start → Lawful start journal → head start (history_of start journal) k.endpoint ≡ Some k →
    live_count start (history_of start (after_serving start journal k)) + length (deaths_of (history_of start journal) k (outcome_of start (history_of start journal) k)) ≡ live_count start (history_of start journal)
fewer_live below start journal k s lawful h =
    let history = history_of start journal in
    let now = history_of start (after_serving start journal k) in
    let deaths = deaths_of history k (outcome_of start history k) in
    let after = after_served below start journal k s lawful h in
    let was = ends_apart below start journal s lawful in
    let still = ends_apart below start (after_serving start journal k) s (served journal k lawful h) in
    let none = deaths_apart below start journal k s lawful h in
    let whole : Apart (all_ends start now ++ deaths) = apart_append (all_ends start now) deaths still none
    (λ n l. spared (is_live start history n) (among n deaths) (sym (after.live n) ∙ sym (ends_live start now n) ∙ l)) in
    let same : (n : ℕ) → among n (all_ends start now ++ deaths) ≡ among n (all_ends start history) = λ n.
    among-append n (all_ends start now) deaths
    ∙ ap (λ (b : Bool). b || among n deaths) (ends_live start now n ∙ after.live n)
    ∙ together (is_live start history n) (among n deaths) (after.died n)
    ∙ sym (ends_live start history n) in
    let up = no_more (all_ends start now ++ deaths) (all_ends start history) whole (λ n l. sym (same n) ∙ l) in
    let down = no_more (all_ends start history) (all_ends start now ++ deaths) was (λ n l. same n ∙ l) in
    let long = length-append (all_ends start now) deaths in
    let a = ends_count start now in
    let b = ends_count start history in
    omega arith where
      spared : (b d : Bool) → (b && not d) ≡ true → d ≡ false
      spared true true g = absurd (true≢false (sym g))
      spared true false g = refl
      spared false d g = absurd (true≢false (sym g))

      together : (b d : Bool) → (d ≡ true → b ≡ true) → ((b && not d) || d) ≡ b
      together true true g = refl
      together true false g = refl
      together false true g = sym (g refl)
      together false false g = refl
