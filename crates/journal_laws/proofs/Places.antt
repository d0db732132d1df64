-- Places rise, and nothing is served twice.
use Rattle.std.proofs.Common.{◌≡◌, ◌≢◌, suc, ◌<◌, ◌==◌, ◌&&◌, ◌⊎◌, Bool, true, false, not, if◌then◌else◌, [], ◌∷◌, ◌++◌, length, slice_index_or, Some, None, find, All, AllPairs, Contains, refl, sym, ap, subst, inl, inr, arith}
use Rattle.std.proofs.lemmas.Bool.{eqb-false, eq-eqb, or_parts, not-true}
use Rattle.std.proofs.lemmas.List.Elements.{All-nil, All-cons, All-push, All-weaker, All-contains, Contains-append_left, Contains-append_cases}
use Rattle.std.proofs.lemmas.List.Kept.{AllPairs-cons, AllPairs-filter}
use Rattle.std.proofs.lemmas.List.Quantifiers.{all_pairs_push}
use Rattle.link_admission.specs.Numbering.{among}
use Rattle.vfs_journal.specs.Deaths.{others}
use Rattle.vfs_journal.specs.Entries.{Sent, Journal, sends, serves, refuses}
use Rattle.vfs_journal.specs.History.{History, all_sent, was_served, waits, waiting, is_bound}
use Rattle.journal_laws.specs.Laws.{AreInOrder, AreServedOnce, servings}
use Rattle.vfs_journal.specs.Lawful.{Lawful}
use Rattle.vfs_journal.specs.Past.{event_of, behind, history_of}
use Rattle.vfs_journal.specs.Session.{head}
use Rattle.vfs_journal.specs.Starts.{Start}
use Rattle.journal_laws.proofs.Members.{kept_of, found, first_found, contains_cases, contains_none}
use Rattle.journal_laws.proofs.Stepping.{Stepped, none, refusing, sending, serving, stepped, place_next}
use Rattle.journal_laws.proofs.Steps.{refusals_change_nothing, sendings_wait_last, servings_take_effect}

abbrev Before : Sent → Sent → Type 0
Before one other = one.place < other.place

-- what waits was sent
pub waits_of_sent : (history : History) (one : Sent) → Contains (waiting history) one → Contains (all_sent history) one
waits_of_sent history one h = (kept_of (waits history) (all_sent history) one h).0

-- a head waits on its endpoint, and is the first that does
pub record IsHead (start : Start) (history : History) (one : Sent) : Type 0 where
  pub bound : is_bound start history one.endpoint ≡ true
  pub first : find (λ sent. sent.endpoint == one.endpoint) (waiting history) ≡ Some one
  pub waits : Contains (waiting history) one

head_by : (start : Start) (history : History) (one : Sent) (b : Bool) → is_bound start history one.endpoint ≡ b →
    (if b then find (λ sent. sent.endpoint == one.endpoint) (waiting history) else None) ≡ Some one → IsHead start history one
head_by start history one true is h = record { bound = is; first = h; waits = (found (λ sent. sent.endpoint == one.endpoint) (waiting history) one h).0 }
head_by start history one false is h = absurd (cc)

pub head_is : (start : Start) (history : History) (one : Sent) → head start history one.endpoint ≡ Some one → IsHead start history one
head_is start history one h = head_by start history one (is_bound start history one.endpoint) refl h

-- ---- places

pub in_order : (start : Start) (journal : Journal) → Stepped start journal → AreInOrder journal (history_of start journal)
unfolding history_of
in_order start journal none = record { at = tt; below = All-nil (λ one. one.place < 0); rise = λ i j d l m. absurd (omega arith) }
in_order start journal (refusing earlier endpoint why h all) =
    let past = in_order start earlier h in
    let same = sym (refusals_change_nothing start (history_of start earlier) endpoint why).sent in
    record {
      at = past.at;
      below = subst (All (λ one. one.place < suc (length earlier))) same
          (All-weaker (λ one. one.place < length earlier) (λ one. one.place < suc (length earlier)) (λ one l. omega arith) (all_sent (history_of start earlier)) past.below);
      rise = subst (AllPairs Before) same past.rise;
    }
in_order start journal (sending earlier new h next) =
    let past = in_order start earlier h in
    let sent = all_sent (history_of start earlier) in
    let more = sym (sendings_wait_last start (history_of start earlier) new).sent_last in
    let at : new.place ≡ length earlier = place_next start earlier new next in
    record {
      at = (at, past.at);
      below = subst (All (λ one. one.place < suc (length earlier))) more
          (All-push (λ one. one.place < suc (length earlier)) sent new
          (All-weaker (λ one. one.place < length earlier) (λ one. one.place < suc (length earlier)) (λ one l. omega arith) sent past.below) (omega arith));
      rise = subst (AllPairs Before) more
          (all_pairs_push Before sent new past.rise (λ k d l. let low : (slice_index_or sent k d).place < length earlier = past.below k d l in omega arith));
    }
in_order start journal (serving earlier new h all is) =
    let past = in_order start earlier h in
    let same = sym (servings_take_effect start (history_of start earlier) new).sent_same in
    record {
      at = past.at;
      below = subst (All (λ one. one.place < suc (length earlier))) same
          (All-weaker (λ one. one.place < length earlier) (λ one. one.place < suc (length earlier)) (λ one l. omega arith) (all_sent (history_of start earlier)) past.below);
      rise = subst (AllPairs Before) same past.rise;
    }

-- what waits rises too
pub waiting_rises : (start : Start) (journal : Journal) → Stepped start journal → AllPairs Before (waiting (history_of start journal))
waiting_rises start journal h =
    AllPairs-filter Before (waits (history_of start journal)) (all_sent (history_of start journal)) (in_order start journal h).rise

-- ---- servings

-- what wasn't served is none of what was
pub unserved : (start : Start) (journal : Journal) (one : Sent) → was_served (history_of start journal) one ≡ false → All (λ served. one.place ≢ served.place) (servings journal)
unfolding history_of event_of
unserved start [] one h = All-nil (λ served. one.place ≢ served.place)
unserved start (sends sent ∷ earlier) one h = unserved start earlier one h
unserved start (refuses endpoint why ∷ earlier) one h = unserved start earlier one h
unserved start (serves sent ∷ earlier) one h =
    let parts = or_parts (sent.place == one.place) (was_served (history_of start earlier) one) h in
    All-cons (λ served. one.place ≢ served.place) sent (servings earlier) (λ e. eqb-false sent.place one.place parts.0 (sym e)) (unserved start earlier one parts.1)

-- what waits wasn't served
left_waiting : (a b : Bool) → (not a && not b) ≡ true → a ≡ false
left_waiting true b h = absurd (cc)
left_waiting false b h = refl

pub waits_unserved : (history : History) (one : Sent) → Contains (waiting history) one → was_served history one ≡ false
waits_unserved history one h = left_waiting (was_served history one) _ (kept_of (waits history) (all_sent history) one h).1

-- what waits behind a serving waited before, and is another one
pub waited : (start : Start) (past : History) (new one : Sent) → Contains (waiting (behind start (serves new) past)) one →
    Contains (waiting past) one × (one.place ≢ new.place) × (among one.endpoint (event_of start past (serves new)).deaths ≡ false)
waited start past new one h =
    let event = event_of start past (serves new) in
    let left = kept_of (λ other. not (among other.endpoint event.deaths)) (others past new) one (subst (λ ones. Contains ones one) (servings_take_effect start past new).queue h) in
    let other = kept_of (λ other. not (other.place == new.place)) (waiting past) one left.0 in
    (other.0, λ e. eqb-false one.place new.place (not-true (one.place == new.place) other.1) e, not-true (among one.endpoint event.deaths) left.1)

-- what waits behind a sending waited before, or was sent
waited_by : (past : History) (new one : Sent) (b : Bool) → Contains (waiting past ++ (if b then new ∷ [] else [])) one → Contains (waiting past) one ⊎ (new ≡ one)
waited_by past new one b h = by_side b (Contains-append_cases (waiting past) (if b then new ∷ [] else []) one h) where
  last : (b : Bool) → Contains (if b then new ∷ [] else []) one → new ≡ one
  last true h = only (contains_cases one new [] h) where
    only : (new ≡ one) ⊎ Contains [] one → new ≡ one
    only (inl e) = e
    only (inr h) = absurd (contains_none one h)
  last false h = absurd (contains_none one h)

  by_side : (b : Bool) → Contains (waiting past) one ⊎ Contains (if b then new ∷ [] else []) one → Contains (waiting past) one ⊎ (new ≡ one)
  by_side b (inl h) = inl h
  by_side b (inr h) = inr (last b h)

pub waited_or_sent : (start : Start) (past : History) (new one : Sent) → Contains (waiting (behind start (sends new) past)) one → Contains (waiting past) one ⊎ (new ≡ one)
waited_or_sent start past new one h =
    waited_by past new one (waits past new) (subst (λ ones. Contains ones one) (sendings_wait_last start past new).queue h)

-- what waits on an endpoint that was served was sent behind what was served
abbrev IsAhead : History → Sent → Type 0
IsAhead history served = (one : Sent) → Contains (waiting history) one → served.endpoint ≡ one.endpoint → served.place < one.place

record Servings (journal : Journal) (history : History) : Type 0 where
  known : AreServedOnce journal history
  ahead : All (IsAhead history) (servings journal)

behind_served : (new one : Sent) → one.place ≢ new.place → (new ≡ one) ⊎ Before new one → new.place < one.place
behind_served new one other (inl e) = absurd (other (ap (λ (s : Sent). s.place) (sym e)))
behind_served new one other (inr h) = h

ahead_by : (history : History) (new served one : Sent) → Before served new → IsAhead history served → Contains (waiting history) one ⊎ (new ≡ one) → served.endpoint ≡ one.endpoint → served.place < one.place
ahead_by history new served one before ahead (inl h) e = ahead one h e
ahead_by history new served one before ahead (inr same) e = subst (λ (s : Sent). served.place < s.place) same before

servings_of : (start : Start) (journal : Journal) → Stepped start journal → Servings journal (history_of start journal)
unfolding history_of
servings_of start journal none = record {
  known = record { sent_before = All-nil (Contains []); once = λ i j d l m. absurd (omega arith); in_order = λ i j d l m. absurd (omega arith) };
  ahead = All-nil (IsAhead []);
}
servings_of start journal (refusing earlier endpoint why h all) =
    let past = servings_of start earlier h in
    let history = history_of start earlier in
    let now = behind start (refuses endpoint why) history in
    let kept = refusals_change_nothing start history endpoint why in
    record {
      known = record {
        sent_before = subst (λ ones. All (Contains ones) (servings earlier)) (sym kept.sent) past.known.sent_before;
        once = past.known.once;
        in_order = past.known.in_order;
      };
      ahead = All-weaker (IsAhead history) (IsAhead now) (λ served ahead one w e. ahead one (subst (λ ones. Contains ones one) kept.queue w) e) (servings earlier) past.ahead;
    }
servings_of start journal (sending earlier new h next) =
    let past = servings_of start earlier h in
    let history = history_of start earlier in
    let now = behind start (sends new) history in
    let places = in_order start earlier h in
    let more = (sendings_wait_last start history new).sent_last in
    let at : new.place ≡ length earlier = place_next start earlier new next in
    record {
      known = record {
        sent_before = All-weaker (Contains (all_sent history)) (Contains (all_sent now)) (λ served c. subst (λ ones. Contains ones served) (sym more) (Contains-append_left (all_sent history) (new ∷ []) served c)) (servings earlier) past.known.sent_before;
        once = past.known.once;
        in_order = past.known.in_order;
      };
      ahead = λ k d l.
          let served = slice_index_or (servings earlier) k d in
          let low : served.place < length earlier = All-contains (λ one. one.place < length earlier) (all_sent history) served places.below (past.known.sent_before k d l) in
          let before : Before served new = omega arith in
          λ one w e. ahead_by history new served one before (past.ahead k d l) (waited_or_sent start history new one w) e;
    }
servings_of start journal (serving earlier new h all is) =
    let past = servings_of start earlier h in
    let history = history_of start earlier in
    let now = behind start (serves new) history in
    let first = head_is start history new is in
    let same = sym (servings_take_effect start history new).sent_same in
    record {
      known = record {
        sent_before = subst (λ ones. All (Contains ones) (new ∷ servings earlier)) same
            (All-cons (Contains (all_sent history)) new (servings earlier) (waits_of_sent history new first.waits) past.known.sent_before);
        once = AllPairs-cons (λ served other. served.place ≢ other.place) new (servings earlier) (unserved start earlier new (waits_unserved history new first.waits)) past.known.once;
        in_order = AllPairs-cons (λ served other. served.endpoint ≡ other.endpoint → other.place < served.place) new (servings earlier)
            (λ k d l e. past.ahead k d l new first.waits (sym e)) past.known.in_order;
      };
      ahead = All-cons (IsAhead now) new (servings earlier)
          (λ one w e.
          let before = waited start history new one w in
          behind_served new one before.1
          (first_found Before (λ sent. sent.endpoint == new.endpoint) (waiting history) new one (waiting_rises start earlier h) first.first before.0 (eq-eqb one.endpoint new.endpoint (sym e))))
          (All-weaker (IsAhead history) (IsAhead now) (λ served ahead one w e. ahead one (waited start history new one w).0 e) (servings earlier) past.ahead);
    }

-- ---- the laws

pub places_rise : (start : Start) (journal : Journal) → Lawful start journal → AreInOrder journal (history_of start journal)
places_rise start journal h = in_order start journal (stepped start journal h)

pub served_once : (start : Start) (journal : Journal) → Lawful start journal → AreServedOnce journal (history_of start journal)
served_once start journal h = (servings_of start journal (stepped start journal h)).known
