-- What was served on an endpoint is a front of what was sent on it.
use Rattle.std.proofs.Common.{◌≡◌, ℕ, ◌==◌, ◌&&◌, ◌||◌, ◌<◌, ◌∙◌, Bool, true, false, not, cond, is_some, List, [], ◌∷◌, ◌++◌, filter, filter_map, reverse, length, option_to_list, Option, Some, None, AllPairs, Contains, refl, sym, ap, subst, append_assoc, eq-eqb, arith}
use Rattle.std.proofs.lemmas.Bool.{eqb-true, not-true}
use Rattle.std.proofs.lemmas.List.{append-nil}
use Rattle.std.proofs.lemmas.List.Kept.{AllPairs-filter}
use Rattle.std.proofs.lemmas.List.Elements.{All-weaker, filter-append, filter_agree}
use Rattle.vfs_journal.specs.Entries.{Journal, Sent, sends, serves, refuses}
use Rattle.vfs_journal.specs.History.{Event, History, all_sent, births, bound_at, is_bound, is_dead, living, served_by, waiting, waits, was_served}
use Rattle.vfs_journal.specs.Past.{behind, event_of, history_of}
use Rattle.vfs_journal.specs.Starts.{Bound, Start}
use Rattle.journal_laws.proofs.Lists.{filter-filter, filter_map-more, pairs-head}
use Rattle.journal_laws.proofs.Among.{one_place}
use Rattle.journal_laws.proofs.Members.{found, kept_of}
use Rattle.journal_laws.proofs.Places.{IsHead, head_is, in_order, waits_of_sent}
use Rattle.journal_laws.proofs.Views.{fresh_unserved}
use Rattle.journal_laws.proofs.Steps.{refusals_change_nothing, sendings_wait_last, servings_take_effect}
use Rattle.journal_laws.proofs.Stepping.{IsSentNext, Stepped, none, refusing, sending, serving, place_next}
use Rattle.journal_laws.proofs.Filters.{all_kept, all_of, found_first}
use Rattle.session_laws.specs.Pipelined.{is_on, sent_on, served_on, unserved_on}

abbrev Before : Sent → Sent → Type 0
Before one other = one.place < other.place

abbrev pub not_served : History → Sent → Bool
not_served history sent = not (was_served history sent)

-- what one more event serves on an endpoint
pub served_more : (event : Event) (past : History) (endpoint : ℕ) →
    served_on (event ∷ past) endpoint ≡ served_on past endpoint ++ filter (is_on endpoint) (option_to_list (served_by event.entry))
served_more event past endpoint =
    ap (filter (is_on endpoint)) (filter_map-more (λ (e : Event). served_by e.entry) event past)
    ∙ filter-append (is_on endpoint) (filter_map (λ (e : Event). served_by e.entry) (reverse past)) (option_to_list (served_by event.entry))

-- ---- a head's endpoint lives

found_living : (start : Start) (past : History) (endpoint : ℕ) (o : Option Bound) → bound_at start past endpoint ≡ o → is_some o ≡ true → is_dead past endpoint ≡ false
found_living start past endpoint None is some = absurd (cc)
found_living start past endpoint (Some bound) is some =
    let here = found (λ (b : Bound). b.endpoint == endpoint) (living start past) bound is in
    let lives = (kept_of (λ (b : Bound). not (is_dead past b.endpoint)) (births start past) bound here.0).1 in
    subst (λ (n : ℕ). is_dead past n ≡ false) (eqb-true bound.endpoint endpoint here.1) (not-true (is_dead past bound.endpoint) lives)

pub bound_lives : (start : Start) (past : History) (endpoint : ℕ) → is_bound start past endpoint ≡ true → is_dead past endpoint ≡ false
bound_lives start past endpoint h = found_living start past endpoint (bound_at start past endpoint) refl h

-- ---- what isn't served on an endpoint that lives waits

waits_by : (past : History) (endpoint : ℕ) (one : Sent) → is_dead past endpoint ≡ false → (on : Bool) → (one.endpoint == endpoint) ≡ on →
    (waits past one && on) ≡ (on && not_served past one)
waits_by past endpoint one lives true is =
    let alive : is_dead past one.endpoint ≡ false = subst (λ (n : ℕ). is_dead past n ≡ false) (sym (eqb-true one.endpoint endpoint is)) lives in
    ap (λ (dead : Bool). (not_served past one && not dead) && true) alive ∙ both (not_served past one) where
      both : (b : Bool) → ((b && true) && true) ≡ b
      both true = refl
      both false = refl
waits_by past endpoint one lives false is = none (waits past one) where
  none : (b : Bool) → (b && false) ≡ false
  none true = refl
  none false = refl

queue_unserved : (past : History) (endpoint : ℕ) → is_dead past endpoint ≡ false → filter (is_on endpoint) (waiting past) ≡ unserved_on past endpoint
queue_unserved past endpoint lives =
    filter-filter (is_on endpoint) (waits past) (all_sent past)
    ∙ filter_agree (λ one. waits past one && is_on endpoint one) (λ one. is_on endpoint one && not_served past one)
    (λ one. waits_by past endpoint one lives (is_on endpoint one) refl) (all_sent past)
    ∙ sym (filter-filter (not_served past) (is_on endpoint) (all_sent past))

-- the head is the first that isn't served
first_unserved : (start : Start) (past : History) (new : Sent) → IsHead start past new → (rest : List Sent) × (unserved_on past new.endpoint ≡ new ∷ rest)
first_unserved start past new h =
    let behind = found_first (is_on new.endpoint) (waiting past) new h.first in
    (behind.0, sym (queue_unserved past new.endpoint (bound_lives start past new.endpoint h.bound)) ∙ behind.1)

-- ---- one more serving

not_or : (a b : Bool) → not (a || b) ≡ (not b && not a)
not_or true true = refl
not_or true false = refl
not_or false true = refl
not_or false false = refl

abbrev elsewhere : Sent → Sent → Bool
elsewhere new one = not (new.place == one.place)

-- what isn't served behind a serving wasn't before, and is another one
left_unserved : (start : Start) (past : History) (new : Sent) (endpoint : ℕ) →
    unserved_on (behind start (serves new) past) endpoint ≡ filter (elsewhere new) (unserved_on past endpoint)
left_unserved start past new endpoint =
    let now = behind start (serves new) past in
    let effect = servings_take_effect start past new in
    ap (λ ones. filter (not_served now) (filter (is_on endpoint) ones)) effect.sent_same
    ∙ filter_agree (not_served now) (λ one. not_served past one && elsewhere new one)
    (λ one. ap not (effect.served one) ∙ not_or (new.place == one.place) (was_served past one)) (sent_on past endpoint)
    ∙ sym (filter-filter (elsewhere new) (not_served past) (sent_on past endpoint))

-- of a list by places the others are those behind the first
before_elsewhere : (new one : Sent) → Before new one → elsewhere new one ≡ true
before_elsewhere new one l = by_test (new.place == one.place) refl where
  by_test : (b : Bool) → (new.place == one.place) ≡ b → not b ≡ true
  by_test true is = let same = eqb-true new.place one.place is in absurd (omega arith)
  by_test false is = refl

others_behind : (new : Sent) (rest : List Sent) → AllPairs Before (new ∷ rest) → filter (elsewhere new) (new ∷ rest) ≡ rest
others_behind new rest rise =
    ap (λ (b : Bool). cond (not b) (new ∷ filter (elsewhere new) rest) (filter (elsewhere new) rest)) (eq-eqb new.place new.place refl)
    ∙ all_kept (elsewhere new) rest (All-weaker (Before new) (λ one. elsewhere new one ≡ true) (before_elsewhere new) rest (pairs-head Before new rest rise))

unserved_of_sent : (history : History) (endpoint : ℕ) (one : Sent) → Contains (unserved_on history endpoint) one → Contains (all_sent history) one × (is_on endpoint one ≡ true)
unserved_of_sent history endpoint one h = kept_of (is_on endpoint) (all_sent history) one (kept_of (not_served history) (sent_on history endpoint) one h).0

-- what is served is the first that wasn't, and on another endpoint there is nothing at its place
served_first : (start : Start) (past : History) (new : Sent) (endpoint : ℕ) → AllPairs Before (all_sent past) → IsHead start past new → (on : Bool) → (new.endpoint == endpoint) ≡ on →
    cond on (new ∷ []) [] ++ filter (elsewhere new) (unserved_on past endpoint) ≡ unserved_on past endpoint
served_first start past new endpoint rise h true is =
    let same = eqb-true new.endpoint endpoint is in
    subst (λ (n : ℕ). new ∷ filter (elsewhere new) (unserved_on past n) ≡ unserved_on past n) same
    (let first = first_unserved start past new h in
    let rises : AllPairs Before (unserved_on past new.endpoint) = AllPairs-filter Before (not_served past) (sent_on past new.endpoint) (AllPairs-filter Before (is_on new.endpoint) (all_sent past) rise) in
    ap (λ ones. new ∷ filter (elsewhere new) ones) first.1
    ∙ ap (λ ones. new ∷ ones) (others_behind new first.0 (subst (AllPairs Before) first.1 rises))
    ∙ sym first.1)
served_first start past new endpoint rise h false is =
    all_kept (elsewhere new) (unserved_on past endpoint) (all_of (λ one. elsewhere new one ≡ true) (unserved_on past endpoint) other) where
      other : (one : Sent) → Contains (unserved_on past endpoint) one → elsewhere new one ≡ true
      other one here = by_test (new.place == one.place) refl where
        by_test : (b : Bool) → (new.place == one.place) ≡ b → not b ≡ true
        by_test false at = refl
        by_test true at =
            let of = unserved_of_sent past endpoint one here in
            let same = one_place (all_sent past) new one rise (waits_of_sent past new h.waits) of.0 (eqb-true new.place one.place at) in
            let wrong : true ≡ false = sym of.1 ∙ ap (is_on endpoint) (sym same) ∙ is in
            absurd (cc)

-- ---- the front

abbrev HasFront : History → ℕ → Type 0
HasFront history endpoint = sent_on history endpoint ≡ served_on history endpoint ++ unserved_on history endpoint

unserved_kept : (past : History) (new : Sent) (endpoint : ℕ) → was_served past new ≡ false → (on : Bool) →
    filter (not_served past) (cond on (new ∷ []) []) ≡ cond on (new ∷ []) []
unserved_kept past new endpoint is true = ap (λ (b : Bool). cond (not b) (new ∷ []) []) is
unserved_kept past new endpoint is false = refl

-- what is sent next wasn't served
pub new_unserved : (start : Start) (earlier : Journal) (new : Sent) → Stepped start earlier → IsSentNext start earlier new → was_served (history_of start earlier) new ≡ false
new_unserved start earlier new h next = fresh_unserved start earlier new h (let at : new.place ≡ length earlier = place_next start earlier new next in omega (arith, at))

pub front : (start : Start) (journal : Journal) (endpoint : ℕ) → Stepped start journal → HasFront (history_of start journal) endpoint
unfolding history_of event_of
front start journal endpoint none = refl
front start journal endpoint (refusing earlier at why h all) =
    let past = history_of start earlier in
    let now = behind start (refuses at why) past in
    let kept = refusals_change_nothing start past at why in
    let served = served_more (event_of start past (refuses at why)) past endpoint ∙ append-nil (served_on past endpoint) in
    let unserved : unserved_on now endpoint ≡ unserved_on past endpoint =
    filter_agree (not_served now) (not_served past) (λ one. ap not (kept.served one)) (sent_on now endpoint)
    ∙ ap (λ ones. filter (not_served past) (filter (is_on endpoint) ones)) kept.sent in
    ap (filter (is_on endpoint)) kept.sent ∙ front start earlier endpoint h ∙ sym (ap (λ ones. ones ++ unserved_on now endpoint) served ∙ ap (λ ones. served_on past endpoint ++ ones) unserved)
front start journal endpoint (sending earlier new h next) =
    let past = history_of start earlier in
    let now = behind start (sends new) past in
    let more = sendings_wait_last start past new in
    let last = cond (is_on endpoint new) (new ∷ []) [] in
    let served = served_more (event_of start past (sends new)) past endpoint ∙ append-nil (served_on past endpoint) in
    let sent : sent_on now endpoint ≡ sent_on past endpoint ++ last = ap (filter (is_on endpoint)) more.sent_last ∙ filter-append (is_on endpoint) (all_sent past) (new ∷ []) in
    let unserved : unserved_on now endpoint ≡ unserved_on past endpoint ++ last =
    filter_agree (not_served now) (not_served past) (λ one. ap not (more.served one)) (sent_on now endpoint)
    ∙ ap (filter (not_served past)) sent
    ∙ filter-append (not_served past) (sent_on past endpoint) last
    ∙ ap (λ ones. unserved_on past endpoint ++ ones) (unserved_kept past new endpoint (new_unserved start earlier new h next) (is_on endpoint new)) in
    sent ∙ ap (λ ones. ones ++ last) (front start earlier endpoint h) ∙ append_assoc (served_on past endpoint) (unserved_on past endpoint) last
    ∙ sym (ap (λ ones. ones ++ unserved_on now endpoint) served ∙ ap (λ ones. served_on past endpoint ++ ones) unserved)
front start journal endpoint (serving earlier new h all is) =
    let past = history_of start earlier in
    let now = behind start (serves new) past in
    let first = cond (is_on endpoint new) (new ∷ []) [] in
    let served = served_more (event_of start past (serves new)) past endpoint in
    let places = in_order start earlier h in
    let unserved = served_first start past new endpoint places.rise (head_is start past new is) (is_on endpoint new) refl in
    ap (filter (is_on endpoint)) (servings_take_effect start past new).sent_same
    ∙ front start earlier endpoint h
    ∙ ap (λ ones. served_on past endpoint ++ ones) (sym unserved)
    ∙ sym (append_assoc (served_on past endpoint) first (filter (elsewhere new) (unserved_on past endpoint)))
    ∙ sym (ap (λ ones. ones ++ unserved_on now endpoint) served ∙ ap (λ ones. (served_on past endpoint ++ first) ++ ones) (left_unserved start past new endpoint))
