-- A hang-up waits until its endpoint is dead.
use Rattle.std.proofs.Common.{◌≡◌, ℕ, ◌==◌, ◌&&◌, ◌||◌, ◌⊎◌, Bool, true, false, not, if◌then◌else◌, List, [], ◌∷◌, length, Option, Some, None, Contains, inl, inr, refl, sym, ap, ◌∙◌, subst, arith}
use Rattle.std.specs.List.{list_any}
use Rattle.std.proofs.lemmas.List.Elements.{Contains-append_left}
use Rattle.std.proofs.lemmas.Bool.{eq-eqb, eqb-true, or_cases, or_left, and_parts}
use Rattle.link_admission.specs.Numbering.{among}
use Rattle.vfs_journal.specs.Deaths.{deaths_of, others}
use Rattle.vfs_journal.specs.Entries.{Sent, Sending, message, hang_up, Journal, sends, is_hang_up}
use Rattle.vfs_journal.specs.History.{History, bound_at, hung_up, is_bound, is_dead, living, waiting, waits}
use Rattle.vfs_journal.specs.Lawful.{Lawful}
use Rattle.vfs_journal.specs.Past.{behind, event_of, history_of}
use Rattle.vfs_journal.specs.Serving.{outcome_of, outcome_at, outcome_of_sending, moment_of}
use Rattle.vfs_journal.specs.Starts.{Bound, Start}
use Rattle.journal_laws.proofs.Among.{one_place, passes_any, some_found}
use Rattle.journal_laws.proofs.Members.{kept}
use Rattle.journal_laws.proofs.Places.{head_is, waiting_rises}
use Rattle.journal_laws.proofs.Spreading.{among_front, spread_keeps}
use Rattle.journal_laws.proofs.Stepping.{Stepped, stepped, none, refusing, sending, serving, place_next}
use Rattle.journal_laws.proofs.Steps.{refusals_change_nothing, sendings_wait_last, servings_take_effect}
use Rattle.journal_laws.proofs.Views.{fresh_unserved, new_waits}

abbrev hangs_up_on : ℕ → Sent → Bool
hangs_up_on endpoint sent = is_hang_up sent.sending && (sent.endpoint == endpoint)

-- one waits
record WaitsOn (history : History) (endpoint : ℕ) : Type 0 where
  one : Sent
  there : Contains (waiting history) one
  hangs : hangs_up_on endpoint one ≡ true

-- ---- a serving

not_false : (b : Bool) → not b ≡ true → b ≡ false
not_false false e = refl
not_false true e = absurd cc

not_true : (b : Bool) → b ≡ false → not b ≡ true
not_true b e = ap not e

neither : (a b : Bool) → (a || b) ≡ false → (a ≡ false) × (b ≡ false)
neither false b e = (refl, e)
neither true b e = absurd cc

-- who hangs up ends its endpoint
ends_by : (start : Start) (history : History) (sent : Sent) (sending : Sending) (bound : Option Bound) → sent.sending ≡ sending → is_hang_up sending ≡ true → bound_at start history sent.endpoint ≡ bound →
    (b : Bound) → bound ≡ Some b → among b.endpoint (outcome_at start history sent bound).ends ≡ true
unfolding outcome_of_sending
ends_by start history sent (message bytes handles) bound e h at b is = absurd cc
ends_by start history sent hang_up None e h at b is = absurd cc
ends_by start history sent hang_up (Some bound) e h at b is =
    let same : bound ≡ b = cc in
    subst (λ (s : Sending). among b.endpoint (outcome_of_sending (moment_of start history bound) s).ends ≡ true) (sym e)
    (or_left (bound.endpoint == b.endpoint) false (eq-eqb bound.endpoint b.endpoint (ap (λ (x : Bound). x.endpoint) same)))

dies : (start : Start) (history : History) (sent : Sent) → is_bound start history sent.endpoint ≡ true → is_hang_up sent.sending ≡ true →
    among sent.endpoint (deaths_of history sent (outcome_of start history sent)) ≡ true
dies start history sent bound h =
    let found = some_found (λ (b : Bound). b.endpoint == sent.endpoint) (living start history) bound in
    let at : found.0.endpoint ≡ sent.endpoint = eqb-true found.0.endpoint sent.endpoint found.3 in
    let ends = ends_by start history sent sent.sending (bound_at start history sent.endpoint) refl h refl found.0 found.1 in
    let here : among sent.endpoint (outcome_of start history sent).ends ≡ true = subst (λ (n : ℕ). among n (outcome_of start history sent).ends ≡ true) at ends in
    spread_keeps sent.endpoint _ (others history sent) (among_front sent.endpoint (outcome_of start history sent).ends _ here)

-- ---- each entry

hung_up_waits : (start : Start) (journal : Journal) → Stepped start journal → (endpoint : ℕ) → hung_up (history_of start journal) endpoint ≡ true → is_dead (history_of start journal) endpoint ≡ false →
    WaitsOn (history_of start journal) endpoint
unfolding history_of event_of
hung_up_waits start journal none endpoint h alive = absurd cc
hung_up_waits start journal (refusing earlier at why steps all) endpoint h alive =
    let past = history_of start earlier in
    let same = refusals_change_nothing start past at why in
    let w = hung_up_waits start earlier steps endpoint (sym (ap (list_any (hangs_up_on endpoint)) same.sent) ∙ h) (sym (same.same.dead endpoint) ∙ alive) in
    record { one = w.one; there = subst (λ (xs : List Sent). Contains xs w.one) (sym same.queue) w.there; hangs = w.hangs }
hung_up_waits start journal (sending earlier new steps next) endpoint h alive =
    let past = history_of start earlier in
    let is = sendings_wait_last start past new in
    let undead : is_dead past endpoint ≡ false = sym (is.same.dead endpoint) ∙ alive in
    by_place (λ before. hung_up_waits start earlier steps endpoint before undead) undead (or_cases (hung_up past endpoint) (hangs_up_on endpoint new) (sym (is.closed endpoint) ∙ h))
  where
    by_place : (hung_up (history_of start earlier) endpoint ≡ true → WaitsOn (history_of start earlier) endpoint) → is_dead (history_of start earlier) endpoint ≡ false → (hung_up (history_of start earlier) endpoint ≡ true) ⊎ (hangs_up_on endpoint new ≡ true) → WaitsOn (behind start (sends new) (history_of start earlier)) endpoint
    by_place waits_so undead (inl before) =
        let past = history_of start earlier in
        let w = waits_so before in
        record { one = w.one; there = subst (λ (xs : List Sent). Contains xs w.one) (sym (sendings_wait_last start past new).queue) (Contains-append_left (waiting past) (if waits past new then new ∷ [] else []) w.one w.there); hangs = w.hangs }
    by_place waits_so undead (inr hangs) =
        let past = history_of start earlier in
        let parts = and_parts (is_hang_up new.sending) (new.endpoint == endpoint) hangs in
        let at = eqb-true new.endpoint endpoint parts.1 in
        record {
          one = new;
          there = new_waits start past new (fresh_unserved start earlier new steps (let place : new.place ≡ length earlier = place_next start earlier new next in omega (arith, place))) (ap (is_dead past) at ∙ undead);
          hangs = hangs;
        }
hung_up_waits start journal (serving earlier served steps all first) endpoint h alive =
    let past = history_of start earlier in
    let is = servings_take_effect start past served in
    let undead = neither (among endpoint (deaths_in past)) (is_dead past endpoint) (sym (is.dead endpoint) ∙ alive) in
    let w = hung_up_waits start earlier steps endpoint (sym (is.closed endpoint) ∙ h) undead.1 in
    let at = eqb-true w.one.endpoint endpoint (and_parts (is_hang_up w.one.sending) (w.one.endpoint == endpoint) w.hangs).1 in
    record {
      one = w.one;
      there = subst (λ (xs : List Sent). Contains xs w.one) (sym is.queue)
          (kept (λ (other : Sent). not (among other.endpoint (deaths_in past))) (others past served) w.one
          (kept (λ (other : Sent). not (other.place == served.place)) (waiting past) w.one w.there (not_true (w.one.place == served.place) (other w undead.0 at (w.one.place == served.place) refl)))
          (not_true (among w.one.endpoint (deaths_in past)) (ap (λ (n : ℕ). among n (deaths_in past)) at ∙ undead.0)));
      hangs = w.hangs;
    }
  where
    deaths_in : History → List ℕ
    deaths_in past = deaths_of past served (outcome_of start past served)

    other : (w : WaitsOn (history_of start earlier) endpoint) → among endpoint (deaths_in (history_of start earlier)) ≡ false → w.one.endpoint ≡ endpoint →
        (b : Bool) → (w.one.place == served.place) ≡ b → b ≡ false
    other w lives at false e = refl
    other w lives at true e =
        let past = history_of start earlier in
        let head = head_is start past served first in
        let same : w.one ≡ served = one_place (waiting past) w.one served (waiting_rises start earlier steps) w.there head.waits (eqb-true w.one.place served.place e) in
        let hangs = (and_parts (is_hang_up w.one.sending) (w.one.endpoint == endpoint) w.hangs).0 in
        let there = dies start past served head.bound (ap (λ (x : Sent). is_hang_up x.sending) (sym same) ∙ hangs) in
        sym there ∙ ap (λ (n : ℕ). among n (deaths_in past)) (sym (ap (λ (x : Sent). x.endpoint) same) ∙ at) ∙ lives

pub hang_ups_wait : (start : Start) (journal : Journal) (endpoint : ℕ) → Lawful start journal → hung_up (history_of start journal) endpoint ≡ true → is_dead (history_of start journal) endpoint ≡ false →
    list_any (hangs_up_on endpoint) (waiting (history_of start journal)) ≡ true
hang_ups_wait start journal endpoint lawful h alive =
    let w = hung_up_waits start journal (stepped start journal lawful) endpoint h alive in
    passes_any (hangs_up_on endpoint) (waiting (history_of start journal)) w.one w.there w.hangs
