-- What was served on an endpoint, and what its answer was.
use Rattle.std.proofs.Common.{◌≡◌, ℕ, ◌==◌, ◌||◌, ◌⊎◌, ◌∙◌, Bool, true, false, not, cond, is_some, [], ◌∷◌, filter, option_to_list, Option, Some, None, All, Contains, refl, sym, ap, subst, inl, inr, eq-eqb}
use Rattle.std.specs.List.{list_any}
use Rattle.std.specs.Option.{option_map_or}
use Rattle.std.proofs.lemmas.Bool.{eqb-true}
use Rattle.std.proofs.lemmas.List.Elements.{All-contains, All-nil, All-push, Contains-append_cases}
use Rattle.vfs_journal.specs.Entries.{Journal, Sent, serves}
use Rattle.vfs_journal.specs.History.{Event, History, all_sent, births, bound_at, is_dead, living, served_by, serves_place, was_served}
use Rattle.vfs_journal.specs.Past.{behind, event_of, history_of}
use Rattle.vfs_journal.specs.Serving.{moment_of, outcome_at, outcome_of}
use Rattle.vfs_journal.specs.Session.{head}
use Rattle.vfs_journal.specs.Starts.{Bound, Start}
use Rattle.journal_laws.proofs.Members.{contains_cases, contains_none, found, kept_of}
use Rattle.journal_laws.proofs.Places.{head_is, waits_of_sent}
use Rattle.journal_laws.proofs.Steps.{refusals_change_nothing, sendings_wait_last, servings_take_effect}
use Rattle.session_laws.proofs.Framed.{IsFramed, IsShort, sending_framed}
use Rattle.session_laws.proofs.Front.{served_more}
use Rattle.journal_laws.proofs.Stepping.{Stepped, none, refusing, sending, serving}
use Rattle.session_laws.proofs.ShortIds.{short_next}
use Rattle.session_laws.specs.Pipelined.{answer_to, is_on, served_on, serving_of, txid_of}

-- ---- what is sent has ids of 32 bits

abbrev HasShort : Sent → Type 0
HasShort one = IsShort (txid_of one.sending)

pub shorts : (start : Start) (journal : Journal) → Stepped start journal → All HasShort (all_sent (history_of start journal))
unfolding history_of
shorts start journal none = All-nil HasShort
shorts start journal (refusing earlier endpoint why h all) =
    subst (All HasShort) (sym (refusals_change_nothing start (history_of start earlier) endpoint why).sent) (shorts start earlier h)
shorts start journal (sending earlier one h next) =
    subst (All HasShort) (sym (sendings_wait_last start (history_of start earlier) one).sent_last)
    (All-push HasShort (all_sent (history_of start earlier)) one (shorts start earlier h) (short_next start earlier one next))
shorts start journal (serving earlier one h all is) =
    subst (All HasShort) (sym (servings_take_effect start (history_of start earlier) one).sent_same) (shorts start earlier h)

-- ---- how a head is served

-- the endpoint that it is served on was born, and the frames of its answer are what this endpoint answers
pub record IsServedOn (start : Start) (past : History) (new : Sent) : Type 0 where
  pub bound : Bound
  pub born : Contains (births start past) bound
  pub on : bound.endpoint ≡ new.endpoint
  pub framed : IsFramed bound.birth.protocol bound.endpoint new.sending (outcome_of start past new).frames

served_by_bound : (start : Start) (past : History) (new : Sent) → IsShort (txid_of new.sending) → (o : Option Bound) → bound_at start past new.endpoint ≡ o → is_some o ≡ true → IsServedOn start past new
served_by_bound start past new short None is some = absurd (cc)
served_by_bound start past new short (Some bound) is some =
    let here = found (λ (b : Bound). b.endpoint == new.endpoint) (living start past) bound is in
    record {
      bound = bound;
      born = (kept_of (λ (b : Bound). not (is_dead past b.endpoint)) (births start past) bound here.0).0;
      on = eqb-true bound.endpoint new.endpoint here.1;
      framed = subst (λ (o : Option Bound). IsFramed bound.birth.protocol bound.endpoint new.sending (outcome_at start past new o).frames) (sym is)
          (sending_framed (moment_of start past bound) new.sending short);
    }

pub served_on_bound : (start : Start) (earlier : Journal) (new : Sent) → Stepped start earlier → head start (history_of start earlier) new.endpoint ≡ Some new →
    IsServedOn start (history_of start earlier) new
served_on_bound start earlier new h is =
    let past = history_of start earlier in
    let first = head_is start past new is in
    let short = All-contains HasShort (all_sent past) new (shorts start earlier h) (waits_of_sent past new first.waits) in
    served_by_bound start past new short (bound_at start past new.endpoint) refl first.bound

-- ---- what was served, looking back

served_entry : (o : Option Sent) (one : Sent) (endpoint : ℕ) → Contains (filter (is_on endpoint) (option_to_list o)) one → o ≡ Some one
served_entry None one endpoint h = absurd (contains_none one h)
served_entry (Some new) one endpoint h = by_side (contains_cases one new [] (kept_of (is_on endpoint) (new ∷ []) one h).0) where
  by_side : (new ≡ one) ⊎ Contains [] one → Some new ≡ Some one
  by_side (inl e) = ap (λ (s : Sent). Some s) e
  by_side (inr nothing) = absurd (contains_none one nothing)

-- what was served behind one more event was before, or this event serves it
pub served_cases : (event : Event) (past : History) (endpoint : ℕ) (one : Sent) → Contains (served_on (event ∷ past) endpoint) one →
    Contains (served_on past endpoint) one ⊎ (served_by event.entry ≡ Some one)
served_cases event past endpoint one h =
    by_side (Contains-append_cases (served_on past endpoint) (filter (is_on endpoint) (option_to_list (served_by event.entry))) one (subst (λ ones. Contains ones one) (served_more event past endpoint) h)) where
      by_side : Contains (served_on past endpoint) one ⊎ Contains (filter (is_on endpoint) (option_to_list (served_by event.entry))) one → Contains (served_on past endpoint) one ⊎ (served_by event.entry ≡ Some one)
      by_side (inl h) = inl h
      by_side (inr h) = inr (served_entry (served_by event.entry) one endpoint h)

serves_it : (event : Event) (one : Sent) → served_by event.entry ≡ Some one → serves_place one.place event ≡ true
serves_it event one e = ap (λ (o : Option Sent). option_map_or (λ (sent : Sent). sent.place == one.place) o false) e ∙ eq-eqb one.place one.place refl

or_right : (a b : Bool) → b ≡ true → (a || b) ≡ true
or_right true b e = refl
or_right false b e = e

pub served_was : (history : History) (endpoint : ℕ) (one : Sent) → Contains (served_on history endpoint) one → was_served history one ≡ true
served_was [] endpoint one h = absurd (contains_none one h)
served_was (event ∷ past) endpoint one h = by_side (served_was past endpoint one) (served_cases event past endpoint one h) where
  by_side : (Contains (served_on past endpoint) one → was_served past one ≡ true) → Contains (served_on past endpoint) one ⊎ (served_by event.entry ≡ Some one) → was_served (event ∷ past) one ≡ true
  by_side earlier (inl before) = or_right (serves_place one.place event) (was_served past one) (earlier before)
  by_side earlier (inr e) = ap (λ (b : Bool). b || was_served past one) (serves_it event one e)

-- a head is at no place of what was served
pub new_elsewhere : (past : History) (new one : Sent) (endpoint : ℕ) → Contains (served_on past endpoint) one → was_served past new ≡ false → (new.place == one.place) ≡ false
new_elsewhere past new one endpoint there not_yet = by_test (new.place == one.place) refl where
  by_test : (b : Bool) → (new.place == one.place) ≡ b → b ≡ false
  by_test false is = refl
  by_test true is =
      let wrong : true ≡ false = sym (served_was past endpoint one there) ∙ ap (λ (place : ℕ). list_any (serves_place place) past) (sym (eqb-true new.place one.place is)) ∙ not_yet in
      absurd (cc)

-- ---- answers behind one more serving

-- what was served is answered as before, and what is served now by this outcome
pub answer_before : (start : Start) (past : History) (new one : Sent) → (new.place == one.place) ≡ false → answer_to (behind start (serves new) past) one ≡ answer_to past one
unfolding event_of
answer_before start past new one other =
    ap (λ (b : Bool). option_map_or (λ (event : Event). event.outcome.frames) (cond b (Some (event_of start past (serves new))) (serving_of past one)) []) other

pub answer_now : (start : Start) (past : History) (new : Sent) → answer_to (behind start (serves new) past) new ≡ (outcome_of start past new).frames
unfolding event_of
answer_now start past new =
    ap (λ (b : Bool). option_map_or (λ (event : Event). event.outcome.frames) (cond b (Some (event_of start past (serves new))) (serving_of past new)) []) (eq-eqb new.place new.place refl)
