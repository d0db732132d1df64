-- The view of each lawful journal is fit.
use Rattle.std.proofs.Common.{◌≡◌, ◌≢◌, ℕ, ◌+◌, ◌<◌, ◌≤◌, ◌==◌, ◌⊎◌, ◌&&◌, Bool, true, false, not, [], ◌∷◌, length, Some, All, AllPairs, Contains, refl, sym, ap, ◌∙◌, subst, inl, inr, arith}
use Rattle.std.specs.List.{list_any}
use Rattle.std.proofs.lemmas.Bool.{or_cases, true≢false}
use Rattle.std.proofs.lemmas.List.Elements.{All-weaker, All-filter, All-contains, All-contains_itself}
use Rattle.std.proofs.lemmas.List.Kept.{AllPairs-filter}
use Rattle.fidl_names.specs.declared.limits.TheConstants as limit
use Rattle.link_admission.specs.Numbering.{among}
use Rattle.fidl_names.specs.HandleNumber.{is_client}
use Rattle.conn_rules.specs.Births.{Position}
use Rattle.vfs_journal.specs.Deaths.{deaths_of}
use Rattle.vfs_journal.specs.Entries.{Sent, Journal, message, endpoints_in, handles_of, serves}
use Rattle.vfs_journal.specs.Fit.{IsFit, ServesFit, handles_out}
use Rattle.vfs_journal.specs.History.{History, all_sent, births, is_bound, is_dead, living, travelling, waiting, waits, was_carried}
use Rattle.vfs_journal.specs.Lawful.{Lawful}
use Rattle.vfs_journal.specs.Outcomes.{Given, Outcome}
use Rattle.vfs_journal.specs.Past.{history_of}
use Rattle.vfs_journal.specs.Serving.{outcome_of}
use Rattle.vfs_journal.specs.Session.{head, sent_behind}
use Rattle.vfs_journal.specs.Starts.{Bound, Start}
use Rattle.vfs_journal.specs.Tokens.{all_given, is_held, was_given}
use Rattle.vfs_journal.specs.View.{deaths_in, head_in, is_bound_in, is_held_in, view_of, with_position}
use Rattle.journal_laws.specs.Soundness.{IsStart, OtherEndpoint}
use Rattle.journal_laws.specs.Viewing.{view_behind}
use Rattle.journal_laws.proofs.Among.{carried_from, from_many, passes_any}
use Rattle.journal_laws.proofs.Apart.{births_apart, carry_apart, many_apart}
use Rattle.journal_laws.proofs.Below.{Below}
use Rattle.journal_laws.proofs.Kept.{end_lives, is_forwarded, is_serving, lawful_kept, mounts_born}
use Rattle.journal_laws.proofs.KnowingCount.{deaths_apart}
use Rattle.journal_laws.proofs.KnowingLists.{apart_pairs}
use Rattle.journal_laws.proofs.KnowingServed.{after_served}
use Rattle.journal_laws.proofs.Lists.{pairs-map}
use Rattle.journal_laws.proofs.Places.{in_order, waiting_rises, waits_of_sent}
use Rattle.journal_laws.proofs.Sound.{end_apart, view}
use Rattle.journal_laws.proofs.Served.{how_it_dies, known_by_death}
use Rattle.journal_laws.proofs.Stepping.{stepped}
use Rattle.journal_laws.proofs.TokensGiven.{lawful_given}
use Rattle.journal_laws.proofs.TransitLaws.{deaths_reach_all, in_transit}
use Rattle.journal_laws.proofs.ViewParts.{bound_is, deaths_are, head_is_in, held_is, outcome_is_in, token_is}
use Rattle.journal_laws.proofs.Views.{is_view}

-- ---- who lives, and what is in transit

lives_apart : Below → (start : Start) (journal : Journal) → IsStart start → Lawful start journal →
    AllPairs (λ one other. one.0.endpoint ≢ other.0.endpoint) (view_behind start journal).living
lives_apart below start journal s h =
    let past = history_of start journal in
    pairs-map (λ (one other : Bound × Position). one.0.endpoint ≢ other.0.endpoint) (with_position past) (living start past)
    (AllPairs-filter OtherEndpoint (λ bound. not (is_dead past bound.endpoint)) (births start past) (births_apart below start s journal h))

live_by : (start : Start) (past : History) (n : ℕ) → (is_bound start past n ≡ true) ⊎ (among n (travelling past) ≡ true) → (is_bound_in (view_of start past) n ≡ true) ⊎ (among n (travelling past) ≡ true)
live_by start past n (inl h) = inl (sym (bound_is start past n) ∙ h)
live_by start past n (inr h) = inr h

-- ---- handles

handle_once : Below → (start : Start) (journal : Journal) → IsStart start → Lawful start journal → (one other : Sent) (n : ℕ) →
    Contains (waiting (history_of start journal)) one → Contains (waiting (history_of start journal)) other → among n (handles_of one.sending) ≡ true → among n (handles_of other.sending) ≡ true → one ≡ other
handle_once below start journal s h one other n p q c d =
    let past = history_of start journal in
    let kept = lawful_kept below start s journal h in
    let given = lawful_given below start s journal h in
    by_kind ((kept.sound.right one (waits_of_sent past one p)).handles n c) kept.transit.once given.once where
      by_kind : (is_client n ≡ true) ⊎ (0x80000000 ≤ n) →
          ((x y : Sent) (m : ℕ) → Contains (waiting (history_of start journal)) x → Contains (waiting (history_of start journal)) y → among m (endpoints_in x) ≡ true → among m (endpoints_in y) ≡ true → x ≡ y) →
          ((x y : Sent) (m : ℕ) → limit.FIRST_TOKEN ≤ m → Contains (all_sent (history_of start journal)) x → Contains (all_sent (history_of start journal)) y → among m (handles_of x.sending) ≡ true → among m (handles_of y.sending) ≡ true → x ≡ y) → one ≡ other
      by_kind (inl client) endpoints tokens = endpoints one other n p q (carried_from one n client c) (carried_from other n client d)
      by_kind (inr high) endpoints tokens =
          tokens one other n high (waits_of_sent (history_of start journal) one p) (waits_of_sent (history_of start journal) other q) c d

not_held : (history : History) (n : ℕ) → was_carried history n ≡ true → is_held history n ≡ false
not_held history n h = by_test (was_given history n) (was_carried history n) h where
  by_test : (a b : Bool) → b ≡ true → a && not b ≡ false
  by_test true true e = refl
  by_test true false e = absurd (true≢false (sym e))
  by_test false b e = refl

handle_kind : Below → (start : Start) (journal : Journal) → IsStart start → Lawful start journal → (n : ℕ) → among n (handles_out (view_behind start journal)) ≡ true →
    (is_client n ≡ true) ⊎ ((list_any (λ (given : Given). given.token == n) (view_behind start journal).given ≡ true) × (is_held_in (view_behind start journal) n ≡ false))
handle_kind below start journal s h n c =
    let past = history_of start journal in
    let kept = lawful_kept below start s journal h in
    let given = lawful_given below start s journal h in
    let one = from_many (λ sent. handles_of sent.sending) n (waiting past) c in
    let carried : was_carried past n ≡ true = passes_any (λ (x : Sent). among n (handles_of x.sending)) (all_sent past) one.0 (waits_of_sent past one.0 one.1) one.2 in
    by_kind carried (given.given n) ((kept.sound.right one.0 (waits_of_sent past one.0 one.1)).handles n one.2) where
      by_kind : was_carried (history_of start journal) n ≡ true → (limit.FIRST_TOKEN ≤ n → was_carried (history_of start journal) n ≡ true → was_given (history_of start journal) n ≡ true) → (is_client n ≡ true) ⊎ (0x80000000 ≤ n) →
          (is_client n ≡ true) ⊎ ((list_any (λ (given : Given). given.token == n) (view_behind start journal).given ≡ true) × (is_held_in (view_behind start journal) n ≡ false))
      by_kind carried given (inl client) = inl client
      by_kind carried given (inr high) = inr (given high carried, sym (held_is start (history_of start journal) n) ∙ not_held (history_of start journal) n carried)

-- ---- servings

serves_fit : Below → (start : Start) (journal : Journal) → IsStart start → Lawful start journal → (sent : Sent) → head_in (view_behind start journal) sent.endpoint ≡ Some sent → ServesFit (view_behind start journal) sent
serves_fit below start journal s h sent in_view =
    let past = history_of start journal in
    let steps = stepped start journal h in
    let kept = lawful_kept below start s journal h in
    let is = is_view start journal steps in
    let first : head start past sent.endpoint ≡ Some sent = head_is_in start past sent.endpoint ∙ in_view in
    let serving' = is_serving below start journal sent s steps kept.sound first in
    let after = after_served below start journal sent s h first in
    let o = outcome_is_in start past sent in
    let deaths = deaths_are start past sent in
    let outcome = outcome_of start past sent in
    let died = λ (n : ℕ) (e : among n (deaths_in (view_behind start journal) sent) ≡ true). ap (among n) deaths ∙ e in
    record {
      binds = λ bound e. serving'.answered.bound_in bound (ap (λ (x : Outcome). x.bound) o ∙ e);
      sends_on = λ forward e. (serving'.answered.goes_on forward (ap (λ (x : Outcome). x.forward) o ∙ e)).0;
      goes_to = λ forward e.
          let on = ap (λ (x : Outcome). x.forward) o ∙ e in
          let new = sent_behind (serves sent ∷ journal) forward.endpoint (message forward.bytes (forward.object ∷ [])) (Some sent.place) in
          let end = (is_forwarded below start past sent new forward s kept.sound is serving' on refl refl).end in
          (end_apart start forward.endpoint s end, sym (bound_is start past forward.endpoint) ∙ (end_lives start (view start past) forward.endpoint s kept.sound is (mounts_born start past) end).1);
      gives = λ given e. sym (token_is start past) ∙ serving'.parts.token_next given (ap (λ (x : Outcome). x.token) o ∙ e);
      clients = λ n e. (
        (known_by_death start (view start past) sent outcome n s kept.sound is serving'.answered (how_it_dies (view start past) sent outcome n (died n e))).0,
        live_by start past n (or_cases (is_bound start past n) (among n (travelling past)) (after.died n (died n e))),
      );
      once = subst (AllPairs (λ one other. one ≢ other)) deaths (apart_pairs (deaths_of past sent outcome) (deaths_apart below start journal sent s h first));
      closed = λ other n p dead c.
          ap (among n) (sym deaths) ∙ deaths_reach_all below start journal sent s h first other n p (died other.endpoint dead) c;
    }

-- what was sent has places below the journal's length
same_length : (start : Start) (journal : Journal) → length (history_of start journal) ≡ length journal
unfolding history_of
same_length start [] = refl
same_length start (entry ∷ journal) = let rest = same_length start journal in omega (arith, rest)

waits_below : (start : Start) (journal : Journal) → All (λ (one : Sent). one.place < length journal) (all_sent (history_of start journal)) → All (λ (one : Sent). one.place < length (history_of start journal)) (waiting (history_of start journal))
waits_below start journal below =
    let past = history_of start journal in
    subst (λ (n : ℕ). All (λ (one : Sent). one.place < n) (waiting past)) (sym (same_length start journal))
    (All-filter (waits past) (λ (one : Sent). one.place < length journal) (all_sent past) below)

pub views_fit : Below → (start : Start) (journal : Journal) → IsStart start → Lawful start journal → IsFit (view_behind start journal)
views_fit below start journal s h =
    let past = history_of start journal in
    let steps = stepped start journal h in
    let kept = lawful_kept below start s journal h in
    let transit = in_transit below start journal s h in
    let given = lawful_given below start s journal h in
    let order = in_order start journal steps in
    record {
      rise = waiting_rises start journal steps;
      below = waits_below start journal order.below;
      apart = lives_apart below start journal s h;
      reached = λ sent p. live_by start past sent.endpoint (transit.reached sent p);
      once = many_apart (λ sent. handles_of sent.sending) (waiting past) (λ one p. carry_apart start journal h one (waits_of_sent past one p)) (handle_once below start journal s h) (waiting_rises start journal steps);
      unbound = λ n c. let one = from_many endpoints_in n (waiting past) c in sym (bound_is start past n) ∙ transit.unbound one.0 n (one.1, one.2);
      carried = λ n c. handle_kind below start journal s h n c;
      tokens = given.rise;
      numbered = All-weaker (Contains (all_given past)) (λ (one : Given). (limit.FIRST_TOKEN ≤ one.token) × (one.token < limit.FIRST_TOKEN + length (all_given past)))
          (λ one p. (kept.sound.tokens one p, All-contains (λ (g : Given). g.token < limit.FIRST_TOKEN + length (all_given past)) (all_given past) one given.below p)) (all_given past) (All-contains_itself (all_given past));
      held = All-filter (λ (one : Given). not (was_carried past one.token)) (Contains (all_given past)) (all_given past) (All-contains_itself (all_given past));
      heads = λ sent e. serves_fit below start journal s h sent e;
    }
