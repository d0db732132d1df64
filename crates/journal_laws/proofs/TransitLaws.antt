-- The laws of endpoints in transit, and of deaths.
use Rattle.std.proofs.Common.{◌≡◌, ℕ, ◌<◌, ◌≤◌, ◌==◌, ◌⊎◌, true, List, [], ◌∷◌, Option, Some, None, Contains, map, refl, sym, ap, ◌∙◌, subst, inl, inr, arith}
use Rattle.std.proofs.lemmas.Bool.{eqb-true, true≢false}
use Rattle.fidl_names.specs.HandleNumber.{is_client}
use Rattle.vfs_journal.specs.Deaths.{deaths_of}
use Rattle.vfs_journal.specs.Entries.{Sent, Journal}
use Rattle.vfs_journal.specs.History.{History, all_sent, living, is_used, waiting}
use Rattle.vfs_journal.specs.Lawful.{Lawful}
use Rattle.vfs_journal.specs.Past.{history_of}
use Rattle.vfs_journal.specs.Serving.{outcome_of}
use Rattle.vfs_journal.specs.Session.{head}
use Rattle.journal_laws.specs.Soundness.{IsStart, mount_ends, AreInTransit, AreKnown, Carries, DieTogether, TravelsBehind, carried, deeper}
use Rattle.vfs_journal.specs.Starts.{Bound, Start}
use Rattle.journal_laws.proofs.Among.{carried_is, some_found}
use Rattle.journal_laws.proofs.Apart.{births_apart, travelling_apart}
use Rattle.journal_laws.proofs.Below.{Below}
use Rattle.journal_laws.proofs.Kept.{lawful_kept, is_serving, end_lives, mounts_born}
use Rattle.journal_laws.proofs.Members.{contains_here, contains_later, contains_cases, contains_none}
use Rattle.journal_laws.proofs.Served.{deaths_closed}
use Rattle.journal_laws.proofs.Sound.{Sound, ByOrigin, IsKnown, IsView, end_apart, nothing_left, view}
use Rattle.journal_laws.proofs.Stepping.{stepped}
use Rattle.journal_laws.proofs.Views.{is_view}

-- what has an origin is on the end of a mount, so that what is on a client's endpoint has none
onward_end : (start : Start) (sent : List Sent) (one : Sent) (from : ℕ) (o : Option ℕ) → ByOrigin start sent one o → o ≡ Some from → Contains (mount_ends start) one.endpoint
onward_end start sent one from None h e = absurd (cc)
onward_end start sent one from (Some origin) h e = h.end

pub no_origin : (start : Start) (one : Sent) → IsStart start → is_client one.endpoint ≡ true → ((from : ℕ) → one.origin ≡ Some from → Contains (mount_ends start) one.endpoint) → one.origin ≡ None
no_origin start one s client end = by_origin one.origin refl where
  by_origin : (o : Option ℕ) → one.origin ≡ o → one.origin ≡ None
  by_origin None e = e
  by_origin (Some from) e = absurd (true≢false (sym client ∙ end_apart start one.endpoint s (end from e)))

-- ---- without a cycle

module _ (start : Start) (history : History) (s : IsStart start) (sound : Sound start (view start history)) (is : IsView (view start history)) where
  on_end : (one : Sent) (from : ℕ) → Contains (waiting history) one → one.origin ≡ Some from → Contains (mount_ends start) one.endpoint
  on_end one from p e = onward_end start (all_sent history) one from one.origin (sound.right one (is.waits one p)).by_origin e

  plain : (one : Sent) → Contains (waiting history) one → is_client one.endpoint ≡ true → one.origin ≡ None
  plain one p client = no_origin start one s client (λ from e. on_end one from p e)

  before_by : (one other : Sent) → Carries history one other.endpoint → Contains (waiting history) other → one.origin ≡ None → one.place < other.place
  before_by one other c q none = sound.order one other (is.waits one c.0) (is.waits other q) none c.1

  -- what carries an endpoint that travels behind a client's was sent on a client's, and behind what waits on that, or is it
  record IsBehind (endpoint other : ℕ) : Type 0 where
    top : Sent
    bottom : Sent
    carries : Carries history top endpoint
    client : is_client top.endpoint ≡ true
    waits : Contains (waiting history) bottom
    on : bottom.endpoint ≡ other
    order : bottom.place ≤ top.place

  behind_it : (endpoint other : ℕ) → is_client other ≡ true → TravelsBehind history endpoint other → IsBehind endpoint other
  behind_it endpoint other client (carried one _ c) =
      record { top = one; bottom = one; carries = c; client = client; waits = c.0; on = refl; order = omega arith }
  behind_it endpoint other client (deeper one _ _ c rest) =
      let next = behind_it one.endpoint other client rest in
      let less = before_by next.top one next.carries c.0 (plain next.top next.carries.0 next.client) in
      let low = next.order in
      record {
        top = one;
        bottom = next.bottom;
        carries = c;
        client = (carried_is next.top one.endpoint next.carries.1).0;
        waits = next.waits;
        on = next.on;
        order = omega (arith, less, low);
      }

  carried_client : (endpoint other : ℕ) → TravelsBehind history endpoint other → is_client endpoint ≡ true
  carried_client endpoint other (carried one _ c) = (carried_is one endpoint c.1).0
  carried_client endpoint other (deeper one _ _ c rest) = (carried_is one endpoint c.1).0

  no_cycle : (endpoint : ℕ) → TravelsBehind history endpoint endpoint → ⊥
  no_cycle endpoint round =
      let cycle = behind_it endpoint endpoint (carried_client endpoint endpoint round) round in
      let there : Carries history cycle.top cycle.bottom.endpoint = subst (Carries history cycle.top) (sym cycle.on) cycle.carries in
      let less = before_by cycle.top cycle.bottom there cycle.waits (plain cycle.top cycle.carries.0 cycle.client) in
      let low = cycle.order in
      absurd (omega (arith, less, low))

reached_by : {A : Type 0} (n : ℕ) → A ⊎ nothing_left n → A
reached_by n (inl h) = h
reached_by n (inr left) = absurd left

pub in_transit : Below → (start : Start) (journal : Journal) → IsStart start → Lawful start journal → AreInTransit start (history_of start journal)
in_transit below start journal s h =
    let history = history_of start journal in
    let kept = lawful_kept below start s journal h in
    let is = is_view start journal (stepped start journal h) in
    record {
      once = λ one other n c d. kept.transit.once one other n c.0 d.0 c.1 d.1;
      unbound = λ one n c. kept.transit.unbound one n c.0 c.1;
      alive = λ one n c. kept.transit.alive one n c.0 c.1;
      reached = λ one p. reached_by one.endpoint (kept.transit.reached one p);
      apart = travelling_apart start journal h is kept.transit;
      acyclic = no_cycle start history s kept.sound is;
      onward = on_end start history s kept.sound is;
      before = before_by start history s kept.sound is;
    }

end_among : (b : Bound) (bounds : List Bound) → Contains bounds b → Contains (map (λ bound. bound.endpoint) bounds) b.endpoint
end_among b [] h = absurd (contains_none b h)
end_among b (x ∷ bounds) h = by_place (contains_cases b x bounds h) (end_among b bounds) where
  by_place : (x ≡ b) ⊎ Contains bounds b → (Contains bounds b → Contains (map (λ bound. bound.endpoint) bounds) b.endpoint) → Contains (x.endpoint ∷ map (λ bound. bound.endpoint) bounds) b.endpoint
  by_place (inl e) rest = subst (λ (y : Bound). Contains (y.endpoint ∷ map (λ bound. bound.endpoint) bounds) b.endpoint) (sym e) (contains_here b.endpoint (map (λ bound. bound.endpoint) bounds))
  by_place (inr h) rest = contains_later b.endpoint x.endpoint (map (λ bound. bound.endpoint) bounds) (rest h)

bound_by : (start : Start) (history : History) (n : ℕ) (b : Bound) → b.endpoint ≡ n → Contains start.mounts b ⊎ IsKnown start (all_sent history) b.endpoint →
    Contains (mount_ends start) n ⊎ ((is_client n ≡ true) × (is_used start history n ≡ true))
bound_by start history n b e (inl h) = inl (subst (Contains (mount_ends start)) e (end_among b start.mounts h))
bound_by start history n b e (inr h) = inr (ap is_client (sym e) ∙ h.0, ap (is_used start history) (sym e) ∙ h.1)

pub are_known : Below → (start : Start) (journal : Journal) → IsStart start → Lawful start journal → AreKnown start (history_of start journal)
are_known below start journal s h =
    let history = history_of start journal in
    let kept = lawful_kept below start s journal h in
    let is = is_view start journal (stepped start journal h) in
    record {
      dead = λ n d. kept.sound.dead n d;
      bound = λ n yes.
          let b = some_found (λ bound. bound.endpoint == n) (living start history) yes in
          bound_by start history n b.0 (eqb-true b.0.endpoint n b.3) (kept.sound.born b.0 (is.living_born b.0 b.2).0);
      ends = λ n c. end_lives start (view start history) n s kept.sound is (mounts_born start history) c;
      apart = births_apart below start s journal h;
      tokens = λ given c. kept.sound.tokens given c;
    }

pub deaths_reach_all : Below → (start : Start) (journal : Journal) (sent : Sent) → IsStart start → Lawful start journal → head start (history_of start journal) sent.endpoint ≡ Some sent →
    DieTogether (history_of start journal) sent (deaths_of (history_of start journal) sent (outcome_of start (history_of start journal) sent))
deaths_reach_all below start journal sent s h first =
    let history = history_of start journal in
    let steps = stepped start journal h in
    let kept = lawful_kept below start s journal h in
    let is = is_view start journal steps in
    let answered = (is_serving below start journal sent s steps kept.sound first).answered in
    λ other n p dead c. deaths_closed start (view start history) sent (outcome_of start history sent) s kept.sound is answered other p dead n c
