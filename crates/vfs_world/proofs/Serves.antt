-- Servings by their steps, one after another, lead to the journals that the definitions of a session have behind them.
use Rattle.std.proofs.Common.{◌≡◌, ℕ, zero, suc, ◌+◌, ◌-◌, ◌<◌, ◌≤◌, Bool, if◌then◌else◌, IsSome, List, [], Option, Some, None, refl, sym, ap, ◌∙◌, subst, arith}
use Rattle.std.specs.Option.{option_map}
use Rattle.std.specs.Prelude.{MatchOption}
use Rattle.std.proofs.lemmas.Bool.{true≢false}
use Rattle.std.proofs.lemmas.Option.{none-some}
use Rattle.fidl_wire.specs.Names.{AreDistinct}
use Rattle.vfs_journal.specs.Entries.{Journal, Sent}
use Rattle.vfs_journal.specs.Fit.{IsFit}
use Rattle.vfs_journal.specs.History.{History, waiting}
use Rattle.vfs_journal.specs.Past.{history_of}
use Rattle.vfs_journal.specs.Session.{after_serving, drained, head, next, oldest, picked, serving, turned, weight}
use Rattle.vfs_journal.specs.Starts.{Start}
use Rattle.vfs_journal.specs.View.{is_bound_in}
use Rattle.journal_laws.specs.Choosing.{first_on}
use Rattle.journal_laws.specs.Viewing.{view_behind}
use Rattle.journal_laws.proofs.Below.{below}
use Rattle.journal_laws.proofs.Draining.{drains_serve_all, servings_lower_the_weight}
use Rattle.journal_laws.proofs.Fits.{views_fit}
use Rattle.journal_laws.proofs.LeastPlaces.{chosen_by_place}
use Rattle.journal_laws.proofs.ViewParts.{head_is_in, next_is, oldest_is}
use Rattle.message_queues.specs.Oldest.{IsBound, IsBoundAt, IsOldest, NothingWaits}
use Rattle.message_queues.specs.Queues.{Queues, IsReady, head_of, server_of}
use Rattle.vfs_world.specs.Running.{IsRunning}
use Rattle.vfs_world.specs.Servings.{IsDrain, IsOldestAt, IsOldestOfAll, IsPick, IsSame, IsTurn, ServesOne, ServesTimes, served_in}
use Rattle.vfs_world.specs.World.{LeadsTo, StandsFor, World}
use Rattle.vfs_world.proofs.Chosen as chosen
use Rattle.vfs_world.proofs.Counted.{one_more_served}
use Rattle.vfs_world.proofs.HeadServed.{head_served}
use Rattle.vfs_world.proofs.OneServed.{IsReadyIn, ready_in}
use Rattle.vfs_world.proofs.Times.{Drains, Goes, drain_begins, drain_ends, drain_on, goes_ended, goes_first, goes_on, goes_whole, pick_none, pick_some, serving_over, serving_some, serving_zero}

-- ---- one serving

pub serves_one : AreDistinct → (These : ℕ → Type 0) (start : Start) (journal : Journal) (old new : World) (before after : List ℕ) → StandsFor start old journal →
    (one : ServesOne These old new before after) → LeadsTo start (after_serving start journal one.sent) new journal before after
serves_one apart These start journal old new before after s one = head_served apart start journal old new one.endpoint one.server one.sent before after s one.bound one.waits one.served

same_leads : (start : Start) (journal aim : Journal) (old new : World) (before after : List ℕ) → IsSame old new before after → LeadsTo start aim old journal before before → LeadsTo start aim new journal before after
same_leads start journal aim old new before after same leads =
    subst (λ (w : World). LeadsTo start aim w journal before after) (sym same.0) (subst (λ (bytes : List ℕ). LeadsTo start aim old journal before bytes) (sym same.1) leads)

-- ---- what the queues choose is what looking back chooses

-- a choice of queues is one of the past
abbrev AreAlike : Start → (Queues → ℕ → Type 0) → (History → Option Sent) → Type 0
AreAlike start Chosen choice =
    (journal : Journal) (world : World) (endpoint : ℕ) (sent : Sent) → StandsFor start world journal → Chosen world.queues endpoint → head_of world.queues endpoint ≡ Some sent → choice (history_of start journal) ≡ Some sent

fit_of : AreDistinct → (start : Start) (journal : Journal) (world : World) → StandsFor start world journal → IsFit (view_behind start journal)
fit_of apart start journal world s = views_fit (below apart) start journal s.sound s.lawful

oldest_alike : AreDistinct → (start : Start) (server : ℕ) → AreAlike start (IsOldestAt server) (λ history. oldest start history server)
oldest_alike apart start server journal world endpoint sent s is waits =
    oldest_is start (history_of start journal) server
    ∙ chosen.oldest_is (view_behind start journal) world.queues server endpoint sent (fit_of apart start journal world s) s.holds.queues is waits

next_alike : AreDistinct → (start : Start) → AreAlike start IsOldestOfAll (next start)
next_alike apart start journal world endpoint sent s is waits =
    next_is start (history_of start journal)
    ∙ chosen.next_is (view_behind start journal) world.queues endpoint sent (fit_of apart start journal world s) s.holds.queues is waits

none_at : AreDistinct → (start : Start) (journal : Journal) (world : World) (server : ℕ) → StandsFor start world journal → NothingWaits world.queues (IsBoundAt world.queues server) → oldest start (history_of start journal) server ≡ None
none_at apart start journal world server s none =
    oldest_is start (history_of start journal) server
    ∙ chosen.none_oldest (view_behind start journal) world.queues server (fit_of apart start journal world s) s.holds.queues none

none_left : AreDistinct → (start : Start) (journal : Journal) (world : World) → StandsFor start world journal → NothingWaits world.queues (IsBound world.queues) → next start (history_of start journal) ≡ None
none_left apart start journal world s none =
    next_is start (history_of start journal)
    ∙ chosen.none_next (view_behind start journal) world.queues (fit_of apart start journal world s) s.holds.queues none

-- ---- who is served next, as the queues tell it

-- on which endpoint an entry was sent
abbrev pub end_of : Option Sent → Option ℕ
end_of chosen = option_map (λ sent. sent.endpoint) chosen

-- the first entry of an endpoint was sent on it
sent_there : (start : Start) (journal : Journal) (world : World) (endpoint : ℕ) (sent : Sent) → StandsFor start world journal → head_of world.queues endpoint ≡ Some sent → sent.endpoint ≡ endpoint
sent_there start journal world endpoint sent s waits =
    chosen.on_endpoint (view_behind start journal) endpoint sent (sym (chosen.head_is (view_behind start journal) world.queues endpoint s.holds.queues) ∙ waits)

told_by : (start : Start) (Chosen : Queues → ℕ → Type 0) (choice : History → Option Sent) → AreAlike start Chosen choice → (journal : Journal) (world : World) (endpoint : ℕ) (sent : Sent) → StandsFor start world journal →
    Chosen world.queues endpoint → head_of world.queues endpoint ≡ Some sent → Some endpoint ≡ end_of (choice (history_of start journal))
told_by start Chosen choice alike journal world endpoint sent s is waits =
    sym (ap end_of (alike journal world endpoint sent s is waits) ∙ ap (λ (n : ℕ). Some n) (sent_there start journal world endpoint sent s waits))

pub next_told : AreDistinct → (start : Start) (journal : Journal) (world : World) (told : Option ℕ) → StandsFor start world journal →
    MatchOption told (NothingWaits world.queues (IsBound world.queues)) (IsOldest world.queues (IsBound world.queues)) → told ≡ end_of (next start (history_of start journal))
next_told apart start journal world None s none = sym (ap end_of (none_left apart start journal world s none))
next_told apart start journal world (Some endpoint) s oldest =
    told_by start IsOldestOfAll (next start) (next_alike apart start) journal world endpoint oldest.sent s oldest oldest.waits

pub oldest_told : AreDistinct → (start : Start) (journal : Journal) (world : World) (server : ℕ) (told : Option ℕ) → StandsFor start world journal →
    MatchOption told (NothingWaits world.queues (IsBoundAt world.queues server)) (IsOldest world.queues (IsBoundAt world.queues server)) → told ≡ end_of (oldest start (history_of start journal) server)
oldest_told apart start journal world server None s none = sym (ap end_of (none_at apart start journal world server s none))
oldest_told apart start journal world server (Some endpoint) s old =
    told_by start (IsOldestAt server) (λ history. oldest start history server) (oldest_alike apart start server) journal world endpoint old.sent s old old.waits

-- ---- a Turn

and_none : (n : ℕ) → n ≡ n + 0
and_none n = omega arith

and_more : (n more : ℕ) → suc n + more ≡ n + suc more
and_more n more = omega arith

module _ (apart : AreDistinct) (start : Start) (Chosen : Queues → ℕ → Type 0) (choice : History → Option Sent) (alike : AreAlike start Chosen choice) where
  pub served_times : (done left total : ℕ) (journal : Journal) (old new : World) (before after : List ℕ) → total ≡ done + left → StandsFor start old journal → ServesTimes Chosen done old new before after →
      Goes start choice left (serving total start choice journal) journal new before after
  served_times zero left total journal old new before after e s same =
      let first : Goes start choice left (serving left start choice journal) journal old before before = goes_first start choice left journal old before s in
      let is : left ≡ total = omega (arith, e) in
      subst (λ (n : ℕ). Goes start choice left (serving n start choice journal) journal new before after) is
      (subst (λ (w : World). Goes start choice left (serving left start choice journal) journal w before after) (sym same.0)
      (subst (λ (bytes : List ℕ). Goes start choice left (serving left start choice journal) journal old before bytes) (sym same.1) first))
  served_times (suc more) left total journal old new before after e s serves =
      let one = serves.1.1.0 in
      let leads = serves_one apart (Chosen old.queues) start journal old serves.0 before serves.1.0 s one in
      let rest = served_times more left (more + left) (after_serving start journal one.sent) serves.0 new serves.1.0 after refl leads.stands serves.1.1.1 in
      let is : suc (more + left) ≡ total = omega (arith, e) in
      record {
        now = rest.now;
        leads = goes_on start journal (after_serving start journal one.sent) rest.now serves.0 new before serves.1.0 after leads rest.leads;
        rest =
            rest.rest
            ∙ sym (serving_some (more + left) start choice journal one.sent (alike journal old one.endpoint one.sent s one.one_of one.waits))
            ∙ ap (λ (n : ℕ). serving n start choice journal) is;
      }

  -- and so many more are served then
  pub counted_times : (done left total : ℕ) (journal : Journal) (old new : World) (before after : List ℕ) → total ≡ done + left → StandsFor start old journal → ServesTimes Chosen done old new before after →
      ((later : Journal) → StandsFor start new later → 0 < left → choice (history_of start later) ≡ None) → served_in (serving total start choice journal) ≡ served_in journal + done
  counted_times zero left total journal old new before after e s same none =
      let is : total ≡ left = omega (arith, e) in
      ap (λ (n : ℕ). served_in (serving n start choice journal)) is
      ∙ ap served_in (serving_over left start choice journal (none journal (subst (λ (w : World). StandsFor start w journal) (sym same.0) s)))
      ∙ and_none (served_in journal)
  counted_times (suc more) left total journal old new before after e s serves none =
      let one = serves.1.1.0 in
      let leads = serves_one apart (Chosen old.queues) start journal old serves.0 before serves.1.0 s one in
      let is : total ≡ suc (more + left) = omega (arith, e) in
      ap (λ (n : ℕ). served_in (serving n start choice journal)) is
      ∙ ap served_in (serving_some (more + left) start choice journal one.sent (alike journal old one.endpoint one.sent s one.one_of one.waits))
      ∙ counted_times more left (more + left) (after_serving start journal one.sent) serves.0 new serves.1.0 after refl leads.stands serves.1.1.1 none
      ∙ ap (λ (n : ℕ). n + more) (one_more_served start journal one.sent)
      ∙ and_more (served_in journal) more

turn_by : (start : Start) (choice : History → Option Sent) (left : ℕ) (whole journal : Journal) (world : World) (before after : List ℕ) (goes : Goes start choice left whole journal world before after) →
    (0 < left → choice (history_of start goes.now) ≡ None) → LeadsTo start whole world journal before after
turn_by start choice zero whole journal world before after goes none = goes_whole start choice whole journal world before after goes
turn_by start choice (suc left) whole journal world before after goes none = goes_ended start choice (suc left) whole journal world before after goes (none (omega arith))

pub turn_leads : AreDistinct → (start : Start) (journal : Journal) (server times done : ℕ) (old new : World) (before after : List ℕ) → StandsFor start old journal →
    IsTurn server times done old new before after → LeadsTo start (turned start server times journal) new journal before after
turn_leads apart start journal server times done old new before after s turn =
    let most = turn.most in
    let goes = served_times apart start (IsOldestAt server) (λ history. oldest start history server) (oldest_alike apart start server) done (times - done) times journal old new before after (omega (arith, most)) s turn.serves in
    turn_by start (λ history. oldest start history server) (times - done) (turned start server times journal) journal new before after goes
    (λ some. none_at apart start goes.now new server goes.leads.stands (turn.last (omega (arith, some))))

-- so many more are served
pub turn_counts : AreDistinct → (start : Start) (journal : Journal) (server times done : ℕ) (old new : World) (before after : List ℕ) → StandsFor start old journal →
    IsTurn server times done old new before after → served_in journal + done ≡ served_in (turned start server times journal)
turn_counts apart start journal server times done old new before after s turn =
    let most = turn.most in
    sym
    (counted_times apart start (IsOldestAt server) (λ history. oldest start history server) (oldest_alike apart start server) done (times - done) times journal old new before after (omega (arith, most)) s turn.serves
    (λ later stands some. none_at apart start later new server stands (turn.last (omega (arith, some)))))

-- and fewer than were asked for only where nothing is left there
pub turn_ends : AreDistinct → (start : Start) (journal : Journal) (server times done : ℕ) (old new : World) (before after : List ℕ) → StandsFor start old journal →
    IsTurn server times done old new before after → done < times → oldest start (history_of start (turned start server times journal)) server ≡ None
turn_ends apart start journal server times done old new before after s turn fewer =
    none_at apart start (turned start server times journal) new server (turn_leads apart start journal server times done old new before after s turn).stands (turn.last fewer)

pub turn_idle : (start : Start) (journal : Journal) (world : World) (server : ℕ) → StandsFor start world journal → oldest start (history_of start journal) server ≡ None → NothingWaits world.queues (IsBoundAt world.queues server)
turn_idle start journal world server s none =
    chosen.waits_none (view_behind start journal) world.queues server s.holds.queues (sym (oldest_is start (history_of start journal) server) ∙ none)

-- ---- a Pick

-- something waits on the endpoint, which is bound, or not
data IsReadyOrNot (queues : Queues) (endpoint : ℕ) : Type 0 where
  ready : (server : ℕ) (sent : Sent) → server_of queues endpoint ≡ Some server → head_of queues endpoint ≡ Some sent → IsReadyOrNot queues endpoint
  unbound : server_of queues endpoint ≡ None → IsReadyOrNot queues endpoint
  empty : head_of queues endpoint ≡ None → IsReadyOrNot queues endpoint

ready_or_not : (queues : Queues) (endpoint : ℕ) → IsReadyOrNot queues endpoint
ready_or_not queues endpoint = by_parts (server_of queues endpoint) (head_of queues endpoint) refl refl where
  by_parts : (o : Option ℕ) (h : Option Sent) → server_of queues endpoint ≡ o → head_of queues endpoint ≡ h → IsReadyOrNot queues endpoint
  by_parts None h a b = unbound a
  by_parts (Some server) None a b = empty b
  by_parts (Some server) (Some sent) a b = ready server sent a b

head_ready : (start : Start) (journal : Journal) (world : World) (endpoint server : ℕ) (sent : Sent) → StandsFor start world journal → server_of world.queues endpoint ≡ Some server → head_of world.queues endpoint ≡ Some sent →
    head start (history_of start journal) endpoint ≡ Some sent
head_ready start journal world endpoint server sent s bound waits =
    let r : IsReadyIn (view_behind start journal) endpoint server sent = ready_in (view_behind start journal) world.queues endpoint server sent s.holds.queues bound waits in
    ap (head start (history_of start journal)) (sym r.on) ∙ head_is_in start (history_of start journal) sent.endpoint ∙ r.first

-- nothing can be picked where nothing is ready, and only there
pub head_none : AreDistinct → (start : Start) (journal : Journal) (world : World) (endpoint : ℕ) → StandsFor start world journal → ¬ (IsReady world.queues endpoint) → head start (history_of start journal) endpoint ≡ None
head_none apart start journal world endpoint s idle = by_case (ready_or_not world.queues endpoint) where
  on_view : head start (history_of start journal) endpoint ≡ (if is_bound_in (view_behind start journal) endpoint then first_on (view_behind start journal) endpoint else None)
  on_view =
      head_is_in start (history_of start journal) endpoint
      ∙ (chosen_by_place (view_behind start journal) (fit_of apart start journal world s)).head endpoint

  by_case : IsReadyOrNot world.queues endpoint → head start (history_of start journal) endpoint ≡ None
  by_case (ready server sent a b) = absurd (idle (subst IsSome (sym a) refl, subst IsSome (sym b) refl))
  by_case (unbound a) =
      on_view ∙ ap (λ (b : Bool). if b then first_on (view_behind start journal) endpoint else None) (chosen.unbound_in (view_behind start journal) world.queues endpoint s.holds.queues a)
  by_case (empty b) =
      on_view ∙ ap (λ (o : Option Sent). if is_bound_in (view_behind start journal) endpoint then o else None) (sym (chosen.head_is (view_behind start journal) world.queues endpoint s.holds.queues) ∙ b) ∙ chosen.either_none (is_bound_in (view_behind start journal) endpoint)

pub pick_idle : (start : Start) (journal : Journal) (world : World) (endpoint : ℕ) → StandsFor start world journal → head start (history_of start journal) endpoint ≡ None → ¬ (IsReady world.queues endpoint)
pick_idle start journal world endpoint s none = by_case (ready_or_not world.queues endpoint) where
  by_case : IsReadyOrNot world.queues endpoint → IsReady world.queues endpoint → ⊥
  by_case (ready server sent a b) r = none-some sent (sym none ∙ head_ready start journal world endpoint server sent s a b)
  by_case (unbound a) r = true≢false (sym (subst IsSome a r.0))
  by_case (empty b) r = true≢false (sym (subst IsSome b r.1))

pub pick_leads : AreDistinct → (start : Start) (journal : Journal) (endpoint : ℕ) (old new : World) (before after : List ℕ) → StandsFor start old journal →
    IsPick endpoint old new before after → LeadsTo start (picked start endpoint journal) new journal before after
pick_leads apart start journal endpoint old new before after s pick = by_case (ready_or_not old.queues endpoint) where
  picks_one : (one : ServesOne (λ n. n ≡ endpoint) old new before after) → LeadsTo start (picked start endpoint journal) new journal before after
  picks_one one =
      pick_some start journal new endpoint one.sent before after
      (ap (head start (history_of start journal)) (sym one.one_of) ∙ head_ready start journal old one.endpoint one.server one.sent s one.bound one.waits)
      (serves_one apart (λ n. n ≡ endpoint) start journal old new before after s one)

  nothing : ¬ (IsReady old.queues endpoint) → LeadsTo start (picked start endpoint journal) new journal before after
  nothing idle =
      same_leads start journal (picked start endpoint journal) old new before after (pick.idle idle)
      (pick_none start journal old endpoint before s (head_none apart start journal old endpoint s idle))

  by_case : IsReadyOrNot old.queues endpoint → LeadsTo start (picked start endpoint journal) new journal before after
  by_case (ready server sent a b) = picks_one (pick.served (subst IsSome (sym a) refl, subst IsSome (sym b) refl))
  by_case (unbound a) = nothing (λ r. true≢false (sym (subst IsSome a r.0)))
  by_case (empty b) = nothing (λ r. true≢false (sym (subst IsSome b r.1)))

-- what was served, where something could be
pub one_picked : (endpoint : ℕ) (old new : World) (before after : List ℕ) → IsPick endpoint old new before after → (¬ (IsReady old.queues endpoint) → ⊥) → ServesOne (λ n. n ≡ endpoint) old new before after
one_picked endpoint old new before after pick some = by_case (ready_or_not old.queues endpoint) where
  by_case : IsReadyOrNot old.queues endpoint → ServesOne (λ n. n ≡ endpoint) old new before after
  by_case (ready server sent a b) = pick.served (subst IsSome (sym a) refl, subst IsSome (sym b) refl)
  by_case (unbound a) = absurd (some (λ r. true≢false (sym (subst IsSome a r.0))))
  by_case (empty b) = absurd (some (λ r. true≢false (sym (subst IsSome b r.1))))

-- that lowers the weight
pub pick_lowers : AreDistinct → (start : Start) (journal : Journal) (endpoint : ℕ) (old new : World) (before after : List ℕ) → StandsFor start old journal → ServesOne (λ n. n ≡ endpoint) old new before after →
    weight (history_of start (picked start endpoint journal)) < weight (history_of start journal)
pick_lowers apart start journal endpoint old new before after s one =
    let first : head start (history_of start journal) one.endpoint ≡ Some one.sent = head_ready start journal old one.endpoint one.server one.sent s one.bound one.waits in
    let here : head start (history_of start journal) endpoint ≡ Some one.sent = ap (head start (history_of start journal)) (sym one.one_of) ∙ first in
    let same : picked start endpoint journal ≡ after_serving start journal one.sent =
    serving_some 0 start (λ history. head start history endpoint) journal one.sent here ∙ serving_zero start (λ history. head start history endpoint) (after_serving start journal one.sent) in
    subst (λ (j : Journal). weight (history_of start j) < weight (history_of start journal)) (sym same)
    (servings_lower_the_weight (below apart) start journal one.sent s.sound s.lawful
    (ap (head start (history_of start journal)) (sent_there start journal old one.endpoint one.sent s one.waits) ∙ first))

-- and takes places, of which there are so many
pub pick_places : (endpoint most : ℕ) (old new : World) (before after : List ℕ) → ServesOne (λ n. n ≡ endpoint) old new before after → IsRunning most new → (old.places < new.places) × (new.places ≤ most)
pick_places endpoint most old new before after one running =
    let taken = one.served.places in
    let here = running.stands.holds.places in
    let few = running.few in
    (omega arith, omega arith)

-- ---- a drain

pub drained_none : AreDistinct → (start : Start) (journal : Journal) (world : World) → StandsFor start world journal → waiting (history_of start (drained start journal)) ≡ []
drained_none apart start journal world s = (drains_serve_all (below apart) start journal s.sound s.lawful).1.none

drain_times : AreDistinct → (start : Start) (journal : Journal) → waiting (history_of start (drained start journal)) ≡ [] → (done : ℕ) (k new : World) (before between after : List ℕ) →
    Drains start journal k before between → ServesTimes IsOldestOfAll done k new between after → Drains start journal new before after
drain_times apart start journal none zero k new before between after drains same =
    subst (λ (w : World). Drains start journal w before after) (sym same.0) (subst (λ (bytes : List ℕ). Drains start journal k before bytes) (sym same.1) drains)
drain_times apart start journal none (suc more) k new before between after drains serves =
    let one = serves.1.1.0 in
    let s = drains.1.leads.stands in
    drain_times apart start journal none more serves.0 new before serves.1.0 after
    (drain_on start journal k serves.0 one.sent before between serves.1.0 none drains (next_alike apart start drains.1.now k one.endpoint one.sent s one.one_of one.waits)
    (serves_one apart (IsOldestOfAll k.queues) start drains.1.now k serves.0 between serves.1.0 s one))
    serves.1.1.1

pub drain_leads : AreDistinct → (start : Start) (journal : Journal) (old new : World) (before after : List ℕ) → StandsFor start old journal →
    IsDrain old new before after →
    LeadsTo start (drained start journal) new journal before after × (waiting (history_of start (drained start journal)) ≡ [])
drain_leads apart start journal old new before after s drain =
    let none = drained_none apart start journal old s in
    let drains = drain_times apart start journal none drain.done old new before before after (drain_begins start journal old before s) drain.serves in
    (drain_ends start journal new before after drains (none_left apart start drains.1.now new drains.1.leads.stands drain.last), none)
