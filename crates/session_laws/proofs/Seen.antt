-- The messages on a watcher's endpoint are its sight.
use Rattle.std.proofs.Common.{◌≡◌, ℕ, ◌==◌, ◌||◌, ◌⊎◌, Bool, true, false, not, cond, List, [], ◌∷◌, ◌++◌, filter, map, option_to_list, Option, Some, None, AllPairs, Contains, refl, sym, ap, ◌∙◌, subst, inl, inr, eq-eqb}
use Rattle.vfs_journal.specs.Lawful.{Lawful}
use Rattle.std.specs.Option.{option_map_or}
use Rattle.std.proofs.lemmas.Bool.{eqb-true, ne_eqb, not-true, or_parts, true≢false}
use Rattle.std.proofs.lemmas.List.{append-nil, map-append}
use Rattle.std.proofs.lemmas.List.Elements.{Contains-append_cases, Contains-append_left, Contains-append_right, filter-append}
use Rattle.std.proofs.lemmas.List.Kept.{AllPairs-filter}
use Rattle.link_frames.specs.Frames.{Frame}
use Rattle.link_admission.specs.Numbering.{among}
use Rattle.node_graph.specs.Tree.{Tree}
use Rattle.conn_rules.specs.Answers.{Happening, only}
use Rattle.watch_events.specs.Events.{bytes_of}
use Rattle.watch_events.specs.Messages.{watch_frame}
use Rattle.vfs_journal.specs.Deaths.{deaths_of, first_deaths, is_settled, others}
use Rattle.vfs_journal.specs.Entries.{Journal, Sent, endpoints_in, sends, serves, refuses}
use Rattle.vfs_journal.specs.History.{Event, History, births, changed, is_dead, is_watcher, living, tree_at, trees_of}
use Rattle.vfs_journal.specs.Outcomes.{Outcome, close_frame}
use Rattle.vfs_journal.specs.Output.{close_frames, frames_of, frames_of_event, frames_of_serving, rising}
use Rattle.vfs_journal.specs.Past.{event_of, history_of}
use Rattle.vfs_journal.specs.Serving.{asker_of, context_at, moment_of, object_of, outcome_of, request_act}
use Rattle.vfs_journal.specs.Starts.{Bound, Start}
use Rattle.vfs_journal.specs.Watching.{first_frames, first_messages, told_frames}
use Rattle.journal_laws.specs.Soundness.{IsStart, OtherEndpoint}
use Rattle.journal_laws.proofs.Below.{Below}
use Rattle.journal_laws.proofs.Filters.{none_mapped}
use Rattle.journal_laws.proofs.Lists.{eqb_sym}
use Rattle.journal_laws.proofs.Members.{contains_cases, contains_here, contains_none, kept, kept_of}
use Rattle.journal_laws.proofs.Spreading.{among_front, spread_keeps}
use Rattle.journal_laws.proofs.Stepping.{Stepped, none as begun, refusing, sending, serving, time_of, was_head}
use Rattle.journal_laws.proofs.Steps.{births-more, trees_stay}
use Rattle.session_laws.specs.Sight.{events_for, is_message_on, messages_on, sight}
use Rattle.session_laws.proofs.Acts.{acts}
use Rattle.session_laws.proofs.Messages.{BindsOther, IsOther, IsSilent, NoneOn, Writes, act_writes, idle_plain, other_frame, sending_holds, watcher_silent}
use Rattle.session_laws.proofs.WatchersServing.{IsServedOn, served_on}
use Rattle.session_laws.proofs.Told.{is_at, messages_for, one_at, told_living, told_none}
use Rattle.session_laws.specs.Watching.{AreToldTheirSight, DieOfNoChange}

-- ---- what is kept

-- nobody was born on this endpoint
abbrev Unborn : Start → History → ℕ → Type 0
Unborn start history endpoint = (b : Bound) → Contains (births start history) b → IsOther endpoint b.endpoint

abbrev SeesIts : Start → History → Bound → Type 0
SeesIts start history watcher = messages_on start history watcher.endpoint ≡ map (watch_frame watcher.endpoint) (sight start watcher history)

-- there is no message on an endpoint before it is born, or ends; and those on a watcher's are its sight
pub record IsSeen (start : Start) (history : History) : Type 0 where
  pub unborn : (endpoint : ℕ) → Unborn start history endpoint → is_dead history endpoint ≡ false → NoneOn endpoint (frames_of start history)
  pub seen : (watcher : Bound) → Contains (births start history) watcher → is_watcher watcher.birth.protocol ≡ true → SeesIts start history watcher

-- ---- an event that tells nothing

-- what the frames of one more event add
more_messages : (start : Start) (past : History) (event : Event) (endpoint : ℕ) → messages_on start (event ∷ past) endpoint ≡ messages_on start past endpoint ++ filter (is_message_on endpoint) (frames_of_event start past event)
more_messages start past event endpoint = filter-append (is_message_on endpoint) (frames_of start past) (frames_of_event start past event)

-- what an event binds doesn't bind another
pub binds_not : (endpoint : ℕ) (o : Option Bound) → BindsOther endpoint o → option_map_or (λ (bound : Bound). bound.endpoint == endpoint) o false ≡ false
binds_not endpoint None other = refl
binds_not endpoint (Some new) other = other new refl

-- an event that binds another goes on with what is told
pub sight_on : (start : Start) (watcher : Bound) (event : Event) (past : History) → BindsOther watcher.endpoint event.outcome.bound →
    sight start watcher (event ∷ past) ≡ cond (is_dead past watcher.endpoint) (sight start watcher past) (sight start watcher past ++ map bytes_of (events_for watcher event.outcome))
sight_on start watcher event past other =
    ap
    (λ (b : Bool).
    cond b (first_messages (tree_at (trees_of start (event ∷ past)) watcher.server) watcher)
    (cond (is_dead past watcher.endpoint) (sight start watcher past) (sight start watcher past ++ map bytes_of (events_for watcher event.outcome))))
    (binds_not watcher.endpoint event.outcome.bound other)

-- a sight to which nothing comes
pub sight_still : (start : Start) (watcher : Bound) (event : Event) (past : History) → event.outcome.bound ≡ None → event.outcome.told ≡ [] → sight start watcher (event ∷ past) ≡ sight start watcher past
sight_still start watcher event past none quiet =
    sight_on start watcher event past (λ new e. absurd (let wrong : None ≡ Some new = sym none ∙ e in cc))
    ∙ ap (λ (told : List Happening). cond (is_dead past watcher.endpoint) (sight start watcher past) (sight start watcher past ++ map bytes_of (events_for watcher (with_told told)))) quiet
    ∙ by_test (is_dead past watcher.endpoint) where
      with_told : List Happening → Outcome
      with_told told = record event.outcome { told = told }

      by_test : (b : Bool) → cond b (sight start watcher past) (sight start watcher past ++ []) ≡ sight start watcher past
      by_test true = refl
      by_test false = append-nil (sight start watcher past)

pub same_births : (start : Start) (event : Event) (past : History) → event.outcome.bound ≡ None → births start (event ∷ past) ≡ births start past
same_births start event past none = births-more start event past ∙ ap (λ (o : Option Bound). births start past ++ option_to_list o) none ∙ append-nil (births start past)

idle_seen : (start : Start) (past : History) (event : Event) → event.outcome.bound ≡ None → event.outcome.told ≡ [] → event.deaths ≡ [] → ((endpoint : ℕ) → NoneOn endpoint (frames_of_event start past event)) →
    IsSeen start past → IsSeen start (event ∷ past)
idle_seen start past event none quiet alive silent h = record {
  unborn = λ endpoint unborn lives.
      same endpoint
      ∙ h.unborn endpoint (λ b born. unborn b (subst (λ bounds. Contains bounds b) (sym births') born)) (sym (ap (λ (deaths : List ℕ). among endpoint deaths || is_dead past endpoint) alive) ∙ lives);
  seen = λ watcher born is.
      same watcher.endpoint
      ∙ h.seen watcher (subst (λ bounds. Contains bounds watcher) births' born) is
      ∙ ap (map (watch_frame watcher.endpoint)) (sym (sight_still start watcher event past none quiet));
} where
  births' : births start (event ∷ past) ≡ births start past
  births' = same_births start event past none

  same : (endpoint : ℕ) → messages_on start (event ∷ past) endpoint ≡ messages_on start past endpoint
  same endpoint =
      more_messages start past event endpoint
      ∙ ap (λ frames. messages_on start past endpoint ++ frames) (silent endpoint)
      ∙ append-nil (messages_on start past endpoint)

-- ---- the frames of a serving

close_none : (endpoint : ℕ) (event : Event) → NoneOn endpoint (close_frames event)
close_none endpoint event =
    none_mapped (is_message_on endpoint) close_frame (rising (filter (λ (n : ℕ). not (among n event.outcome.ends)) event.deaths)) (λ n. refl)

-- a new watcher's first frames
abbrev firsts : List Tree → Option Bound → List Frame
firsts trees bound = option_map_or (λ (new : Bound). first_frames (tree_at trees new.server) new) bound []

firsts_none : (endpoint : ℕ) (trees : List Tree) (o : Option Bound) → BindsOther endpoint o → NoneOn endpoint (firsts trees o)
firsts_none endpoint trees None other = refl
firsts_none endpoint trees (Some new) other =
    none_mapped (is_message_on endpoint) (watch_frame new.endpoint) (first_messages (tree_at trees new.server) new) (λ bytes. other_frame endpoint (watch_frame new.endpoint bytes) (other new refl))

-- messages on an endpoint are on it
own_frames : (endpoint : ℕ) (messages : List (List ℕ)) → filter (is_message_on endpoint) (map (watch_frame endpoint) messages) ≡ map (watch_frame endpoint) messages
own_frames endpoint [] = refl
own_frames endpoint (bytes ∷ later) =
    ap (λ (b : Bool). cond b (watch_frame endpoint bytes ∷ filter (is_message_on endpoint) (map (watch_frame endpoint) later)) (filter (is_message_on endpoint) (map (watch_frame endpoint) later))) (eq-eqb endpoint endpoint refl)
    ∙ ap (λ frames. watch_frame endpoint bytes ∷ frames) (own_frames endpoint later)

-- the three parts of a serving's frames that can have messages
serving_messages : (endpoint : ℕ) (trees : List Tree) (lives : List Bound) (event : Event) (first told : List Frame) → NoneOn endpoint event.outcome.frames → filter (is_message_on endpoint) (firsts trees event.outcome.bound) ≡ first →
    filter (is_message_on endpoint) (told_frames lives event.outcome.server event.outcome.told) ≡ told → filter (is_message_on endpoint) (frames_of_serving trees lives event) ≡ first ++ told
serving_messages endpoint trees lives event first told answer is_first is_told =
    let p = is_message_on endpoint in
    let a = event.outcome.frames in
    let b = firsts trees event.outcome.bound in
    let c = told_frames lives event.outcome.server event.outcome.told in
    filter-append p (a ++ b ++ c) (close_frames event)
    ∙ ap (λ frames. filter p (a ++ b ++ c) ++ frames) (close_none endpoint event)
    ∙ append-nil (filter p (a ++ b ++ c))
    ∙ filter-append p (a ++ b) c
    ∙ ap (λ frames. frames ++ filter p c) (filter-append p a b ∙ ap (λ frames. frames ++ filter p b) answer)
    ∙ ap (λ frames. filter p b ++ frames) is_told
    ∙ ap (λ frames. frames ++ told) is_first

-- ---- a serving

-- no two that were born have one endpoint
one_birth : (xs : List Bound) (a b : Bound) → AllPairs OtherEndpoint xs → Contains xs a → Contains xs b → a.endpoint ≡ b.endpoint → a ≡ b
one_birth xs a b apart here there same =
    by_place (contains_cases a b [] (subst (λ ys. Contains ys a) (one_at xs b apart there) (kept (is_at b.endpoint) xs a here (eq-eqb a.endpoint b.endpoint same)))) where
      by_place : (b ≡ a) ⊎ Contains [] a → a ≡ b
      by_place (inl e) = sym e
      by_place (inr none) = absurd (contains_none a none)

pub new_one : (o : Option Bound) (x : Bound) → Contains (option_to_list o) x → o ≡ Some x
new_one None x h = absurd (contains_none x h)
new_one (Some y) x h = by_place (contains_cases x y [] h) where
  by_place : (y ≡ x) ⊎ Contains [] x → Some y ≡ Some x
  by_place (inl e) = ap (λ (b : Bound). Some b) e
  by_place (inr none) = absurd (contains_none x none)

-- what an outcome ends dies
ends_die : (past : History) (k : Sent) (o : Outcome) (endpoint : ℕ) → among endpoint (deaths_of past k o) ≡ false → among endpoint o.ends ≡ false
ends_die past k o endpoint lives = by_test (among endpoint o.ends) refl where
  by_test : (b : Bool) → among endpoint o.ends ≡ b → b ≡ false
  by_test false e = refl
  by_test true e =
      absurd
      (true≢false
      (sym (spread_keeps endpoint (first_deaths k o) (others past k) (among_front endpoint o.ends (filter (λ (n : ℕ). not (is_settled o n)) (endpoints_in k)) e)) ∙ lives))

module _ (below : Below) (start : Start) (past : History) (k : Sent) (on : IsServedOn start past k) (h : IsSeen start past) where
  writes : Writes on.at.endpoint (outcome_of start past k)
  writes =
      subst (Writes on.at.endpoint) (sym on.whole)
      (sending_holds (Writes on.at.endpoint) (moment_of start past on.at)
      (λ txid request plain. act_writes (asker_of on.at txid (object_of request)) (request_act (moment_of start past on.at) request) (acts below.sound (context_at (moment_of start past on.at)) request plain).plain)
      (λ txid answer idle. act_writes (asker_of on.at txid 0) (only (moment_of start past on.at).position answer) (idle_plain answer idle))
      k.sending)

  silent : is_watcher on.at.birth.protocol ≡ true → IsSilent (outcome_of start past k)
  silent is = subst IsSilent (sym on.whole) (watcher_silent (moment_of start past on.at) k.sending is)

  born_of : (b : Bound) → Contains (living start past) b → Contains (births start past) b × (is_dead past b.endpoint ≡ false)
  born_of b lives =
      let at = kept_of (λ (x : Bound). not (is_dead past x.endpoint)) (births start past) b lives in
      (at.0, not-true (is_dead past b.endpoint) at.1)

  -- who lives isn't on an endpoint that is dead
  dead_other : (endpoint : ℕ) → is_dead past endpoint ≡ true → (b : Bound) → Contains (living start past) b → IsOther endpoint b.endpoint
  dead_other endpoint dead b lives = ne_eqb b.endpoint endpoint (λ same. true≢false (sym dead ∙ ap (is_dead past) (sym same) ∙ (born_of b lives).1))

  -- the answer of what is served is no message on a watcher's endpoint
  answer_none : (watcher : Bound) → Contains (births start past) watcher → is_watcher watcher.birth.protocol ≡ true → NoneOn watcher.endpoint (outcome_of start past k).frames
  answer_none watcher born is = by_test (on.at.endpoint == watcher.endpoint) refl where
    by_test : (b : Bool) → (on.at.endpoint == watcher.endpoint) ≡ b → NoneOn watcher.endpoint (outcome_of start past k).frames
    by_test true e =
        let same = one_birth (births start past) on.at watcher on.apart (born_of on.at on.lives).0 born (eqb-true on.at.endpoint watcher.endpoint e) in
        ap (filter (is_message_on watcher.endpoint)) (silent (ap (λ (b : Bound). is_watcher b.birth.protocol) same ∙ is)).frames
    by_test false e = writes.elsewhere watcher.endpoint e (on.ends_other watcher born e) (on.binds_other watcher born)

  -- a watcher that was born goes on with what it is told
  sees_born : (watcher : Bound) → Contains (births start past) watcher → is_watcher watcher.birth.protocol ≡ true → SeesIts start (event_of start past (serves k) ∷ past) watcher
  unfolding event_of
  sees_born watcher born is =
      let event = event_of start past (serves k) in
      let frames = map (watch_frame watcher.endpoint) in
      let seen = sight start watcher past in
      let more = map bytes_of (events_for watcher event.outcome) in
      let whole = sight_on start watcher event past (on.binds_other watcher born) in
      let answer = answer_none watcher born is in
      let first = firsts_none watcher.endpoint (trees_of start past) event.outcome.bound (on.binds_other watcher born) in
      let told = told_frames (living start past) event.outcome.server event.outcome.told in
      let by_life : (b : Bool) → is_dead past watcher.endpoint ≡ b → messages_on start past watcher.endpoint ++ filter (is_message_on watcher.endpoint) (frames_of_event start past event) ≡ frames (sight start watcher (event ∷ past)) =
      λ b. elim b as (λ c. is_dead past watcher.endpoint ≡ c → messages_on start past watcher.endpoint ++ filter (is_message_on watcher.endpoint) (frames_of_event start past event) ≡ frames (sight start watcher (event ∷ past))) [
        | true ↦ λ dead.
            ap (λ these. messages_on start past watcher.endpoint ++ these)
            (serving_messages watcher.endpoint (trees_of start past) (living start past) event [] [] answer first
            (told_none watcher.endpoint (living start past) event.outcome.server event.outcome.told (dead_other watcher.endpoint dead)))
            ∙ append-nil (messages_on start past watcher.endpoint)
            ∙ h.seen watcher born is
            ∙ sym (ap frames (whole ∙ ap (λ (c : Bool). cond c seen (seen ++ more)) dead))
        | false ↦ λ alive.
            ap (λ these. messages_on start past watcher.endpoint ++ these)
            (serving_messages watcher.endpoint (trees_of start past) (living start past) event [] (messages_for event.outcome.server watcher event.outcome.told) answer first
            (told_living (living start past) watcher event.outcome.server event.outcome.told
            (AllPairs-filter OtherEndpoint (λ (b : Bound). not (is_dead past b.endpoint)) (births start past) on.apart)
            (kept (λ (b : Bound). not (is_dead past b.endpoint)) (births start past) watcher born (ap not alive))))
            ∙ ap (λ these. these ++ frames more) (h.seen watcher born is)
            ∙ sym (map-append (watch_frame watcher.endpoint) seen more)
            ∙ sym (ap frames (whole ∙ ap (λ (c : Bool). cond c seen (seen ++ more)) alive))
      ] in
      more_messages start past event watcher.endpoint ∙ by_life (is_dead past watcher.endpoint) refl

  -- who was born is on other endpoints than what is bound
  new_unborn : (new : Bound) → (outcome_of start past k).bound ≡ Some new → Unborn start past new.endpoint
  new_unborn new e b born = eqb_sym b.endpoint new.endpoint ∙ on.binds_other b born new e

  -- a watcher that is bound begins with its first messages
  sees_new : (watcher : Bound) → (outcome_of start past k).bound ≡ Some watcher → is_watcher watcher.birth.protocol ≡ true → SeesIts start (event_of start past (serves k) ∷ past) watcher
  unfolding event_of
  sees_new watcher e is =
      let event = event_of start past (serves k) in
      let binds = writes.watcher watcher e is in
      let other = new_unborn watcher e in
      let trees' : trees_of start (event ∷ past) ≡ trees_of start past = ap (changed (trees_of start past) event.outcome.server) binds.stays ∙ trees_stay (trees_of start past) event.outcome.server in
      let first = first_messages (tree_at (trees_of start past) watcher.server) watcher in
      let begins : sight start watcher (event ∷ past) ≡ first_messages (tree_at (trees_of start (event ∷ past)) watcher.server) watcher =
      ap
      (λ (b : Bool).
      cond b (first_messages (tree_at (trees_of start (event ∷ past)) watcher.server) watcher)
      (cond (is_dead past watcher.endpoint) (sight start watcher past) (sight start watcher past ++ map bytes_of (events_for watcher event.outcome))))
      (ap (λ (o : Option Bound). option_map_or (λ (bound : Bound). bound.endpoint == watcher.endpoint) o false) e ∙ eq-eqb watcher.endpoint watcher.endpoint refl) in
      more_messages start past event watcher.endpoint
      ∙ ap (λ frames. frames ++ filter (is_message_on watcher.endpoint) (frames_of_event start past event)) (h.unborn watcher.endpoint other (on.binds_alive watcher e))
      ∙ serving_messages watcher.endpoint (trees_of start past) (living start past) event (map (watch_frame watcher.endpoint) first) []
      (binds.elsewhere watcher.endpoint (other on.at (born_of on.at on.lives).0))
      (ap (λ (o : Option Bound). filter (is_message_on watcher.endpoint) (firsts (trees_of start past) o)) e ∙ own_frames watcher.endpoint first)
      (told_none watcher.endpoint (living start past) event.outcome.server event.outcome.told (λ b lives. other b (born_of b lives).0))
      ∙ append-nil (map (watch_frame watcher.endpoint) first)
      ∙ sym (ap (map (watch_frame watcher.endpoint)) (begins ∙ ap (λ (trees : List Tree). first_messages (tree_at trees watcher.server) watcher) trees'))

  -- who is born then
  more_births : births start (event_of start past (serves k) ∷ past) ≡ births start past ++ option_to_list (outcome_of start past k).bound
  unfolding event_of
  more_births = births-more start (event_of start past (serves k)) past

  earlier_born : (b : Bound) → Contains (births start past) b → Contains (births start (event_of start past (serves k) ∷ past)) b
  earlier_born b born = subst (λ bounds. Contains bounds b) (sym more_births) (Contains-append_left (births start past) (option_to_list (outcome_of start past k).bound) b born)

  newly_born : (new : Bound) → (outcome_of start past k).bound ≡ Some new → Contains (births start (event_of start past (serves k) ∷ past)) new
  newly_born new e =
      subst (λ bounds. Contains bounds new) (sym more_births)
      (Contains-append_right (births start past) (option_to_list (outcome_of start past k).bound) new (subst (λ (o : Option Bound). Contains (option_to_list o) new) (sym e) (contains_here new [])))

  sees_by : (watcher : Bound) → is_watcher watcher.birth.protocol ≡ true → Contains (births start past) watcher ⊎ Contains (option_to_list (outcome_of start past k).bound) watcher →
      SeesIts start (event_of start past (serves k) ∷ past) watcher
  sees_by watcher is (inl born) = sees_born watcher born is
  sees_by watcher is (inr new) = sees_new watcher (new_one (outcome_of start past k).bound watcher new) is

  still_unborn : (endpoint : ℕ) → Unborn start (event_of start past (serves k) ∷ past) endpoint → is_dead (event_of start past (serves k) ∷ past) endpoint ≡ false →
      NoneOn endpoint (frames_of start (event_of start past (serves k) ∷ past))
  unfolding event_of
  still_unborn endpoint unborn lives =
      let event = event_of start past (serves k) in
      let parts = or_parts (among endpoint event.deaths) (is_dead past endpoint) lives in
      let before : Unborn start past endpoint = λ b born. unborn b (earlier_born b born) in
      let binds : BindsOther endpoint event.outcome.bound = λ new e. unborn new (newly_born new e) in
      more_messages start past event endpoint
      ∙ ap (λ frames. frames ++ filter (is_message_on endpoint) (frames_of_event start past event)) (h.unborn endpoint before parts.1)
      ∙ serving_messages endpoint (trees_of start past) (living start past) event [] []
      (writes.elsewhere endpoint (before on.at (born_of on.at on.lives).0) (ends_die past k (outcome_of start past k) endpoint parts.0) binds)
      (firsts_none endpoint (trees_of start past) event.outcome.bound binds)
      (told_none endpoint (living start past) event.outcome.server event.outcome.told (λ b lives'. before b (born_of b lives').0))

  pub served_seen : IsSeen start (event_of start past (serves k) ∷ past)
  served_seen = record {
    unborn = still_unborn;
    seen = λ watcher born is.
        sees_by watcher is (Contains-append_cases (births start past) (option_to_list (outcome_of start past k).bound) watcher (subst (λ bounds. Contains bounds watcher) more_births born));
  }

-- ---- entry by entry

first_seen : (start : Start) → IsStart start → IsSeen start []
first_seen start s = record {
  unborn = λ endpoint unborn lives. refl;
  seen = λ watcher born is. refl;
}

pub times_seen : Below → (start : Start) (journal : Journal) → IsStart start → Stepped start journal → IsSeen start (history_of start journal)
unfolding history_of event_of
times_seen below start journal s begun = first_seen start s
times_seen below start journal s (refusing earlier endpoint why h all) =
    idle_seen start (history_of start earlier) (event_of start (history_of start earlier) (refuses endpoint why)) refl refl refl (λ n. refl) (times_seen below start earlier s h)
times_seen below start journal s (sending earlier one h next) =
    idle_seen start (history_of start earlier) (event_of start (history_of start earlier) (sends one)) refl refl refl (λ n. refl) (times_seen below start earlier s h)
times_seen below start journal s (serving earlier one h all first) =
    served_seen below start (history_of start earlier) one (served_on below start earlier one s all first) (times_seen below start earlier s h)

-- ---- the laws

pub told_their_sight : Below → (start : Start) (later past : Journal) → IsStart start → Lawful start (later ++ past) → AreToldTheirSight start (history_of start past)
told_their_sight below start later past s h watcher born is =
    (times_seen below start past s (time_of start later past h)).seen watcher born is

pub die_of_no_change : Below → (start : Start) (later past : Journal) (sent : Sent) → IsStart start → Lawful start (later ++ serves sent ∷ past) → DieOfNoChange start (history_of start past) sent
die_of_no_change below start later past sent s h watcher lives is dead =
    let first = was_head start past sent (time_of start later (serves sent ∷ past) h) in
    let history = history_of start past in
    let on = served_on below start past sent s first.0 first.1 in
    let births' = λ (b : Bound) (alive : Contains (living start history) b). (kept_of (λ (x : Bound). not (is_dead history x.endpoint)) (births start history) b alive).0 in
    let same = one_birth (births start history) on.at watcher on.apart (births' on.at on.lives) (births' watcher lives) (sym (on.dies_own watcher (births' watcher lives) dead)) in
    let silent' = subst IsSilent (sym on.whole) (watcher_silent (moment_of start history on.at) sent.sending (ap (λ (b : Bound). is_watcher b.birth.protocol) same ∙ is)) in
    silent'.told
