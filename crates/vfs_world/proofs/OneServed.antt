-- A world that stands for a journal stands, behind the steps of a serving, for the journal behind it.
use Rattle.std.proofs.Common.{◌≡◌, ℕ, ◌+◌, ◌==◌, true, is_some, if◌then◌else◌, List, length, find, add-zero, Contains, Option, Some, None, refl, sym, ap, ◌∙◌, subst, arith}
use Rattle.std.specs.Prelude.{slice_get}
use Rattle.std.specs.Option.{option_map}
use Rattle.std.proofs.lemmas.Bool.{eqb-true}
use Rattle.std.proofs.lemmas.List.Elements.{All-contains, All-contains_itself, All-weaker}
use Rattle.std.proofs.lemmas.Option.{none-some, same_Some}
use Rattle.link_frames.specs.Frames.{spellings}
use Rattle.link_admission.specs.Numbering.{among}
use Rattle.link_admission.specs.Standings.{next_token_of}
use Rattle.conn_rules.specs.Births.{Position}
use Rattle.vfs_journal.specs.Deaths.{first_deaths}
use Rattle.vfs_journal.specs.Entries.{Journal, Sent, endpoints_in}
use Rattle.vfs_journal.specs.Fit.{IsFit}
use Rattle.vfs_journal.specs.Lawful as lawful
use Rattle.vfs_journal.specs.Outcomes.{Forwarded}
use Rattle.vfs_journal.specs.Past.{history_of}
use Rattle.vfs_journal.specs.Session.{after_serving, head}
use Rattle.vfs_journal.specs.Starts.{Bound, Start}
use Rattle.vfs_journal.specs.View.{View, at_in, deaths_in, event_in, frames_in, head_in, onward_in, outcome_in, serving_in, then_in}
use Rattle.journal_laws.specs.Choosing.{AreAllThatDie, IsListOf, queue_beside}
use Rattle.journal_laws.specs.Knowing.{Knows, spent_in}
use Rattle.journal_laws.specs.Viewing.{view_behind}
use Rattle.journal_laws.proofs.Below.{Below}
use Rattle.journal_laws.proofs.Dying.{deaths_are_least}
use Rattle.journal_laws.proofs.Fits.{views_fit}
use Rattle.journal_laws.proofs.KnowingBehind.{servings_keep}
use Rattle.journal_laws.proofs.LeastPlaces.{first_of_kept}
use Rattle.journal_laws.proofs.Members.{found}
use Rattle.journal_laws.proofs.ViewLaws.{served_behind_viewed, serving_writes}
use Rattle.journal_laws.proofs.ViewParts.{head_is_in, token_is}
use Rattle.message_queues.specs.Dying.{AreDeaths}
use Rattle.message_queues.specs.Queues.{Queues, count, head_of, queue_of, server_of}
use Rattle.message_queues.proofs.Counting.{counts_its_list}
use Rattle.vfs_server.specs.declared.fate.Fate.{Fate}
use Rattle.vfs_server.specs.declared.fate.Fate.TheVariants as fates
use Rattle.vfs_server.specs.Servers.{Server}
use Rattle.vfs_world.specs.Holding.{HoldsQueues}
use Rattle.vfs_world.specs.ServingSteps.{SendsOn, first_told, is_sent_on, spent_told}
use Rattle.vfs_world.specs.Servings.{ServesHead}
use Rattle.vfs_world.specs.World.{Holds, LeadsTo, StandsFor, World}
use Rattle.vfs_world.proofs.EachServer.{numbered}
use Rattle.vfs_world.proofs.QueueSteps.{BindsOne, SendsOne, queue_taken, queues_then}
use Rattle.vfs_world.proofs.Spending.{are_spent, known_then}
use Rattle.vfs_world.proofs.Telling.{first_are_told, forward_told}
use Rattle.vfs_world.proofs.Then.{Begun, Told, binds_one, frames_then, sends_one, servers_then, told}

-- ---- what is found where something waits on a bound endpoint

pub record IsReadyIn (view : View) (endpoint server : ℕ) (sent : Sent) : Type 0 where
  pub pair : Bound × Position
  pub found : at_in view sent.endpoint ≡ Some pair
  pub at : pair.0.server ≡ server
  pub on : sent.endpoint ≡ endpoint
  pub first : head_in view sent.endpoint ≡ Some sent

ready_by : (view : View) (endpoint server : ℕ) (sent : Sent) (o : Option (Bound × Position)) → at_in view endpoint ≡ o → option_map (λ pair. pair.0.server) o ≡ Some server → find (λ one. one.endpoint == endpoint) view.waiting ≡ Some sent → IsReadyIn view endpoint server sent
ready_by view endpoint server sent None e s h = absurd (none-some server s)
ready_by view endpoint server sent (Some pair) e s h =
    let on : sent.endpoint ≡ endpoint = eqb-true sent.endpoint endpoint (found (λ one. one.endpoint == endpoint) view.waiting sent h).1 in
    record {
      pair = pair;
      found = ap (at_in view) on ∙ e;
      at = same_Some pair.0.server server s;
      on = on;
      first =
          ap (head_in view) on
          ∙ ap (λ (o : Option (Bound × Position)). if is_some o then find (λ one. one.endpoint == endpoint) view.waiting else None) e
          ∙ h;
    }

pub ready_in : (view : View) (queues : Queues) (endpoint server : ℕ) (sent : Sent) → HoldsQueues view queues → server_of queues endpoint ≡ Some server → head_of queues endpoint ≡ Some sent → IsReadyIn view endpoint server sent
ready_in view queues endpoint server sent h bound waits =
    ready_by view endpoint server sent (at_in view endpoint) refl (sym (h.bound endpoint) ∙ bound)
    (sym (first_of_kept (λ (one : Sent). one.endpoint == endpoint) view.waiting) ∙ sym (ap (λ (q : List Sent). slice_get q 0) (h.queue endpoint)) ∙ waits)

-- ---- who dies

pub all_die : (view : View) (sent : Sent) (q : Queues) (dying dead : List ℕ) → ((endpoint : ℕ) → queue_of q endpoint ≡ queue_beside view sent endpoint) → dying ≡ first_deaths sent (outcome_in view sent) → AreDeaths q dying dead →
    AreAllThatDie (queue_beside view sent) (first_deaths sent (outcome_in view sent)) dead
all_die view sent q dying dead same firsts died = record {
  first = λ n h. died.first n (ap (among n) firsts ∙ h);
  closed = λ n m one dies has carried.
      All-contains (λ (x : Sent). (k : ℕ) → among k (endpoints_in x) ≡ true → among k dead ≡ true) (queue_of q n) one (died.closed n dies) (subst (λ (xs : List Sent). Contains xs one) (sym (same n)) has) m carried;
  least = λ dies first closed n h.
      died.least dies (λ k g. first k (sym (ap (among k) firsts) ∙ g))
      (λ k dying'.
      All-weaker (Contains (queue_of q k)) (λ (x : Sent). (m : ℕ) → among m (endpoints_in x) ≡ true → dies m ≡ true)
      (λ x has m carried. closed k m x dying' (subst (λ (xs : List Sent). Contains xs x) (same k) has) carried) (queue_of q k) (All-contains_itself (queue_of q k))) n h;
}

-- ---- the steps

onward_places : (view : View) (sent : Sent) (fate : Fate) (o : Option Forwarded) → o ≡ forward_told fate → (onward_in view sent o).places ≡ view.places + is_sent_on fate
onward_places view sent (fates.Forwards mount object flags rest) o e = ap (λ (x : Option Forwarded). (onward_in view sent x).places) e
onward_places view sent fates.Stays o e = ap (λ (x : Option Forwarded). (onward_in view sent x).places) e ∙ sym (add-zero view.places)
onward_places view sent fates.Ends o e = ap (λ (x : Option Forwarded). (onward_in view sent x).places) e ∙ sym (add-zero view.places)
onward_places view sent (fates.Binds object) o e = ap (λ (x : Option Forwarded). (onward_in view sent x).places) e ∙ sym (add-zero view.places)
onward_places view sent (fates.Refuses object) o e = ap (λ (x : Option Forwarded). (onward_in view sent x).places) e ∙ sym (add-zero view.places)
onward_places view sent (fates.Gives token) o e = ap (λ (x : Option Forwarded). (onward_in view sent x).places) e ∙ sym (add-zero view.places)

-- at the server and on the endpoint that are found
module _ (ground : Below) (start : Start) (journal : Journal) (old new : World) (sent : Sent) (pair : Bound × Position) (one : Server) (before after : List ℕ) (s : StandsFor start old journal)
    (found_pair : at_in (view_behind start journal) sent.endpoint ≡ Some pair) (first : head_in (view_behind start journal) sent.endpoint ≡ Some sent)
    (there : slice_get old.servers pair.0.server ≡ Some one) (d : ServesHead old sent.endpoint pair.0.server sent new before after) where
  view : View
  view = view_behind start journal

  fit : IsFit (view_behind start journal)
  fit = views_fit ground start journal s.sound s.lawful

  begun : Begun (view_behind start journal) sent pair old.servers one (next_token_of old.known)
  begun = record {
    fit = fit;
    first = first;
    found = found_pair;
    held = numbered (view_behind start journal) old.servers s.holds.servers;
    there = there;
    next = s.knows.next ∙ token_is start (history_of start journal);
  }

  answered : Told (view_behind start journal) sent pair old.servers one d.fate d.answered before d.between
  answered = told (view_behind start journal) sent pair old.servers one (next_token_of old.known) d.fate d.answered before d.between begun d.answers

  binds : BindsOne d.q1 (outcome_in (view_behind start journal) sent).bound d.q2
  binds = binds_one sent.endpoint pair.0.server (outcome_in (view_behind start journal) sent) d.fate d.q1 d.q2 answered.tells answered.here d.binds

  beside_is : (n : ℕ) → queue_of d.q2 n ≡ queue_beside (view_behind start journal) sent n
  beside_is n =
      binds.waiting n
      ∙ queue_taken (view_behind start journal) sent old.queues d.q1 s.holds.queues d.taken n

  same : (n : ℕ) → among n d.dead ≡ among n (deaths_in (view_behind start journal) sent)
  same =
      deaths_are_least (view_behind start journal) sent d.dead fit first
      (all_die (view_behind start journal) sent d.q2 (first_told sent d.fate) d.dead beside_is
      (sym (first_are_told sent (outcome_in (view_behind start journal) sent) d.fate answered.tells)) d.died)

  spent : IsListOf (spent_in (view_behind start journal) sent) (spent_told sent d.q2 d.dead)
  spent = are_spent (view_behind start journal) sent d.q2 d.dead fit first beside_is same d.died.once

  queues_are : HoldsQueues (then_in (view_behind start journal) sent) new.queues
  queues_are =
      queues_then (view_behind start journal) sent d.dead old.queues d.q1 d.q2 d.q3 new.queues fit first s.holds.queues d.taken
      binds
      d.buried
      (subst (λ (o : Option Forwarded). SendsOne (view_behind start journal) sent d.q3 o new.queues) (sym answered.tells.forward)
      (sends_one (view_behind start journal) sent d.fate d.q3 new.queues
      (subst (λ (n : ℕ). SendsOn (n + 1) sent.place d.fate d.q3 new.queues) s.holds.places d.sends)))
      same

  holds : Holds (then_in (view_behind start journal) sent) new
  holds = record {
    servers = servers_then (view_behind start journal) sent pair old.servers d.answered d.left new.servers one (next_token_of old.known) d.fate d.dead (spent_told sent d.q2 d.dead) before d.between begun answered d.goes d.forgets same spent.same;
    queues = queues_are;
    places =
        let a = s.holds.places in
        let b = d.places in
        let c = onward_places (serving_in (view_behind start journal) sent (event_in (view_behind start journal) sent)) sent d.fate (outcome_in (view_behind start journal) sent).forward answered.tells.forward in
        omega (arith, a, b, c);
  }

  pub serving_leads : LeadsTo start (after_serving start journal sent) new journal before after
  serving_leads =
      let head_is : head start (history_of start journal) sent.endpoint ≡ Some sent = head_is_in start (history_of start journal) sent.endpoint ∙ first in
      record {
        stands = record {
          able = d.able;
          sound = s.sound;
          lawful = lawful.served journal sent s.lawful head_is;
          knows =
              subst (Knows start (history_of start (after_serving start journal sent)))
              (sym (known_then old.known new.known d.dead (spent_told sent d.q2 d.dead) d.fate (outcome_in (view_behind start journal) sent).token (count new.queues) (length (then_in (view_behind start journal) sent).waiting) answered.tells.token d.known
              (counts_its_list new.queues (then_in (view_behind start journal) sent).waiting queues_are.queue)))
              (servings_keep ground start journal sent old.known d.dead (spent_told sent d.q2 d.dead) s.sound s.lawful head_is s.knows (record { same = same; once = d.died.once }) spent);
          holds = subst (λ (v : View). Holds v new) (sym (served_behind_viewed ground start journal sent s.sound s.lawful head_is)) holds;
        };
        part = spellings (frames_in (view_behind start journal) sent);
        more = serving_writes start journal sent;
        written = frames_then (view_behind start journal) sent pair old.servers d.answered one (next_token_of old.known) d.fate d.dead before d.between after begun answered d.closed same;
      }
