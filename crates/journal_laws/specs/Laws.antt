-- What holds of every start, history and journal.
use Rattle.std.specs.Prelude.{◌≡◌, ◌≢◌, ◌<◌, All, AllPairs, Contains, filter_map, length, ℕ, ◌==◌, ◌&&◌, ◌||◌, true, false, not, if◌then◌else◌, List, [], ◌∷◌, ◌++◌, filter, Option, option_to_list}
use Rattle.std.specs.List.{list_any}
use Rattle.link_frames.specs.declared.kinds.Refusal.{Refusal}
use Rattle.link_admission.specs.Numbering.{among}
use Rattle.conn_rules.specs.Births.{fresh}
use Rattle.vfs_journal.specs.Deaths.{others}
use Rattle.vfs_journal.specs.Entries.{Sent, Sending, Journal, sends, serves, refuses, handles_of, endpoints_in, is_hang_up}
use Rattle.vfs_journal.specs.History.{Event, History, served_by, all_sent, was_served, is_dead, births, living, bound_at, hung_up, waits, waiting, travelling, was_carried, binds_endpoint, position_of, trees_of, changed}
use Rattle.vfs_journal.specs.Lawful.{Lawful}
use Rattle.vfs_journal.specs.Past.{event_of, behind, history_of}
use Rattle.vfs_journal.specs.Session.{look_ups, sent_behind}
use Rattle.vfs_journal.specs.Serving.{moment_of}
use Rattle.vfs_journal.specs.Starts.{Bound, Start}
use Rattle.vfs_journal.specs.Tokens.{all_given}

-- ---- one more event

-- neither an endpoint, nor a position, nor a tree, nor a token is another one
pub record HasSameEndpoints (start : Start) (now past : History) : Type 0 where
  pub dead : (endpoint : ℕ) → is_dead now endpoint ≡ is_dead past endpoint
  pub born : births start now ≡ births start past
  pub alive : living start now ≡ living start past
  pub bound : (endpoint : ℕ) → bound_at start now endpoint ≡ bound_at start past endpoint
  pub positions : (endpoint : ℕ) → position_of now endpoint ≡ position_of past endpoint
  pub trees : trees_of start now ≡ trees_of start past
  pub tokens : all_given now ≡ all_given past

-- all that is found by looking back is the same
pub record IsUnchanged (start : Start) (now past : History) : Type 0 where
  pub same : HasSameEndpoints start now past
  pub sent : all_sent now ≡ all_sent past
  pub served : (sent : Sent) → was_served now sent ≡ was_served past sent
  pub queue : waiting now ≡ waiting past
  pub looked_up : look_ups start now ≡ look_ups start past
  pub seen : (bound : Bound) → moment_of start now bound ≡ moment_of start past bound

-- what is sent waits behind all others, if it waits, and is carried and travels with them
pub record IsSent (start : Start) (sent : Sent) (now past : History) : Type 0 where
  pub same : HasSameEndpoints start now past
  pub sent_last : all_sent now ≡ all_sent past ++ sent ∷ []
  pub served : (other : Sent) → was_served now other ≡ was_served past other
  pub queue : waiting now ≡ waiting past ++ (if waits past sent then sent ∷ [] else [])
  pub travels : travelling now ≡ travelling past ++ (if waits past sent then endpoints_in sent else [])
  pub carried : (number : ℕ) → was_carried now number ≡ (was_carried past number || among number (handles_of sent.sending))
  pub closed : (endpoint : ℕ) → hung_up now endpoint ≡ (hung_up past endpoint || (is_hang_up sent.sending && (sent.endpoint == endpoint)))

-- those that are not among the deaths
abbrev pub but_for : List ℕ → List Bound → List Bound
but_for deaths bounds = filter (λ bound. not (among bound.endpoint deaths)) bounds

-- what a serving binds, where it is not dead
abbrev pub newly_living : History → Option Bound → List Bound
newly_living now bound = filter (λ bound. not (is_dead now bound.endpoint)) (option_to_list bound)

-- what is served waits no more, nor what was sent on endpoints that die; these are gone from the living, and what is bound is the newest
-- of them; the position, the tree and the token are those of the outcome
pub record IsServed (start : Start) (sent : Sent) (event : Event) (now past : History) : Type 0 where
  pub sent_same : all_sent now ≡ all_sent past
  pub served : (other : Sent) → was_served now other ≡ ((sent.place == other.place) || was_served past other)
  pub dead : (endpoint : ℕ) → is_dead now endpoint ≡ (among endpoint event.deaths || is_dead past endpoint)
  pub queue : waiting now ≡ filter (λ other. not (among other.endpoint event.deaths)) (others past sent)
  pub born : births start now ≡ births start past ++ option_to_list event.outcome.bound
  pub alive : living start now ≡ but_for event.deaths (living start past) ++ newly_living now event.outcome.bound
  pub positions : (endpoint : ℕ) → position_of now endpoint
      ≡ (if binds_endpoint endpoint event then fresh else if sent.endpoint == endpoint then event.outcome.position else position_of past endpoint)
  pub trees : trees_of start now ≡ changed (trees_of start past) event.outcome.server event.outcome.change
  pub tokens : all_given now ≡ all_given past ++ option_to_list event.outcome.token
  pub carried : (number : ℕ) → was_carried now number ≡ was_carried past number
  pub closed : (endpoint : ℕ) → hung_up now endpoint ≡ hung_up past endpoint

-- behind a refusal all is as it was
abbrev pub RefusalsChangeNothing : Type 0
RefusalsChangeNothing =
    (start : Start) (past : History) (endpoint : ℕ) (why : Refusal) → IsUnchanged start (behind start (refuses endpoint why) past) past

-- behind a sending it alone is new
abbrev pub SendingsWaitLast : Type 0
SendingsWaitLast =
    (start : Start) (past : History) (sent : Sent) → IsSent start sent (behind start (sends sent) past) past

-- behind a serving its outcome and its deaths are all that is new
abbrev pub ServingsTakeEffect : Type 0
ServingsTakeEffect =
    (start : Start) (past : History) (sent : Sent) → IsServed start sent (event_of start past (serves sent)) (behind start (serves sent) past) past

-- ---- lawful journals

-- what is sent has the number of the entries before it as its place
abbrev pub HavePlaces : Journal → Type 0
HavePlaces [] = Unit {0}
HavePlaces (sends sent ∷ earlier) = (sent.place ≡ length earlier) × HavePlaces earlier
HavePlaces (_ ∷ earlier) = HavePlaces earlier

-- the places of what was sent are its entries', and rise in order of sending
pub record AreInOrder (journal : Journal) (history : History) : Type 0 where
  pub at : HavePlaces journal
  pub below : All (λ sent. sent.place < length journal) (all_sent history)
  pub rise : AllPairs (λ sent later. sent.place < later.place) (all_sent history)

-- what was served, the newest first
abbrev pub servings : Journal → List Sent
servings journal = filter_map served_by journal

-- what is served was sent, nothing is served twice, and on one endpoint what was sent first is served first
pub record AreServedOnce (journal : Journal) (history : History) : Type 0 where
  pub sent_before : All (Contains (all_sent history)) (servings journal)
  pub once : AllPairs (λ served earlier. served.place ≢ earlier.place) (servings journal)
  pub in_order : AllPairs (λ served earlier. served.endpoint ≡ earlier.endpoint → earlier.place < served.place) (servings journal)

abbrev pub PlacesRise : Type 0
PlacesRise = (start : Start) (journal : Journal) → Lawful start journal → AreInOrder journal (history_of start journal)

-- what is sent at the next place waits behind all others, where its endpoint isn't dead
abbrev pub WhatIsSentWaits : Type 0
WhatIsSentWaits =
    (start : Start) (journal : Journal) (endpoint : ℕ) (sending : Sending) (origin : Option ℕ) → Lawful start journal → is_dead (history_of start journal) endpoint ≡ false →
    waiting (history_of start (sends (sent_behind journal endpoint sending origin) ∷ journal)) ≡ waiting (history_of start journal) ++ sent_behind journal endpoint sending origin ∷ []

-- a hang-up waits until its endpoint is dead
abbrev pub HangUpsWait : Type 0
HangUpsWait =
    (start : Start) (journal : Journal) (endpoint : ℕ) → Lawful start journal → hung_up (history_of start journal) endpoint ≡ true → is_dead (history_of start journal) endpoint ≡ false →
    list_any (λ sent. is_hang_up sent.sending && (sent.endpoint == endpoint)) (waiting (history_of start journal)) ≡ true
