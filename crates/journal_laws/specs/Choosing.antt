-- What the queues of endpoints tell of which entry is served next, and of who dies.
use Rattle.std.specs.Prelude.{◌≡◌, ◌≢◌, ◌≤◌, ◌==◌, ℕ, Bool, true, false, if◌then◌else◌, List, [], AllPairs, Contains, drop, slice_get, Option, Some, None}
use Rattle.std.specs.Option.{option_map_or}
use Rattle.link_admission.specs.Numbering.{among}
use Rattle.node_graph.specs.Tree.{Tree}
use Rattle.vfs_journal.specs.Entries.{Sent, endpoints_in}
use Rattle.vfs_journal.specs.History.{Event}
use Rattle.vfs_journal.specs.Output.{frames_of_serving}
use Rattle.vfs_journal.specs.Starts.{Bound}
use Rattle.vfs_journal.specs.View.{View, at_in, head_in, is_bound_in, next_in, oldest_in, queue_in, serving_in}

-- ---- what is served next

-- the first of what waits on an endpoint
abbrev pub first_on : View → ℕ → Option Sent
first_on view endpoint = slice_get (queue_in view endpoint) 0

-- the endpoint is bound at a server
abbrev pub is_bound_at_in : View → ℕ → ℕ → Bool
is_bound_at_in view server endpoint = option_map_or (λ pair. pair.0.server == server) (at_in view endpoint) false

-- it is the first on its endpoint, which passes, and the first on no other endpoint that passes has a lesser place
pub record HasLeastPlace (view : View) (passes : ℕ → Bool) (sent : Sent) : Type 0 where
  pub passing : passes sent.endpoint ≡ true
  pub first : first_on view sent.endpoint ≡ Some sent
  pub least : (endpoint : ℕ) (other : Sent) → passes endpoint ≡ true → first_on view endpoint ≡ Some other → sent.place ≤ other.place

-- one is chosen exactly where something waits on an endpoint that passes, and that one has the least place
pub record ChoosesLeast (view : View) (passes : ℕ → Bool) (chosen : Option Sent) : Type 0 where
  pub none : ((endpoint : ℕ) → passes endpoint ≡ true → queue_in view endpoint ≡ []) → chosen ≡ None
  pub some : (sent : Sent) → HasLeastPlace view passes sent → chosen ≡ Some sent
  pub least : (sent : Sent) → chosen ≡ Some sent → HasLeastPlace view passes sent

-- what is served next, anywhere and of a server, and of an endpoint, is the first of a queue
pub record IsChosenByPlace (view : View) : Type 0 where
  pub next : ChoosesLeast view (is_bound_in view) (next_in view)
  pub oldest : (server : ℕ) → ChoosesLeast view (is_bound_at_in view server) (oldest_in view server)
  pub head : (endpoint : ℕ) → head_in view endpoint ≡ (if is_bound_in view endpoint then first_on view endpoint else None)

-- ---- deaths

-- what waits on an endpoint beside an entry that is served
abbrev pub queue_beside : View → Sent → ℕ → List Sent
queue_beside view sent endpoint = if sent.endpoint == endpoint then drop 1 (queue_in view endpoint) else queue_in view endpoint

-- what waits on an endpoint among these carries endpoints among these
abbrev pub IsClosedOver : (ℕ → List Sent) → (ℕ → Bool) → Type 0
IsClosedOver queue dies = (endpoint carried : ℕ) (sent : Sent) → dies endpoint ≡ true → Contains (queue endpoint) sent → among carried (endpoints_in sent) ≡ true → dies carried ≡ true

-- the least endpoints that are closed so and have some first ones
pub record AreAllThatDie (queue : ℕ → List Sent) (dying deaths : List ℕ) : Type 0 where
  pub first : (endpoint : ℕ) → among endpoint dying ≡ true → among endpoint deaths ≡ true
  pub closed : IsClosedOver queue (λ endpoint. among endpoint deaths)
  pub least : (dies : ℕ → Bool) → ((endpoint : ℕ) → among endpoint dying ≡ true → dies endpoint ≡ true) → IsClosedOver queue dies →
      (endpoint : ℕ) → among endpoint deaths ≡ true → dies endpoint ≡ true

-- no number but these, each once, in any order
pub record IsListOf (numbers listed : List ℕ) : Type 0 where
  pub same : (number : ℕ) → among number listed ≡ among number numbers
  pub once : AllPairs (λ one other. one ≢ other) listed

-- what follows on deaths, and what is written for them, goes by the members alone
pub record IsToldByMembers (view : View) (sent : Sent) (event : Event) (deaths : List ℕ) : Type 0 where
  pub follows : serving_in view sent (record event { deaths = deaths }) ≡ serving_in view sent event
  pub written : (trees : List Tree) (living : List Bound) → frames_of_serving trees living (record event { deaths = deaths }) ≡ frames_of_serving trees living event
