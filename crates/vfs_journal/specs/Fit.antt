-- What holds of the view of each session, so that whoever is told of any view can count on it.
use Rattle.std.specs.Prelude.{◌≡◌, ◌≢◌, ◌+◌, ◌<◌, ◌≤◌, ◌==◌, ◌⊎◌, ℕ, true, false, All, AllPairs, Contains, List, flat_map, length, Some}
use Rattle.std.specs.List.{list_any}
use Rattle.fidl_names.specs.declared.limits.TheConstants as limit
use Rattle.link_admission.specs.Numbering.{among}
use Rattle.fidl_names.specs.HandleNumber.{is_client}
use Rattle.vfs_journal.specs.Entries.{Sent, endpoints_in, handles_of}
use Rattle.vfs_journal.specs.Outcomes.{Forwarded, Given}
use Rattle.vfs_journal.specs.Starts.{Bound}
use Rattle.vfs_journal.specs.View.{View, deaths_in, head_in, is_bound_in, is_held_in, next_token_in, others_in, outcome_in}

-- the handles that waiting messages carry, and the endpoints among them
abbrev pub handles_out : View → List ℕ
handles_out view = flat_map (λ sent. handles_of sent.sending) view.waiting

abbrev pub travelling_in : View → List ℕ
travelling_in view = flat_map endpoints_in view.waiting

-- an endpoint is bound, or a waiting message carries it
abbrev pub IsLiveIn : View → ℕ → Type 0
IsLiveIn view endpoint = (is_bound_in view endpoint ≡ true) ⊎ (among endpoint (travelling_in view) ≡ true)

-- the serving of an entry binds, and sends on, what the entry carries, to the end of a mount that is bound; the token that it gives is the
-- next; its deaths are clients' endpoints that live, each once, and whatever waits on one of them carries no other endpoint
pub record ServesFit (view : View) (sent : Sent) : Type 0 where
  pub binds : (bound : Bound) → (outcome_in view sent).bound ≡ Some bound → among bound.endpoint (endpoints_in sent) ≡ true
  pub sends_on : (forward : Forwarded) → (outcome_in view sent).forward ≡ Some forward → among forward.object (endpoints_in sent) ≡ true
  pub goes_to : (forward : Forwarded) → (outcome_in view sent).forward ≡ Some forward → (is_client forward.endpoint ≡ false) × (is_bound_in view forward.endpoint ≡ true)
  pub gives : (given : Given) → (outcome_in view sent).token ≡ Some given → next_token_in view ≡ Some given.token
  pub clients : (endpoint : ℕ) → among endpoint (deaths_in view sent) ≡ true → (is_client endpoint ≡ true) × IsLiveIn view endpoint
  pub once : AllPairs (λ one other. one ≢ other) (deaths_in view sent)
  pub closed : (other : Sent) (endpoint : ℕ) → Contains (others_in view sent) other → among other.endpoint (deaths_in view sent) ≡ true →
      among endpoint (endpoints_in other) ≡ true → among endpoint (deaths_in view sent) ≡ true

pub record IsFit (view : View) : Type 0 where
  -- the places of what waits rise in order of sending, and lie below the next
  pub rise : AllPairs (λ sent later. sent.place < later.place) view.waiting
  pub below : All (λ sent. sent.place < view.places) view.waiting
  -- no endpoint is bound twice
  pub apart : AllPairs (λ one other. one.0.endpoint ≢ other.0.endpoint) view.living
  -- what waits is on an endpoint that is bound or carried
  pub reached : (sent : Sent) → Contains view.waiting sent → IsLiveIn view sent.endpoint
  -- no two handles that are carried are one; a carried endpoint isn't bound, and a carried token was given and isn't held
  pub once : AllPairs (λ one other. one ≢ other) (handles_out view)
  pub unbound : (endpoint : ℕ) → among endpoint (travelling_in view) ≡ true → is_bound_in view endpoint ≡ false
  pub carried : (number : ℕ) → among number (handles_out view) ≡ true →
      (is_client number ≡ true) ⊎ ((list_any (λ given. given.token == number) view.given ≡ true) × (is_held_in view number ≡ false))
  -- tokens rise, from the first on, and lie below the next; those that are held were given
  pub tokens : AllPairs (λ given later. given.token < later.token) view.given
  pub numbered : All (λ given. (limit.FIRST_TOKEN ≤ given.token) × (given.token < limit.FIRST_TOKEN + length view.given)) view.given
  pub held : All (Contains view.given) view.held
  -- whatever can be served next on an endpoint serves so
  pub heads : (sent : Sent) → head_in view sent.endpoint ≡ Some sent → ServesFit view sent
