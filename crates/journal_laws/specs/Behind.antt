-- What is looked up in the view behind a serving: each endpoint by itself, whatever else there is.
use Rattle.std.specs.Prelude.{◌≡◌, ◌+◌, ◌==◌, ℕ, false, if◌then◌else◌, List, [], ◌∷◌, ◌++◌, drop, Option, None}
use Rattle.std.specs.Option.{option_map, option_map_or}
use Rattle.link_admission.specs.Numbering.{among}
use Rattle.conn_rules.specs.Births.{Position, fresh}
use Rattle.vfs_journal.specs.Entries.{Sent}
use Rattle.vfs_journal.specs.Starts.{Bound}
use Rattle.vfs_journal.specs.View.{View, at_in, deaths_in, moved, onward_sent, outcome_in, queue_in, then_in}

-- a dead endpoint isn't bound; what the outcome binds is at its beginning, and the served endpoint where the outcome leaves it
abbrev pub at_behind : View → Sent → ℕ → Option (Bound × Position)
at_behind view sent endpoint =
    if among endpoint (deaths_in view sent) then None
    else if option_map_or (λ bound. bound.endpoint == endpoint) (outcome_in view sent).bound false
    then option_map (λ bound. (bound, fresh)) (outcome_in view sent).bound
    else option_map (moved sent.endpoint (outcome_in view sent).position) (at_in view endpoint)

-- nothing waits on a dead endpoint, on the served one all but the first, and on any other what waited
abbrev pub queue_behind : View → Sent → ℕ → List Sent
queue_behind view sent endpoint =
    if among endpoint (deaths_in view sent) then []
    else if sent.endpoint == endpoint then drop 1 (queue_in view endpoint)
    else queue_in view endpoint

-- what goes on to this endpoint
abbrev pub onward_to : View → Sent → ℕ → List Sent
onward_to view sent endpoint =
    option_map_or
    (λ forward. if forward.endpoint == endpoint then onward_sent (view.places + 1) sent forward ∷ [] else [])
    (outcome_in view sent).forward
    []

-- what is bound, and what waits, endpoint by endpoint
pub record IsBehind (view : View) (sent : Sent) : Type 0 where
  pub at : (endpoint : ℕ) → at_in (then_in view sent) endpoint ≡ at_behind view sent endpoint
  pub queue : (endpoint : ℕ) → queue_in (then_in view sent) endpoint ≡ queue_behind view sent endpoint ++ onward_to view sent endpoint
