-- The lineage of an endpoint: the sets of rights that it comes from, through connections, names and mounts. Its own rights are the last, so
-- that a narrow connection on the way binds what is opened on it. Each is found in the past: what a serving saw is the tree of its own time.
use Rattle.std.specs.Prelude.{ℕ, ◌==◌, List, [], ◌∷◌, ◌++◌, find, if◌then◌else◌, slice_get, Option, Some, None, Ok, Err}
use Rattle.std.specs.Option.{option_map_or}
use Rattle.io_messages.specs.Asked.{Asked}
use Rattle.io_messages.specs.Asked as asks
use Rattle.io_rights.specs.Operations.{OperationSet, all}
use Rattle.path_walk.specs.Paths.{names_of}
use Rattle.conn_rules.specs.Walks.{Walk, missing, crosses, walk, masks_of}
use Rattle.vfs_journal.specs.Entries.{Sent, Sending, message, hang_up}
use Rattle.vfs_journal.specs.History.{Event, History, served_by, serves_place, binds_endpoint, bound_at}
use Rattle.vfs_journal.specs.Serving.{Moment, Read, moment_of, read_by}
use Rattle.vfs_journal.specs.Starts.{Start}

-- the lineage of each endpoint, and by the place of each Open that went on behind a mount the trail of what went on
pub record Lines : Type 0 where
  pub lineage : ℕ → List OperationSet
  pub onward : ℕ → List OperationSet

-- ---- what a serving saw

abbrev pub request_in : Read → Option Asked
request_in (Ok found) = Some found.1
request_in (Err fault) = None

-- the request that a sending is to the connection that serves it
abbrev pub asked_by : Moment → Sending → Option Asked
asked_by moment (message bytes handles) = request_in (read_by moment.bound.birth.protocol bytes handles)
asked_by moment hang_up = None

-- where the names of an Open led
abbrev pub walk_at : Moment → List ℕ → ℕ → Walk
walk_at moment path word = walk moment.tree word (names_of path) moment.bound.birth.node

-- what the request of a serving and its moment give; nothing where there is none
abbrev pub at_serving : (Moment → Asked → List OperationSet) → Start → History → Sent → List OperationSet
at_serving given start past sent =
    option_map_or
    (λ bound. option_map_or (given (moment_of start past bound)) (asked_by (moment_of start past bound) sent.sending) [])
    (bound_at start past sent.endpoint)
    []

-- ---- the rule

-- of a first connection, or the end of a mount: its rights alone
abbrev pub first_lineage : Start → ℕ → List OperationSet
first_lineage start endpoint =
    option_map_or (λ bound. bound.birth.rights ∷ []) (find (λ bound. bound.endpoint == endpoint) (start.firsts ++ start.mounts)) []

-- the trail of what was sent: what came over a mount goes on with the trail behind its origin, and a client's begins with the lineage of
-- its endpoint, the rights of this among them
abbrev pub trail_by : Lines → ℕ → Option ℕ → List OperationSet
trail_by lines endpoint None = lines.lineage endpoint
trail_by lines endpoint (Some origin) = lines.onward origin

abbrev pub trail_in : Lines → Sent → List OperationSet
trail_in lines sent = trail_by lines sent.endpoint sent.origin

-- the masks of a walk, and all nine rights for a name that is made
abbrev pub masks_along : Walk → List OperationSet
masks_along (missing directory name masks) = masks ++ all ∷ []
masks_along walk = masks_of walk

-- of what is bound all but its own rights: from an Open its trail, and then the masks of its walk; from a Clone or a Watch the lineage of
-- the endpoint that it came on
abbrev pub lineage_given : Lines → Sent → Moment → Asked → List OperationSet
lineage_given lines sent moment (asks.open_path path word attributes object) = trail_in lines sent ++ masks_along (walk_at moment path word)
lineage_given lines sent moment _ = lines.lineage sent.endpoint

-- the rights of the end of the mount that a walk crosses
abbrev pub end_rights : Start → Walk → List OperationSet
end_rights start (crosses mount rest masks) = option_map_or (λ end. end.birth.rights ∷ []) (slice_get start.mounts mount) []
end_rights start _ = []

-- of what goes on behind a mount: the trail of the Open, then the masks of its walk, then the rights of the mount's end
abbrev pub trail_given : Start → Lines → Sent → Moment → Asked → List OperationSet
trail_given start lines sent moment (asks.open_path path word attributes object) =
    trail_in lines sent ++ masks_of (walk_at moment path word) ++ end_rights start (walk_at moment path word)
trail_given start lines sent moment _ = []

-- ---- looking back

-- the rights of what an event binds
abbrev pub rights_bound : Event → List OperationSet
rights_bound event = option_map_or (λ bound. bound.birth.rights ∷ []) event.outcome.bound []

-- behind an event, the endpoint that it binds has a lineage, what its serving gives and then its own rights, and the place that it serves a
-- trail; the others are as they were
abbrev pub lines_behind : Start → History → Lines → Event → Lines
lines_behind start past lines event =
    record {
      lineage = λ endpoint.
          if binds_endpoint endpoint event
          then option_map_or (λ sent. at_serving (lineage_given lines sent) start past sent) (served_by event.entry) [] ++ rights_bound event
          else lines.lineage endpoint;
      onward = λ place.
          if serves_place place event
          then option_map_or (λ sent. at_serving (trail_given start lines sent) start past sent) (served_by event.entry) []
          else lines.onward place;
    }

unfoldable pub lines_of : Start → History → Lines
lines_of start [] = record { lineage = first_lineage start; onward = λ place. [] }
lines_of start (event ∷ past) = lines_behind start past (lines_of start past) event

abbrev pub lineage_of : Start → History → ℕ → List OperationSet
lineage_of start history endpoint = (lines_of start history).lineage endpoint

abbrev pub trail_of : Start → History → Sent → List OperationSet
trail_of start history sent = trail_in (lines_of start history) sent

-- ---- ancestors

-- the first connection that each endpoint comes from, and by the place of each Open that went on behind a mount the one that what went on
-- comes from
pub record Ancestors : Type 0 where
  pub bound : ℕ → ℕ
  pub onward : ℕ → ℕ

abbrev pub ancestor_by : Ancestors → ℕ → Option ℕ → ℕ
ancestor_by ancestors endpoint None = ancestors.bound endpoint
ancestor_by ancestors endpoint (Some origin) = ancestors.onward origin

-- where what was sent comes from: over a mount where its origin comes from, and else where its endpoint does
abbrev pub ancestor_in : Ancestors → Sent → ℕ
ancestor_in ancestors sent = ancestor_by ancestors sent.endpoint sent.origin

abbrev pub ancestor_served : Ancestors → Event → ℕ
ancestor_served ancestors event = option_map_or (ancestor_in ancestors) (served_by event.entry) 0

-- behind an event, the endpoint that it binds and what goes on of it come from where what it serves comes from; the others are as they were
abbrev pub ancestors_behind : Ancestors → Event → Ancestors
ancestors_behind ancestors event =
    record {
      bound = λ endpoint. if binds_endpoint endpoint event then ancestor_served ancestors event else ancestors.bound endpoint;
      onward = λ place. if serves_place place event then ancestor_served ancestors event else ancestors.onward place;
    }

-- a first connection is its own ancestor
unfoldable pub ancestors_of : History → Ancestors
ancestors_of [] = record { bound = λ endpoint. endpoint; onward = λ place. 0 }
ancestors_of (event ∷ past) = ancestors_behind (ancestors_of past) event

abbrev pub ancestor_of : History → ℕ → ℕ
ancestor_of history endpoint = (ancestors_of history).bound endpoint

abbrev pub sent_from : History → Sent → ℕ
sent_from history sent = ancestor_in (ancestors_of history) sent
