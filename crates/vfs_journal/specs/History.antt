-- Looking back through the journal: each notion is a function of the start and of what happened.
use Rattle.std.specs.Prelude.{ℕ, ◌+◌, ◌==◌, ◌&&◌, ◌||◌, Bool, true, false, not, is_some, if◌then◌else◌, List, [], ◌∷◌, ◌++◌, length, filter, filter_map, flat_map, find, reverse, count_by, Option, Some, None, slice_index_or, slice_set}
use Rattle.std.specs.List.{list_any}
use Rattle.std.specs.Option.{option_map_or}
use Rattle.link_admission.specs.declared.kinds.Standing.{Standing}
use Rattle.link_admission.specs.declared.kinds.Standing.TheVariants as standing
use Rattle.link_admission.specs.Numbering.{among}
use Rattle.io_messages.specs.declared.protocols.Protocol.{Protocol}
use Rattle.io_messages.specs.declared.protocols.Protocol.TheVariants as protocol
use Rattle.node_graph.specs.Tree.{Tree, Change, bare_tree, after}
use Rattle.conn_rules.specs.Births.{Position, fresh}
use Rattle.vfs_journal.specs.Entries.{Sent, Entry, sends, serves, handles_of, endpoints_in, is_hang_up}
use Rattle.vfs_journal.specs.Starts.{Bound, Start}
use Rattle.vfs_journal.specs.Outcomes.{Outcome}

-- an entry as it is seen from its past: what its serving answered, and the endpoints that died of it
pub record Event : Type 0 where
  pub entry : Entry
  pub outcome : Outcome
  pub deaths : List ℕ

-- the newest event stands first
abbrev pub History : Type 0
History = List Event

-- ---- what was sent, and what was served

abbrev pub sent_by : Entry → Option Sent
sent_by (sends sent) = Some sent
sent_by _ = None

abbrev pub served_by : Entry → Option Sent
served_by (serves sent) = Some sent
served_by _ = None

-- in order of sending
abbrev pub all_sent : History → List Sent
all_sent history = filter_map (λ event. sent_by event.entry) (reverse history)

-- an event is the serving of what was sent at a place
abbrev pub serves_place : ℕ → Event → Bool
serves_place place event = option_map_or (λ sent. sent.place == place) (served_by event.entry) false

-- an event is a serving on an endpoint
abbrev pub serves_on : ℕ → Event → Bool
serves_on endpoint event = option_map_or (λ sent. sent.endpoint == endpoint) (served_by event.entry) false

abbrev pub was_served : History → Sent → Bool
was_served history sent = list_any (serves_place sent.place) history

-- ---- endpoints

abbrev pub is_dead : History → ℕ → Bool
is_dead history endpoint = list_any (λ event. among endpoint event.deaths) history

-- the endpoints that were ever bound, in order: the first connections, the ends of mounts, and those that servings bound
abbrev pub births : Start → History → List Bound
births start history = start.firsts ++ start.mounts ++ filter_map (λ event. event.outcome.bound) (reverse history)

-- those that live
abbrev pub living : Start → History → List Bound
living start history = filter (λ bound. not (is_dead history bound.endpoint)) (births start history)

abbrev pub bound_at : Start → History → ℕ → Option Bound
bound_at start history endpoint = find (λ bound. bound.endpoint == endpoint) (living start history)

abbrev pub is_bound : Start → History → ℕ → Bool
is_bound start history endpoint = is_some (bound_at start history endpoint)

-- its client hung up on it
abbrev pub hung_up : History → ℕ → Bool
hung_up history endpoint = list_any (λ sent. is_hang_up sent.sending && (sent.endpoint == endpoint)) (all_sent history)

-- ---- what waits

-- what was sent waits until it is served or its endpoint is dead
abbrev pub waits : History → Sent → Bool
waits history sent = not (was_served history sent) && not (is_dead history sent.endpoint)

-- in order of sending
abbrev pub waiting : History → List Sent
waiting history = filter (waits history) (all_sent history)

-- the endpoints that waiting messages carry
abbrev pub travelling : History → List ℕ
travelling history = flat_map endpoints_in (waiting history)

-- ---- standings

-- a message carried this number
abbrev pub was_carried : History → ℕ → Bool
was_carried history number = list_any (λ sent. among number (handles_of sent.sending)) (all_sent history)

-- it is bound, or travels
abbrev pub is_live : Start → History → ℕ → Bool
is_live start history endpoint = is_bound start history endpoint || among endpoint (travelling history)

abbrev pub standing_of : Start → History → ℕ → Standing
standing_of start history endpoint =
    if is_dead history endpoint then standing.Dead
    else if is_live start history endpoint then (if hung_up history endpoint then standing.HungUp else standing.Live)
    else standing.Unused

-- a first connection, or a number that a message carried
abbrev pub is_used : Start → History → ℕ → Bool
is_used start history number = list_any (λ bound. bound.endpoint == number) start.firsts || was_carried history number

-- how many endpoints are live
abbrev pub live_count : Start → History → ℕ
live_count start history = length (living start history) + length (travelling history)

-- ---- positions

-- an event binds an endpoint
abbrev pub binds_endpoint : ℕ → Event → Bool
binds_endpoint endpoint event = option_map_or (λ bound. bound.endpoint == endpoint) event.outcome.bound false

-- what the last serving on an endpoint left, since it was bound
abbrev pub position_of : History → ℕ → Position
position_of [] endpoint = fresh
position_of (event ∷ earlier) endpoint =
    if binds_endpoint endpoint event then fresh
    else if serves_on endpoint event then event.outcome.position
    else position_of earlier endpoint

-- ---- trees

abbrev pub tree_at : List Tree → ℕ → Tree
tree_at trees server = slice_index_or trees server bare_tree

-- the trees with a change of one
abbrev pub changed : List Tree → ℕ → Change → List Tree
changed trees server change = slice_set trees server (after (tree_at trees server) change)

-- the start's trees with the changes of all servings, in order
abbrev pub trees_of : Start → History → List Tree
trees_of start [] = start.trees
trees_of start (event ∷ earlier) = changed (trees_of start earlier) event.outcome.server event.outcome.change

-- ---- numbers in use

-- the connections of a server, watchers and the ends of mounts included
abbrev pub connections_at : Start → History → ℕ → ℕ
connections_at start history server = count_by (λ bound. bound.server == server) (living start history)

abbrev pub is_watcher : Protocol → Bool
is_watcher protocol.Watcher = true
is_watcher _ = false

abbrev pub watches_node : ℕ → ℕ → Bound → Bool
watches_node server node bound = is_watcher bound.birth.protocol && ((bound.server == server) && (bound.birth.node == node))

-- the live watchers of a directory, in order of their births
abbrev pub watchers_of : Start → History → ℕ → ℕ → List Bound
watchers_of start history server node = filter (watches_node server node) (living start history)
