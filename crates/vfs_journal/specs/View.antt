-- A session as it is seen now. What is served next, and all that a serving does, is a function of this view, whatever past led to it.
use Rattle.std.specs.Prelude.{ℕ, ◌+◌, ◌==◌, ◌||◌, Bool, false, not, is_some, if◌then◌else◌, List, [], ◌∷◌, ◌++◌, length, map, filter, find, count_by, option_to_list, Option, Some, None}
use Rattle.std.specs.List.{list_any}
use Rattle.std.specs.Option.{option_map_or}
use Rattle.link_frames.specs.Frames.{Frame}
use Rattle.link_admission.specs.Numbering.{among}
use Rattle.node_graph.specs.Tree.{Tree}
use Rattle.conn_rules.specs.Births.{Position, fresh}
use Rattle.conn_rules.specs.declared.births.Room.{Room}
use Rattle.vfs_journal.specs.Deaths.{first_deaths, spread}
use Rattle.vfs_journal.specs.Entries.{Sent, message, serves, handles_of}
use Rattle.vfs_journal.specs.History.{Event, History, living, position_of, waiting, trees_of, tree_at, changed, watches_node, was_carried}
use Rattle.vfs_journal.specs.Outcomes.{Forwarded, Given, Outcome, no_outcome}
use Rattle.vfs_journal.specs.Output.{frames_of_serving}
use Rattle.vfs_journal.specs.Serving.{Moment, outcome_of_sending}
use Rattle.vfs_journal.specs.Starts.{Bound, Start}
use Rattle.vfs_journal.specs.Tokens.{all_given, directory_among, token_behind}

-- who lives, in order of birth, each with its position; what waits, in order of sending; the trees, by server; the tokens that were given,
-- in order of giving, and those of them that no message carried yet; and the place that the next entry gets
pub record View : Type 0 where
  pub living : List (Bound × Position)
  pub waiting : List Sent
  pub trees : List Tree
  pub given : List Given
  pub held : List Given
  pub places : ℕ

-- an endpoint that is bound, with its position
abbrev pub with_position : History → Bound → Bound × Position
with_position history bound = (bound, position_of history bound.endpoint)

-- what looking back finds in a past
abbrev pub view_of : Start → History → View
view_of start history =
    record {
      living = map (with_position history) (living start history);
      waiting = waiting history;
      trees = trees_of start history;
      given = all_given history;
      held = filter (λ given. not (was_carried history given.token)) (all_given history);
      places = length history;
    }

-- ---- which entry is served

-- the endpoint, if it is bound
abbrev pub at_in : View → ℕ → Option (Bound × Position)
at_in view endpoint = find (λ pair. pair.0.endpoint == endpoint) view.living

abbrev pub is_bound_in : View → ℕ → Bool
is_bound_in view endpoint = is_some (at_in view endpoint)

-- the first waiting entry of an endpoint that is bound
abbrev pub head_in : View → ℕ → Option Sent
head_in view endpoint = if is_bound_in view endpoint then find (λ sent. sent.endpoint == endpoint) view.waiting else None

-- the first waiting entry whose endpoint is bound at a server, and anywhere
abbrev pub oldest_in : View → ℕ → Option Sent
oldest_in view server =
    find (λ sent. option_map_or (λ pair. pair.0.server == server) (at_in view sent.endpoint) false) view.waiting

abbrev pub next_in : View → Option Sent
next_in view = find (λ sent. is_bound_in view sent.endpoint) view.waiting

-- the entries that wait on an endpoint, in order of sending
abbrev pub queue_in : View → ℕ → List Sent
queue_in view endpoint = filter (λ sent. sent.endpoint == endpoint) view.waiting

-- ---- what its serving sees

-- who lives, without the positions
abbrev pub bounds_in : View → List Bound
bounds_in view = map (λ pair. pair.0) view.living

-- the clients hold a token
abbrev pub is_held_in : View → ℕ → Bool
is_held_in view token = list_any (λ given. given.token == token) view.held

-- a token is out where the clients hold it, or a waiting message carries it
abbrev pub is_out_in : View → ℕ → Bool
is_out_in view token = is_held_in view token || list_any (λ sent. among token (handles_of sent.sending)) view.waiting

abbrev pub next_token_in : View → Option ℕ
next_token_in view = token_behind (length (filter (λ given. is_out_in view given.token) view.given)) (length view.given)

abbrev pub directory_in : View → ℕ → ℕ → Option ℕ
directory_in view server token = directory_among view.given server token

-- what is in use at a server, and at a directory there
abbrev pub room_in : View → ℕ → ℕ → Room
room_in view server node =
    record {
      connections = count_by (λ bound. bound.server == server) (bounds_in view);
      watchers = length (filter (watches_node server node) (bounds_in view));
      token = next_token_in view;
    }

-- the moment at which a bound endpoint is served
abbrev pub moment_in : View → Bound × Position → Moment
moment_in view pair =
    record {
      bound = pair.0;
      position = pair.1;
      room = room_in view pair.0.server pair.0.birth.node;
      tree = tree_at view.trees pair.0.server;
      directory = directory_in view pair.0.server;
    }

-- ---- what it does

abbrev pub outcome_in : View → Sent → Outcome
outcome_in view sent =
    option_map_or (λ pair. outcome_of_sending (moment_in view pair) sent.sending) (at_in view sent.endpoint) no_outcome

-- the other entries that wait
abbrev pub others_in : View → Sent → List Sent
others_in view sent = filter (λ other. not (other.place == sent.place)) view.waiting

-- the endpoints that die of it
abbrev pub deaths_in : View → Sent → List ℕ
deaths_in view sent = spread (first_deaths sent (outcome_in view sent)) (others_in view sent)

abbrev pub event_in : View → Sent → Event
event_in view sent = record { entry = serves sent; outcome = outcome_in view sent; deaths = deaths_in view sent }

-- the frames that are written
abbrev pub frames_in : View → Sent → List Frame
frames_in view sent = frames_of_serving view.trees (bounds_in view) (event_in view sent)

-- ---- the views behind

-- a refused frame takes a place
abbrev pub refusing_in : View → View
refusing_in view = record view { places = view.places + 1 }

-- what is sent waits last; the tokens that it carries are held no more
abbrev pub sending_in : View → Sent → View
sending_in view sent =
    record view {
      waiting = view.waiting ++ sent ∷ [];
      held = filter (λ given. not (among given.token (handles_of sent.sending))) view.held;
      places = view.places + 1;
    }

-- the served endpoint has the position of the outcome
abbrev pub moved : ℕ → Position → Bound × Position → Bound × Position
moved endpoint position pair = if pair.0.endpoint == endpoint then (pair.0, position) else pair

-- who doesn't die lives on, the served endpoint at its new position, and what is bound is the newest; what waits on others waits on; the
-- tree has the change, and the clients hold the token that is given
abbrev pub serving_in : View → Sent → Event → View
serving_in view sent event =
    record {
      living =
          filter
          (λ pair. not (among pair.0.endpoint event.deaths))
          (map (moved sent.endpoint event.outcome.position) view.living
          ++ map (λ bound. (bound, fresh)) (option_to_list event.outcome.bound));
      waiting = filter (λ other. not (among other.endpoint event.deaths)) (others_in view sent);
      trees = changed view.trees event.outcome.server event.outcome.change;
      given = view.given ++ option_to_list event.outcome.token;
      held = view.held ++ option_to_list event.outcome.token;
      places = view.places + 1;
    }

-- what goes on behind a mount is sent on the mount's end, at a place
abbrev pub onward_sent : ℕ → Sent → Forwarded → Sent
onward_sent place sent forward =
    record { place = place; endpoint = forward.endpoint; sending = message forward.bytes (forward.object ∷ []); origin = Some sent.place }

abbrev pub onward_in : View → Sent → Option Forwarded → View
onward_in view sent None = view
onward_in view sent (Some forward) = sending_in view (onward_sent view.places sent forward)

-- the view behind a serving
abbrev pub then_in : View → Sent → View
then_in view sent = onward_in (serving_in view sent (event_in view sent)) sent (outcome_in view sent).forward
