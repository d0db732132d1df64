-- What is looked up in a past is looked up in its view.
use Rattle.std.proofs.Common.{◌≡◌, ℕ, ◌==◌, ◌&&◌, ◌||◌, Bool, true, false, not, cond, is_some, nat_le, if◌then◌else◌, List, [], ◌∷◌, length, map, filter, find, count_by, Option, Some, None, refl, sym, ap, ◌∙◌, ◌+◌}
use Rattle.std.specs.List.{list_any}
use Rattle.std.specs.Option.{option_map, option_map_or}
use Rattle.std.proofs.lemmas.Bool.{eqb-true, true≢false}
use Rattle.std.proofs.lemmas.List.Elements.{filter_agree}
use Rattle.fidl_names.specs.declared.limits.TheConstants as limit
use Rattle.conn_rules.specs.Births.{Position}
use Rattle.conn_rules.specs.declared.births.Room.{Room}
use Rattle.vfs_journal.specs.Deaths.{deaths_of, first_deaths, others, spread}
use Rattle.vfs_journal.specs.Entries.{Sent, serves}
use Rattle.vfs_journal.specs.History.{Event, History, living, position_of, bound_at, is_bound, waiting, was_carried, trees_of, tree_at, watches_node}
use Rattle.vfs_journal.specs.Outcomes.{Given, Outcome, no_outcome}
use Rattle.vfs_journal.specs.Output.{frames_of_serving}
use Rattle.vfs_journal.specs.Past.{event_of}
use Rattle.vfs_journal.specs.Serving.{Moment, moment_of, room_of, outcome_at, outcome_of, outcome_of_sending}
use Rattle.vfs_journal.specs.Session.{head, is_bound_at, next, oldest}
use Rattle.vfs_journal.specs.Starts.{Bound, Start}
use Rattle.vfs_journal.specs.Tokens.{all_given, directory_of, is_held, next_token, waits_with}
use Rattle.journal_laws.specs.Viewing.{IsInView}
use Rattle.vfs_journal.specs.View.{view_of, with_position, at_in, is_bound_in, head_in, oldest_in, next_in, bounds_in, is_held_in, is_out_in, next_token_in, room_in, moment_in, outcome_in, deaths_in, event_in, frames_in}

-- ---- lists

pub find-map : {X Y : Type 0} (p : Y → Bool) (f : X → Y) (xs : List X) → find p (map f xs) ≡ option_map f (find (λ x. p (f x)) xs)
find-map p f [] = refl
find-map {X} {Y} p f (x ∷ xs) = by_test (p (f x)) (find-map p f xs) where
  by_test : (b : Bool) → find p (map f xs) ≡ option_map f (find (λ y. p (f y)) xs) → cond b (Some (f x)) (find p (map f xs)) ≡ option_map f (cond b (Some x) (find (λ y. p (f y)) xs))
  by_test true rest = refl
  by_test false rest = rest

pub find_agree : {X : Type 0} (p q : X → Bool) (xs : List X) → ((x : X) → p x ≡ q x) → find p xs ≡ find q xs
find_agree p q [] same = refl
find_agree p q (x ∷ xs) same = rw (same x, find_agree p q xs same) refl

some_mapped : {X Y : Type 0} (f : X → Y) (o : Option X) → is_some (option_map f o) ≡ is_some o
some_mapped f None = refl
some_mapped f (Some x) = refl

or_mapped : {X Y Z : Type 0} (g : Y → Z) (f : X → Y) (o : Option X) (z : Z) → option_map_or g (option_map f o) z ≡ option_map_or (λ x. g (f x)) o z
or_mapped g f None z = refl
or_mapped g f (Some x) z = refl

-- ---- who lives

bounds_back : (history : History) (bounds : List Bound) → map (λ (pair : Bound × Position). pair.0) (map (with_position history) bounds) ≡ bounds
bounds_back history [] = refl
bounds_back history (b ∷ bounds) = ap (λ (bs : List Bound). b ∷ bs) (bounds_back history bounds)

pub bounds_are : (start : Start) (history : History) → bounds_in (view_of start history) ≡ living start history
bounds_are start history = bounds_back history (living start history)

pub at_is : (start : Start) (history : History) (endpoint : ℕ) → at_in (view_of start history) endpoint ≡ option_map (with_position history) (bound_at start history endpoint)
at_is start history endpoint = find-map (λ pair. pair.0.endpoint == endpoint) (with_position history) (living start history)

pub bound_is : (start : Start) (history : History) (endpoint : ℕ) → is_bound start history endpoint ≡ is_bound_in (view_of start history) endpoint
bound_is start history endpoint =
    sym (some_mapped (with_position history) (bound_at start history endpoint)) ∙ sym (ap is_some (at_is start history endpoint))

-- ---- which entry is served

pub next_is : (start : Start) (history : History) → next start history ≡ next_in (view_of start history)
next_is start history =
    find_agree (λ sent. is_bound start history sent.endpoint) (λ sent. is_bound_in (view_of start history) sent.endpoint) (waiting history) (λ sent. bound_is start history sent.endpoint)

pub head_is_in : (start : Start) (history : History) (endpoint : ℕ) → head start history endpoint ≡ head_in (view_of start history) endpoint
head_is_in start history endpoint =
    ap (λ (b : Bool). if b then find (λ sent. sent.endpoint == endpoint) (waiting history) else None) (bound_is start history endpoint)

pub oldest_is : (start : Start) (history : History) (server : ℕ) → oldest start history server ≡ oldest_in (view_of start history) server
oldest_is start history server =
    let view = view_of start history in
    find_agree (λ sent. is_bound_at start history server sent.endpoint) (λ sent. option_map_or (λ pair. pair.0.server == server) (at_in view sent.endpoint) false) (waiting history)
    (λ sent.
    sym (or_mapped (λ (pair : Bound × Position). pair.0.server == server) (with_position history) (bound_at start history sent.endpoint) false)
    ∙ sym (ap (λ (o : Option (Bound × Position)). option_map_or (λ pair. pair.0.server == server) o false) (at_is start history sent.endpoint)))

-- ---- tokens

held_one : (b c d a : Bool) → (b ≡ true → c ≡ d) → cond (not c) (b || (a && not d)) (a && not d) ≡ ((b || a) && not d)
held_one false true d a same = refl
held_one false false d a same = refl
held_one true true true true same = refl
held_one true true true false same = refl
held_one true true false a same = absurd (true≢false (same refl))
held_one true false false a same = refl
held_one true false true a same = absurd (true≢false (sym (same refl)))

-- a token is among those that no message carried where it was given and no message carried it
held_any : (history : History) (given : List Given) (token : ℕ) →
    list_any (λ (one : Given). one.token == token) (filter (λ one. not (was_carried history one.token)) given) ≡ (list_any (λ (one : Given). one.token == token) given && not (was_carried history token))
held_any history [] token = refl
held_any history (one ∷ given) token =
    by_test (was_carried history one.token)
    ∙ ap (λ (b : Bool). cond (not (was_carried history one.token)) ((one.token == token) || b) b) (held_any history given token)
    ∙ held_one (one.token == token) (was_carried history one.token) (was_carried history token) (list_any (λ (other : Given). other.token == token) given)
    (λ e. ap (was_carried history) (eqb-true one.token token e)) where
      by_test : (c : Bool) → list_any (λ (other : Given). other.token == token) (cond (not c) (one ∷ filter (λ other. not (was_carried history other.token)) given) (filter (λ other. not (was_carried history other.token)) given))
          ≡ cond (not c) ((one.token == token) || list_any (λ (other : Given). other.token == token) (filter (λ other. not (was_carried history other.token)) given))
          (list_any (λ (other : Given). other.token == token) (filter (λ other. not (was_carried history other.token)) given))
      by_test true = refl
      by_test false = refl

pub held_is : (start : Start) (history : History) (token : ℕ) → is_held history token ≡ is_held_in (view_of start history) token
held_is start history token = sym (held_any history (all_given history) token)

out_is : (start : Start) (history : History) (token : ℕ) → (is_held history token || waits_with history token) ≡ is_out_in (view_of start history) token
out_is start history token = ap (λ (b : Bool). b || waits_with history token) (held_is start history token)

pub token_is : (start : Start) (history : History) → next_token history ≡ next_token_in (view_of start history)
token_is start history =
    ap (λ (out : List Given). if nat_le limit.MAX_TOKENS (length out) || nat_le 0x80000000 (length (all_given history)) then None else Some (limit.FIRST_TOKEN + length (all_given history)))
    (filter_agree (λ given. is_held history given.token || waits_with history given.token) (λ given. is_out_in (view_of start history) given.token)
    (λ given. out_is start history given.token) (all_given history))

-- ---- what a serving sees

room_is : (start : Start) (history : History) (bound : Bound) → room_of start history bound ≡ room_in (view_of start history) bound.server bound.birth.node
room_is start history bound =
    let bounds = bounds_are start history in
    let token = token_is start history in
    λ i. record {
      connections = count_by (λ other. other.server == bound.server) (sym bounds i);
      watchers = length (filter (watches_node bound.server bound.birth.node) (sym bounds i));
      token = token i;
    }

pub moment_is : (start : Start) (history : History) (bound : Bound) → moment_of start history bound ≡ moment_in (view_of start history) (with_position history bound)
moment_is start history bound =
    ap (λ (room : Room). record {
      bound = bound;
      position = position_of history bound.endpoint;
      room = room;
      tree = tree_at (trees_of start history) bound.server;
      directory = directory_of history bound.server;
    }) (room_is start history bound)

-- ---- what it does

outcome_by : (start : Start) (history : History) (sent : Sent) (o : Option Bound) → outcome_at start history sent o
    ≡ option_map_or (λ pair. outcome_of_sending (moment_in (view_of start history) pair) sent.sending) (option_map (with_position history) o) no_outcome
outcome_by start history sent None = refl
outcome_by start history sent (Some bound) = ap (λ (moment : Moment). outcome_of_sending moment sent.sending) (moment_is start history bound)

pub outcome_is_in : (start : Start) (history : History) (sent : Sent) → outcome_of start history sent ≡ outcome_in (view_of start history) sent
outcome_is_in start history sent =
    outcome_by start history sent (bound_at start history sent.endpoint)
    ∙ sym (ap (λ (o : Option (Bound × Position)). option_map_or (λ pair. outcome_of_sending (moment_in (view_of start history) pair) sent.sending) o no_outcome)
    (at_is start history sent.endpoint))

pub deaths_are : (start : Start) (history : History) (sent : Sent) → deaths_of history sent (outcome_of start history sent) ≡ deaths_in (view_of start history) sent
deaths_are start history sent = ap (λ (o : Outcome). spread (first_deaths sent o) (others history sent)) (outcome_is_in start history sent)

pub event_is : (start : Start) (history : History) (sent : Sent) → event_of start history (serves sent) ≡ event_in (view_of start history) sent
unfolding event_of
event_is start history sent =
    ap (λ (o : Outcome). with_outcome o) (outcome_is_in start history sent) where
      with_outcome : Outcome → Event
      with_outcome o = record { entry = serves sent; outcome = o; deaths = spread (first_deaths sent o) (others history sent) }

pub frames_are : (start : Start) (history : History) (sent : Sent) →
    frames_of_serving (trees_of start history) (living start history) (event_of start history (serves sent)) ≡ frames_in (view_of start history) sent
frames_are start history sent =
    let bounds = bounds_are start history in
    let event = event_is start history sent in
    λ i. frames_of_serving (trees_of start history) (sym bounds i) (event i)

back_mapped : {X Y : Type 0} (f : X → Y) (g : Y → X) (o : Option X) → ((x : X) → g (f x) ≡ x) → o ≡ option_map g (option_map f o)
back_mapped f g None same = refl
back_mapped {X} f g (Some x) same = ap (λ (y : X). Some y) (sym (same x))

pub in_view : (start : Start) (history : History) → IsInView start history
in_view start history = record {
  bound = λ endpoint.
      back_mapped (with_position history) (λ (pair : Bound × Position). pair.0) (bound_at start history endpoint) (λ b. refl)
      ∙ ap (option_map (λ (pair : Bound × Position). pair.0)) (sym (at_is start history endpoint));
  lives = sym (bounds_are start history);
  held = held_is start history;
  token = token_is start history;
  next = next_is start history;
  head = head_is_in start history;
  oldest = oldest_is start history;
  outcome = outcome_is_in start history;
  deaths = deaths_are start history;
  frames = frames_are start history;
}
