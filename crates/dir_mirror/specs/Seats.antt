-- How the names of a copy are kept, and how events change them. No public clause needs this.
use Rattle.std.specs.Prelude.{◌≡◌, ℕ, ◌<◌, Bool, true, false, if◌then◌else◌, All, List, [], ◌∷◌, ◌++◌, length, map, filter, Option, Some, None}
use Rattle.std.specs.BTreeMap.{BTreeMap, get_by}
use Rattle.std.specs.Cmp.Lexicographic.{slice_cmp}
use Rattle.std.specs.List.{flat_map}
use Rattle.std.specs.Option.{option_map_or}
use Rattle.std.specs.Ordering.{nat_cmp}
use Rattle.std.specs.Str.{bytes_eq}
use Rattle.path_walk.specs.Names.{dot}
use Rattle.watch_events.specs.Events.{Event, bytes_of}
use Rattle.watch_events.specs.NamesNow.{puts_in, takes_out}

-- ---- seats

-- the names that are there
abbrev pub names_of : {K : Type 0} → (K → List ℕ) → List (K × Bool) → List (List ℕ)
names_of bytes seats = map (λ seat. bytes seat.0) (filter (λ seat. seat.1) seats)

-- a name's seat, if it has one
abbrev pub seat_of : {K : Type 0} → (K → List ℕ) → BTreeMap K Bool → List ℕ → Option Bool
seat_of bytes seats name = get_by (λ key. slice_cmp nat_cmp name (bytes key)) seats

-- whether a name is there
abbrev pub is_there : {K : Type 0} → (K → List ℕ) → BTreeMap K Bool → List ℕ → Bool
is_there bytes seats name = option_map_or (λ there. there) (seat_of bytes seats name) false

-- ---- events

-- whether its name is there behind the event, if it tells of that; `.` is no name
abbrev pub change_of : Event → Option Bool
change_of one = if bytes_eq one.name dot then None else if puts_in one then Some true else if takes_out one then Some false else None

-- whether a name is there behind an event
abbrev pub after_event : Bool → Event → List ℕ → Bool
after_event before one name = if bytes_eq one.name name then option_map_or (λ there. there) (change_of one) before else before

-- and behind some, one after the other
abbrev pub after_events : Bool → List Event → List ℕ → Bool
after_events before [] name = before
after_events before (one ∷ later) name = after_events (after_event before one name) later name

-- ---- reading

-- the bytes in front of these are events
pub record HasRead (bytes left : List ℕ) (events : List Event) : Type 0 where
  pub split : bytes ≡ flat_map bytes_of events ++ left
  pub named : All (λ one. length one.name < 256) events
