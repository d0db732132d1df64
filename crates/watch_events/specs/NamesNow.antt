-- The names that a list of events stands for.
use Rattle.std.specs.Prelude.{ℕ, ◌==◌, ◌&&◌, ◌||◌, Bool, false, not, List, find, reverse}
use Rattle.std.specs.Option.{option_map_or}
use Rattle.std.specs.Str.{bytes_eq}
use Rattle.path_walk.specs.Names.{dot}
use Rattle.watch_events.specs.Events.{Event}
use Rattle.watch_events.specs.Messages.{added, existing, removed}

-- EXISTING and ADDED put a name in, and REMOVED takes it out
abbrev pub puts_in : Event → Bool
puts_in one = (one.event == existing) || (one.event == added)

abbrev pub takes_out : Event → Bool
takes_out one = one.event == removed

-- an event puts in or takes out this name
abbrev pub tells_of : List ℕ → Event → Bool
tells_of name one = bytes_eq one.name name && (puts_in one || takes_out one)

-- a name is there where the last event that tells of it put it in; `.` is no name
abbrev pub is_named_now : List Event → List ℕ → Bool
is_named_now events name = not (bytes_eq name dot) && option_map_or puts_in (find (tells_of name) (reverse events)) false
