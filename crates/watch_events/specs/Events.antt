-- What a message to a watcher says: events, one after another.
use Rattle.std.specs.Prelude.{◌≡◌, ℕ, ◌+◌, ◌<◌, ◌⊎◌, List, ◌∷◌, ◌++◌, length, slice_index, All, Option, Some, None}
use Rattle.std.specs.List.{flat_map}
use Rattle.watch_events.specs.declared.reading.Events.{Events}
use Rattle.watch_events.specs.declared.reading.Seen.{Seen}

-- what happened, by its number, and the name that it happened to
pub record Event : Type 0 where
  pub event : ℕ
  pub name : List ℕ

-- an event as it is written: its number, the length of the name, the name
abbrev pub event_bytes : ℕ → List ℕ → List ℕ
event_bytes event name = event ∷ length name ∷ name

abbrev pub bytes_of : Event → List ℕ
bytes_of e = event_bytes e.event e.name

-- no whole event stands in front
abbrev pub IsCut : List ℕ → Type 0
IsCut bytes = (length bytes < 2) ⊎ (length bytes < 2 + slice_index bytes 1)

-- the bytes are these events, and then a rest in front of which no whole event stands
pub record AreEvents (bytes : List ℕ) (events : List Event) (rest : List ℕ) : Type 0 where
  pub split : bytes ≡ flat_map bytes_of events ++ rest
  pub named : All (λ e. length e.name < 256) events
  pub cut : IsCut rest

-- an event as it was read
abbrev pub event_of : Seen → Event
event_of seen = record { event = seen.event; name = seen.name.now }

-- the bytes behind the events that were given
abbrev pub left : Events → List ℕ
left events = events.bytes.now

-- the next event is the one in front, and it is taken off; where none stands in front nothing changes
abbrev pub Gives : Events → Option Seen → Events → Type 0
Gives old (Some seen) new = (left old ≡ bytes_of (event_of seen) ++ left new) × (length seen.name.now < 256)
Gives old None new = IsCut (left old) × (new ≡ old)

-- bytes are one list of events and one rest
abbrev pub EventsAreReadOnce : Type 0
EventsAreReadOnce =
    (bytes rest rest' : List ℕ) (events events' : List Event) → AreEvents bytes events rest → AreEvents bytes events' rest' →
    (events ≡ events') × (rest ≡ rest')
