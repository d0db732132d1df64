-- What a watcher is told, as the messages that it gets.
use Rattle.std.specs.Prelude.{◌≡◌, ℕ, ◌+◌, ◌==◌, Bool, nat_le, if◌then◌else◌, List, [], ◌∷◌, ◌++◌, length, map, filter, take}
use Rattle.std.specs.Int.{bit_at}
use Rattle.fidl_names.specs.declared.limits.TheConstants as limit
use Rattle.link_frames.specs.Frames.{Frame, frame_with, spellings}
use Rattle.link_frames.specs.declared.kinds.FrameKind.TheVariants as kind
use Rattle.path_walk.specs.Names.{dot}
use Rattle.watch_events.specs.declared.watchers.WatchEvent.{WatchEvent}
use Rattle.watch_events.specs.declared.watchers.WatchEvent.TheVariants as event
use Rattle.watch_events.specs.Events.{event_bytes}

-- the events by their numbers; the bit of an event in a mask has its number
abbrev pub deleted : ℕ
deleted = 0

abbrev pub added : ℕ
added = 1

abbrev pub removed : ℕ
removed = 2

abbrev pub existing : ℕ
existing = 3

abbrev pub idle : ℕ
idle = 4

-- those that a change tells
abbrev pub number_of : WatchEvent → ℕ
number_of event.Deleted = deleted
number_of event.Added = added
number_of event.Removed = removed

abbrev pub asks_for : ℕ → ℕ → Bool
asks_for mask event = bit_at mask event == 1

abbrev pub watch_frame : ℕ → List ℕ → Frame
watch_frame endpoint bytes = frame_with endpoint kind.Message [] bytes

-- ---- a new watcher

-- pieces gathered into messages, each as long as it can be, behind a message that was begun
abbrev pub gathered : List ℕ → List (List ℕ) → List (List ℕ)
gathered begun [] = begun ∷ []
gathered begun (piece ∷ pieces) =
    if nat_le (length begun + length piece) limit.MAX_CHUNK then gathered (begun ++ piece) pieces else begun ∷ gathered piece pieces

-- `.`, and then the names of the directory
abbrev pub snapshot : List (List ℕ) → List (List ℕ)
snapshot names = gathered (event_bytes existing dot) (map (event_bytes existing) names)

-- the names where the mask has EXISTING, and then that these are all where it has IDLE
abbrev pub first_messages : ℕ → List (List ℕ) → List (List ℕ)
first_messages mask names =
    (if asks_for mask existing then snapshot names else []) ++ (if asks_for mask idle then event_bytes idle [] ∷ [] else [])

abbrev pub first_frames : ℕ → ℕ → List (List ℕ) → List Frame
first_frames endpoint mask names = map (watch_frame endpoint) (first_messages mask names)

-- ---- changes

-- whom messages go to, and the events that it asks for
pub record Watcher : Type 0 where
  pub endpoint : ℕ
  pub mask : ℕ

-- one message to each of these watchers that asks for the event, in their order
abbrev pub told : List Watcher → ℕ → List ℕ → List Frame
told watchers event name =
    map (λ watcher. watch_frame watcher.endpoint (event_bytes event name)) (filter (λ watcher. asks_for watcher.mask event) watchers)

-- a front of these frames is written, each of them whole
pub record WritesFront (frames : List Frame) (before after : List ℕ) : Type 0 where
  pub many : ℕ
  pub front : after ≡ before ++ spellings (take many frames)
