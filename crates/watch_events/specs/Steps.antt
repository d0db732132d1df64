-- Words of steps: the two parts of what a new watcher is told. No public clause needs this.
use Rattle.std.specs.Prelude.{ℕ, if◌then◌else◌, List, [], ◌∷◌, map}
use Rattle.link_frames.specs.Frames.{Frame}
use Rattle.watch_events.specs.Events.{event_bytes}
use Rattle.watch_events.specs.Messages.{asks_for, existing, idle, snapshot, watch_frame}

-- `.` and the names, where the mask has EXISTING
abbrev pub names_told : ℕ → ℕ → List (List ℕ) → List Frame
names_told endpoint mask names = map (watch_frame endpoint) (if asks_for mask existing then snapshot names else [])

-- that these were all, where it has IDLE
abbrev pub idle_told : ℕ → ℕ → List Frame
idle_told endpoint mask = map (watch_frame endpoint) (if asks_for mask idle then event_bytes idle [] ∷ [] else [])
