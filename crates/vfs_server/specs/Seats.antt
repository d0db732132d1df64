-- Who watches: each endpoint with what it watches, in order of their births.
use Rattle.std.specs.Prelude.{◌≡◌, ℕ, ◌==◌, Bool, List, map, filter, count_by, Option}
use Rattle.std.specs.Map.{lookup, remove_entry}
use Rattle.node_graph.specs.Graph.{number_of}
use Rattle.watch_events.specs.Messages.{Watcher}
use Rattle.watch_events.specs.Watching.{Watching, watchers_of}
use Rattle.vfs_server.specs.declared.watching.Seat.{Seat}

abbrev pub Seats : Type 0
Seats = List (ℕ × Seat)

abbrev pub seat_at : Seats → ℕ → Option Seat
seat_at seats endpoint = lookup (λ other. endpoint == other) seats

-- it watches the directory with this number
abbrev pub is_at : ℕ → ℕ × Seat → Bool
is_at directory entry = number_of entry.1.directory == directory

-- how many watch a node
abbrev pub watched_by : ℕ → Seats → ℕ
watched_by number seats = count_by (is_at number) seats

-- the others, where an endpoint has one
abbrev pub without : ℕ → Seats → Seats
without endpoint seats = remove_entry (λ other. endpoint == other) seats

-- as it is told
abbrev pub watcher_of : ℕ × Seat → Watcher
watcher_of entry = record { endpoint = entry.0; mask = entry.1.mask }

abbrev pub watchers_at : ℕ → Seats → List Watcher
watchers_at directory seats = map watcher_of (filter (is_at directory) seats)

-- the same by directories
abbrev pub AreByDirectory : Seats → Watching → Type 0
AreByDirectory seats watching = (directory : ℕ) → watchers_of watching directory ≡ watchers_at directory seats
