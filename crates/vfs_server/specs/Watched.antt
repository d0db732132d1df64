-- Who watches as the server has it bound, and what a new watcher is told first. No public clause needs these.
use Rattle.std.specs.Prelude.{ℕ, List, [], map}
use Rattle.link_frames.specs.Frames.{Frame}
use Rattle.node_graph.specs.Graph.{number_of}
use Rattle.node_graph.specs.Tree.{Edges, names_in}
use Rattle.watch_events.specs.Messages.{first_frames}
use Rattle.vfs_journal.specs.Starts.{Bound}
use Rattle.vfs_server.specs.declared.watching.Seat.{Seat}
use Rattle.vfs_server.specs.Seats.{Seats}
use Rattle.vfs_server.specs.declared.deed.Deed.{Deed}
use Rattle.vfs_server.specs.declared.deed.Deed.TheVariants as deeds
use Rattle.vfs_server.specs.Servers.{watcher_with}

-- as it is bound at this server
abbrev pub bound_at : ℕ → ℕ × Seat → Bound
bound_at index entry = watcher_with index entry.0 (number_of entry.1.directory) entry.1.mask

abbrev pub bounds_at : ℕ → Seats → List Bound
bounds_at index seats = map (bound_at index) seats

-- what a new watcher is told first, where these are the edges
abbrev pub first_of : Edges → Deed → List Frame
first_of edges (deeds.Watches object directory mask) = first_frames object mask (names_in edges (number_of directory))
first_of edges _ = []
