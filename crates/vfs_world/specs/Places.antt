-- How many places of the journal a session can still take for what waits.
use Rattle.std.specs.Prelude.{ℕ, ◌+◌, ◌*◌, is_some, if◌then◌else◌, length, sum_by, Ok}
use Rattle.io_messages.specs.Asked as asks
use Rattle.io_messages.specs.declared.protocols.Protocol.TheVariants as protocol
use Rattle.path_walk.specs.Paths.{names_of, path_fault}
use Rattle.vfs_journal.specs.Entries.{Sending, message, hang_up}
use Rattle.vfs_journal.specs.Serving.{Read, read_by}
use Rattle.vfs_journal.specs.View.{View}

-- the names of an Open's path, where that is a path: behind each of them it can go on once
abbrev pub names_read : Read → ℕ
names_read (Ok (txid, asks.open_path path flags attributes object)) = if is_some (path_fault path) then 0 else length (names_of path)
names_read _ = 0

abbrev pub names_left : Sending → ℕ
names_left (message bytes handles) = names_read (read_by protocol.Directory bytes handles)
names_left hang_up = 0

-- each entry takes a place when it is served, and two more each time that it goes on
abbrev pub places_left : View → ℕ
places_left view = sum_by (λ sent. 1 + 2 * names_left sent.sending) view.waiting
