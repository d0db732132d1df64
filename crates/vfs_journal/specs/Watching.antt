-- What the watchers of a directory are told.
use Rattle.std.specs.Prelude.{ℕ, List, map, filter, flat_map}
use Rattle.link_frames.specs.Frames.{Frame}
use Rattle.node_graph.specs.Tree.{Tree, names_in}
use Rattle.path_walk.specs.Names.{dot}
use Rattle.conn_rules.specs.Answers.{Happening}
use Rattle.conn_rules.specs.Answers as news
use Rattle.watch_events.specs.Events.{Event}
use Rattle.watch_events.specs.Messages.{Watcher, added, deleted, removed, told}
use Rattle.watch_events.specs.Messages as messages
use Rattle.vfs_journal.specs.History.{watches_node}
use Rattle.vfs_journal.specs.Starts.{Bound}

-- what a new watcher is told first, of the names of its directory in the order of their bytes
abbrev pub first_messages : Tree → Bound → List (List ℕ)
first_messages tree bound = messages.first_messages bound.mask (names_in tree.edges bound.birth.node)

abbrev pub first_frames : Tree → Bound → List Frame
first_frames tree bound = messages.first_frames bound.endpoint bound.mask (names_in tree.edges bound.birth.node)

-- ---- changes

abbrev pub watcher_of : Bound → Watcher
watcher_of bound = record { endpoint = bound.endpoint; mask = bound.mask }

-- the living watchers of a directory are told of an event, in order of their births
abbrev pub told_of : List Bound → ℕ → ℕ → ℕ → List ℕ → List Frame
told_of living server directory event name = told (map watcher_of (filter (watches_node server directory) living)) event name

-- in which directory something happens, where a directory that is gone is its own
abbrev pub place_of : Happening → ℕ
place_of (news.removed name) = name.directory
place_of (news.added name) = name.directory
place_of (news.deleted directory) = directory

-- the event that it is told as
abbrev pub told_as : Happening → Event
told_as (news.removed name) = record { event = removed; name = name.name }
told_as (news.added name) = record { event = added; name = name.name }
told_as (news.deleted directory) = record { event = deleted; name = dot }

-- the watchers of the directory in which it happens are told of it
abbrev pub told_by : List Bound → ℕ → Happening → List Frame
told_by living server happening = told_of living server (place_of happening) (told_as happening).event (told_as happening).name

-- one happening after the other
abbrev pub told_frames : List Bound → ℕ → List Happening → List Frame
told_frames living server told = flat_map (told_by living server) told
