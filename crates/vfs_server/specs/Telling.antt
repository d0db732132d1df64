-- What those who watch are told of what happens to names and directories.
use Rattle.std.specs.Prelude.{ℕ, List, [], Option, Some, None}
use Rattle.std.specs.List.{flat_map}
use Rattle.link_frames.specs.Frames.{Frame}
use Rattle.node_graph.specs.Tree.{HasNameLength}
use Rattle.path_walk.specs.Names.{dot}
use Rattle.conn_rules.specs.declared.changes.At.{At}
use Rattle.conn_rules.specs.Answers.{Happening}
use Rattle.conn_rules.specs.Answers as news
use Rattle.watch_events.specs.Messages.{added, deleted, removed, told}
use Rattle.vfs_server.specs.Seats.{Seats, watchers_at}

-- a name that is told is as long as a name may be
abbrev pub IsShort : Happening → Type 0
IsShort (news.removed name) = HasNameLength name.name
IsShort (news.added name) = HasNameLength name.name
IsShort (news.deleted directory) = Unit {0}

abbrev pub told_to : Seats → Happening → List Frame
told_to seats (news.removed name) = told (watchers_at name.directory seats) removed name.name
told_to seats (news.added name) = told (watchers_at name.directory seats) added name.name
told_to seats (news.deleted directory) = told (watchers_at directory seats) deleted dot

-- one happening after the other
abbrev pub told_of : Seats → List Happening → List Frame
told_of seats happenings = flat_map (told_to seats) happenings

-- of a name, and of a directory that is gone, if there is one
abbrev pub name_told : Seats → ℕ → Option At → List Frame
name_told seats event None = []
name_told seats event (Some at) = told (watchers_at at.dir seats) event at.name.now

abbrev pub gone_told : Seats → Option ℕ → List Frame
gone_told seats None = []
gone_told seats (Some directory) = told (watchers_at directory seats) deleted dot
