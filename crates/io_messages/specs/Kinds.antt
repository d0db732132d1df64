-- The kinds of nodes that the event tells.
use Rattle.std.specs.Prelude.{ℕ, ◌==◌, List, [], ◌∷◌, Option, find}
use Rattle.io_messages.specs.declared.protocols.Protocol.{Protocol}
use Rattle.io_messages.specs.declared.protocols.Protocol.TheVariants as protocol

-- what a node announces itself as, by what is spoken there: a service as node
abbrev pub announced_as : Protocol → Protocol
announced_as protocol.Directory = protocol.Directory
announced_as protocol.File = protocol.File
announced_as protocol.Node = protocol.Node
announced_as protocol.Echo = protocol.Node
announced_as protocol.Watcher = protocol.Node

-- the branch of the event's union for each of these
abbrev pub branch_of_kind : Protocol → ℕ
branch_of_kind protocol.Directory = 2
branch_of_kind protocol.File = 3
branch_of_kind protocol.Node = 1
branch_of_kind protocol.Echo = 1
branch_of_kind protocol.Watcher = 1

-- the kinds that are told, in the order of their branches
abbrev pub told_kinds : List Protocol
told_kinds = protocol.Node ∷ protocol.Directory ∷ protocol.File ∷ []

-- the kind with this branch
unfoldable pub kind_with : ℕ → Option Protocol
kind_with branch = find (λ kind. branch_of_kind kind == branch) told_kinds
