-- Open: the node at a path is bound to the endpoint that the request carries, or made first, or the
-- Open goes on behind a mount.
use Rattle.std.specs.Prelude.{ℕ, ◌+◌, ◌&&◌, ◌||◌, Bool, not, nat_le, is_some, if◌then◌else◌, List}
use Rattle.std.specs.Prelude.{[], ◌∷◌, length, Option}
use Rattle.std.specs.Option.{option_map}
use Rattle.std.specs.Str.{bytes_eq}
use Rattle.fidl_names.specs.declared.limits.TheConstants as limit
use Rattle.fidl_names.specs.declared.methods.Method.TheVariants as method
use Rattle.fidl_names.specs.declared.statuses.Status.{Status}
use Rattle.fidl_names.specs.declared.statuses.Status.TheVariants as status
use Rattle.io_flags.specs.declared.names.Flag.{Flag}
use Rattle.io_flags.specs.declared.names.Flag.TheVariants as flag
use Rattle.io_flags.specs.Faults.{flag_fault, status_of}
use Rattle.io_flags.specs.Grants.{explicit_rights, asked_rights, granted, granted_kind, onward}
use Rattle.io_flags.specs.Words.{has, has_protocol, is_alone, creates}
use Rattle.io_messages.specs.declared.protocols.Protocol.{Protocol}
use Rattle.io_messages.specs.declared.protocols.Protocol.TheVariants as protocol
use Rattle.io_rights.specs.declared.operations.Operation.TheVariants as op
use Rattle.io_rights.specs.Operations.{OperationSet, single, all}
use Rattle.node_graph.specs.declared.nodes.NodeKind.{NodeKind}
use Rattle.node_graph.specs.declared.nodes.NodeKind.TheVariants.{Directory, File, Service, Mount}
use Rattle.node_graph.specs.Refusals.{create_refusal}
use Rattle.node_graph.specs.Tree.{Tree, EdgeKey, Change, make, name_in, new_row, fill, stay}
use Rattle.path_walk.specs.Names.{dot}
use Rattle.path_walk.specs.Paths.{path_fault, names_of}
use Rattle.conn_rules.specs.declared.births.Room.{Room}
use Rattle.conn_rules.specs.Births.{Birth, Position}
use Rattle.conn_rules.specs.Answers.{Answer, binds, forwards, added, Act, only, failure_of}
use Rattle.conn_rules.specs.Answers.{nothing_told}
use Rattle.conn_rules.specs.Contexts.{Context}
use Rattle.conn_rules.specs.Nodes.{kind_here, is_file, is_service}
use Rattle.fidl_names.specs.First.{cause_if, first_of}
use Rattle.conn_rules.specs.Refusals.{as_status, unless, lacks}
use Rattle.conn_rules.specs.Walks.{Walk, walk, Reach, at_node, at_nothing, at_mount, nowhere, reach}

-- ---- refusals

-- before the walk: a fault of the flags, a fault of the path, and rights that the connection lacks
abbrev pub entry_refusals : Birth → ℕ → List ℕ → List (Option Status)
entry_refusals birth word path =
    option_map status_of (flag_fault word)
    ∷ cause_if (is_some (path_fault path)) status.InvalidArgs
    ∷ cause_if (not (bytes_eq path dot) && lacks birth.rights (single op.Traverse))
    status.AccessDenied
    ∷ cause_if (lacks birth.rights (asked_rights word)) status.AccessDenied
    ∷ []

-- the protocol flag of a kind of node
abbrev pub flag_of : NodeKind → Flag
flag_of Directory = flag.ProtocolDirectory
flag_of File = flag.ProtocolFile
flag_of Service = flag.ProtocolService
flag_of (Mount index) = flag.ProtocolDirectory

-- there are protocol flags, and neither NODE nor that of the node's kind is among them
abbrev pub is_other_kind : ℕ → NodeKind → Bool
is_other_kind word kind =
    has_protocol word && not (has word flag.ProtocolNode || has word (flag_of kind))

abbrev pub other_kind_status : ℕ → Status
other_kind_status word =
    if is_alone word flag.ProtocolDirectory then status.NotDir
    else if is_alone word flag.ProtocolFile then status.NotFile
    else status.WrongType

abbrev pub marks_file : ℕ → Bool
marks_file word = has word flag.FileAppend || has word flag.FileTruncate

-- a service is to be connected to, and CONNECT isn't asked for
abbrev pub connects_without_right : ℕ → NodeKind → Bool
connects_without_right word kind =
    is_service kind
    && (not (has word flag.ProtocolNode) && lacks (explicit_rights word) (single op.Connect))

-- a server has as many connections as it may, watchers and the ends of mounts included
abbrev pub is_full : Room → Bool
is_full room = nat_le limit.MAX_CONNECTIONS room.connections

-- of a node that is there
abbrev pub arrival_refusals : Room → ℕ → NodeKind → List (Option Status)
arrival_refusals room word kind =
    cause_if (has word flag.MustCreate) status.AlreadyExists
    ∷ cause_if (is_other_kind word kind) (other_kind_status word)
    ∷ cause_if (marks_file word && not (is_file kind)) status.NotFile
    ∷ cause_if (connects_without_right word kind) status.AccessDenied
    ∷ cause_if (is_full room) status.NoResources
    ∷ []

-- of a node that is missing at this name
abbrev pub making_refusals : Tree → Room → ℕ → EdgeKey → List (Option Status)
making_refusals tree room word key =
    cause_if (not (creates word)) status.NotFound
    ∷ as_status (create_refusal tree.edges key)
    ∷ cause_if (is_full room) status.NoResources
    ∷ []

-- ---- what is bound

abbrev pub protocol_of : ℕ → NodeKind → Protocol
protocol_of word Directory =
    if has word flag.ProtocolNode then protocol.Node else protocol.Directory
protocol_of word File = if has word flag.ProtocolNode then protocol.Node else protocol.File
protocol_of word Service = if has word flag.ProtocolNode then protocol.Node else protocol.Echo
protocol_of word (Mount index) = protocol.Node

-- a node with the rights that the word gets under a limit
abbrev pub birth_for : ℕ → OperationSet → ℕ → NodeKind → Birth
birth_for word limit node kind =
    record {
      node = node;
      rights = granted_kind word (granted word limit);
      protocol = protocol_of word kind;
      append = has word flag.FileAppend;
    }

abbrev pub binding : ℕ → OperationSet → ℕ → NodeKind → Answer
binding word limit node kind =
    binds (birth_for word limit node kind) (has word flag.SendRepresentation)

abbrev pub truncation : ℕ → ℕ → Change
truncation word node = if has word flag.FileTruncate then fill node [] else stay

-- a node that is there
abbrev pub arrival : Position → ℕ → OperationSet → ℕ → NodeKind → Act
arrival position word limit node kind =
    record {
      answer = binding word limit node kind;
      position = position;
      change = truncation word node;
      told = nothing_told;
    }

abbrev pub kind_made : ℕ → NodeKind
kind_made word = if has word flag.ProtocolDirectory then Directory else File

-- a new node, with the next number; its name lets all rights through
abbrev pub making : Position → Tree → ℕ → OperationSet → EdgeKey → Act
making position tree word limit key =
    record {
      answer = binding word limit (length tree.nodes + 1) (kind_made word);
      position = position;
      change = make key (new_row (kind_made word)) all;
      told = added key ∷ [];
    }

-- ---- the whole

-- what is done where a walk ends
abbrev pub act_at : Position → Room → Tree → ℕ → Reach → Act
act_at position room tree word (at_node node limit) =
    unless (first_of (arrival_refusals room word (kind_here tree node))) position method.OpenPath
    (arrival position word limit node (kind_here tree node))
act_at position room tree word (at_nothing directory name limit) =
    unless (first_of (making_refusals tree room word (name_in directory name)))
    position method.OpenPath
    (making position tree word limit (name_in directory name))
act_at position room tree word (at_mount mount rest limit) =
    only position (forwards mount (onward word limit) rest)
act_at position room tree word (nowhere status) = only position (failure_of method.OpenPath status)

abbrev pub by_walk : Context → ℕ → Walk → Act
by_walk context word w =
    act_at context.position context.room context.tree word (reach context.birth.rights w)

abbrev pub open_act : Context → List ℕ → ℕ → Act
open_act context path word =
    unless (first_of (entry_refusals context.birth word path)) context.position method.OpenPath
    (by_walk context word (walk context.tree word (names_of path) context.birth.node))
