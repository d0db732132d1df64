-- Words of the steps of a serving: who asks, what a connection gives, and what is done with it. No public clause needs these.
use Rattle.std.specs.Prelude.{◌≡◌, ◌≢◌, ◌<◌, ◌^◌, ◌==◌, ℕ, true, false, nat_le, All, Contains, List, [], ◌∷◌, ◌++◌, length, map, filter, Option, Some, None, Result, Ok, Err, option_and_then}
use Rattle.std.specs.FinMap as finite
use Rattle.std.specs.Map.{lookup}
use Rattle.std.specs.Option.{option_map}
use Rattle.std.specs.Str.{IsUtf8}
use Rattle.fidl_names.specs.HandleNumber.{end_of_mount}
use Rattle.fidl_names.specs.declared.limits.TheConstants as limit
use Rattle.fidl_names.specs.declared.methods.Handle.{Handle}
use Rattle.fidl_names.specs.declared.methods.Handle.TheVariants.{Endpoint, Token}
use Rattle.fidl_names.specs.declared.methods.Method.TheVariants as method
use Rattle.fidl_names.specs.declared.statuses.Status.{Status}
use Rattle.fidl_wire.specs.Written.{Written}
use Rattle.link_frames.specs.Frames.{Frame, frame_with, spellings}
use Rattle.link_admission.specs.Numbering.{among}
use Rattle.link_frames.specs.declared.kinds.FrameKind.TheVariants as kind
use Rattle.io_messages.specs.declared.protocols.Protocol.TheVariants as protocol
use Rattle.io_messages.specs.declared.requests.RequestFault.{RequestFault}
use Rattle.io_messages.specs.declared.requests.RequestFault.TheVariants.{UnknownTwoWay}
use Rattle.io_messages.specs.Asked.{Asked, method_of}
use Rattle.io_messages.specs.Protocols.{has_method}
use Rattle.io_messages.specs.Requests.{has_txid}
use Rattle.io_messages.specs.Shapes.{is_one_way}
use Rattle.io_messages.specs.Asked as asks
use Rattle.io_messages.specs.declared.protocols.Protocol.{Protocol}
use Rattle.io_messages.specs.Replies.{done, payload, settled}
use Rattle.io_messages.specs.ReplyWriting.{PayloadFits}
use Rattle.io_messages.specs.Tokens.{token_of}
use Rattle.node_graph.specs.declared.nodes.NodeRef.{NodeRef}
use Rattle.node_graph.specs.Graph.{Kept, Leads, SameHolds, StandsFor, number_of}
use Rattle.node_graph.specs.Tree.{Change, Tree, stay}
use Rattle.conn_rules.specs.Acts.{act_of}
use Rattle.conn_rules.specs.Contexts.{context_of}
use Rattle.conn_rules.specs.Answers.{Act, Answer, Happening, nothing_told, replies, closes, binds, watches, forwards, refuses, ends}
use Rattle.conn_rules.specs.Births.{Connection, born, connection_with, fresh}
use Rattle.conn_rules.specs.declared.births.Birth as code
use Rattle.conn_rules.specs.declared.births.Room.{Room}
use Rattle.conn_rules.specs.declared.changes.Changes.{Changes}
use Rattle.conn_rules.specs.declared.served.Served.{Served}
use Rattle.conn_rules.specs.declared.served.Served.TheVariants as served
use Rattle.conn_rules.specs.Opens.{is_full}
use Rattle.conn_rules.specs.Served.{HasNothing, HasReply, IsBirth, IsServed, KeepsHolds, told_by}
use Rattle.conn_rules.specs.Shared.{CanBeBound}
use Rattle.dir_conn.specs.declared.served.DirServed.{DirServed}
use Rattle.dir_conn.specs.declared.served.DirServed.TheVariants as dir
use Rattle.dir_conn.specs.Served.{directory_named, told_with}
use Rattle.file_conn.specs.Texts.{text_of}
use Rattle.vfs_journal.specs.Handles.{numbers_of}
use Rattle.vfs_journal.specs.Outcomes as outcomes
use Rattle.vfs_journal.specs.Outcomes.{Asker, Outcome, announcement, bound_of, close_frame, ending, ends_of, forward_of, frames_of}
use Rattle.vfs_journal.specs.Output.{Begins}
use Rattle.vfs_journal.specs.View.{moved}
use Rattle.conn_rules.specs.Onward.{onward_bytes}
use Rattle.vfs_journal.specs.Serving.{Moment, fault_answer, fault_txid}
use Rattle.vfs_server.specs.declared.asking.Asking.{Asking}
use Rattle.vfs_server.specs.declared.conn.Conn.{Conn}
use Rattle.vfs_server.specs.declared.conn.Conn.TheVariants as conn
use Rattle.vfs_server.specs.declared.deed.Deed.{Deed}
use Rattle.vfs_server.specs.declared.deed.Deed.TheVariants as deeds
use Rattle.vfs_server.specs.declared.fate.Fate.{Fate}
use Rattle.vfs_server.specs.declared.fate.Fate.TheVariants as fates
use Rattle.vfs_server.specs.Given.{Given}
use Rattle.vfs_server.specs.Given as given
use Rattle.vfs_server.specs.Binding.{Binds, CanName, CanWatch, HasPlace, IsDirectory, NamesBy}
use Rattle.vfs_server.specs.Effects.{Effects, effects_of, effects_done, no_effects}
use Rattle.vfs_server.specs.Kept.{NameDirectories, Tokens}
use Rattle.vfs_server.specs.Servers.{Server, bound_with, in_use, seen, watcher_with}
use Rattle.vfs_server.specs.Serving.{HasMount, frames_here}
use Rattle.vfs_server.specs.Seats.{Seats, is_at}
use Rattle.vfs_server.specs.Telling.{IsShort, told_of}
use Rattle.vfs_server.specs.Watched.{first_of}

-- ---- connections

-- a connection, whatever it is to
abbrev pub connection_of : Conn → Connection
connection_of (conn.Directory c) = c.value
connection_of (conn.File c) = c
connection_of (conn.Node c) = c
connection_of (conn.Echo birth) = connection_with birth fresh

-- each kind of connection has its protocol
abbrev pub IsOfItsKind : Conn → Type 0
IsOfItsKind (conn.Directory c) = c.value.birth.protocol ≡ protocol.Directory
IsOfItsKind (conn.File c) = c.birth.protocol ≡ protocol.File
IsOfItsKind (conn.Node c) = c.birth.protocol ≡ protocol.Node
IsOfItsKind (conn.Echo birth) = birth.protocol ≡ protocol.Echo

-- connections by their endpoints, as they are seen
abbrev pub seen_in : List (ℕ × Conn) → List (ℕ × Connection)
seen_in entries = map (λ entry. (entry.0, connection_of entry.1)) entries

abbrev pub AreOfTheirKinds : List (ℕ × Conn) → Type 0
AreOfTheirKinds entries = (endpoint : ℕ) (one : Conn) → lookup (λ other. endpoint == other) entries ≡ Some one → IsOfItsKind one

-- ---- what a connection gives

-- what a directory's connection gives
abbrev pub of_directory : DirServed → Given
of_directory (dir.Reply changes) = given.Reply
of_directory dir.ReplyEnd = given.ReplyEnd
of_directory (dir.Bind birth changes) = given.Bind birth
of_directory (dir.WatchBy mask) = given.WatchBy mask
of_directory (dir.Forward mount flags rest) = given.Forward mount flags rest
of_directory (dir.Refused status) = given.Refused status
of_directory dir.NoMemory = given.NoMemory

-- what any other connection gives
abbrev pub of_other : Served → Given
of_other served.Reply = given.Reply
of_other served.ReplyEnd = given.ReplyEnd
of_other (served.Bind birth) = given.Bind birth
of_other (served.Refused status) = given.Refused status
of_other (served.End status) = given.End status
of_other served.NoMemory = given.NoMemory

-- what a connection of any kind answered, as a directory's does, but that it may end itself with a status; and what watchers are to be told of it
abbrev pub given_by : Result DirServed Status → Given
given_by (Ok served) = of_directory served
given_by (Err status) = given.End status

abbrev pub told_in : Result DirServed Status → List Happening
told_in (Ok served) = told_with served
told_in (Err status) = nothing_told

-- a connection gives this answer to a request with this transaction id
abbrev pub IsGiven : Answer → ℕ → Given → Written → Type 0
IsGiven (replies a) txid what out = (what ≡ given.Reply) × HasReply txid a out
IsGiven closes txid what out = (what ≡ given.ReplyEnd) × HasReply txid (done method.Close) out
IsGiven (binds birth announced) txid what out =
    ((found : code.Birth) × (what ≡ given.Bind found) × IsBirth birth announced found) × HasNothing out
IsGiven (watches mask) txid what out = (what ≡ given.WatchBy mask) × HasReply txid (settled method.Watch) out
IsGiven (forwards mount flags rest) txid what out = (what ≡ given.Forward mount flags rest) × HasNothing out
IsGiven (refuses status) txid what out = (what ≡ given.Refused status) × HasNothing out
IsGiven (ends status) txid what out = (what ≡ given.End status) × HasNothing out
IsGiven _ txid what out = ⊥

-- a request to echo a text can be answered: the text is UTF-8, and fits into a message
abbrev pub CanEcho : Protocol → Asked → Type 0
CanEcho p request = p ≡ protocol.Echo → IsUtf8 (text_of request) × PayloadFits (payload method.EchoString (text_of request))

-- a connection did what an act says, but for its frames
pub record Acts (act : Act) (txid : ℕ) (what : Given) (told : List Happening) (out : Written) (new : Connection) (graph changed : Kept) : Type 0 where
  pub answer : IsGiven act.answer txid what out
  pub tells : act.told ≡ told
  pub position : new.position ≡ act.position
  pub change : Leads graph changed act.change
  pub bound : (found : code.Birth) → what ≡ given.Bind found → CanBeBound changed found

-- ---- frames

-- a message as it stands in an output
abbrev pub message_frame : ℕ → Written → Frame
message_frame endpoint out = frame_with endpoint kind.Message (numbers_of out.handles) out.bytes

-- an endpoint's last message, and that it is closed
abbrev pub last_frames : ℕ → Written → List Frame
last_frames endpoint out = message_frame endpoint out ∷ close_frame endpoint ∷ []

-- ---- what is done with it

-- the frames that are written where a connection to `endpoint` gave this to a request with `object`, and left this output
abbrev pub frames_given : ℕ → ℕ → Given → Written → List Frame
frames_given endpoint object given.Reply out = message_frame endpoint out ∷ []
frames_given endpoint object given.ReplyEnd out = last_frames endpoint out
frames_given endpoint object (given.Bind birth) out = announcement object birth.protocol birth.announce
frames_given endpoint object (given.WatchBy mask) out = message_frame endpoint out ∷ []
frames_given endpoint object (given.Forward mount flags rest) out = []
frames_given endpoint object (given.Refused status) out = ending object status
frames_given endpoint object (given.End status) out = ending endpoint status
frames_given endpoint object given.NoMemory out = []

-- the token that a reply with these handles gives on an endpoint, of this node
abbrev pub token_given : ℕ → ℕ → ℕ → List Handle → Option outcomes.Given
token_given endpoint server node (Token number ∷ later) = Some (record { token = number; endpoint = endpoint; server = server; node = node })
token_given endpoint server node _ = None

-- what becomes of the endpoint by a reply with these handles, on a connection to this node
abbrev pub deed_by : NodeRef → List Handle → Deed
deed_by node (Token number ∷ later) = deeds.Gives number node
deed_by node _ = deeds.Stays

-- what becomes of endpoints and tokens then, at this server, where the output has these handles
abbrev pub effects_given : ℕ → ℕ → ℕ → ℕ → Given → List Handle → Effects
effects_given endpoint server node object given.Reply handles = record no_effects { token = token_given endpoint server node handles }
effects_given endpoint server node object given.ReplyEnd handles = record no_effects { ends = endpoint ∷ [] }
effects_given endpoint server node object (given.Bind birth) handles =
    record no_effects { bound = Some (record { endpoint = object; server = server; birth = born birth; mask = 0 }) }
effects_given endpoint server node object (given.WatchBy mask) handles = record no_effects { bound = Some (watcher_with server object node mask) }
effects_given endpoint server node object (given.Forward mount flags rest) handles =
    record no_effects { forward = Some (record { endpoint = end_of_mount mount; bytes = onward_bytes flags rest object; object = object }) }
effects_given endpoint server node object (given.Refused status) handles = record no_effects { ends = object ∷ [] }
effects_given endpoint server node object (given.End status) handles = record no_effects { ends = endpoint ∷ [] }
effects_given endpoint server node object given.NoMemory handles = no_effects

-- a fault that is answered has a transaction id
abbrev pub HasTxid : RequestFault → Type 0
HasTxid (UnknownTwoWay txid ordinal) = 0 < txid
HasTxid _ = Unit {0}

-- what is bound by a birth is a connection
abbrev pub BindsConnection : Given → Type 0
BindsConnection (given.Bind birth) = birth.protocol ≢ protocol.Watcher
BindsConnection _ = Unit {0}

-- whom an answer goes to, by its parts
abbrev pub asker_with : ℕ → ℕ → ℕ → ℕ → ℕ → Asker
asker_with endpoint server node txid object = record { endpoint = endpoint; server = server; node = node; txid = txid; object = object }

-- what becomes of endpoints and tokens by an answer
abbrev pub effects_by : Asker → Answer → Effects
effects_by asker answer =
    record { bound = bound_of asker answer; ends = ends_of asker answer; forward = forward_of asker answer; token = outcomes.token_of asker answer }

-- an endpoint is bound with this birth
abbrev pub BindsBy : code.Birth → Given → Type 0
BindsBy birth what = what ≡ given.Bind birth

-- an Open goes on behind this mount
abbrev pub GoesOnBehind : ℕ → Given → Type 0
GoesOnBehind mount (given.Forward index flags rest) = index ≡ mount
GoesOnBehind mount _ = ⊥

-- the endpoint is to watch this node, which is the connection's, for this mask
pub record IsToWatch (node directory : NodeRef) (mask : ℕ) (what : Given) : Type 0 where
  pub same : node ≡ directory
  pub asked : what ≡ given.WatchBy mask

-- what a connection to this node gave was done, where it had left this output
pub record DoesGiven (endpoint object : ℕ) (node : NodeRef) (what : Given) (left : Written) (deed : Deed) (before after : List ℕ) : Type 0 where
  pub some : what ≢ given.NoMemory
  pub frames : after ≡ before ++ spellings (frames_given endpoint object what left)
  pub effects : (server : ℕ) → effects_given endpoint server (number_of node) object what left.handles ≡ effects_done endpoint server deed
  pub bound : (from : ℕ) (birth : code.Birth) → deed ≡ deeds.Binds from birth → BindsBy birth what
  pub watched : (from mask : ℕ) (directory : NodeRef) → deed ≡ deeds.Watches from directory mask → IsToWatch node directory mask what
  pub onward : (mount from flags : ℕ) (rest : List (List ℕ)) → deed ≡ deeds.Forwards mount from flags rest → GoesOnBehind mount what
  pub given : (token : ℕ) (directory : NodeRef) → deed ≡ deeds.Gives token directory → node ≡ directory

-- a message that is no request was answered
pub record DoesFault (endpoint : ℕ) (fault : RequestFault) (deed : Deed) (before after : List ℕ) : Type 0 where
  pub frames : (server node : ℕ) → after ≡ before ++ spellings (frames_of (asker_with endpoint server node (fault_txid fault) 0) (fault_answer fault))
  pub effects : (server node : ℕ) → effects_by (asker_with endpoint server node (fault_txid fault) 0) (fault_answer fault) ≡ effects_done endpoint server deed
  pub bound : (from : ℕ) (birth : code.Birth) → deed ≢ deeds.Binds from birth
  pub watched : (from mask : ℕ) (directory : NodeRef) → deed ≢ deeds.Watches from directory mask
  pub onward : (mount from flags : ℕ) (rest : List (List ℕ)) → deed ≢ deeds.Forwards mount from flags rest
  pub given : (token : ℕ) (directory : NodeRef) → deed ≢ deeds.Gives token directory

-- ---- tokens

-- the directory that the token of a request names among these; none where it has no token
abbrev pub target_in : Tokens → Asked → Option NodeRef
target_in tokens request = option_and_then (finite.get tokens) (token_of request)

-- what a number names among these
abbrev pub names_in : Tokens → ℕ → Option ℕ
names_in tokens number = option_map number_of (finite.get tokens number)

-- each of these numbers names what it names among the tokens
abbrev pub AreNamed : Tokens → List ℕ → (ℕ → Option ℕ) → Type 0
AreNamed tokens numbers directory = (number : ℕ) → among number numbers ≡ true → directory number ≡ names_in tokens number

-- a request's token names what it names among the tokens
abbrev pub NamesAsThere : Tokens → (ℕ → Option ℕ) → Asked → Type 0
NamesAsThere tokens directory request = directory_named directory request ≡ option_map number_of (target_in tokens request)

-- a connection that speaks of this node as a directory
pub record IsOnDirectory (directory : NodeRef) (connection : Connection) : Type 0 where
  pub node : connection.birth.node ≡ directory
  pub protocol : connection.birth.protocol ≡ protocol.Directory

-- ---- one connection's serving

-- what is in use, as a connection to this node sees it
abbrev pub room_for : Asking → ℕ → Room
room_for asking node =
    record { connections = asking.connections; watchers = length (filter (is_at node) asking.watching.now); token = asking.token }

-- what a request looks at of it: who watches the node matters to a Watch alone
abbrev pub looked_at : Asked → Room → Room
looked_at (asks.watch mask options watcher) room = room
looked_at _ room = record room { watchers = 0 }

-- what a request on a connection does, with what is in use
abbrev pub act_asked : Asking → Connection → Tree → (ℕ → Option ℕ) → Asked → Act
act_asked asking connection tree directory request =
    act_of (context_of connection (room_for asking (number_of connection.birth.node)) tree directory) request

-- what each step of a serving on a connection stands on: the graph stands for a tree, has the connection's node, and can make more; and tokens
-- name directories of it
pub record CanServe (asking : Asking) (graph : Kept) (connection : Connection) : Type 0 where
  pub tree : (tree : Tree) × StandsFor graph tree
  pub made : graph.made < 2 ^ 63
  pub node : CanBeBound graph connection.birth
  pub directories : NameDirectories graph asking.tokens.now

-- a request of this protocol
pub record IsRequestTo (p : Protocol) (id : ℕ) (request : Asked) : Type 0 where
  pub method : has_method p (method_of request) ≡ true
  pub txid : has_txid (is_one_way (method_of request)) id ≡ true
  pub echo : CanEcho p request

-- a moment of the serving on a connection at this server, over this graph
pub record IsAskedAt (server : ℕ) (asking : Asking) (graph : Kept) (connection : Connection) (moment : Moment) : Type 0 where
  pub bound : moment.bound ≡ bound_with server asking.endpoint connection.birth
  pub position : moment.position ≡ connection.position
  pub room : moment.room ≡ room_for asking (number_of connection.birth.node)
  pub tree : StandsFor graph moment.tree

-- a request for a part of a file was served on a connection, whatever is in use: its reply stands in the output, without handles
pub record IsPartServed (old : Connection) (request : Asked) (txid : ℕ) (out : Written) (new : Connection) (graph changed : Kept) : Type 0 where
  pub serves : (room : Room) (tree : Tree) (directory : ℕ → Option ℕ) → StandsFor graph tree →
      IsServed (act_of (context_of old room tree directory) request) txid served.Reply out new graph changed
  pub bare : out.handles ≡ []
  pub holds : KeepsHolds old new graph changed

-- a directory can be watched: a connection is to it, there is room, and its tree stays as it is
pub record MayWatch (in_use : Room) (change : Change) (directory : NodeRef) (connection : Connection) : Type 0 where
  pub here : IsOnDirectory directory connection
  pub few : nat_le limit.MAX_WATCHERS in_use.watchers ≡ false
  pub room : is_full in_use ≡ false
  pub still : change ≡ stay

-- what was done with a message: what becomes of endpoints, and what watchers are to be told of it
pub record Done : Type 0 where
  pub deed : Deed
  pub told : List Happening

abbrev pub done_with : Deed → Changes → Done
done_with deed changes = record { deed = deed; told = told_by changes }

-- the endpoint stays, and watchers are told nothing
abbrev pub stays : Done
stays = record { deed = deeds.Stays; told = nothing_told }

-- a connection does what an outcome says, and changes the graph as it says; watchers aren't told yet
pub record Answers (moment : Moment) (outcome : Outcome) (done : Done) (new : Connection) (graph changed : Kept) (before after : List ℕ) : Type 0 where
  pub frames : after ≡ before ++ spellings outcome.frames
  pub effects : effects_of outcome ≡ effects_done moment.bound.endpoint moment.bound.server done.deed
  pub told : outcome.told ≡ done.told
  pub position : new.position ≡ outcome.position
  pub change : Leads graph changed outcome.change
  pub bound : (object : ℕ) (birth : code.Birth) → done.deed ≡ deeds.Binds object birth → CanBeBound changed birth
  pub room : (object : ℕ) (birth : code.Birth) → done.deed ≡ deeds.Binds object birth → is_full moment.room ≡ false
  pub watched : (object mask : ℕ) (directory : NodeRef) → done.deed ≡ deeds.Watches object directory mask → MayWatch moment.room outcome.change directory new
  pub given : (token : ℕ) (directory : NodeRef) → done.deed ≡ deeds.Gives token directory → IsOnDirectory directory new
  pub mounted : (mount object flags : ℕ) (rest : List (List ℕ)) → done.deed ≡ deeds.Forwards mount object flags rest → HasMount moment.tree mount

-- the endpoint that a deed binds, as a watcher or another
abbrev pub Takes : Deed → ℕ → Type 0
Takes (deeds.Binds object birth) endpoint = object ≡ endpoint
Takes (deeds.Watches object directory mask) endpoint = object ≡ endpoint
Takes _ endpoint = ⊥

-- watchers can be told of what was done on a connection, behind what was written of it; who is to be bound came with the message, and the token
-- that is given is the next one
pub record CanTell (asking : Asking) (handles : List Handle) (done : Done) (connection : Connection) (before after : List ℕ) : Type 0 where
  pub front : Begins before after
  pub directory : (object mask : ℕ) (directory : NodeRef) → done.deed ≡ deeds.Watches object directory mask → IsOnDirectory directory connection
  pub short : All IsShort done.told
  pub taken : (endpoint : ℕ) → Takes done.deed endpoint → Contains handles (Endpoint endpoint)
  pub next : (token : ℕ) (directory : NodeRef) → done.deed ≡ deeds.Gives token directory → asking.token ≡ Some token

-- nothing was done
pub record IsPassedOver (done : Done) : Type 0 where
  pub deed : done.deed ≡ deeds.Stays
  pub told : done.told ≡ nothing_told

-- ---- what watchers are told

-- a new watcher is at a directory that the graph keeps, and what is told are names
pub record CanBeTold (graph : Kept) (done : Done) : Type 0 where
  pub directory : (object mask : ℕ) (directory : NodeRef) → done.deed ≡ deeds.Watches object directory mask → IsDirectory graph directory
  pub short : All IsShort done.told

-- these watchers were told of what was done, over this graph
abbrev pub IsTold : Seats → Kept → Done → List ℕ → List ℕ → Type 0
IsTold seats graph what before after = after ≡ before ++ spellings (first_of graph.edges what.deed ++ told_of seats what.told)

-- ---- the server behind the answer

-- a server did what an outcome says but for binding and naming: that is yet to be done by the deed
pub record HasAnswered (moment : Moment) (outcome : Outcome) (deed : Deed) (old new : Server) (before after : List ℕ) : Type 0 where
  pub frames : after ≡ before ++ spellings (frames_here moment old.watchers outcome)
  pub effects : effects_of outcome ≡ effects_done moment.bound.endpoint moment.bound.server deed
  pub index : new.index ≡ old.index
  pub bound : (endpoint : ℕ) → seen new endpoint ≡ option_map (moved moment.bound.endpoint outcome.position) (seen old endpoint)
  pub count : in_use new ≡ in_use old
  pub watchers : new.watchers ≡ old.watchers
  pub tokens : new.tokens ≡ old.tokens
  pub tree : Leads old.graph new.graph outcome.change
  pub holds : SameHolds old.graph new.graph
  pub has_place : (object : ℕ) (birth : code.Birth) → deed ≡ deeds.Binds object birth → HasPlace new birth
  pub watched : (object mask : ℕ) (directory : NodeRef) → deed ≡ deeds.Watches object directory mask → CanWatch new directory
  pub given : (token : ℕ) (directory : NodeRef) → deed ≡ deeds.Gives token directory → IsDirectory new.graph directory
  pub mounted : (mount object flags : ℕ) (rest : List (List ℕ)) → deed ≡ deeds.Forwards mount object flags rest → HasMount moment.tree mount

-- what a deed leaves to do can be done at a server: what is to be bound isn't bound there yet, and has its place; what is to be named is a
-- directory, and the token has room
abbrev pub CanSettle : Server → Deed → Type 0
CanSettle server (deeds.Binds object birth) = (seen server object ≡ None) × HasPlace server birth
CanSettle server (deeds.Watches object directory mask) = (seen server object ≡ None) × CanWatch server directory
CanSettle server (deeds.Gives token directory) = CanName server token directory
CanSettle server _ = Unit {0}

-- it is done, and this tells it
abbrev pub Settles : Server → Deed → Fate → Server → Type 0
Settles old deeds.Stays fate new = (fate ≡ fates.Stays) × (new ≡ old)
Settles old deeds.Ends fate new = (fate ≡ fates.Ends) × (new ≡ old)
Settles old (deeds.Binds object birth) fate new = (fate ≡ fates.Binds object) × Binds old (bound_with old.index object birth) new
Settles old (deeds.Watches object directory mask) fate new =
    (fate ≡ fates.Binds object) × Binds old (watcher_with old.index object (number_of directory) mask) new
Settles old (deeds.Refuses object) fate new = (fate ≡ fates.Refuses object) × (new ≡ old)
Settles old (deeds.Forwards mount object flags rest) fate new = (fate ≡ fates.Forwards mount object flags rest) × (new ≡ old)
Settles old (deeds.Gives token directory) fate new = (fate ≡ fates.Gives token) × NamesBy old token directory new
