-- The session of one file: endpoint 1 is bound to it, at server 0, and nothing else is known.
use Rattle.std.specs.Prelude.{◌≡◌, ℕ, Bool, true, false, List, [], ◌∷◌, ◌++◌, ◌==◌, Option, Some, None, Result, Ok, Err, if◌then◌else◌, codes}
use Rattle.std.specs.FinMap as finite
use Rattle.fidl_names.specs.declared.methods.Method.TheVariants as method
use Rattle.fidl_names.specs.declared.statuses.Status.{Status}
use Rattle.fidl_names.specs.declared.statuses.Status.TheVariants as status
use Rattle.fidl_wire.specs.Headers.{header_of}
use Rattle.fidl_wire.specs.Names.{method_ordinal}
use Rattle.fidl_wire.specs.declared.faults.WireFault.{WireFault}
use Rattle.fidl_wire.specs.declared.headers.Header.{Header}
use Rattle.io_messages.specs.Asked.{Asked}
use Rattle.io_messages.specs.Asked as asks
use Rattle.io_messages.specs.Requests.{known_request}
use Rattle.io_messages.specs.declared.protocols.Protocol.TheVariants as protocol
use Rattle.io_messages.specs.declared.requests.RequestFault.{RequestFault}
use Rattle.io_rights.specs.Operations.{OperationSet, single}
use Rattle.io_rights.specs.declared.operations.Operation.TheVariants as op
use Rattle.node_graph.specs.declared.nodes.NodeKind.TheVariants.{Directory, File}
use Rattle.node_graph.specs.Tree.{Tree, EdgeKey, new_row}
use Rattle.conn_rules.specs.declared.births.Room.{Room}
use Rattle.conn_rules.specs.Acts.{act_of}
use Rattle.conn_rules.specs.Answers.{Act}
use Rattle.conn_rules.specs.Births.{Birth, Position, fresh}
use Rattle.conn_rules.specs.Contexts.{Context, context_with}
use Rattle.link_frames.specs.Frames.{Frame, spellings}
use Rattle.link_admission.specs.Admission.{LookUps, admission}
use Rattle.link_frames.specs.declared.kinds.FrameKind.{FrameKind}
use Rattle.link_frames.specs.declared.kinds.FrameKind.TheVariants as kind
use Rattle.link_frames.specs.declared.kinds.Refusal.{Refusal}
use Rattle.link_frames.specs.Refusals.{refused_frame}
use Rattle.link_admission.specs.declared.kinds.Standing.TheVariants as standing
use Rattle.vfs_journal.specs.Outcomes.{Asker, frames_of, ending}
use Rattle.link_session.specs.Session.{Course}

-- where the session stands: whether endpoint 1 is still live, and from where it reads
pub record Standing : Type 0 where
  pub live : Bool
  pub position : Position

abbrev pub at_start : Standing
at_start = record { live = true; position = fresh }

-- what admission looks up: endpoint 1 alone was ever known, no handle may travel, and nothing waits
abbrev pub look_ups : Bool → LookUps
look_ups live = record {
  standing = λ e. if e == 1 then (if live then standing.Live else standing.Dead) else standing.Unused;
  used = λ _. true;
  holds = λ _. false;
  waiting = 0;
  live = 1;
  servers = 1;
}

-- ---- the connection

-- the right to read, and no other
abbrev pub reading : OperationSet
reading = single op.ReadBytes

-- node 1 is the root, and the file is node 2, with this name there
abbrev pub file_name : EdgeKey
file_name = record { directory = 1; name = codes "file" }

abbrev pub tree_of : List ℕ → Tree
tree_of file = record {
  nodes = new_row Directory ∷ record { kind = File; bytes = file } ∷ [];
  edges = finite.insert finite.empty file_name (record { child = 2; mask = reading });
}

-- endpoint 1 is bound to the file, and may read
abbrev pub birth : Birth
birth = record { node = 2; rights = reading; protocol = protocol.File; append = false }

-- it is the only connection, and there is no watcher and no token
abbrev pub in_use : Room
in_use = record { connections = 1; watchers = 0; token = None }

-- what a Read of so many bytes is served in, from a position on, and what its row says that it does
abbrev pub context_at : List ℕ → Position → Context
context_at file position = context_with birth position in_use (tree_of file) (λ _. None)

abbrev pub read_at : List ℕ → Position → ℕ → Act
read_at file position count = act_of (context_at file position) (asks.read count)

-- whom the answer goes to
abbrev pub asker : ℕ → Asker
asker txid = record { endpoint = 1; server = 0; node = 2; txid = txid; object = 0 }

-- ---- messages

-- a message is a Read, with its transaction id, or ends the endpoint with a status
pub data Meaning : Type 0 where
  Reads : (txid count : ℕ) → Meaning
  Ends : Status → Meaning

-- a Read that is malformed, or has no transaction id, ends it
abbrev pub as_read : Result (ℕ × Asked) RequestFault → Meaning
as_read (Ok (txid, asks.read count)) = Reads txid count
as_read _ = Ends status.InvalidArgs

-- the header comes first, then the method, of which Read alone is known, then the rest
abbrev pub meaning_by : Result Header WireFault → List ℕ → Meaning
meaning_by (Err flaw) message = Ends status.InvalidArgs
meaning_by (Ok header) message =
    if header.ordinal == method_ordinal method.Read then as_read (known_request header (Some method.Read) message [])
    else Ends status.NotSupported

unfoldable pub meaning_of : List ℕ → Meaning
meaning_of message = meaning_by (header_of message) message

-- ---- frames

-- what a frame led to: the frames that are written for it, and where the session stands then
pub record Outcome : Type 0 where
  pub frames : List Frame
  pub next : Standing

-- a Read is answered as its row says
abbrev pub read_outcome : List ℕ → Standing → ℕ → ℕ → Outcome
read_outcome file now txid count = record {
  frames = frames_of (asker txid) (read_at file now.position count).answer;
  next = record { live = now.live; position = (read_at file now.position count).position };
}

-- any other message ends the endpoint, by an epitaph and a Close frame
abbrev pub answered : List ℕ → Standing → Meaning → Outcome
answered file now (Reads txid count) = read_outcome file now txid count
answered file now (Ends status) = record {
  frames = ending 1 status;
  next = record { live = false; position = now.position };
}

-- a frame that was admitted: a message is answered at once, a Close hangs up, and nothing waits for
-- Turns and Picks
abbrev pub admitted : List ℕ → Standing → FrameKind → List ℕ → Outcome
admitted file now kind.Message message = answered file now (meaning_of message)
admitted file now kind.Close message = record { frames = []; next = record { live = false; position = now.position } }
admitted file now kind.Turn message = record { frames = []; next = now }
admitted file now kind.Pick message = record { frames = []; next = now }
admitted file now kind.Refused message = record { frames = []; next = now }

-- a frame is refused by the first reason of the link, and else admitted
abbrev pub by_refusal : List ℕ → Standing → Frame → Option Refusal → Outcome
by_refusal file now frame (Some why) = record { frames = refused_frame frame.endpoint why ∷ []; next = now }
by_refusal file now frame None = admitted file now frame.kind frame.bytes

unfoldable pub outcome : List ℕ → Standing → Frame → Outcome
outcome file now frame = by_refusal file now frame (admission (look_ups now.live) frame)

-- this is held back behind what was, and the session stands there, as a frame led to
pub record Hears (led : Outcome) (next : Standing) (held held' : List ℕ) : Type 0 where
  pub frames : held' ≡ held ++ spellings led.frames
  pub stands : next ≡ led.next

-- what is written for frames, in order, from where the session stands
abbrev pub answers : List ℕ → Standing → List Frame → List Frame
answers file now [] = []
answers file now (frame ∷ frames) = (outcome file now frame).frames ++ answers file (outcome file now frame).next frames

-- where the session stands after frames
abbrev pub after : List ℕ → Standing → List Frame → Standing
after file now [] = now
after file now (frame ∷ frames) = after file (outcome file now frame).next frames

-- the session stands there behind these frames
abbrev pub IsBehind : List ℕ → Standing → List Frame → Type 0
IsBehind file now frames = now ≡ after file at_start frames

-- what the session writes: the end adds nothing, and no memory is wanting on the way
abbrev pub file_course : List ℕ → Course
file_course file = record {
  so_far = λ frames. spellings (answers file at_start frames);
  by_end = λ frames. spellings (answers file at_start frames);
  starves = false;
}
