-- What the serving of an entry answers, in its past.
use Rattle.std.specs.Prelude.{ℕ, List, length, map, Option, Some, None, Result, Ok, Err}
use Rattle.fidl_names.specs.declared.statuses.Status.TheVariants as status
use Rattle.io_messages.specs.Asked.{Asked}
use Rattle.io_messages.specs.Asked as asks
use Rattle.io_messages.specs.declared.protocols.Protocol.{Protocol}
use Rattle.io_messages.specs.declared.protocols.Protocol.TheVariants as protocol
use Rattle.io_messages.specs.declared.requests.RequestFault.{RequestFault}
use Rattle.io_messages.specs.declared.requests.RequestFault.TheVariants.{Malformed, UnknownStrict, UnknownOneWay, UnknownTwoWay}
use Rattle.io_messages.specs.Replies.{unknown}
use Rattle.io_messages.specs.Requests.{request_of}
use Rattle.node_graph.specs.Tree.{Tree}
use Rattle.conn_rules.specs.declared.births.Room.{Room}
use Rattle.conn_rules.specs.Acts.{act_of}
use Rattle.conn_rules.specs.Answers.{Answer, replies, ends, hangs_up, silent, Act, only}
use Rattle.conn_rules.specs.Births.{Position}
use Rattle.conn_rules.specs.Contexts.{Context, context_with}
use Rattle.fidl_names.specs.HandleNumber.{handle_with}
use Rattle.vfs_journal.specs.Entries.{Sending, message, hang_up, Sent}
use Rattle.vfs_journal.specs.History.{History, bound_at, position_of, trees_of, tree_at, connections_at, watchers_of}
use Rattle.vfs_journal.specs.Outcomes.{Asker, Outcome, outcome_with, no_outcome}
use Rattle.vfs_journal.specs.Starts.{Bound, Start}
use Rattle.vfs_journal.specs.Tokens.{next_token, directory_of}

-- what a message is to a protocol: a transaction id and a request, or why it is none
abbrev pub Read : Type 0
Read = Result (ℕ × Asked) RequestFault

abbrev pub read_by : Protocol → List ℕ → List ℕ → Read
read_by protocol bytes handles = request_of protocol bytes (map handle_with handles)

-- the endpoint that a request carries, 0 for none
abbrev pub object_of : Asked → ℕ
object_of (asks.clone endpoint) = endpoint
object_of (asks.open_path path flags attributes object) = object
object_of (asks.watch mask options watcher) = watcher
object_of _ = 0

-- what a serving sees: the endpoint that it serves and where that stands, what is in use, the tree of its server, and the directories
-- there that tokens name
pub record Moment : Type 0 where
  pub bound : Bound
  pub position : Position
  pub room : Room
  pub tree : Tree
  pub directory : ℕ → Option ℕ

-- ---- what one entry is answered

-- what the rows see of it
abbrev pub context_at : Moment → Context
context_at moment = context_with moment.bound.birth moment.position moment.room moment.tree moment.directory

-- a request, by the rows of its method
abbrev pub request_act : Moment → Asked → Act
request_act moment request = act_of (context_at moment) request

-- a message that is no request of the protocol: it is malformed, or its ordinal is unknown
abbrev pub fault_answer : RequestFault → Answer
fault_answer (Malformed fault) = ends status.InvalidArgs
fault_answer UnknownStrict = ends status.NotSupported
fault_answer UnknownOneWay = silent
fault_answer (UnknownTwoWay txid ordinal) = replies (unknown ordinal)

abbrev pub fault_txid : RequestFault → ℕ
fault_txid (UnknownTwoWay txid ordinal) = txid
fault_txid _ = 0

-- whom the answer goes to
abbrev pub asker_of : Bound → ℕ → ℕ → Asker
asker_of bound txid object = record { endpoint = bound.endpoint; server = bound.server; node = bound.birth.node; txid = txid; object = object }

abbrev pub outcome_of_read : Moment → Read → Outcome
outcome_of_read moment (Ok found) = outcome_with (asker_of moment.bound found.0 (object_of found.1)) (request_act moment found.1)
outcome_of_read moment (Err fault) = outcome_with (asker_of moment.bound (fault_txid fault) 0) (only moment.position (fault_answer fault))

-- a watcher's protocol has no method, and what is sent to it is passed over
abbrev pub outcome_of_message : Moment → Protocol → List ℕ → List ℕ → Outcome
outcome_of_message moment protocol.Watcher bytes handles = outcome_with (asker_of moment.bound 0 0) (only moment.position silent)
outcome_of_message moment other bytes handles = outcome_of_read moment (read_by other bytes handles)

unfoldable pub outcome_of_sending : Moment → Sending → Outcome
outcome_of_sending moment (message bytes handles) = outcome_of_message moment moment.bound.birth.protocol bytes handles
outcome_of_sending moment hang_up = outcome_with (asker_of moment.bound 0 0) (only moment.position hangs_up)

-- ---- looking back

-- what is in use at a bound endpoint's server and directory
abbrev pub room_of : Start → History → Bound → Room
room_of start history bound =
    record {
      connections = connections_at start history bound.server;
      watchers = length (watchers_of start history bound.server bound.birth.node);
      token = next_token history;
    }

abbrev pub moment_of : Start → History → Bound → Moment
moment_of start history bound =
    record {
      bound = bound;
      position = position_of history bound.endpoint;
      room = room_of start history bound;
      tree = tree_at (trees_of start history) bound.server;
      directory = directory_of history bound.server;
    }

abbrev pub outcome_at : Start → History → Sent → Option Bound → Outcome
outcome_at start history sent None = no_outcome
outcome_at start history sent (Some bound) = outcome_of_sending (moment_of start history bound) sent.sending

-- what the serving of a waiting entry answers; its endpoint is bound
abbrev pub outcome_of : Start → History → Sent → Outcome
outcome_of start history sent = outcome_at start history sent (bound_at start history sent.endpoint)
