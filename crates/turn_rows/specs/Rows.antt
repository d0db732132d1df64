-- A worked row: three servers, mounted one behind the other, two Opens that go over both mounts, and what is sent on their objects. Each
-- message that is told is named, and there are no others.
use Rattle.std.specs.Prelude.{◌≡◌, ◌≢◌, ℕ, List, [], ◌∷◌, None, Ok, codes}
use Rattle.std.specs.FinMap as finite
use Rattle.fidl_names.specs.HandleNumber.{end_of_mount}
use Rattle.fidl_names.specs.StatusNumber.{number_of}
use Rattle.fidl_names.specs.declared.methods.Method.TheVariants as method
use Rattle.fidl_names.specs.declared.statuses.Status.TheVariants as status
use Rattle.fidl_wire.specs.Epitaphs.{epitaph_bytes}
use Rattle.link_frames.specs.declared.kinds.FrameKind.TheVariants as kind
use Rattle.link_frames.specs.Frames.{Frame, frame_with}
use Rattle.io_messages.specs.Asked.{Asked}
use Rattle.io_messages.specs.Asked as asks
use Rattle.io_messages.specs.declared.protocols.Protocol.TheVariants as protocol
use Rattle.io_messages.specs.Replies.{payload}
use Rattle.io_messages.specs.ReplyWriting.{event_bytes, reply_bytes}
use Rattle.io_rights.specs.Operations.{OperationSet, all, set_of_bits}
use Rattle.node_graph.specs.declared.nodes.NodeKind.{NodeKind}
use Rattle.node_graph.specs.declared.nodes.NodeKind.TheVariants.{Directory, Mount}
use Rattle.node_graph.specs.Tree.{Tree, edge_cmp, new_row}
use Rattle.vfs_journal.specs.Serving.{read_by}
use Rattle.vfs_journal.specs.Starts.{Bound, Start, directory_birth}
use Rattle.turn_law.specs.Told.{told}

-- ---- the start: `m` of the first server leads to the second, `n` of that to the third, and `d` there is a directory

-- a root with one name, which lets all rights through
abbrev pub tree_with : NodeKind → List ℕ → Tree
tree_with kind name =
    record {
      nodes = new_row Directory ∷ new_row kind ∷ [];
      edges = finite.from_entries {R = edge_cmp} ((record { directory = 1; name = name }, record { child = 2; mask = all }) ∷ []);
    }

-- GET_ATTRIBUTES and TRAVERSE
abbrev pub narrow : OperationSet
narrow = set_of_bits 0x90

-- a connection to a server's root
abbrev pub on_root : ℕ → ℕ → OperationSet → Bound
on_root endpoint server rights = record { endpoint = endpoint; server = server; birth = directory_birth 1 rights; mask = 0 }

-- the second mount is narrow
abbrev pub three_servers : Start
three_servers =
    record {
      trees = tree_with (Mount 0) (codes "m") ∷ tree_with (Mount 1) (codes "n") ∷ tree_with Directory (codes "d") ∷ [];
      firsts = on_root 1 0 all ∷ [];
      mounts = on_root (end_of_mount 0) 1 all ∷ on_root (end_of_mount 1) 2 narrow ∷ [];
    }

-- ---- what is sent

-- bytes that are a request to a directory, with the handles that it carries
abbrev pub Asks : List ℕ → List ℕ → ℕ → Asked → Type 0
Asks bytes handles txid request = read_by protocol.Directory bytes handles ≡ Ok (txid, request)

abbrev pub message_on : ℕ → List ℕ → List ℕ → Frame
message_on endpoint handles bytes = frame_with endpoint kind.Message handles bytes

-- the flags SEND_REPRESENTATION and PERM_TRAVERSE, and PERM_READ_BYTES
abbrev pub tell_and_traverse : ℕ
tell_and_traverse = 0x1000000000080

abbrev pub read_there : ℕ
read_there = 0x2

-- the first Open has the object 5, on which two Queries are sent, with a Close between; the second the object 6, which asks for more than the
-- second mount lets through, and on which the first Query is sent as well; and an Open that carries the first connection is sent on it
abbrev pub frames_of : (opens refused query : List ℕ) → List Frame
frames_of opens refused query =
    message_on 1 (5 ∷ []) opens
    ∷ message_on 5 [] query
    ∷ message_on 1 (6 ∷ []) refused
    ∷ message_on 6 [] query
    ∷ frame_with 5 kind.Close [] []
    ∷ message_on 5 [] query
    ∷ message_on 1 (1 ∷ []) opens
    ∷ []

-- ---- the row

pub record TellsEach (frames : List Frame) (txid : ℕ) : Type 0 where
  -- the event, and one reply
  pub opened : told three_servers frames 5
      ≡ message_on 5 [] (event_bytes protocol.Directory)
      ∷ message_on 5 [] (reply_bytes txid (payload method.Query (codes "fuchsia.io/Directory")))
      ∷ []
  -- an epitaph
  pub refused : told three_servers frames 6 ≡ message_on 6 [] (epitaph_bytes (number_of status.AccessDenied)) ∷ []
  -- and nobody else is told anything
  pub others : (endpoint : ℕ) → 5 ≢ endpoint → 6 ≢ endpoint → told three_servers frames endpoint ≡ []

abbrev pub EachMessageIsTold : Type 0
EachMessageIsTold =
    (opens refused query : List ℕ) (first second third : ℕ) →
    Asks opens (5 ∷ []) first (asks.open_path (codes "m/n/d") tell_and_traverse None 5) →
    Asks refused (6 ∷ []) second (asks.open_path (codes "m/n/d") read_there None 6) →
    Asks query [] third asks.query →
    TellsEach (frames_of opens refused query) third
