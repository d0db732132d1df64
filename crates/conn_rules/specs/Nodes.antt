-- What the rows of a tree tell of one node.
use Rattle.std.specs.Prelude.{ℕ, ◌==◌, Bool, true, false, if◌then◌else◌, List, [], length, Option}
use Rattle.std.specs.Prelude.{Some, None, codes}
use Rattle.std.specs.Int.{bit_at}
use Rattle.std.specs.Option.{option_map_or}
use Rattle.io_messages.specs.declared.protocols.Protocol.{Protocol}
use Rattle.io_messages.specs.declared.protocols.Protocol.TheVariants as protocol
use Rattle.io_messages.specs.declared.replies.Attributes.{Attributes}
use Rattle.node_graph.specs.declared.nodes.NodeKind.{NodeKind}
use Rattle.node_graph.specs.declared.nodes.NodeKind.TheVariants.{Directory, File, Service, Mount}
pub use Rattle.dirents.specs.Listings.{kind_here}
pub use Rattle.node_graph.specs.Refusals.{edge_at, is_directory, is_file, is_mount}
use Rattle.node_graph.specs.Tree.{Tree, EdgeTo, row_of, link_count}

-- a file's bytes
abbrev pub bytes_of : Tree → ℕ → List ℕ
bytes_of tree number = option_map_or (λ row. row.bytes) (row_of tree.nodes number) []

abbrev pub is_service : NodeKind → Bool
is_service Service = true
is_service _ = false

-- the kind of the node that an edge leads to
abbrev pub kind_behind : Tree → EdgeTo → NodeKind
kind_behind tree edge = kind_here tree edge.child

-- ---- attributes

abbrev pub protocols_of : NodeKind → ℕ
protocols_of Directory = 2
protocols_of File = 4
protocols_of Service = 1
protocols_of (Mount index) = 0

-- the operations that can be of use on a node, as bits
abbrev pub abilities_of : NodeKind → ℕ
abilities_of Directory = 0x1d0
abilities_of File = 0x16
abilities_of Service = 0x11
abilities_of (Mount index) = 0

-- how many bytes a node of a kind tells as its content
abbrev pub size_of_kind : NodeKind → List ℕ → ℕ
size_of_kind Directory bytes = 0
size_of_kind File bytes = length bytes
size_of_kind Service bytes = 0
size_of_kind (Mount index) bytes = 0

abbrev pub content_size : Tree → ℕ → ℕ
content_size tree number = size_of_kind (kind_here tree number) (bytes_of tree number)

-- the value of an attribute, where its bit is in the query
abbrev pub where_asked : ℕ → ℕ → ℕ → Option ℕ
where_asked query bit value = if bit_at query bit == 1 then Some value else None

-- the attributes of a node that a query asks for; the storage size, bit 3, is never given
unfoldable pub attributes_of : Tree → ℕ → ℕ → Attributes
attributes_of tree number query =
    record {
      protocols = where_asked query 0 (protocols_of (kind_here tree number));
      abilities = where_asked query 1 (abilities_of (kind_here tree number));
      content_size = where_asked query 2 (content_size tree number);
      link_count = where_asked query 4 (link_count tree.edges number);
      id = where_asked query 5 number;
    }

-- what Query answers
abbrev pub protocol_name : Protocol → List ℕ
protocol_name protocol.Directory = codes "fuchsia.io/Directory"
protocol_name protocol.File = codes "fuchsia.io/File"
protocol_name protocol.Node = codes "fuchsia.io/Node"
protocol_name protocol.Echo = codes "fuchsia.io/Node"
protocol_name protocol.Watcher = codes "fuchsia.io/Node"
