-- Words of what the connections of all nodes do alike.
use Rattle.std.specs.Prelude.{◌≡◌, Bool, true, false, not, IsTrue}
use Rattle.std.specs.Option.{option_map_or}
pub use Rattle.io_messages.specs.Failing.{can_fail}
use Rattle.io_messages.specs.declared.protocols.Protocol.{Protocol}
use Rattle.io_messages.specs.declared.protocols.Protocol.TheVariants as protocol
use Rattle.node_graph.specs.declared.nodes.NodeKind.{NodeKind}
use Rattle.node_graph.specs.Graph.{Kept, Names, number_of, kind_at}
use Rattle.conn_rules.specs.declared.births.Birth as code
use Rattle.io_rights.specs.declared.operations.Operation.TheVariants as op
use Rattle.io_rights.specs.Operations.{single, is_within}
use Rattle.conn_rules.specs.Nodes.{is_directory, is_file, is_mount, is_service}

-- where a protocol is spoken: each at its kind of node, and a reference at any but a mount
abbrev pub is_spoken_at : Protocol → NodeKind → Bool
is_spoken_at protocol.Directory kind = is_directory kind
is_spoken_at protocol.File kind = is_file kind
is_spoken_at protocol.Node kind = not (is_mount kind)
is_spoken_at protocol.Echo kind = is_service kind
is_spoken_at protocol.Watcher kind = false

-- the graph keeps the node of a birth, the birth's protocol is spoken there, and a service is
-- connected to with the right to it
pub record CanBeBound (graph : Kept) (birth : code.Birth) : Type 0 where
  pub named : Names graph birth.node
  pub spoken :
      option_map_or (is_spoken_at birth.protocol) (kind_at graph (number_of birth.node)) false
      ≡ true
  pub connects : birth.protocol ≡ protocol.Echo →
      IsTrue (is_within (single op.Connect) birth.rights)
