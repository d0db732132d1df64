-- What a request to the service that echoes does.
use Rattle.std.proofs.Common.{◌≡◌, ℕ, List, Option, refl, IsTrue}
use Rattle.fidl_names.specs.declared.methods.Method.TheVariants as method
use Rattle.io_messages.specs.Asked as asks
use Rattle.io_messages.specs.declared.protocols.Protocol.TheVariants as protocol
use Rattle.io_messages.specs.Replies.{payload}
use Rattle.io_rights.specs.declared.operations.Operation.TheVariants as op
use Rattle.io_rights.specs.Operations.{is_within, single}
use Rattle.node_graph.specs.Tree.{Tree}
use Rattle.conn_rules.specs.declared.births.Room.{Room}
use Rattle.conn_rules.specs.Acts.{act_of}
use Rattle.conn_rules.specs.Answers.{only, replies}
use Rattle.conn_rules.specs.Births.{Connection}
use Rattle.conn_rules.specs.Contexts.{context_of}
use Rattle.conn_rules.proofs.Taking.{taken_act}

-- with the right to connect a text is answered by itself
pub echo_act : (connection : Connection) (room : Room) (tree : Tree) (directory : ℕ → Option ℕ) (value : List ℕ) →
    connection.birth.protocol ≡ protocol.Echo → IsTrue (is_within (single op.Connect) connection.birth.rights) →
    act_of (context_of connection room tree directory) (asks.echo_string value) ≡ only connection.position (replies (payload method.EchoString value))
echo_act connection room tree directory value echo connects =
    taken_act (context_of connection room tree directory) (asks.echo_string value) (rw echo (rw connects refl))
