-- What a connection is bound with, and where it stands.
use Rattle.std.specs.Prelude.{ℕ, Bool, false}
use Rattle.io_messages.specs.declared.protocols.Protocol.{Protocol}
use Rattle.io_rights.specs.Operations.{OperationSet}
use Rattle.node_graph.specs.Graph.{number_of}
use Rattle.dirents.specs.declared.place.Place.{Place}
use Rattle.dirents.specs.declared.place.Place.TheVariants.{Start}
use Rattle.conn_rules.specs.declared.births.Birth as code

-- the number of the node, what may be done on the connection, its protocol, and whether it writes
-- at a file's end
pub record Birth : Type 0 where
  pub node : ℕ
  pub rights : OperationSet
  pub protocol : Protocol
  pub append : Bool

-- the birth that one of the code stands for
abbrev pub born : code.Birth → Birth
born birth =
    record {
      node = number_of birth.node;
      rights = birth.rights;
      protocol = birth.protocol;
      append = birth.append;
    }

-- what a connection's clone is bound with: the same node, rights, protocol and way of writing, and
-- nothing announces it
abbrev pub clone_of : code.Birth → code.Birth
clone_of birth =
    record {
      node = birth.node;
      rights = birth.rights;
      protocol = birth.protocol;
      append = birth.append;
      announce = false;
    }

-- a file's position is a number of bytes, a directory's a place of its listing; the other of the
-- two stays at its beginning
pub record Position : Type 0 where
  pub offset : ℕ
  pub place : Place

-- the position of a connection that was just bound
abbrev pub fresh : Position
fresh = record { offset = 0; place = Start }

-- a connection: its birth, and where it stands
pub record Connection : Type 0 where
  pub birth : code.Birth
  pub position : Position

abbrev pub connection_with : code.Birth → Position → Connection
connection_with birth position = record { birth = birth; position = position }
