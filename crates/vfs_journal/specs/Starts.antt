-- What a session begins with: each server's tree, the first connections, and the ends of mounts.
use Rattle.std.specs.Prelude.{ℕ, false, List, map, length}
use Rattle.std.specs.List.{enumerate_from, range_with_len}
use Rattle.io_messages.specs.declared.protocols.Protocol.TheVariants as protocol
use Rattle.io_rights.specs.Operations.{OperationSet}
use Rattle.node_graph.specs.Tree.{Tree}
use Rattle.session_start.specs.Items.{Lists, MountItem, ClientItem}
use Rattle.fidl_names.specs.HandleNumber.{end_of_mount}
use Rattle.session_start.specs.Numbering.{tree_of, number_in}
use Rattle.conn_rules.specs.Births.{Birth}

-- an endpoint that is bound: at which server, its birth, and a watcher's mask, which is 0 for any other
pub record Bound : Type 0 where
  pub endpoint : ℕ
  pub server : ℕ
  pub birth : Birth
  pub mask : ℕ

pub record Start : Type 0 where
  pub trees : List Tree
  pub firsts : List Bound
  pub mounts : List Bound

-- a directory connection on a node
abbrev pub directory_birth : ℕ → OperationSet → Birth
directory_birth node rights = record { node = node; rights = rights; protocol = protocol.Directory; append = false }

-- a client's first connection, on the node at its path
abbrev pub first_of_client : Lists → ClientItem → Bound
first_of_client lists client =
    record { endpoint = client.endpoint; server = client.server; birth = directory_birth (number_in lists client.server client.path) client.rights; mask = 0 }

-- the end of a mount, on the node `at` of its target
abbrev pub end_of : Lists → ℕ × MountItem → Bound
end_of lists mount =
    record {
      endpoint = end_of_mount mount.0;
      server = mount.1.target;
      birth = directory_birth (number_in lists mount.1.target mount.1.at) mount.1.rights;
      mask = 0;
    }

-- the start that the lists of an accepted tree file stand for
abbrev pub start_of : Lists → Start
start_of lists =
    record {
      trees = map (tree_of lists) (range_with_len 0 (length lists.servers));
      firsts = map (first_of_client lists) lists.clients;
      mounts = map (end_of lists) (enumerate_from 0 lists.mounts);
    }
