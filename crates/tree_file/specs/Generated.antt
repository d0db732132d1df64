-- The start of the generated workload: two servers with a directory each, the second mounted in the first, and one client.
use Rattle.std.specs.Prelude.{ℕ, [], ◌∷◌, codes}
use Rattle.io_rights.specs.Operations.{all}
use Rattle.node_graph.specs.declared.nodes.NodeKind.TheVariants.{Directory}
use Rattle.session_start.specs.Items.{NodeItem, MountItem, ClientItem, Lists}

-- the directory `d` of a server
abbrev pub directory_of : ℕ → NodeItem
directory_of server = record { server = server; path = codes "d"; kind = Directory; rights = all; bytes = [] }

-- `m` in the first server, where the root of the second goes on
abbrev pub mount_of_second : MountItem
mount_of_second = record { server = 0; path = codes "m"; target = 1; at = codes "."; rights = all }

-- endpoint 1, at the root of the first server
abbrev pub client_of_first : ClientItem
client_of_first = record { endpoint = 1; server = 0; path = codes "."; rights = all }

-- all with all rights
abbrev pub generated_lists : Lists
generated_lists =
    record {
      servers = codes "a" ∷ codes "b" ∷ [];
      nodes = directory_of 0 ∷ directory_of 1 ∷ [];
      mounts = mount_of_second ∷ [];
      clients = client_of_first ∷ [];
    }
