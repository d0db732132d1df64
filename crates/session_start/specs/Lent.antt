-- The items of a start as a caller sees them.
use Rattle.session_start.specs.declared.lent.StartNode.{StartNode}
use Rattle.session_start.specs.declared.lent.StartMount.{StartMount}
use Rattle.session_start.specs.declared.lent.StartClient.{StartClient}
use Rattle.session_start.specs.Items.{NodeItem, MountItem, ClientItem}

abbrev pub node_item : StartNode → NodeItem
node_item node = record { server = node.server; path = node.path.now; kind = node.kind; rights = node.rights; bytes = node.bytes.now }

abbrev pub mount_item : StartMount → MountItem
mount_item mount = record { server = mount.server; path = mount.path.now; target = mount.target; at = mount.at.now; rights = mount.rights }

abbrev pub client_item : StartClient → ClientItem
client_item client = record { endpoint = client.endpoint; server = client.server; path = client.path.now; rights = client.rights }
