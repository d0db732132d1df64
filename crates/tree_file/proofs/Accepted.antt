-- The lists of any document keep the rules on each item, and so they are accepted where they keep the others.
use Rattle.std.proofs.Common.{◌≡◌, length, None, codes}
use Rattle.toml.specs.Data.{Data}
use Rattle.session_start.specs.Accepted.{AreItems, AreAccepted, IsNode, IsMount, IsClient, OtherEndpoint}
use Rattle.session_start.specs.RulesOnLists.{first_broken, rules_on_lists}
use Rattle.tree_file.specs.Reading.{node_of, mount_of, client_of}
use Rattle.tree_file.specs.Rules.{items_at, servers_of, lists_of}
use Rattle.tree_file.proofs.Read.{all_read, apart_read, servers_read, node_read, mount_read, client_read, new_client}

pub items_of : (document : Data) → AreItems (lists_of document)
items_of document =
    let names = servers_of document in
    record {
      servers = servers_read (items_at (codes "server") document);
      nodes = all_read (IsNode (length names)) (λ _. node_of names) (λ earlier x y h. node_read names x y h) (items_at (codes "node") document);
      mounts = all_read (IsMount (length names)) (λ _. mount_of names) (λ earlier x y h. mount_read names x y h) (items_at (codes "mount") document);
      clients = all_read (IsClient (length names)) (client_of names) (λ earlier x y h. (client_read names earlier x y h).0) (items_at (codes "client") document);
      apart = apart_read OtherEndpoint (client_of names) (λ earlier x y h. new_client earlier y (client_read names earlier x y h).1) (items_at (codes "client") document);
    }

pub accepted_of : (document : Data) → first_broken 8 (rules_on_lists (lists_of document)) ≡ None → AreAccepted (lists_of document)
accepted_of document kept = record { items = items_of document; placed = kept }
