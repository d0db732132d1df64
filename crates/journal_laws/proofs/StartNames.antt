-- The names of a tree that is accepted are names.
use Rattle.std.proofs.Common.{◌≡◌, ℕ, ◌==◌, Bool, false, cond, List, [], ◌∷◌, filter, length, map, Some, All, sym, ap, ◌∙◌, subst}
use Rattle.std.specs.List.{enumerate_from, range_with_len}
use Rattle.std.specs.FinMap as finite
use Rattle.std.specs.FinMap.Entries as entry
use Rattle.std.proofs.lemmas.List.Elements.{All-append, All-cons, All-filter, All-head, All-map, All-nil, All-tail, All-weaker}
use Rattle.node_graph.specs.Keys.{edges_total}
use Rattle.node_graph.specs.Tree.{EdgeKey, EdgeTo, edge_cmp}
use Rattle.node_graph.proofs.Ordered.{Same, same, other, same_or_other}
use Rattle.path_walk.specs.Names.{IsName}
use Rattle.path_walk.specs.Parts.{is_dot}
use Rattle.path_walk.specs.Paths.{names_of}
use Rattle.path_walk.proofs.PartLemmas.{last_valid}
use Rattle.path_walk.proofs.PathLemmas.{path_sound}
use Rattle.session_start.specs.Accepted.{AreAccepted, IsAt, IsMount, IsNode}
use Rattle.session_start.specs.Items.{Lists, MountItem, NodeItem}
use Rattle.session_start.specs.Numbering.{Named, edge_of, mount_named, named_of, node_named, tree_of}
use Rattle.vfs_journal.specs.Starts.{start_of}
use Rattle.journal_laws.specs.Contents.{HasNames}
use Rattle.journal_laws.proofs.Lists.{all_numbered}

-- ---- paths

-- a path below the root ends in a name
abbrev EndsInName : Named → Type 0
EndsInName one = (is_dot one.path ≡ false) × All IsName (names_of one.path)

at_names : (count host : ℕ) (path : List ℕ) → IsAt count host path → All IsName (names_of path)
at_names count host path at = (path_sound path at.path).valid

node_ends : (count : ℕ) (node : NodeItem) → IsNode count node → EndsInName (node_named node)
node_ends count node is = (is.below, at_names count node.server node.path is.at)

mount_ends : (count : ℕ) (mount : ℕ × MountItem) → IsMount count mount.1 → EndsInName (mount_named mount)
mount_ends count mount is = (is.below, at_names count mount.1.server mount.1.path is.at)

ends_in_names : (lists : Lists) (server : ℕ) → AreAccepted lists → All EndsInName (named_of lists server)
ends_in_names lists server is =
    let count = length lists.servers in
    let nodes = filter (λ (node : NodeItem). node.server == server) lists.nodes in
    let mounts = filter (λ (mount : ℕ × MountItem). mount.1.server == server) (enumerate_from 0 lists.mounts) in
    All-append EndsInName (map node_named nodes) (map mount_named mounts)
    (All-map EndsInName node_named nodes
    (All-weaker (IsNode count) (λ node. EndsInName (node_named node)) (node_ends count) nodes (All-filter (λ (node : NodeItem). node.server == server) (IsNode count) lists.nodes is.items.nodes)))
    (All-map EndsInName mount_named mounts
    (All-weaker (λ (mount : ℕ × MountItem). IsMount count mount.1) (λ mount. EndsInName (mount_named mount)) (mount_ends count) mounts
    (All-filter (λ (mount : ℕ × MountItem). mount.1.server == server) (λ (mount : ℕ × MountItem). IsMount count mount.1) (enumerate_from 0 lists.mounts) (all_numbered (IsMount count) 0 lists.mounts is.items.mounts))))

-- ---- edges

-- a key that is found among these edges has a name
found_name : (whole : List Named) (named : List Named) (from : EdgeKey) (to : EdgeTo) → All EndsInName named → entry.find edge_cmp from (map (edge_of whole) named) ≡ Some to → IsName from.name
found_name whole [] from to h e = absurd (cc)
found_name whole (one ∷ named) from to h e = by_key (found_name whole named from to (All-tail EndsInName one named h)) (same_or_other from (edge_of whole one).0) where
  by_key : (entry.find edge_cmp from (map (edge_of whole) named) ≡ Some to → IsName from.name) → Same from (edge_of whole one).0 → IsName from.name
  by_key later (same is b) =
      let ends = All-head EndsInName one named h in
      subst (λ (key : EdgeKey). IsName key.name) (sym is) (last_valid one.path ends.0 ends.1)
  by_key later (other apart b) =
      later (sym (ap (λ (c : Bool). cond c (Some (edge_of whole one).1) (entry.find edge_cmp from (map (edge_of whole) named))) b) ∙ e)

tree_names : (lists : Lists) (server : ℕ) → AreAccepted lists → HasNames (tree_of lists server)
tree_names lists server is from to there =
    let named = named_of lists server in
    found_name named named from to (ends_in_names lists server is) (sym (finite.get-from_entries edges_total (map (edge_of named) named) from) ∙ there)

pub starts_have_names : (lists : Lists) → AreAccepted lists → All HasNames (start_of lists).trees
starts_have_names lists is = by_servers (range_with_len 0 (length lists.servers)) where
  by_servers : (servers : List ℕ) → All HasNames (map (tree_of lists) servers)
  by_servers [] = All-nil HasNames
  by_servers (server ∷ servers) = All-cons HasNames (tree_of lists server) (map (tree_of lists) servers) (tree_names lists server is) (by_servers servers)
