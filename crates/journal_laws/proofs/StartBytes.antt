-- That the start of an accepted tree has names of bytes.
use Rattle.std.proofs.Common.{◌≡◌, ℕ, ◌==◌, Bool, true, false, cond, List, [], ◌∷◌, length, map, filter, Some, None, All, refl, sym, subst, ◌∙◌}
use Rattle.std.specs.FinMap as finite
use Rattle.std.specs.FinMap.Entries as entry
use Rattle.std.specs.List.{enumerate_from, range_with_len}
use Rattle.std.specs.Ordering.{eq_by_cmp}
use Rattle.std.proofs.lemmas.List.Elements.{All-nil, All-cons, All-head, All-tail, All-append, All-filter, All-map, All-weaker}
use Rattle.fidl_names.specs.Numbers.{AreBytes}
use Rattle.node_graph.specs.Tree.{EdgeKey, EdgeTo, NodeRow, edge_cmp}
use Rattle.node_graph.specs.declared.nodes.NodeKind.TheVariants.{Directory}
use Rattle.path_walk.specs.Parts.{last_name}
use Rattle.path_walk.specs.Paths.{path_fault}
use Rattle.path_walk.proofs.PathLemmas.{path_sound}
use Rattle.session_start.specs.Accepted.{AreAccepted, HasFilesOfBytes, IsMount, IsNode}
use Rattle.session_start.specs.Items.{Lists, MountItem, NodeItem}
use Rattle.session_start.specs.Numbering.{Named, edge_of, mount_named, named_of, node_named, row_of_named, tree_from, tree_of}
use Rattle.session_start.proofs.Trees.{edges_total, equal_of, exact_edges}
use Rattle.vfs_journal.specs.Starts.{start_of}
use Rattle.journal_laws.specs.Contents.{HasBytes}
use Rattle.journal_laws.proofs.Lists.{all_numbered, both_hold}
use Rattle.journal_laws.proofs.Texts.{last_in_bytes, none_written, text_in_bytes}

-- ---- what stands in a tree

-- a path and a file of bytes
record IsOfBytes (one : Named) : Type 0 where
  path : AreBytes one.path
  bytes : AreBytes one.bytes

found_name : (key : EdgeKey) (es : List (EdgeKey × EdgeTo)) (to : EdgeTo) → All (λ (e : EdgeKey × EdgeTo). AreBytes e.0.name) es → entry.find edge_cmp key es ≡ Some to → AreBytes key.name
found_name key [] to h found = absurd (cc)
found_name key (e ∷ es) to h found =
    by_test (eq_by_cmp edge_cmp key e.0) refl (All-head (λ (x : EdgeKey × EdgeTo). AreBytes x.0.name) e es h) (λ f. found_name key es to (All-tail (λ (x : EdgeKey × EdgeTo). AreBytes x.0.name) e es h) f) found where
      by_test : (b : Bool) → eq_by_cmp edge_cmp key e.0 ≡ b → AreBytes e.0.name → (entry.find edge_cmp key es ≡ Some to → AreBytes key.name) → cond b (Some e.1) (entry.find edge_cmp key es) ≡ Some to → AreBytes key.name
      by_test true is here later f = subst (λ (k : EdgeKey). AreBytes k.name) (sym (exact_edges key e.0 (equal_of (edge_cmp key e.0) is))) here
      by_test false is here later f = later f

tree_in_bytes : (named : List Named) → All IsOfBytes named → HasBytes (tree_from named)
tree_in_bytes named h = record {
  names = λ from to there.
      found_name from (map (edge_of named) named) to
      (All-map (λ (e : EdgeKey × EdgeTo). AreBytes e.0.name) (edge_of named) named
      (All-weaker IsOfBytes (λ (one : Named). AreBytes (last_name one.path)) (λ one is. last_in_bytes one.path is.path) named h))
      (sym (finite.get-from_entries edges_total (map (edge_of named) named) from) ∙ there);
  files = All-cons (λ (row : NodeRow). AreBytes row.bytes) (record { kind = Directory; bytes = [] }) (map row_of_named named) none_written
      (All-map (λ (row : NodeRow). AreBytes row.bytes) row_of_named named (All-weaker IsOfBytes (λ (one : Named). AreBytes one.bytes) (λ one is. is.bytes) named h));
}

-- ---- the lists of an accepted tree

path_in_bytes : (path : List ℕ) → path_fault path ≡ None → AreBytes path
path_in_bytes path good = text_in_bytes path (path_sound path good).utf8

module _ (lists : Lists) (accepted : AreAccepted lists) (files : All (λ (node : NodeItem). AreBytes node.bytes) lists.nodes) where
  nodes_in_bytes : All (λ (node : NodeItem). IsOfBytes (node_named node)) lists.nodes
  nodes_in_bytes =
      All-weaker (λ (node : NodeItem). IsNode (length lists.servers) node × AreBytes node.bytes) (λ (node : NodeItem). IsOfBytes (node_named node))
      (λ node is. record { path = path_in_bytes node.path is.0.at.path; bytes = is.1 }) lists.nodes
      (both_hold (IsNode (length lists.servers)) (λ (node : NodeItem). AreBytes node.bytes) lists.nodes accepted.items.nodes files)

  mounts_in_bytes : All (λ (m : ℕ × MountItem). IsOfBytes (mount_named m)) (enumerate_from 0 lists.mounts)
  mounts_in_bytes =
      All-weaker (λ (m : ℕ × MountItem). IsMount (length lists.servers) m.1) (λ (m : ℕ × MountItem). IsOfBytes (mount_named m))
      (λ m is. record { path = path_in_bytes m.1.path is.at.path; bytes = none_written }) (enumerate_from 0 lists.mounts)
      (all_numbered (IsMount (length lists.servers)) 0 lists.mounts accepted.items.mounts)

  named_in_bytes : (server : ℕ) → All IsOfBytes (named_of lists server)
  named_in_bytes server =
      let of_node : NodeItem → Bool = λ node. node.server == server in
      let of_mount : ℕ × MountItem → Bool = λ mount. mount.1.server == server in
      All-append IsOfBytes (map node_named (filter of_node lists.nodes)) (map mount_named (filter of_mount (enumerate_from 0 lists.mounts)))
      (All-map IsOfBytes node_named (filter of_node lists.nodes) (All-filter of_node (λ (node : NodeItem). IsOfBytes (node_named node)) lists.nodes nodes_in_bytes))
      (All-map IsOfBytes mount_named (filter of_mount (enumerate_from 0 lists.mounts))
      (All-filter of_mount (λ (m : ℕ × MountItem). IsOfBytes (mount_named m)) (enumerate_from 0 lists.mounts) mounts_in_bytes))

  each_tree : (servers : List ℕ) → All (λ server. HasBytes (tree_of lists server)) servers
  each_tree [] = All-nil (λ (server : ℕ). HasBytes (tree_of lists server))
  each_tree (server ∷ servers) = All-cons (λ (s : ℕ). HasBytes (tree_of lists s)) server servers (tree_in_bytes (named_of lists server) (named_in_bytes server)) (each_tree servers)

pub starts_have_bytes : (lists : Lists) → AreAccepted lists → HasFilesOfBytes lists → All HasBytes (start_of lists).trees
starts_have_bytes lists accepted files =
    All-map HasBytes (tree_of lists) (range_with_len 0 (length lists.servers)) (each_tree lists accepted files (range_with_len 0 (length lists.servers)))
