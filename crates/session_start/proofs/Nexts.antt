-- The next node of a server of an accepted file.
use Rattle.std.proofs.Common.{◌≡◌, ℕ, suc, ◌+◌, ◌<◌, ◌==◌, List, [], ◌∷◌, ◌++◌, length, map, filter, take, drop, Bor, Some, All, sym, ap, ◌∙◌, subst, arith, append_assoc}
use Rattle.std.specs.Prelude.{slice_get}
use Rattle.std.specs.BTreeMap.{BTreeMap}
use Rattle.std.specs.List.{enumerate_from}
use Rattle.std.proofs.lemmas.Bool.{eq-eqb, ne_eqb}
use Rattle.std.proofs.lemmas.List.{take_all}
use Rattle.std.proofs.lemmas.List.Elements.{All-get_or}
use Rattle.std.proofs.lemmas.List.FromFn.{length-enumerate_from}
use Rattle.fidl_names.specs.declared.limits.TheConstants as limit
use Rattle.node_graph.specs.declared.nodes.NodeRef.{NodeRef}
use Rattle.node_graph.specs.Graph.{Kept}
use Rattle.session_start.specs.Accepted.{AreAccepted}
use Rattle.session_start.specs.Items.{NodeItem, MountItem, Lists}
use Rattle.session_start.specs.Numbering.{Named, mount_named, named_of, node_named}
use Rattle.session_start.proofs.Accepted.{few_names}
use Rattle.session_start.proofs.Placing.{keeps_all}
use Rattle.session_start.proofs.Rising.{IsFilled}
use Rattle.session_start.proofs.Soundness.{all_filled, named_count}
use Rattle.session_start.proofs.Standing.{grows_at}
use Rattle.session_start.proofs.Trees.{Fits, Grows}
use Rattle.session_start.specs.Growing.{IsNext, mounts_among, named_with, nodes_among}
use Rattle.session_start.specs.Places.{Stands}
use Rattle.session_start.proofs.Chosen.{chosen_more, chosen_same, chosen_split, enumerated, get_behind, get_or_behind, take_front, within_behind}

pub grows_whole : (lists : Lists) → AreAccepted lists → (server : ℕ) → Grows (named_of lists server)
grows_whole lists accepted server = let keeps = keeps_all lists accepted server in keeps.grows

module _ (lists : Lists) (server : ℕ) (named : List Named) (one : Named) (graph : Kept) (places : BTreeMap (Bor (List ℕ)) NodeRef) (next : IsNext lists server named one graph places) where
  there : slice_get (named_of lists server) (length named) ≡ Some one
  there = ap (λ all. slice_get all (length named)) next.whole ∙ get_behind named one next.later

  front : take (length named) (named_of lists server) ≡ named
  front = ap (take (length named)) next.whole ∙ take_front named (one ∷ next.later)

  pub grown : Grows named × Fits named one
  grown = subst (λ (before : List Named). Grows before × Fits before one) front (grows_at (named_of lists server) (grows_whole lists next.accepted server) (length named) one there)

  pub few : length named < limit.MAX_NAMES
  few =
      let count = named_count lists server in
      let held = few_names lists next.accepted server next.within in
      let size = ap length next.whole in
      let behind = within_behind named one next.later in
      omega (arith, count, held, size, behind)

  pub filled : IsFilled one
  filled =
      let all = subst (All IsFilled) next.whole (all_filled lists next.accepted server) in
      subst IsFilled (get_or_behind named one next.later)
      (All-get_or IsFilled (named ++ one ∷ next.later) (length named) one (within_behind named one next.later) all)

-- ---- the nodes, one by one

module _ (lists : Lists) (server item : ℕ) (node : NodeItem) (there : slice_get lists.nodes item ≡ Some node) where
  pub nodes_more : node.server ≡ server → nodes_among lists server (item + 1) ≡ nodes_among lists server item ++ node_named node ∷ []
  nodes_more is = chosen_more node_named (λ (one : NodeItem). one.server == server) lists.nodes item node there (eq-eqb node.server server is)

  pub nodes_same : (node.server ≡ server → ⊥) → nodes_among lists server (item + 1) ≡ nodes_among lists server item
  nodes_same isnt = chosen_same node_named (λ (one : NodeItem). one.server == server) lists.nodes item node there (ne_eqb node.server server isnt)

  pub node_next : (graph : Kept) (places : BTreeMap (Bor (List ℕ)) NodeRef) → AreAccepted lists → server < length lists.servers → node.server ≡ server → Stands (nodes_among lists server item) graph places →
      IsNext lists server (nodes_among lists server item) (node_named node) graph places
  node_next graph places accepted within is stands = record {
    accepted = accepted;
    within = within;
    later = map node_named (filter (λ one. one.server == server) (drop (suc item) lists.nodes)) ++ map mount_named (filter (λ mount. mount.1.server == server) (enumerate_from 0 lists.mounts));
    whole =
        ap (λ all. all ++ map mount_named (filter (λ (mount : ℕ × MountItem). mount.1.server == server) (enumerate_from 0 lists.mounts)))
        (chosen_split node_named (λ (one : NodeItem). one.server == server) lists.nodes item node there (eq-eqb node.server server is))
        ∙ append_assoc (nodes_among lists server item) (node_named node ∷ map node_named (filter (λ one. one.server == server) (drop (suc item) lists.nodes))) (map mount_named (filter (λ mount. mount.1.server == server) (enumerate_from 0 lists.mounts)));
    stands = stands;
  }

all_nodes : (lists : Lists) (server : ℕ) → nodes_among lists server (length lists.nodes) ≡ map node_named (filter (λ node. node.server == server) lists.nodes)
all_nodes lists server = ap (λ (nodes : List NodeItem). map node_named (filter (λ node. node.server == server) nodes)) (take_all (length lists.nodes) lists.nodes (omega arith))

module _ (lists : Lists) (server item : ℕ) (mount : MountItem) (there : slice_get lists.mounts item ≡ Some mount) where
  listed : slice_get (enumerate_from 0 lists.mounts) item ≡ Some (item, mount)
  listed =
      let here : 0 + item ≡ item = omega arith in
      enumerated 0 lists.mounts item mount there ∙ ap (λ n. Some (n, mount)) here

  pub mounts_more : mount.server ≡ server → named_with lists server (item + 1) ≡ named_with lists server item ++ mount_named (item, mount) ∷ []
  mounts_more is =
      ap (λ more. nodes_among lists server (length lists.nodes) ++ more)
      (chosen_more mount_named (λ (one : ℕ × MountItem). one.1.server == server) (enumerate_from 0 lists.mounts) item (item, mount) listed (eq-eqb mount.server server is))
      ∙ sym (append_assoc (nodes_among lists server (length lists.nodes)) (mounts_among lists server item) (mount_named (item, mount) ∷ []))

  pub mounts_same : (mount.server ≡ server → ⊥) → named_with lists server (item + 1) ≡ named_with lists server item
  mounts_same isnt =
      ap (λ more. nodes_among lists server (length lists.nodes) ++ more)
      (chosen_same mount_named (λ (one : ℕ × MountItem). one.1.server == server) (enumerate_from 0 lists.mounts) item (item, mount) listed (ne_eqb mount.server server isnt))

  pub mount_next : (graph : Kept) (places : BTreeMap (Bor (List ℕ)) NodeRef) → AreAccepted lists → server < length lists.servers → mount.server ≡ server → Stands (named_with lists server item) graph places →
      IsNext lists server (named_with lists server item) (mount_named (item, mount)) graph places
  mount_next graph places accepted within is stands = record {
    accepted = accepted;
    within = within;
    later = map mount_named (filter (λ one. one.1.server == server) (drop (suc item) (enumerate_from 0 lists.mounts)));
    whole =
        ap (λ front. front ++ map mount_named (filter (λ (one : ℕ × MountItem). one.1.server == server) (enumerate_from 0 lists.mounts))) (sym (all_nodes lists server))
        ∙ ap (λ more. nodes_among lists server (length lists.nodes) ++ more)
        (chosen_split mount_named (λ (one : ℕ × MountItem). one.1.server == server) (enumerate_from 0 lists.mounts) item (item, mount) listed (eq-eqb mount.server server is))
        ∙ sym (append_assoc (nodes_among lists server (length lists.nodes)) (mounts_among lists server item) (mount_named (item, mount) ∷ map mount_named (filter (λ one. one.1.server == server) (drop (suc item) (enumerate_from 0 lists.mounts)))));
    stands = stands;
  }

pub named_whole : (lists : Lists) (server : ℕ) → named_with lists server (length lists.mounts) ≡ named_of lists server
named_whole lists server =
    ap (λ front. front ++ mounts_among lists server (length lists.mounts)) (all_nodes lists server)
    ∙ ap (λ (mounts : List (ℕ × MountItem)). map node_named (filter (λ node. node.server == server) lists.nodes) ++ map mount_named (filter (λ mount. mount.1.server == server) mounts))
    (take_all (length lists.mounts) (enumerate_from 0 lists.mounts) (omega (arith, length-enumerate_from 0 lists.mounts)))
