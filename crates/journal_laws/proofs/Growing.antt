-- How many nodes a tree has.
use Rattle.std.proofs.Common.{◌≡◌, ℕ, zero, suc, ◌+◌, ◌-◌, ◌≤◌, List, [], ◌∷◌, length, Option, Some, None, All, refl, subst, arith}
use Rattle.std.specs.Option.{option_map_or}
use Rattle.std.specs.Prelude.{slice_set}
use Rattle.std.proofs.lemmas.List.{length-append, length-set}
use Rattle.std.proofs.lemmas.List.Elements.{All-head, All-set, All-tail, All-weaker}
use Rattle.fidl_names.specs.declared.limits.TheConstants as limit
use Rattle.node_graph.specs.Tree.{Change, NodeRow, Tree, add, after, cut, fill, filled, make, move, row_of, stay}
use Rattle.vfs_journal.specs.Entries.{Journal}
use Rattle.vfs_journal.specs.History.{History, changed, tree_at, trees_of}
use Rattle.vfs_journal.specs.Past.{history_of}
use Rattle.vfs_journal.specs.Starts.{Start}
use Rattle.journal_laws.specs.Soundness.{IsStart}
use Rattle.journal_laws.proofs.ViewLaws.{same_length}

abbrev HasAtMost : ℕ → Tree → Type 0
HasAtMost most tree = length tree.nodes ≤ most

as_many : (rows : List NodeRow) (number : ℕ) (bytes : List ℕ) → length (filled rows number bytes) ≡ length rows
as_many rows number bytes = by_row (row_of rows number) where
  by_row : (o : Option NodeRow) → length (option_map_or (λ (row : NodeRow). slice_set rows (number - 1) (let new : NodeRow = record { kind = row.kind; bytes = bytes } in new)) o rows) ≡ length rows
  by_row None = refl
  by_row (Some row) = length-set rows (number - 1) (record { kind = row.kind; bytes = bytes })

one_more : (tree : Tree) (change : Change) (most : ℕ) → HasAtMost most tree → HasAtMost (most + 1) (after tree change)
one_more tree (make key row mask) most few = let more = length-append tree.nodes (row ∷ []) in omega (arith, more, few)
one_more tree (add key to) most few = omega (arith, few)
one_more tree (cut key) most few = omega (arith, few)
one_more tree (move from to) most few = omega (arith, few)
one_more tree (fill number bytes) most few = let same = as_many tree.nodes number bytes in omega (arith, same, few)
one_more tree stay most few = omega (arith, few)

-- the tree of no server is bare
tree_small : (trees : List Tree) (server most : ℕ) → 1 ≤ most → All (HasAtMost most) trees → HasAtMost most (tree_at trees server)
tree_small [] server most some h = some
tree_small (tree ∷ trees) zero most some h = All-head (HasAtMost most) tree trees h
tree_small (tree ∷ trees) (suc server) most some h = tree_small trees server most some (All-tail (HasAtMost most) tree trees h)

changed_small : (trees : List Tree) (server most : ℕ) (change : Change) → 1 ≤ most → All (HasAtMost most) trees → All (HasAtMost (most + 1)) (changed trees server change)
changed_small trees server most change some h =
    All-set (HasAtMost (most + 1)) trees server (after (tree_at trees server) change) (one_more (tree_at trees server) change most (tree_small trees server most some h))
    (All-weaker (HasAtMost most) (HasAtMost (most + 1)) (λ (tree : Tree) few. omega (arith, few)) trees h)

history_small : (start : Start) (history : History) → IsStart start → All (HasAtMost (1 + limit.MAX_NAMES + length history)) (trees_of start history)
history_small start [] s = s.small
history_small start (event ∷ earlier) s =
    let more : 1 + limit.MAX_NAMES + length earlier + 1 ≡ 1 + limit.MAX_NAMES + length (event ∷ earlier) = omega arith in
    subst (λ (most : ℕ). All (HasAtMost most) (trees_of start (event ∷ earlier))) more
    (changed_small (trees_of start earlier) event.outcome.server (1 + limit.MAX_NAMES + length earlier) event.outcome.change (omega arith) (history_small start earlier s))

pub trees_grow : (start : Start) (journal : Journal) (server : ℕ) → IsStart start → length (tree_at (trees_of start (history_of start journal)) server).nodes ≤ 1 + limit.MAX_NAMES + length journal
trees_grow start journal server s =
    let history = history_of start journal in
    let few = tree_small (trees_of start history) server (1 + limit.MAX_NAMES + length history) (omega arith) (history_small start history s) in
    let same = same_length start journal in
    omega (arith, few, same)
