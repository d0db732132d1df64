-- A tree that a graph stands for: the rows that it keeps, and empty directories for the nodes that are gone.
use Rattle.std.proofs.Common.{◌≡◌, ℕ, zero, suc, ◌+◌, ◌≤◌, List, [], ◌∷◌, ◌++◌, length, Some, refl, ap, sym, ◌∙◌, subst, arith, length-append}
use Rattle.std.specs.Option.{option_map_or}
use Rattle.slab.specs.Slab.{Slab}
use Rattle.node_graph.specs.declared.nodes.NodeKind.TheVariants.{Directory}
use Rattle.node_graph.specs.Cell.{Cell}
use Rattle.node_graph.specs.Tree.{NodeRow, Tree, new_row, row_of}
use Rattle.node_graph.specs.Graph.{Seat, seat_of, StandsFor}
use Rattle.node_graph.specs.Ends.{Ends}
use Rattle.node_graph.specs.Rows.{AreRows, kept_of}
use Rattle.node_graph.proofs.RowLists.{cases, same, other, row_of-push_same, row_of-push_other}
use Rattle.node_graph.proofs.Seats.{seat_came}

rows_to : (ℕ → NodeRow) → ℕ → List NodeRow
rows_to row zero = []
rows_to row (suc made) = rows_to row made ++ row (made + 1) ∷ []

rows_count : (row : ℕ → NodeRow) (made : ℕ) → length (rows_to row made) ≡ made
unfolding rows_to
rows_count row zero = refl
rows_count row (suc made) = let rest = rows_count row made in let more = length-append (rows_to row made) (row (made + 1) ∷ []) in omega (arith, rest, more)

row_there : (row : ℕ → NodeRow) (made number : ℕ) → 1 ≤ number → number ≤ made → row_of (rows_to row made) number ≡ Some (row number)
unfolding rows_to
row_there row zero number some few = absurd (omega (arith, some, few))
row_there row (suc made) number some few = elim (cases number (length (rows_to row made) + 1)) [
  | same is b ↦
      let last : made + 1 ≡ number = sym (is ∙ ap (λ n. n + 1) (rows_count row made)) in
      ap (row_of (rows_to row (suc made))) is ∙ row_of-push_same (rows_to row made) (row (made + 1)) ∙ ap (λ n. Some (row n)) last
  | other apart b ↦
      let count = rows_count row made in
      row_of-push_other (rows_to row made) (row (made + 1)) number apart ∙ row_there row made number some (omega (arith, few, apart, count))
]

module _ (nodes : Slab Cell) (ends : Ends) (made : ℕ) (rows : AreRows nodes ends made) where
  abbrev row_at : ℕ → NodeRow
  row_at number = option_map_or (λ (seat : Seat). record { kind = seat.kind; bytes = seat.bytes }) (seat_of (kept_of nodes ends made) number) (new_row Directory)

  abbrev tree : Tree
  tree = record { nodes = rows_to row_at made; edges = (kept_of nodes ends made).edges }

  pub stands_for : (some_tree : Tree) × StandsFor (kept_of nodes ends made) some_tree
  stands_for = (
    tree,
    record {
      made = sym (rows_count row_at made);
      edges = refl;
      rows = λ number seat there.
          let one = seat_came nodes number seat there in
          let within = rows.numbers one.place one.cell one.at in
          let P : ℕ → Type 0 = λ n. (1 ≤ n) × (n ≤ made) in
          let range = subst P one.number within in
          row_there row_at made number range.0 range.1
          ∙ ap (λ o. Some (option_map_or (λ (s : Seat). record { kind = s.kind; bytes = s.bytes }) o (new_row Directory))) there;
    },
  )
