-- The directory in which a directory has its name.
use Rattle.std.proofs.Common.{◌≡◌, ◌≢◌, ℕ, suc, ◌≤◌, List, [], ◌∷◌, length, map, Some, None, refl, ap, sym, ◌∙◌, arith, cond, Bool, true, false, nat_lt}
use Rattle.std.specs.Prelude.{◌==◌, ◌||◌, filter}
use Rattle.std.specs.List.{list_any}
use Rattle.std.specs.Option.{option_map}
use Rattle.std.specs.FinMap as finite
use Rattle.std.specs.FinMap.Entries as entry
use Rattle.std.proofs.lemmas.Bool.Decides.{nat_tests}
use Rattle.slab.specs.Slab.{Slab, get}
use Rattle.node_graph.specs.declared.nodes.NodeKind.TheVariants.{Directory}
use Rattle.node_graph.specs.declared.nodes.NodeRef.{NodeRef}
use Rattle.node_graph.specs.Cell.{Cell}
use Rattle.node_graph.specs.Tree.{EdgeKey, EdgeTo, Edges, edge_cmp, link_count, is_linked, has_one_name}
use Rattle.node_graph.specs.Refusals.{parents_of, lies_within}
use Rattle.node_graph.specs.Graph.{Seat, Kept, seat_of, Names, kind_at}
use Rattle.node_graph.specs.Ends.{Ends, end_of, edges_of}
use Rattle.node_graph.specs.Rows.{seat_from, kept_of, Sits, AreRows}
use Rattle.node_graph.proofs.RowLists.{same_some, mapped}
use Rattle.node_graph.proofs.Ordered.{same_or_other, same, other}
use Rattle.node_graph.proofs.Linked.{get-edges_of, linked_by, linked_counted}
use Rattle.node_graph.proofs.Seats.{seat_at, seat_here, number_here}
use Rattle.node_graph.proofs.Steps.{equal_numbers, apart_numbers}

abbrev pub parents_in : ℕ → List (EdgeKey × EdgeTo) → List ℕ
parents_in n es = map (λ (e : EdgeKey × EdgeTo). e.0.directory) (filter (λ (e : EdgeKey × EdgeTo). e.1.child == n) es)

parents_count : (n : ℕ) (es : List (EdgeKey × EdgeTo)) → length (parents_in n es) ≡ length (filter (λ (to : EdgeTo). to.child == n) (map (λ (e : EdgeKey × EdgeTo). e.1) es))
parents_count n [] = refl
parents_count n (e ∷ es) =
    elim (e.1.child == n) as (λ b.
    length (map (λ (e : EdgeKey × EdgeTo). e.0.directory) (cond b (e ∷ filter (λ (e : EdgeKey × EdgeTo). e.1.child == n) es) (filter (λ (e : EdgeKey × EdgeTo). e.1.child == n) es)))
    ≡ length (cond b (e.1 ∷ filter (λ (to : EdgeTo). to.child == n) (map (λ (e : EdgeKey × EdgeTo). e.1) es)) (filter (λ (to : EdgeTo). to.child == n) (map (λ (e : EdgeKey × EdgeTo). e.1) es)))) [
      | true ↦ ap suc (parents_count n es)
      | false ↦ parents_count n es
    ]

no_elements : {A : Type 0} (xs : List A) → length xs ≡ 0 → xs ≡ []
no_elements [] e = refl
no_elements (x ∷ xs) e = absurd (omega (arith, e))

pub parents_none : (edges : Edges) (n : ℕ) → link_count edges n ≡ 0 → parents_of edges n ≡ []
parents_none edges n none = no_elements _ (parents_count n (finite.entries edges) ∙ none)

pub parents_cons : (n : ℕ) (e : EdgeKey × EdgeTo) (es : List (EdgeKey × EdgeTo)) (b : Bool) → e.1.child == n ≡ b → parents_in n (e ∷ es) ≡ cond b (e.0.directory ∷ parents_in n es) (parents_in n es)
parents_cons n e es true is = ap (λ b. map (λ (e : EdgeKey × EdgeTo). e.0.directory) (cond b (e ∷ filter (λ (e : EdgeKey × EdgeTo). e.1.child == n) es) (filter (λ (e : EdgeKey × EdgeTo). e.1.child == n) es))) is
parents_cons n e es false is = ap (λ b. map (λ (e : EdgeKey × EdgeTo). e.0.directory) (cond b (e ∷ filter (λ (e : EdgeKey × EdgeTo). e.1.child == n) es) (filter (λ (e : EdgeKey × EdgeTo). e.1.child == n) es))) is

some_parent : (n : ℕ) (es : List (EdgeKey × EdgeTo)) (k : EdgeKey) (t : EdgeTo) → entry.find edge_cmp k es ≡ Some t → t.child ≡ n → 1 ≤ length (parents_in n es)
some_parent n [] k t found child = absurd (let wrong : None ≡ Some t = found in cc)
some_parent n (e ∷ es) k t found child =
    elim (e.1.child == n) as (λ b. e.1.child == n ≡ b → 1 ≤ length (parents_in n (e ∷ es))) [
      | true ↦ λ is. let count = ap length (parents_cons n e es true is) in omega (arith, count)
      | false ↦ λ is. elim (same_or_other k e.0) [
        | same eq b ↦ absurd (
            let t_is : e.1 ≡ t = same_some _ _ (sym (ap (λ c. cond c (Some e.1) (entry.find edge_cmp k es)) b) ∙ found) in
            let yes : e.1.child == n ≡ true = equal_numbers e.1.child n (ap (λ (to : EdgeTo). to.child) t_is ∙ child) in
            let wrong : true ≡ false = sym yes ∙ is in
            cc
            )
        | other apart b ↦
            let rest = some_parent n es k t (sym (ap (λ c. cond c (Some e.1) (entry.find edge_cmp k es)) b) ∙ found) child in
            let count = ap length (parents_cons n e es false is) in
            omega (arith, rest, count)
      ]
    ] refl

only_parent : (n : ℕ) (es : List (EdgeKey × EdgeTo)) (k : EdgeKey) (t : EdgeTo) → entry.find edge_cmp k es ≡ Some t → t.child ≡ n → length (parents_in n es) ≡ 1 → parents_in n es ≡ k.directory ∷ []
only_parent n [] k t found child one = absurd (let wrong : None ≡ Some t = found in cc)
only_parent n (e ∷ es) k t found child one =
    elim (same_or_other k e.0) [
      | same eq b ↦
          let t_is : e.1 ≡ t = same_some _ _ (sym (ap (λ c. cond c (Some e.1) (entry.find edge_cmp k es)) b) ∙ found) in
          let yes : e.1.child == n ≡ true = equal_numbers e.1.child n (ap (λ (to : EdgeTo). to.child) t_is ∙ child) in
          let count = ap length (parents_cons n e es true yes) in
          let none : length (parents_in n es) ≡ 0 = omega (arith, one, count) in
          parents_cons n e es true yes ∙ ap (λ rest. e.0.directory ∷ rest) (no_elements _ none) ∙ ap (λ (x : EdgeKey). x.directory ∷ []) (sym eq)
      | other apart b ↦
          let rest_found = sym (ap (λ c. cond c (Some e.1) (entry.find edge_cmp k es)) b) ∙ found in
          elim (e.1.child == n) as (λ c. e.1.child == n ≡ c → parents_in n (e ∷ es) ≡ k.directory ∷ []) [
            | true ↦ λ is. absurd (
                let count = ap length (parents_cons n e es true is) in
                let some = some_parent n es k t rest_found child in
                omega (arith, one, count, some)
                )
            | false ↦ λ is.
                let count = ap length (parents_cons n e es false is) in
                parents_cons n e es false is ∙ only_parent n es k t rest_found child (sym count ∙ one)
          ] refl
    ]

pub parents_one : (edges : Edges) (n : ℕ) (k : EdgeKey) (t : EdgeTo) → finite.get edges k ≡ Some t → t.child ≡ n → link_count edges n ≡ 1 → parents_of edges n ≡ k.directory ∷ []
parents_one edges n k t there child one = only_parent n (finite.entries edges) k t (sym (finite.get-entries edges k) ∙ there) child (parents_count n (finite.entries edges) ∙ one)

-- what a directory's row tells of the directory above it
module _ (nodes : Slab Cell) (ends : Ends) (made : ℕ) (graph : Kept) (dir : NodeRef) (view : kept_of nodes ends made ≡ graph) (rows : AreRows nodes ends made) (names : Names graph dir) (directory : kind_at graph dir.number ≡ Some Directory)
    (cell : Cell) (at : get nodes dir.place ≡ Some cell) where
  number : cell.number ≡ dir.number
  number = number_here nodes ends made graph dir view names cell at

  kind : cell.kind ≡ Directory
  kind = same_some _ _ (sym (ap (option_map (λ (s : Seat). s.kind)) (seat_here nodes ends made graph dir view names cell at)) ∙ directory)

  links : cell.links ≡ link_count (edges_of ends) dir.number
  links = rows.links dir.place cell at ∙ ap (link_count (edges_of ends)) number

  pub top : cell.links ≡ 0 → parents_of graph.edges dir.number ≡ []
  top none = ap (λ (g : Kept). parents_of g.edges dir.number) (sym view) ∙ parents_none (edges_of ends) dir.number (sym links ∙ none)

  -- the edge to a linked directory, and the one above it
  pub record Above : Type 0 where
    pub parents : parents_of graph.edges dir.number ≡ cell.parent.number ∷ []
    pub sits : Sits nodes cell.parent.place cell.parent.number (λ above. above.kind ≡ Directory)

  pub above : cell.links ≢ 0 → Above
  above some =
      let single = rows.one_name dir.place cell at (ap has_one_name kind) in
      let one : link_count (edges_of ends) dir.number ≡ 1 = exactly_one cell.links (link_count (edges_of ends) dir.number) some single links in
      let linked : is_linked (edges_of ends) dir.number ≡ true = linked_counted (edges_of ends) dir.number ∙ ap (nat_lt 0) one in
      let edge = linked_by (edges_of ends) dir.number linked in
      let to = mapped end_of (finite.get ends edge.0) edge.1 (sym (get-edges_of ends edge.0) ∙ edge.2) in
      let child = rows.children edge.0 to.0 to.1 in
      let to_number : to.0.node.number ≡ dir.number = ap (λ (t : EdgeTo). t.child) to.2 ∙ edge.3 in
      let place : to.0.node.place ≡ dir.place = rows.apart to.0.node.place dir.place child.0 cell child.1 at (child.2 ∙ to_number ∙ sym number) in
      let cell_is : child.0 ≡ cell = same_some _ _ (sym child.1 ∙ ap (get nodes) place ∙ at) in
      let to_kind : to.0.kind ≡ Directory = sym child.3 ∙ ap (λ (c : Cell). c.kind) cell_is ∙ kind in
      let up = rows.ways_up edge.0 to.0 cell to.1 to_kind (ap (get nodes) place ∙ at) in
      record {
        parents = ap (λ (g : Kept). parents_of g.edges dir.number) (sym view) ∙ parents_one (edges_of ends) dir.number edge.0 edge.1 edge.2 edge.3 one ∙ ap (λ n. n ∷ []) (sym up.0);
        sits = up.1;
      }
    where
      exactly_one : (a b : ℕ) → a ≢ 0 → a ≤ 1 → a ≡ b → b ≡ 1
      exactly_one a b some single e = grind (arith, nat_tests)

  above_seat : (sits : Sits nodes cell.parent.place cell.parent.number (λ above. above.kind ≡ Directory)) → seat_of graph cell.parent.number ≡ Some (seat_from cell.parent.place sits.0)
  above_seat sits = ap (λ (g : Kept). seat_of g cell.parent.number) (sym view) ∙ ap (seat_of (kept_of nodes ends made)) (sym sits.2) ∙ seat_at nodes rows.apart cell.parent.place sits.0 sits.1

  pub above_named : cell.links ≢ 0 → Names graph cell.parent
  above_named some = let sits = (above some).sits in ap (option_map (λ (s : Seat). s.node)) (above_seat sits) ∙ ap (λ n. Some (record { place = cell.parent.place; number = n })) sits.2

  pub above_directory : cell.links ≢ 0 → kind_at graph cell.parent.number ≡ Some Directory
  above_directory some = let sits = (above some).sits in ap (option_map (λ (s : Seat). s.kind)) (above_seat sits) ∙ ap Some sits.3

-- one step up
pub climb : (edges : Edges) (times less number parent above : ℕ) → times ≡ suc less → number ≢ above → parents_of edges number ≡ parent ∷ [] → lies_within times edges number above ≡ lies_within less edges parent above
climb edges times less number parent above count apart parents =
    ap (λ t. lies_within t edges number above) count
    ∙ ap (λ b. b || list_any (λ p. lies_within less edges p above) (parents_of edges number)) (apart_numbers number above apart)
    ∙ ap (λ ps. list_any (λ p. lies_within less edges p above) ps) parents
    ∙ or_false (lies_within less edges parent above)
  where
    or_false : (a : Bool) → (a || false) ≡ a
    or_false true = refl
    or_false false = refl
