-- The tree that a server begins with, and its root.
use Rattle.std.proofs.Common.{◌≡◌, ℕ, ◌≤◌, List, [], length, map, Option, Some, None, refl, ap, sym, ◌∙◌, subst, arith, true}
use Rattle.std.specs.Prelude.{filter, ◌==◌}
use Rattle.std.specs.Option.{option_map, option_map_or}
use Rattle.std.specs.FinMap as finite
use Rattle.slab.specs.Slab.{Slab, get, Updates}
use Rattle.node_graph.specs.declared.nodes.NodeKind.TheVariants.{Directory}
use Rattle.node_graph.specs.declared.nodes.Entry.{Entry}
use Rattle.node_graph.specs.Cell.{Cell}
use Rattle.node_graph.specs.Tree.{EdgeKey, EdgeTo, Edges, edge_cmp, link_count, row_of, bare_tree}
use Rattle.node_graph.specs.Graph.{Seat, Kept, seat_of, kind_at, holds_at, StandsFor}
use Rattle.node_graph.specs.Ends.{Ends}
use Rattle.node_graph.specs.Rows.{seat_from, kept_of, is_needed, AreRows}
use Rattle.node_graph.proofs.RowLists.{same_some, cases, same, other}
use Rattle.node_graph.proofs.Ordered.{entries-map_of}
use Rattle.node_graph.proofs.Linked.{edges_of-empty}
use Rattle.node_graph.proofs.Loops.{NoLoop, no_loop_bare}
use Rattle.node_graph.proofs.Seats.{seat_came, seat_at}

abbrev pub root_cell : Cell
root_cell = record { number = 1; kind = Directory; bytes = []; holds = 0; links = 0; parent = record { place = 0; number = 1 } }

no_links : (n : ℕ) → link_count finite.empty n ≡ 0
no_links n = ap (λ (es : List (EdgeKey × EdgeTo)). length (filter (λ (to : EdgeTo). to.child == n) (map (λ (e : EdgeKey × EdgeTo). e.1) es))) (entries-map_of [] refl)

no_end : (key : EdgeKey) (to : Entry) → finite.get {R = edge_cmp} finite.empty key ≡ Some to → ⊥
no_end key to there = let wrong : None ≡ Some to = sym (finite.get-empty edge_cmp key) ∙ there in cc

module _ (bare nodes : Slab Cell) (place : ℕ) (none : (p : ℕ) → get bare p ≡ None) (first : place ≡ 0) (u : Updates bare nodes place (Some root_cell)) where
  only : (p : ℕ) (cell : Cell) → get nodes p ≡ Some cell → (p ≡ 0) × (cell ≡ root_cell)
  only p cell there = elim (cases p place) [
    | same e b ↦ (e ∙ first, same_some _ _ (sym there ∙ ap (get nodes) e ∙ u.changed))
    | other e b ↦ absurd (let wrong : None ≡ Some cell = sym (none p) ∙ sym (u.others p e) ∙ there in cc)
  ]

  pub bare_rows : AreRows nodes finite.empty 1
  bare_rows = record {
    root = (root_cell, ap (get nodes) (sym first) ∙ u.changed, refl, (refl, refl));
    numbers = λ p c there. let P : Cell → Type 0 = λ c. (1 ≤ c.number) × (c.number ≤ 1) in subst P (sym (only p c there).1) (omega arith, omega arith);
    apart = λ a b x y ax bx alike. (only a x ax).0 ∙ sym (only b y bx).0;
    links = λ p c there. ap (λ (c : Cell). c.links) (only p c there).1 ∙ sym (ap (λ (edges : Edges). link_count edges c.number) edges_of-empty ∙ no_links c.number);
    needed = λ p c there _. let P : Cell → Type 0 = λ c. is_needed c ≡ true in subst P (sym (only p c there).1) refl;
    children = λ key to there. absurd (no_end key to there);
    parents = λ key to there. absurd (no_end key to there);
    one_name = λ p c there single. let links : c.links ≡ 0 = ap (λ (c : Cell). c.links) (only p c there).1 in omega (arith, links);
    ways_up = λ key to c there directory at. absurd (no_end key to there);
    no_loop = subst NoLoop (sym edges_of-empty) no_loop_bare;
    few = omega (arith, finite.len-empty edge_cmp Entry);
    room = omega arith;
  }

  pub bare_stands : StandsFor (kept_of nodes finite.empty 1) bare_tree
  bare_stands = record {
    made = refl;
    edges = edges_of-empty;
    rows = λ n seat there.
        let one = seat_came nodes n seat there in
        let cell = (only one.place one.cell one.at).1 in
        let number : 1 ≡ n = ap (λ (c : Cell). c.number) (sym cell) ∙ one.number in
        ap (row_of bare_tree.nodes) (sym number) ∙ ap (λ (s : Seat). Some (record { kind = s.kind; bytes = s.bytes })) (ap (seat_from one.place) (sym cell) ∙ sym one.seat_is);
  }

  pub bare_holds : (n : ℕ) → holds_at (kept_of nodes finite.empty 1) n ≡ 0
  bare_holds n = by_cases (seat_of (kept_of nodes finite.empty 1) n) refl
    where
      by_cases : (o : Option Seat) → seat_of (kept_of nodes finite.empty 1) n ≡ o → holds_at (kept_of nodes finite.empty 1) n ≡ 0
      by_cases None e = ap (λ s. option_map_or (λ (s : Seat). s.holds) s 0) e
      by_cases (Some seat) e =
          let one = seat_came nodes n seat e in
          ap (λ s. option_map_or (λ (s : Seat). s.holds) s 0) e ∙ ap (λ (s : Seat). s.holds) one.seat_is ∙ ap (λ (c : Cell). c.holds) (only one.place one.cell one.at).1

module _ (nodes : Slab Cell) (ends : Ends) (made : ℕ) (graph : Kept) (view : kept_of nodes ends made ≡ graph) (rows : AreRows nodes ends made) where
  root_seat : seat_of (kept_of nodes ends made) 1 ≡ Some (seat_from 0 rows.root.0)
  root_seat = ap (seat_of (kept_of nodes ends made)) (sym rows.root.2) ∙ seat_at nodes rows.apart 0 rows.root.0 rows.root.1

  pub root_named : option_map (λ (s : Seat). s.node) (seat_of graph 1) ≡ Some (record { place = 0; number = 1 })
  root_named = ap (λ g. option_map (λ (s : Seat). s.node) (seat_of g 1)) (sym view) ∙ ap (option_map (λ (s : Seat). s.node)) root_seat ∙ ap (λ n. Some (record { place = 0; number = n })) rows.root.2

  pub root_kind : kind_at graph 1 ≡ Some Directory
  root_kind = ap (λ g. kind_at g 1) (sym view) ∙ ap (option_map (λ (s : Seat). s.kind)) root_seat ∙ ap Some rows.root.3.0
