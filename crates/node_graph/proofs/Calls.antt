-- What a call finds at a node that is named, and what stands after it wrote there.
use Rattle.std.proofs.Common.{◌≡◌, ◌≢◌, ℕ, ◌+◌, ◌-◌, ◌<◌, List, Option, Some, None, refl, ap, sym, ◌∙◌, arith, true, false, nat_lt, cond, not, nat_eq, ◌^◌}
use Rattle.std.specs.Prelude.{◌==◌, ◌||◌, ◌&&◌, IfSome}
use Rattle.std.specs.Option.{option_map, option_map_or}
use Rattle.std.specs.FinMap as finite
use Rattle.std.proofs.lemmas.Bool.Decides.{nat_tests}
use Rattle.std.proofs.lemmas.Grind.{common_steps}
use Rattle.slab.specs.Slab.{Slab, get, Updates, with_value}
use Rattle.slab.proofs.SlabLemmas.{Updates-with_value}
use Rattle.node_graph.specs.declared.nodes.NodeRef.{NodeRef}
use Rattle.node_graph.specs.declared.nodes.Entry.{Entry}
use Rattle.node_graph.specs.Cell.{Cell}
use Rattle.node_graph.specs.Tree.{Edges, EdgeKey, link_count, is_linked, is_removed, stay}
use Rattle.node_graph.specs.Graph.{Seat, Kept, seat_of, Names, kind_at, holds_at, Leads, HoldsNow, KeepsNames}
use Rattle.node_graph.specs.Ends.{Ends, end_of, edges_of}
use Rattle.node_graph.specs.Rows.{seat_from, kept_of, is_needed, AreAlmost, AreRows, Forgets}
use Rattle.node_graph.proofs.States.{Replaces, holds_now, keeps_names, leads_stay}
use Rattle.node_graph.proofs.Linked.{linked_counted, get-edges_of}
use Rattle.node_graph.proofs.Seats.{seat_at, here, present, seat_here, number_here, replaced_here}
use Rattle.node_graph.proofs.Steps.{cell_changes, settle, forgotten, or_true}
use Rattle.node_graph.proofs.Sheds.{Sheds, shed, sheds_holds, sheds_stands, shed_names}

-- a cell that is put where it stood changes nothing
pub stays : (nodes : Slab Cell) (place : ℕ) (value is : Cell) → get nodes place ≡ Some value → is ≡ value → with_value nodes place is ≡ nodes
stays nodes place value is at same = grind (arith, common_steps)

held_needed : (cell : Cell) (n : ℕ) → cell.holds ≡ n + 1 → is_needed cell ≡ true
held_needed cell n e =
    let held : nat_lt 0 cell.holds ≡ true = positive cell.holds e in
    ap (λ b. cell.number == 1 || (nat_lt 0 cell.links || b)) held ∙ ap (λ b. cell.number == 1 || b) (or_true (nat_lt 0 cell.links)) ∙ or_true (cell.number == 1)
  where
    positive : (h : ℕ) → h ≡ n + 1 → nat_lt 0 h ≡ true
    positive h e = grind (arith, nat_tests)

module _ (nodes : Slab Cell) (ends : Ends) (made : ℕ) (graph : Kept) (node : NodeRef) (view : kept_of nodes ends made ≡ graph) (rows : AreRows nodes ends made) (names : Names graph node) where
  pub holds_here : (value : Cell) → get nodes node.place ≡ Some value → holds_at graph node.number ≡ value.holds
  holds_here value at = ap (λ s. option_map_or (λ (s : Seat). s.holds) s 0) (seat_here nodes ends made graph node view names value at)

  pub links_here : (value : Cell) → get nodes node.place ≡ Some value → value.links ≡ link_count graph.edges node.number
  links_here value at = rows.links node.place value at ∙ ap (link_count (edges_of ends)) (number_here nodes ends made graph node view names value at) ∙ ap (λ (g : Kept). link_count g.edges node.number) view

  pub written : (value is : Cell) → get nodes node.place ≡ Some value → Updates nodes (with_value nodes node.place is) node.place (Some is)
  written value is at = Updates-with_value nodes node.place is (present nodes ends made graph node view names)

  pub step_here : (value is : Cell) → get nodes node.place ≡ Some value → is.number ≡ value.number → is.kind ≡ value.kind
      → Replaces graph (kept_of (with_value nodes node.place is) ends made) node.number (seat_from node.place value) (seat_from node.place is)
  step_here value is at number kind = replaced_here nodes ends made graph node view names value is (with_value nodes node.place is) rows.apart at (written value is at) number kind

  pub almost_here : (value is : Cell) → get nodes node.place ≡ Some value → is.number ≡ value.number → is.kind ≡ value.kind → is.links ≡ value.links → is.parent ≡ value.parent
      → AreAlmost (with_value nodes node.place is) ends made (λ q. q ≡ node.place)
  almost_here value is at number kind links parent = cell_changes nodes (with_value nodes node.place is) ends made node.place value is (written value is at) at number kind links parent rows

  pub rows_held : (value is : Cell) → get nodes node.place ≡ Some value → is ≡ record value { holds = value.holds + 1 } → AreRows (with_value nodes node.place is) ends made
  rows_held value is at e =
      settle (with_value nodes node.place is) ends made node.place is
      (almost_here value is at (ap (λ (c : Cell). c.number) e) (ap (λ (c : Cell). c.kind) e) (ap (λ (c : Cell). c.links) e) (ap (λ (c : Cell). c.parent) e))
      (written value is at).changed (held_needed is value.holds (ap (λ (c : Cell). c.holds) e))

  pub rows_filled : (value is : Cell) (bytes : List ℕ) → get nodes node.place ≡ Some value → is ≡ record value { bytes = bytes } → AreRows (with_value nodes node.place is) ends made
  rows_filled value is bytes at e =
      settle (with_value nodes node.place is) ends made node.place is
      (almost_here value is at (ap (λ (c : Cell). c.number) e) (ap (λ (c : Cell). c.kind) e) (ap (λ (c : Cell). c.links) e) (ap (λ (c : Cell). c.parent) e))
      (written value is at).changed (ap is_needed e ∙ rows.needed node.place value at (λ x. x))

  -- a hold less, and what isn't needed then is taken out
  module _ (value is : Cell) (new : Slab Cell) (at : get nodes node.place ≡ Some value) (e : is ≡ record value { holds = value.holds - 1 }) (forgets : Forgets (with_value nodes node.place is) new node.place) where
    almost_released : AreAlmost (with_value nodes node.place is) ends made (λ q. q ≡ node.place)
    almost_released = almost_here value is at (ap (λ (c : Cell). c.number) e) (ap (λ (c : Cell). c.kind) e) (ap (λ (c : Cell). c.links) e) (ap (λ (c : Cell). c.parent) e)

    step_released : Replaces graph (kept_of (with_value nodes node.place is) ends made) node.number (seat_from node.place value) (seat_from node.place is)
    step_released = step_here value is at (ap (λ (c : Cell). c.number) e) (ap (λ (c : Cell). c.kind) e)

    shed_released : Sheds (kept_of (with_value nodes node.place is) ends made) (kept_of new ends made)
    shed_released = shed (with_value nodes node.place is) new ends made node.place almost_released forgets

    pub rows_released : AreRows new ends made
    rows_released = forgotten (with_value nodes node.place is) new ends made node.place almost_released forgets

    pub released_now : HoldsNow graph (kept_of new ends made) node.number (holds_at graph node.number - 1)
    released_now n =
        sheds_holds shed_released n ∙ holds_now step_released n
        ∙ ap (λ h. cond (n == node.number) h (holds_at graph n)) (ap (λ (c : Cell). c.holds) e ∙ ap (λ h. h - 1) (sym (holds_here value at)))

    pub released_tree : Leads graph (kept_of new ends made) stay
    released_tree tree stands = sheds_stands shed_released tree (leads_stay step_released (ap (λ (c : Cell). c.bytes) e) tree stands)

    pub released_names : KeepsNames graph (kept_of new ends made)
    released_names = shed_names graph (kept_of (with_value nodes node.place is) ends made) (kept_of new ends made) (keeps_names step_released) shed_released

-- what a name leads to is named, and is of the kind that is kept with the name
module _ (nodes : Slab Cell) (ends : Ends) (made : ℕ) (graph : Kept) (view : kept_of nodes ends made ≡ graph) (rows : AreRows nodes ends made) where
  pub child_seat : (key : EdgeKey) (to : Entry) (there : finite.get ends key ≡ Some to) → seat_of graph to.node.number ≡ Some (seat_from to.node.place (rows.children key to there).0)
  child_seat key to there =
      let child = rows.children key to there in
      ap (λ (g : Kept). seat_of g to.node.number) (sym view) ∙ ap (seat_of (kept_of nodes ends made)) (sym child.2) ∙ seat_at nodes rows.apart to.node.place child.0 child.1

  pub child_named : (key : EdgeKey) (to : Entry) → finite.get ends key ≡ Some to → Names graph to.node
  child_named key to there =
      ap (option_map (λ (s : Seat). s.node)) (child_seat key to there) ∙ ap (λ n. Some (record { place = to.node.place; number = n })) (rows.children key to there).2

  pub child_kind : (key : EdgeKey) (to : Entry) → finite.get ends key ≡ Some to → kind_at graph to.node.number ≡ Some to.kind
  child_kind key to there = ap (option_map (λ (s : Seat). s.kind)) (child_seat key to there) ∙ ap Some (rows.children key to there).3

  pub found_named : (key : EdgeKey) (o : Option Entry) → o ≡ finite.get ends key → IfSome o (λ entry. Names graph entry.node)
  found_named key None is = tt
  found_named key (Some entry) is = child_named key entry (sym is)

  pub found_kind : (key : EdgeKey) (o : Option Entry) → o ≡ finite.get ends key → IfSome o (λ entry. kind_at graph entry.node.number ≡ Some entry.kind)
  found_kind key None is = tt
  found_kind key (Some entry) is = child_kind key entry (sym is)

  pub number_small : (node : NodeRef) → Names graph node → node.number < 2 ^ 64 - 1
  number_small node names =
      let h = here nodes ends made graph node view names in
      let range = rows.numbers node.place h.cell h.at in
      let number = h.number in
      let room = rows.room in
      omega (arith, range.1, number, room)

  pub edge_found : (key : EdgeKey) (o : Option Entry) → o ≡ finite.get ends key → option_map end_of o ≡ finite.get graph.edges key
  edge_found key o is = ap (option_map end_of) is ∙ sym (get-edges_of ends key) ∙ ap (λ (g : Kept). finite.get g.edges key) view

pub removed_counted : (edges : Edges) (n links : ℕ) → n ≢ 1 → links ≡ link_count edges n → nat_eq links 0 ≡ is_removed edges n
removed_counted edges n links apart e =
    let no_root : n == 1 ≡ false = differs n apart in
    counted links ∙ ap not (ap (nat_lt 0) e ∙ sym (linked_counted edges n)) ∙ sym (ap (λ b. not b && not (is_linked edges n)) no_root)
  where
    differs : (n : ℕ) → n ≢ 1 → n == 1 ≡ false
    differs n apart = grind (arith, nat_tests)

    counted : (links : ℕ) → nat_eq links 0 ≡ not (nat_lt 0 links)
    counted links = elim (nat_lt 0 links) as (λ b. nat_lt 0 links ≡ b → nat_eq links 0 ≡ not b) [
      | true ↦ λ e. grind (arith, nat_tests)
      | false ↦ λ e. grind (arith, nat_tests)
    ] refl
