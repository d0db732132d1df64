-- A node is made: what a graph keeps then.
use Rattle.std.proofs.Common.{◌≡◌, ◌≢◌, ℕ, ◌+◌, ◌<◌, ◌^◌, List, Option, Some, None, refl, ap, sym, ◌∙◌, subst, arith, Bool, true, false, not, nat_lt, nat_le}
use Rattle.std.specs.Prelude.{◌==◌, ◌||◌, ◌&&◌, is_some, slice_index_or}
use Rattle.std.specs.Option.{option_map}
use Rattle.std.specs.FinMap as finite
use Rattle.slab.specs.Slab.{Slab, get, Updates}
use Rattle.io_rights.specs.Operations.{OperationSet}
use Rattle.fidl_names.specs.declared.limits.TheConstants as limit
use Rattle.node_graph.specs.declared.faults.GraphFault.TheVariants as fault
use Rattle.node_graph.specs.declared.nodes.NodeKind.{NodeKind}
use Rattle.node_graph.specs.declared.nodes.NodeKind.TheVariants.{Directory}
use Rattle.node_graph.specs.declared.nodes.NodeRef.{NodeRef}
use Rattle.node_graph.specs.declared.nodes.Entry.{Entry}
use Rattle.node_graph.specs.Cell.{Cell}
use Rattle.node_graph.specs.Tree.{Edges, EdgeKey, is_linked, is_removed, link_count}
use Rattle.node_graph.specs.Graph.{Seat, Kept, seat_of, Names, kind_at, create_refusal}
use Rattle.node_graph.specs.Ends.{Ends, end_of, edges_of, name_in}
use Rattle.node_graph.specs.Rows.{seat_from, seat_map, kept_of, is_reached, Sits, AreRows}
use Rattle.node_graph.proofs.RowLists.{same_some, cases, same, other}
use Rattle.node_graph.proofs.States.{Adds, unrefused, refusal_of}
use Rattle.node_graph.proofs.Linked.{get-edges_of, edges_of-insert, len-edges_of, linked_counted}
use Rattle.node_graph.proofs.Seats.{seat_came, seat_at, here, same_seat}
use Rattle.node_graph.proofs.Steps.{Made, made_rows}

pub unmapped : (o : Option Entry) → option_map end_of o ≡ None → o ≡ None
unmapped None e = refl
unmapped (Some to) e = absurd (let wrong : Some (end_of to) ≡ None = e in cc)

pub not_removed : (edges : Edges) (key : EdgeKey) → create_refusal edges key ≡ None → is_removed edges key.directory ≡ false
not_removed edges key none = by_cases (is_removed edges key.directory) refl
  where
    by_cases : (b : Bool) → is_removed edges key.directory ≡ b → is_removed edges key.directory ≡ false
    by_cases true e = absurd (let wrong : Some fault.Removed ≡ None = sym (refusal_of edges key true (is_some (finite.get edges key)) (nat_le limit.MAX_NAMES (finite.len edges)) e refl refl) ∙ none in cc)
    by_cases false e = e

-- more room for nodes changes none
pub rows_roomier : (nodes : Slab Cell) (ends : Ends) (made room : ℕ) → AreRows nodes ends made → AreRows (record nodes { capacity = room }) ends made
rows_roomier nodes ends made room rows = record {
  root = rows.root;
  numbers = rows.numbers;
  apart = rows.apart;
  links = rows.links;
  needed = rows.needed;
  children = rows.children;
  parents = rows.parents;
  one_name = rows.one_name;
  ways_up = rows.ways_up;
  no_loop = rows.no_loop;
  few = rows.few;
  room = rows.room;
}

either : (a b : Bool) → not a && not b ≡ false → (a || b) ≡ true
either true b e = refl
either false true e = refl
either false false e = absurd (cc)

-- a directory that was not removed is reached
pub reached_here : (nodes : Slab Cell) (ends : Ends) (made : ℕ) (graph : Kept) (node : NodeRef) → kept_of nodes ends made ≡ graph → AreRows nodes ends made → Names graph node → kind_at graph node.number ≡ Some Directory → is_removed graph.edges node.number ≡ false
    → Sits nodes node.place node.number (λ c. (c.kind ≡ Directory) × (is_reached c ≡ true))
reached_here nodes ends made graph node view rows names directory stays_linked =
    let h = here nodes ends made graph node view names in
    let kind : h.cell.kind ≡ Directory = same_some _ _ (sym (ap (option_map (λ (s : Seat). s.kind)) h.seat) ∙ directory) in
    let linked : nat_lt 0 h.cell.links ≡ is_linked graph.edges node.number =
    ap (nat_lt 0) (rows.links node.place h.cell h.at ∙ ap (link_count (edges_of ends)) h.number) ∙ sym (linked_counted (edges_of ends) node.number) ∙ ap (λ (g : Kept). is_linked g.edges node.number) view in
    (h.cell, h.at, h.number, (kind, ap (λ n. n == 1 || nat_lt 0 h.cell.links) h.number ∙ ap (λ b. node.number == 1 || b) linked ∙ either (node.number == 1) (is_linked graph.edges node.number) stays_linked))

module _ (nodes reserved new : Slab Cell) (ends ends_new : Ends) (made : ℕ) (graph : Kept) (dir : NodeRef) (name : List ℕ) (kind : NodeKind) (mask : OperationSet) (bytes : List ℕ) (place : ℕ) (is : Cell)
    (view : kept_of nodes ends made ≡ graph) (rows : AreRows nodes ends made) (names : Names graph dir) (directory : kind_at graph dir.number ≡ Some Directory)
    (free : create_refusal graph.edges (name_in dir.number name) ≡ None) (room : graph.made < 2 ^ 63)
    (room_made : reserved.slots ≡ nodes.slots) (vacant : get reserved place ≡ None)
    (is_it : is ≡ record { number = made + 1; kind = kind; bytes = bytes; holds = 0; links = 1; parent = dir })
    (put : ends_new ≡ finite.insert ends (name_in dir.number name) (record { node = record { place = place; number = made + 1 }; kind = kind; mask = mask }))
    (u : Updates reserved new place (Some is)) where
  abbrev key : EdgeKey
  key = name_in dir.number name

  abbrev to : Entry
  to = record { node = record { place = place; number = made + 1 }; kind = kind; mask = mask }

  same_slots : (p : ℕ) → get reserved p ≡ get nodes p
  same_slots p = ap (λ (slots : List (Option Cell)). slice_index_or slots p None) room_made

  step : Updates nodes new place (Some is)
  step = record { changed = u.changed; others = λ p e. u.others p e ∙ same_slots p }

  absent : finite.get ends key ≡ None
  absent = unmapped _ (sym (get-edges_of ends key) ∙ ap (λ (g : Kept). finite.get g.edges key) view ∙ (unrefused graph.edges key free).absent)

  made_is : Made nodes new ends made key to is
  made_is = record {
    updates = step;
    vacant = sym (same_slots place) ∙ vacant;
    number = ap (λ (c : Cell). c.number) is_it;
    to_number = refl;
    kind = ap (λ (c : Cell). c.kind) is_it;
    links = ap (λ (c : Cell). c.links) is_it;
    absent = absent;
    up_number = ap (λ (c : Cell). c.parent.number) is_it;
    up = let P : NodeRef → Type 0 = λ n. Sits nodes n.place n.number (λ c. (c.kind ≡ Directory) × (is_reached c ≡ true)) in
        subst P (ap (λ (c : Cell). c.parent) (sym is_it)) (reached_here nodes ends made graph dir view rows names directory (not_removed graph.edges key free));
    few = let few = (unrefused graph.edges key free).few in let len = sym (len-edges_of ends) ∙ ap (λ (g : Kept). finite.len g.edges) view in omega (arith, few, len);
    room = let same = ap (λ (g : Kept). g.made) view in omega (arith, room, same);
  }

  pub rows_made : AreRows new ends_new (made + 1)
  rows_made = let P : Ends → Type 0 = λ e. AreRows new e (made + 1) in subst P (sym put) (made_rows nodes new ends made key to is rows made_is)

  number_far : (p : ℕ) (c : Cell) → get nodes p ≡ Some c → c.number ≢ made + 1
  number_far p c at e = let range = rows.numbers p c at in omega (arith, range.1, e)

  kept_at : (p : ℕ) (c : Cell) → get nodes p ≡ Some c → get new p ≡ Some c
  kept_at p c at = elim (cases p place) [
    | same e b ↦ absurd (let wrong : None ≡ Some c = sym vacant ∙ same_slots place ∙ ap (get nodes) (sym e) ∙ at in cc)
    | other e b ↦ step.others p e ∙ at
  ]

  pub adds : Adds graph (kept_of new ends_new (made + 1)) (made + 1) (seat_from place is) key (end_of to)
  adds =
      let P : Kept → Type 0 = λ g. Adds g (kept_of new ends_new (made + 1)) (made + 1) (seat_from place is) key (end_of to) in
      subst P view (record {
        edges = ap edges_of put ∙ edges_of-insert ends key to;
        next = refl;
        made = refl;
        here = ap (finite.get (seat_map new.slots)) (sym (ap (λ (c : Cell). c.number) is_it)) ∙ seat_at new rows_made.apart place is step.changed;
        fresh = none (seat_of (kept_of nodes ends made) (made + 1)) refl;
        others = λ n e. same_seat new nodes rows_made.apart rows.apart n
            (λ seat s. elim (cases s.place place) [
              | same eq b ↦ absurd (e (sym s.number ∙ ap (λ (c : Cell). c.number) (same_some _ _ (sym s.at ∙ ap (get new) eq ∙ step.changed)) ∙ ap (λ (c : Cell). c.number) is_it))
              | other eq b ↦ record { place = s.place; cell = s.cell; at = sym (step.others s.place eq) ∙ s.at; number = s.number; seat_is = s.seat_is }
            ])
            (λ seat s. record { place = s.place; cell = s.cell; at = kept_at s.place s.cell s.at; number = s.number; seat_is = s.seat_is });
        holds = ap (λ (c : Cell). c.holds) is_it;
        child = refl;
      })
    where
      none : (o : Option Seat) → seat_of (kept_of nodes ends made) (made + 1) ≡ o → seat_of (kept_of nodes ends made) (made + 1) ≡ None
      none None e = e
      none (Some seat) e = absurd (let s = seat_came nodes (made + 1) seat e in number_far s.place s.cell s.at s.number)

  pub child_named : (node : NodeRef) → node ≡ record { place = place; number = made + 1 } → Names (kept_of new ends_new (made + 1)) node
  child_named node e =
      let P : NodeRef → Type 0 = λ n. Names (kept_of new ends_new (made + 1)) n in
      subst P (sym e) (ap (option_map (λ (s : Seat). s.node)) (ap (finite.get (seat_map new.slots)) (sym (ap (λ (c : Cell). c.number) is_it)) ∙ seat_at new rows_made.apart place is step.changed) ∙ ap (λ n. Some (record { place = place; number = n })) (ap (λ (c : Cell). c.number) is_it))

  pub child_kind : kind_at (kept_of new ends_new (made + 1)) (graph.made + 1) ≡ Some kind
  child_kind =
      ap (λ (g : Kept). kind_at (kept_of new ends_new (made + 1)) (g.made + 1)) (sym view)
      ∙ ap (option_map (λ (s : Seat). s.kind)) (ap (finite.get (seat_map new.slots)) (sym (ap (λ (c : Cell). c.number) is_it)) ∙ seat_at new rows_made.apart place is step.changed)
      ∙ ap (λ (c : Cell). Some c.kind) is_it
