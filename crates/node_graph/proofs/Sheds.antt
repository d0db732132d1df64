-- A node that isn't needed is kept no more: what a graph keeps then, and what a call on a node finds.
use Rattle.std.proofs.Common.{◌≡◌, ◌≢◌, ℕ, Option, Some, None, refl, ap, sym, ◌∙◌, subst, arith, true, false, nat_lt, ◌⊎◌, inl, inr}
use Rattle.std.specs.Prelude.{◌==◌, ◌||◌}
use Rattle.std.specs.Option.{option_map, option_map_or}
use Rattle.std.proofs.lemmas.Bool.Decides.{nat_tests}
use Rattle.slab.specs.Slab.{Slab, get}
use Rattle.node_graph.specs.declared.nodes.NodeRef.{NodeRef}
use Rattle.node_graph.specs.Cell.{Cell}
use Rattle.node_graph.specs.Tree.{Tree, Edges, is_linked, link_count}
use Rattle.node_graph.specs.Graph.{Seat, Kept, seat_of, Names, kind_at, holds_at, is_kept, StandsFor, SameHolds, KeepsNames}
use Rattle.node_graph.specs.Ends.{Ends, edges_of}
use Rattle.node_graph.specs.Rows.{kept_of, AreAlmost, Forgets, keeps, drops}
use Rattle.node_graph.proofs.RowLists.{same_some, cases, same, other}
use Rattle.node_graph.proofs.Linked.{linked_counted}
use Rattle.node_graph.proofs.Seats.{AreApart, seat_came, seat_found}
use Rattle.node_graph.proofs.Steps.{Unneeded, unneeded}

-- each seat was there, and each one that was there is, but for one that need not be kept
pub record Sheds (old new : Kept) : Type 0 where
  pub edges : new.edges ≡ old.edges
  pub made : new.made ≡ old.made
  pub came : (n : ℕ) (seat : Seat) → seat_of new n ≡ Some seat → seat_of old n ≡ Some seat
  pub kept : (n : ℕ) (seat : Seat) → seat_of old n ≡ Some seat → (seat_of new n ≡ Some seat) ⊎ ((is_kept new n ≡ false) × (seat.holds ≡ 0) × (seat_of new n ≡ None))

pub sheds_none : (graph : Kept) → Sheds graph graph
sheds_none graph = record { edges = refl; made = refl; came = λ n seat there. there; kept = λ n seat there. inl there }

abbrev holds_of : Option Seat → ℕ
holds_of o = option_map_or (λ (s : Seat). s.holds) o 0

pub shed : (old new : Slab Cell) (ends : Ends) (made place : ℕ) → AreAlmost old ends made (λ q. q ≡ place) → Forgets old new place → Sheds (kept_of old ends made) (kept_of new ends made)
shed old new ends made place rows (keeps cell at needed is) = let P : Slab Cell → Type 0 = λ s. Sheds (kept_of old ends made) (kept_of s ends made) in subst P (sym is) (sheds_none _)
shed old new ends made place rows (drops cell at spare u count) =
    record {
      edges = refl;
      made = refl;
      came = λ n seat there. let one = seat_came new n seat there in seat_found old rows.apart n seat (record { place = one.place; cell = one.cell; at = (back one.place one.cell one.at).1; number = one.number; seat_is = one.seat_is });
      kept = λ n seat there.
          let one = seat_came old n seat there in
          elim (cases one.place place) [
            | same e b ↦
                let cell_is : cell ≡ one.cell = same_some _ _ (sym at ∙ ap (get old) (sym e) ∙ one.at) in
                let number : cell.number ≡ n = ap (λ (c : Cell). c.number) cell_is ∙ one.number in
                inr (not_kept n number, ap (λ (s : Seat). s.holds) one.seat_is ∙ ap (λ (c : Cell). c.holds) (sym cell_is) ∙ un.unheld, gone n number)
            | other e b ↦ inl (seat_found new apart_new n seat (record { place = one.place; cell = one.cell; at = u.others one.place e ∙ one.at; number = one.number; seat_is = one.seat_is }))
          ];
    }
  where
    un : Unneeded cell
    un = unneeded cell spare

    back : (p : ℕ) (c : Cell) → get new p ≡ Some c → (p ≢ place) × (get old p ≡ Some c)
    back p c there = elim (cases p place) [
      | same e b ↦ absurd (let wrong : None ≡ Some c = sym u.changed ∙ ap (get new) (sym e) ∙ there in cc)
      | other e b ↦ (e, sym (u.others p e) ∙ there)
    ]

    apart_new : AreApart new
    apart_new a b x y ax bx alike = rows.apart a b x y (back a x ax).1 (back b y bx).1 alike

    gone : (n : ℕ) → cell.number ≡ n → seat_of (kept_of new ends made) n ≡ None
    gone n number = by_cases (seat_of (kept_of new ends made) n) refl
      where
        by_cases : (o : Option Seat) → seat_of (kept_of new ends made) n ≡ o → seat_of (kept_of new ends made) n ≡ None
        by_cases None e = e
        by_cases (Some seat) e = absurd (
            let one = seat_came new n seat e in
            let was = back one.place one.cell one.at in
            was.0 (rows.apart one.place place one.cell cell was.1 at (one.number ∙ sym number))
            )

    not_kept : (n : ℕ) → cell.number ≡ n → is_kept (kept_of new ends made) n ≡ false
    not_kept n number =
        let no_root : n == 1 ≡ false = differs n (λ e. un.no_root (number ∙ e)) in
        let unlinked : is_linked (edges_of ends) n ≡ false = linked_counted (edges_of ends) n ∙ ap (nat_lt 0) (ap (link_count (edges_of ends)) (sym number) ∙ sym (rows.links place cell at) ∙ un.unlinked) in
        let unheld : holds_at (kept_of new ends made) n ≡ 0 = ap holds_of (gone n number) in
        ap (λ b. b || (is_linked (edges_of ends) n || nat_lt 0 (holds_at (kept_of new ends made) n))) no_root
        ∙ ap (λ b. b || nat_lt 0 (holds_at (kept_of new ends made) n)) unlinked ∙ ap (nat_lt 0) unheld
      where
        differs : (n : ℕ) → n ≢ 1 → n == 1 ≡ false
        differs n apart = grind (arith, nat_tests)

module _ {old new : Kept} (s : Sheds old new) where
  pub sheds_names : (node : NodeRef) → Names old node → is_kept new node.number ≡ true → Names new node × (kind_at new node.number ≡ kind_at old node.number)
  sheds_names node names kept = by_cases (seat_of old node.number) refl
    where
      by_cases : (o : Option Seat) → seat_of old node.number ≡ o → Names new node × (kind_at new node.number ≡ kind_at old node.number)
      by_cases None e = absurd (let wrong : None ≡ Some node = sym (ap (option_map (λ (s : Seat). s.node)) e) ∙ names in cc)
      by_cases (Some seat) e = elim (s.kept node.number seat e) [
        | inl there ↦ (ap (option_map (λ (s : Seat). s.node)) (there ∙ sym e) ∙ names, ap (option_map (λ (s : Seat). s.kind)) (there ∙ sym e))
        | inr gone ↦ absurd (let wrong : false ≡ true = sym gone.0 ∙ kept in cc)
      ]

  pub sheds_holds : SameHolds old new
  sheds_holds n = by_cases (seat_of old n) refl
    where
      none_new : (o : Option Seat) → seat_of old n ≡ None → seat_of new n ≡ o → holds_at new n ≡ 0
      none_new None e e2 = ap (λ o. option_map_or (λ (s : Seat). s.holds) o 0) e2
      none_new (Some seat) e e2 = absurd (let wrong : None ≡ Some seat = sym e ∙ s.came n seat e2 in cc)

      by_cases : (o : Option Seat) → seat_of old n ≡ o → holds_at new n ≡ holds_at old n
      by_cases None e = none_new (seat_of new n) e refl ∙ sym (ap (λ o. option_map_or (λ (s : Seat). s.holds) o 0) e)
      by_cases (Some seat) e = elim (s.kept n seat e) [
        | inl there ↦ ap (λ o. option_map_or (λ (s : Seat). s.holds) o 0) (there ∙ sym e)
        | inr gone ↦ ap (λ o. option_map_or (λ (s : Seat). s.holds) o 0) gone.2 ∙ sym (ap (λ o. option_map_or (λ (s : Seat). s.holds) o 0) e ∙ gone.1)
      ]

  pub sheds_stands : (tree : Tree) → StandsFor old tree → StandsFor new tree
  sheds_stands tree stands = record {
    made = s.made ∙ stands.made;
    edges = s.edges ∙ stands.edges;
    rows = λ n seat there. stands.rows n seat (s.came n seat there);
  }

  pub kept_alike : (n : ℕ) → is_kept new n ≡ is_kept old n
  kept_alike n = ap (λ (edges : Edges). n == 1 || (is_linked edges n || nat_lt 0 (holds_at new n))) s.edges ∙ ap (λ h. n == 1 || (is_linked old.edges n || nat_lt 0 h)) (sheds_holds n)

-- a step and then one that sheds
pub shed_names : (old mid new : Kept) → KeepsNames old mid → Sheds mid new → KeepsNames old new
shed_names old mid new stay_named s node names is_needed_now =
    let first = stay_named node names (sym (kept_alike s node.number) ∙ is_needed_now) in
    let second = sheds_names s node first.0 is_needed_now in
    (second.0, second.1 ∙ first.1)
