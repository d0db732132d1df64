-- What a graph keeps, over a slab of nodes.
use Rattle.std.proofs.Common.{◌≡◌, ◌≢◌, ℕ, zero, suc, ◌+◌, List, [], ◌∷◌, map, Option, Some, None, refl, ap, sym, ◌∙◌, subst, arith, cond, true, false}
use Rattle.std.specs.Prelude.{is_some, slice_index_or, IsSome}
use Rattle.std.specs.Option.{option_map}
use Rattle.std.specs.declared.cmp.Ordering.{Ordering}
use Rattle.std.specs.declared.cmp.Ordering.TheVariants.{Less, Equal, Greater}
use Rattle.std.specs.Ordering.{nat_cmp, is_eq, eq_by_cmp}
use Rattle.std.specs.Cmp.{nat_cmp_total, tied_itself}
use Rattle.std.specs.FinMap as finite
use Rattle.std.specs.FinMap.Entries as entry
use Rattle.slab.specs.Slab.{Slab, get, entries_from, Updates}
use Rattle.node_graph.specs.declared.nodes.NodeRef.{NodeRef}
use Rattle.node_graph.specs.Cell.{Cell}
use Rattle.node_graph.specs.Graph.{Seat, Kept, seat_of, Names}
use Rattle.node_graph.specs.Ends.{Ends}
use Rattle.node_graph.specs.Rows.{seat_from, seat_entry, seat_map, kept_of}
use Rattle.node_graph.proofs.RowLists.{same_some, cases, same, other}
use Rattle.node_graph.proofs.States.{Replaces}

pub equal : (o : Ordering) → is_eq o ≡ true → o ≡ Equal
equal Less h = absurd (cc)
equal Equal h = refl
equal Greater h = absurd (cc)

-- the seat of a number is that of the cell with this number
pub record IsSeat (nodes : Slab Cell) (n : ℕ) (seat : Seat) : Type 0 where
  pub place : ℕ
  pub cell : Cell
  pub at : get nodes place ≡ Some cell
  pub number : cell.number ≡ n
  pub seat_is : seat ≡ seat_from place cell

-- no two cells have one number
abbrev pub AreApart : Slab Cell → Type 0
AreApart nodes = (a b : ℕ) (x y : Cell) → get nodes a ≡ Some x → get nodes b ≡ Some y → x.number ≡ y.number → a ≡ b

abbrev pub seats_from : ℕ → List (Option Cell) → List (ℕ × Seat)
seats_from first slots = map seat_entry (entries_from first slots)

pub came_from : (first : ℕ) (slots : List (Option Cell)) (n : ℕ) (seat : Seat) → entry.find nat_cmp n (seats_from first slots) ≡ Some seat
    → (at : ℕ) × (cell : Cell) × (slice_index_or slots at None ≡ Some cell) × (cell.number ≡ n) × (seat ≡ seat_from (first + at) cell)
came_from first [] n seat found = absurd (let wrong : None ≡ Some seat = found in cc)
came_from first (None ∷ slots) n seat found =
    let rest = came_from (first + 1) slots n seat found in
    let shift : first + 1 + rest.0 ≡ first + suc rest.0 = omega arith in
    (suc rest.0, rest.1, rest.2, rest.3, rest.4 ∙ ap (λ p. seat_from p rest.1) shift)
came_from first (Some cell ∷ slots) n seat found =
    elim (eq_by_cmp nat_cmp n cell.number) as (λ b. eq_by_cmp nat_cmp n cell.number ≡ b → cond b (Some (seat_from first cell)) (entry.find nat_cmp n (seats_from (first + 1) slots)) ≡ Some seat → (at : ℕ) × (c : Cell) × (slice_index_or (Some cell ∷ slots) at None ≡ Some c) × (c.number ≡ n) × (seat ≡ seat_from (first + at) c)) [
      | true ↦ λ b is.
          let zeroed : first + 0 ≡ first = omega arith in
          (0, cell, refl, sym (finite.nat_cmp-IsAntisymmetric n cell.number (equal _ b)), sym (same_some _ _ is) ∙ ap (λ p. seat_from p cell) (sym zeroed))
      | false ↦ λ b is.
          let rest = came_from (first + 1) slots n seat is in
          let shift : first + 1 + rest.0 ≡ first + suc rest.0 = omega arith in
          (suc rest.0, rest.1, rest.2, rest.3, rest.4 ∙ ap (λ p. seat_from p rest.1) shift)
    ] refl found

pub some_from : (first : ℕ) (slots : List (Option Cell)) (n at : ℕ) (cell : Cell) → slice_index_or slots at None ≡ Some cell → cell.number ≡ n → is_some (entry.find nat_cmp n (seats_from first slots)) ≡ true
some_from first [] n at cell there is = absurd (let wrong : None ≡ Some cell = there in cc)
some_from first (None ∷ slots) n zero cell there is = absurd (let wrong : None ≡ Some cell = there in cc)
some_from first (None ∷ slots) n (suc at) cell there is = some_from (first + 1) slots n at cell there is
some_from first (Some x ∷ slots) n zero cell there is =
    let x_is : x.number ≡ n = ap (λ (c : Cell). c.number) (same_some _ _ there) ∙ is in
    let tied : eq_by_cmp nat_cmp n x.number ≡ true = ap (eq_by_cmp nat_cmp n) x_is ∙ ap is_eq (tied_itself nat_cmp_total n) in
    ap (λ b. is_some (cond b (Some (seat_from first x)) (entry.find nat_cmp n (seats_from (first + 1) slots)))) tied
some_from first (Some x ∷ slots) n (suc at) cell there is =
    let rest = some_from (first + 1) slots n at cell there is in
    elim (eq_by_cmp nat_cmp n x.number) as (λ b. is_some (cond b (Some (seat_from first x)) (entry.find nat_cmp n (seats_from (first + 1) slots))) ≡ true) [
      | true ↦ refl
      | false ↦ rest
    ]

pub get-seat_map : (slots : List (Option Cell)) (n : ℕ) → finite.get (seat_map slots) n ≡ entry.find nat_cmp n (seats_from 0 slots)
unfolding seat_map
get-seat_map slots n = finite.get-from_entries nat_cmp_total _ n

module _ (nodes : Slab Cell) where
  pub seat_came : (n : ℕ) (seat : Seat) → finite.get (seat_map nodes.slots) n ≡ Some seat → IsSeat nodes n seat
  seat_came n seat there =
      let one = came_from 0 nodes.slots n seat (sym (get-seat_map nodes.slots n) ∙ there) in
      let zeroed : 0 + one.0 ≡ one.0 = omega arith in
      record { place = one.0; cell = one.1; at = one.2; number = one.3; seat_is = one.4 ∙ ap (λ p. seat_from p one.1) zeroed }

  pub seat_found : AreApart nodes → (n : ℕ) (seat : Seat) → IsSeat nodes n seat → finite.get (seat_map nodes.slots) n ≡ Some seat
  seat_found apart n seat is =
      by_cases (finite.get (seat_map nodes.slots) n) refl
    where
      there : is_some (finite.get (seat_map nodes.slots) n) ≡ true
      there = ap is_some (get-seat_map nodes.slots n) ∙ some_from 0 nodes.slots n is.place is.cell is.at is.number

      by_cases : (o : Option Seat) → finite.get (seat_map nodes.slots) n ≡ o → finite.get (seat_map nodes.slots) n ≡ Some seat
      by_cases None e = absurd (let wrong : false ≡ true = sym (ap is_some e) ∙ there in cc)
      by_cases (Some found) e =
          let came = seat_came n found e in
          let place : came.place ≡ is.place = apart came.place is.place came.cell is.cell came.at is.at (came.number ∙ sym is.number) in
          let cell : came.cell ≡ is.cell = same_some _ _ (sym came.at ∙ ap (get nodes) place ∙ is.at) in
          e ∙ ap Some (came.seat_is ∙ ap (λ p. seat_from p came.cell) place ∙ ap (seat_from is.place) cell ∙ sym is.seat_is)

  pub seat_at : AreApart nodes → (place : ℕ) (cell : Cell) → get nodes place ≡ Some cell → finite.get (seat_map nodes.slots) cell.number ≡ Some (seat_from place cell)
  seat_at apart place cell at = seat_found apart cell.number _ (record { place = place; cell = cell; at = at; number = refl; seat_is = refl })

pub same_seat : (a b : Slab Cell) → AreApart a → AreApart b → (n : ℕ) → ((seat : Seat) → IsSeat a n seat → IsSeat b n seat) → ((seat : Seat) → IsSeat b n seat → IsSeat a n seat)
    → finite.get (seat_map a.slots) n ≡ finite.get (seat_map b.slots) n
same_seat a b apart_a apart_b n there back = by_cases (finite.get (seat_map a.slots) n) refl
  where
    by_cases : (o : Option Seat) → finite.get (seat_map a.slots) n ≡ o → finite.get (seat_map a.slots) n ≡ finite.get (seat_map b.slots) n
    by_cases (Some seat) e = e ∙ sym (seat_found b apart_b n seat (there seat (seat_came a n seat e)))
    by_cases None e = none (finite.get (seat_map b.slots) n) refl
      where
        none : (o : Option Seat) → finite.get (seat_map b.slots) n ≡ o → finite.get (seat_map a.slots) n ≡ finite.get (seat_map b.slots) n
        none None e2 = e ∙ sym e2
        none (Some seat) e2 = absurd (let wrong : None ≡ Some seat = sym e ∙ seat_found a apart_a n seat (back seat (seat_came b n seat e2)) in cc)

-- a reference that names a node leads to its cell
pub record Here (nodes : Slab Cell) (graph : Kept) (node : NodeRef) : Type 0 where
  pub cell : Cell
  pub at : get nodes node.place ≡ Some cell
  pub number : cell.number ≡ node.number
  pub seat : seat_of graph node.number ≡ Some (seat_from node.place cell)

pub here : (nodes : Slab Cell) (ends : Ends) (made : ℕ) (graph : Kept) (node : NodeRef) → kept_of nodes ends made ≡ graph → Names graph node → Here nodes graph node
here nodes ends made graph node view names = by_cases (seat_of graph node.number) refl
  where
    by_cases : (o : Option Seat) → seat_of graph node.number ≡ o → Here nodes graph node
    by_cases None e = absurd (let wrong : None ≡ Some node = sym (ap (option_map (λ (s : Seat). s.node)) e) ∙ names in cc)
    by_cases (Some seat) e =
        let came = seat_came nodes node.number seat (ap (λ (g : Kept). seat_of g node.number) view ∙ e) in
        let node_is : record { place = came.place; number = came.cell.number } ≡ node = sym (ap (λ (s : Seat). s.node) came.seat_is) ∙ same_some _ _ (sym (ap (option_map (λ (s : Seat). s.node)) e) ∙ names) in
        let place : came.place ≡ node.place = ap (λ (n : NodeRef). n.place) node_is in
        record {
          cell = came.cell;
          at = ap (get nodes) (sym place) ∙ came.at;
          number = came.number;
          seat = e ∙ ap Some (came.seat_is ∙ ap (λ p. seat_from p came.cell) place);
        }

-- ---- one cell becomes another with the same number

module _ {old new : Slab Cell} {place : ℕ} {was is : Cell} (u : Updates old new place (Some is)) (before : get old place ≡ Some was) (number : is.number ≡ was.number) where
  pub data At (p : ℕ) (cell : Cell) : Type 0 where
    changed : p ≡ place → cell ≡ is → At p cell
    kept : p ≢ place → get old p ≡ Some cell → At p cell

  pub at_new : (p : ℕ) (cell : Cell) → get new p ≡ Some cell → At p cell
  at_new p cell there = elim (cases p place) [
    | same e b ↦ changed e (same_some _ _ (sym there ∙ ap (get new) e ∙ u.changed))
    | other e b ↦ kept e (sym (u.others p e) ∙ there)
  ]

  pub apart_still : AreApart old → AreApart new
  apart_still apart a b x y ax bx alike =
      let x_old = number_of_old a x ax in
      let y_old = number_of_old b y bx in
      apart a b x_old.0 y_old.0 x_old.1 y_old.1 (x_old.2 ∙ alike ∙ sym y_old.2)
    where
      number_of_old : (p : ℕ) (cell : Cell) → get new p ≡ Some cell → (c : Cell) × (get old p ≡ Some c) × (c.number ≡ cell.number)
      number_of_old p cell there = elim (at_new p cell there) [
        | changed e is_it ↦ (was, ap (get old) e ∙ before, sym number ∙ ap (λ (c : Cell). c.number) (sym is_it))
        | kept e at ↦ (cell, at, refl)
      ]

  pub other_seat : AreApart old → (n : ℕ) → n ≢ was.number → finite.get (seat_map new.slots) n ≡ finite.get (seat_map old.slots) n
  other_seat apart n not_it = same_seat new old (apart_still apart) apart n
      (λ seat s. elim (at_new s.place s.cell s.at) [
        | changed e is_it ↦ absurd (not_it (sym s.number ∙ ap (λ (c : Cell). c.number) is_it ∙ number))
        | kept e at ↦ record { place = s.place; cell = s.cell; at = at; number = s.number; seat_is = s.seat_is }
      ])
      (λ seat s. elim (cases s.place place) [
        | same e b ↦ absurd (let cell_is : was ≡ s.cell = same_some _ _ (sym before ∙ ap (get old) (sym e) ∙ s.at) in not_it (sym s.number ∙ ap (λ (c : Cell). c.number) (sym cell_is)))
        | other e b ↦ record { place = s.place; cell = s.cell; at = u.others s.place e ∙ s.at; number = s.number; seat_is = s.seat_is }
      ])

  pub replaced : (ends : Ends) (made : ℕ) → AreApart old → is.kind ≡ was.kind → Replaces (kept_of old ends made) (kept_of new ends made) was.number (seat_from place was) (seat_from place is)
  replaced ends made apart kind = record {
    edges = refl;
    made = refl;
    before = seat_at old apart place was before;
    here = ap (finite.get (seat_map new.slots)) (sym number) ∙ seat_at new (apart_still apart) place is u.changed;
    others = other_seat apart;
    node = ap (λ n. record { place = place; number = n }) number;
    kind = kind;
  }

module _ (nodes : Slab Cell) (ends : Ends) (made : ℕ) (graph : Kept) (node : NodeRef) (view : kept_of nodes ends made ≡ graph) (names : Names graph node) where
  pub present : IsSome (get nodes node.place)
  present = ap is_some (here nodes ends made graph node view names).at

  pub seat_here : (value : Cell) → get nodes node.place ≡ Some value → seat_of graph node.number ≡ Some (seat_from node.place value)
  seat_here value at = let h = here nodes ends made graph node view names in h.seat ∙ ap (λ (c : Cell). Some (seat_from node.place c)) (same_some _ _ (sym h.at ∙ at))

  pub number_here : (value : Cell) → get nodes node.place ≡ Some value → value.number ≡ node.number
  number_here value at = let h = here nodes ends made graph node view names in ap (λ (c : Cell). c.number) (same_some _ _ (sym at ∙ h.at)) ∙ h.number

  -- one cell, which a reference names, becomes another
  pub replaced_here : (value is : Cell) (new : Slab Cell) → AreApart nodes → get nodes node.place ≡ Some value → Updates nodes new node.place (Some is) → is.number ≡ value.number → is.kind ≡ value.kind
      → Replaces graph (kept_of new ends made) node.number (seat_from node.place value) (seat_from node.place is)
  replaced_here value is new apart at u number kind =
      let step = replaced u at number ends made apart kind in
      let P : Kept → Type 0 = λ g. Replaces g (kept_of new ends made) node.number (seat_from node.place value) (seat_from node.place is) in
      let Q : ℕ → Type 0 = λ n. Replaces (kept_of nodes ends made) (kept_of new ends made) n (seat_from node.place value) (seat_from node.place is) in
      subst P view (subst Q (number_here value at) step)
