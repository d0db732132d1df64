-- Which nodes have to be kept, and how many: just those that are.
use Rattle.std.proofs.Common.{◌≡◌, ◌≢◌, ℕ, zero, suc, ◌+◌, ◌<◌, ◌≤◌, List, [], ◌∷◌, map, Option, Some, None, refl, ap, sym, ◌∙◌, arith, cond, Bool, true, false, eqb-true, nat_lt}
use Rattle.std.specs.Prelude.{slice_index_or, ◌==◌, ◌||◌, count_by, is_some}
use Rattle.std.specs.Option.{option_map_or}
use Rattle.std.specs.FinMap as finite
use Rattle.std.specs.FinMap.Entries as entry
use Rattle.std.specs.Ordering.{nat_cmp, eq_by_cmp}
use Rattle.std.proofs.lemmas.List.Sums.{sum_by-append, sum_by-cons}
use Rattle.slab.specs.Slab.{Slab, get, slab_len, entries_from}
use Rattle.node_graph.specs.Cell.{Cell}
use Rattle.node_graph.specs.Tree.{EdgeTo, is_linked, link_count}
use Rattle.node_graph.specs.Graph.{Seat, Kept, seat_of, holds_at, is_kept, numbers_to}
use Rattle.node_graph.specs.Ends.{Ends, end_of, edges_of}
use Rattle.node_graph.specs.Rows.{seat_from, seat_entry, kept_of, AreRows}
use Rattle.node_graph.proofs.RowLists.{mapped, cases, same, other}
use Rattle.node_graph.proofs.Linked.{get-edges_of, linked_by, linked_counted}
use Rattle.node_graph.proofs.Seats.{seat_came, seat_at, came_from, some_from, get-seat_map, equal}

-- one more number is counted where it passes
count_next : (p : ℕ → Bool) (n : ℕ) → count_by p (numbers_to (suc n)) ≡ count_by p (numbers_to n) + cond (p (n + 1)) 1 0
count_next p n =
    let more = sum_by-append (λ x. cond (p x) 1 0) (numbers_to n) ((n + 1) ∷ []) in
    more ∙ omega (arith, sum_by-cons (λ x. cond (p x) 1 0) (n + 1) [])

count_same : (p q : ℕ → Bool) (made : ℕ) → ((n : ℕ) → p n ≡ q n) → count_by p (numbers_to made) ≡ count_by q (numbers_to made)
count_same p q zero alike = refl
count_same p q (suc made) alike =
    let a = count_next p made in
    let b = count_next q made in
    let rest = count_same p q made alike in
    let last : cond {A = ℕ} (p (made + 1)) 1 0 ≡ cond {A = ℕ} (q (made + 1)) 1 0 = ap (λ b. cond b 1 0) (alike (made + 1)) in
    omega (arith, a, b, rest, last)

-- where p passes at one number more than q
count_above : (p q : ℕ → Bool) (k made : ℕ) → made < k → ((n : ℕ) → n ≢ k → p n ≡ q n) → count_by p (numbers_to made) ≡ count_by q (numbers_to made)
count_above p q k zero over alike = refl
count_above p q k (suc made) over alike =
    let a = count_next p made in
    let b = count_next q made in
    let rest = count_above p q k made (omega (arith, over)) alike in
    let last : cond {A = ℕ} (p (made + 1)) 1 0 ≡ cond {A = ℕ} (q (made + 1)) 1 0 = ap (λ b. cond b 1 0) (alike (made + 1) (λ e. absurd (omega (arith, e, over)))) in
    omega (arith, a, b, rest, last)

count_more : (p q : ℕ → Bool) (k made : ℕ) → 1 ≤ k → k ≤ made → p k ≡ true → q k ≡ false → ((n : ℕ) → n ≢ k → p n ≡ q n) → count_by p (numbers_to made) ≡ count_by q (numbers_to made) + 1
count_more p q k zero some within here there alike = absurd (omega (arith, some, within))
count_more p q k (suc made) some within here there alike =
    let a = count_next p made in
    let b = count_next q made in
    elim (cases k (made + 1)) [
      | same e is ↦
          let rest = count_above p q k made (omega (arith, e)) alike in
          let one : cond {A = ℕ} (p (made + 1)) 1 0 ≡ 1 = ap (λ b. cond b 1 0) (ap p (sym e) ∙ here) in
          let none : cond {A = ℕ} (q (made + 1)) 1 0 ≡ 0 = ap (λ b. cond b 1 0) (ap q (sym e) ∙ there) in
          omega (arith, a, b, rest, one, none)
      | other e is ↦
          let rest = count_more p q k made some (omega (arith, within, e)) here there alike in
          let last : cond {A = ℕ} (p (made + 1)) 1 0 ≡ cond {A = ℕ} (q (made + 1)) 1 0 = ap (λ b. cond b 1 0) (alike (made + 1) (λ back. e (sym back))) in
          omega (arith, a, b, rest, last)
    ]

abbrev has_seat : ℕ → List (Option Cell) → ℕ → Bool
has_seat first slots n = is_some (entry.find nat_cmp n (map seat_entry (entries_from first slots)))

none_counted : (made : ℕ) → count_by (λ n. false) (numbers_to made) ≡ 0
none_counted zero = refl
none_counted (suc made) = let a = count_next (λ n. false) made in let rest = none_counted made in omega (arith, a, rest)

count_slots : (first : ℕ) (slots : List (Option Cell)) (made : ℕ) → ((a b : ℕ) (x y : Cell) → slice_index_or slots a None ≡ Some x → slice_index_or slots b None ≡ Some y → x.number ≡ y.number → a ≡ b)
    → ((a : ℕ) (x : Cell) → slice_index_or slots a None ≡ Some x → (1 ≤ x.number) × (x.number ≤ made)) → count_by (has_seat first slots) (numbers_to made) ≡ count_by is_some slots
count_slots first [] made apart range = none_counted made
count_slots first (None ∷ slots) made apart range =
    count_slots (first + 1) slots made (λ a b x y ax bx alike. pred (apart (suc a) (suc b) x y ax bx alike)) (λ a x ax. range (suc a) x ax) ∙ omega (arith, sum_by-cons (λ o. cond (is_some o) 1 0) None slots)
  where
    pred : {a b : ℕ} → suc a ≡ suc b → a ≡ b
    pred e = omega (arith, e)
count_slots first (Some cell ∷ slots) made apart range =
    let rest = count_slots (first + 1) slots made (λ a b x y ax bx alike. pred (apart (suc a) (suc b) x y ax bx alike)) (λ a x ax. range (suc a) x ax) in
    let within = range 0 cell refl in
    let more = count_more (has_seat first (Some cell ∷ slots)) (has_seat (first + 1) slots) cell.number made within.0 within.1 here nowhere_else (λ n e. beside n e) in
    more ∙ ap (λ n. n + 1) rest ∙ omega (arith, sum_by-cons (λ o. cond (is_some o) 1 0) (Some cell) slots)
  where
    pred : {a b : ℕ} → suc a ≡ suc b → a ≡ b
    pred e = omega (arith, e)

    here : has_seat first (Some cell ∷ slots) cell.number ≡ true
    here = some_from first (Some cell ∷ slots) cell.number 0 cell refl refl

    nowhere_else : has_seat (first + 1) slots cell.number ≡ false
    nowhere_else = by_cases (entry.find nat_cmp cell.number (map seat_entry (entries_from (first + 1) slots))) refl
      where
        by_cases : (o : Option Seat) → entry.find nat_cmp cell.number (map seat_entry (entries_from (first + 1) slots)) ≡ o → has_seat (first + 1) slots cell.number ≡ false
        by_cases None e = ap is_some e
        by_cases (Some seat) e = absurd (let came = came_from (first + 1) slots cell.number seat e in let places = apart (suc came.0) 0 came.1 cell came.2 refl came.3 in omega (arith, places))

    beside : (n : ℕ) → n ≢ cell.number → has_seat first (Some cell ∷ slots) n ≡ has_seat (first + 1) slots n
    beside n e = elim (eq_by_cmp nat_cmp n cell.number) as (λ b. eq_by_cmp nat_cmp n cell.number ≡ b → is_some (cond b (Some (seat_from first cell)) (entry.find nat_cmp n (map seat_entry (entries_from (first + 1) slots)))) ≡ has_seat (first + 1) slots n) [
      | true ↦ λ tied. absurd (e (finite.nat_cmp-IsAntisymmetric n cell.number (equal _ tied)))
      | false ↦ λ tied. refl
    ] refl

module _ (nodes : Slab Cell) (ends : Ends) (made : ℕ) (rows : AreRows nodes ends made) where
  abbrev graph : Kept
  graph = kept_of nodes ends made

  some_seat : (place n : ℕ) (cell : Cell) → get nodes place ≡ Some cell → cell.number ≡ n → is_some (seat_of graph n) ≡ true
  some_seat place n cell at number = ap (λ n. is_some (seat_of graph n)) (sym number) ∙ ap is_some (seat_at nodes rows.apart place cell at)

  held_seat : (o : Option Seat) → nat_lt 0 (option_map_or (λ (s : Seat). s.holds) o 0) ≡ true → is_some o ≡ true
  held_seat None held = absurd (cc)
  held_seat (Some seat) held = refl

  linked_seat : (n : ℕ) → is_linked (edges_of ends) n ≡ true → is_some (seat_of graph n) ≡ true
  linked_seat n linked =
      let edge = linked_by (edges_of ends) n linked in
      let one = mapped end_of (finite.get ends edge.0) edge.1 (sym (get-edges_of ends edge.0) ∙ edge.2) in
      let child = rows.children edge.0 one.0 one.1 in
      some_seat one.0.node.place n child.0 child.1 (child.2 ∙ ap (λ (to : EdgeTo). to.child) one.2 ∙ edge.3)

  seated : (n : ℕ) → is_kept graph n ≡ true → is_some (seat_of graph n) ≡ true
  seated n kept =
      elim (n == 1) as (λ b. n == 1 ≡ b → (b || (is_linked (edges_of ends) n || nat_lt 0 (holds_at graph n))) ≡ true → is_some (seat_of graph n) ≡ true) [
        | true ↦ λ e kept. some_seat 0 n rows.root.0 rows.root.1 (rows.root.2 ∙ sym (eqb-true n 1 e))
        | false ↦ λ e kept.
            elim (is_linked (edges_of ends) n) as (λ b. is_linked (edges_of ends) n ≡ b → (b || nat_lt 0 (holds_at graph n)) ≡ true → is_some (seat_of graph n) ≡ true) [
              | true ↦ λ linked kept. linked_seat n linked
              | false ↦ λ linked kept. held_seat (seat_of graph n) kept
            ] refl kept
      ] refl kept

  -- what is kept has to be
  seat_kept : (n : ℕ) (seat : Seat) → seat_of graph n ≡ Some seat → is_kept graph n ≡ true
  seat_kept n seat there =
      let one = seat_came nodes n seat there in
      let needed = rows.needed one.place one.cell one.at (λ x. x) in
      let links : nat_lt 0 one.cell.links ≡ is_linked (edges_of ends) n = ap (nat_lt 0) (rows.links one.place one.cell one.at ∙ ap (link_count (edges_of ends)) one.number) ∙ sym (linked_counted (edges_of ends) n) in
      let holds : one.cell.holds ≡ holds_at graph n = ap (λ (s : Seat). s.holds) (sym one.seat_is) ∙ ap (λ s. option_map_or (λ (s : Seat). s.holds) s 0) (sym there) in
      sym (ap (λ n. n == 1 || (nat_lt 0 one.cell.links || nat_lt 0 one.cell.holds)) one.number ∙ ap (λ b. n == 1 || (b || nat_lt 0 one.cell.holds)) links ∙ ap (λ h. n == 1 || (is_linked (edges_of ends) n || nat_lt 0 h)) holds) ∙ needed

  pub kept_seat : (n : ℕ) → is_kept graph n ≡ is_some (seat_of graph n)
  kept_seat n = by_cases (is_kept graph n) (seat_of graph n) refl refl
    where
      by_cases : (b : Bool) (o : Option Seat) → is_kept graph n ≡ b → seat_of graph n ≡ o → is_kept graph n ≡ is_some (seat_of graph n)
      by_cases true o e s = e ∙ sym (seated n e)
      by_cases false None e s = e ∙ sym (ap is_some s)
      by_cases false (Some seat) e s = absurd (let wrong : false ≡ true = sym e ∙ seat_kept n seat s in cc)

  pub count_kept : slab_len nodes ≡ count_by (is_kept graph) (numbers_to made)
  count_kept = sym (
      count_same (is_kept graph) (has_seat 0 nodes.slots) made (λ n. kept_seat n ∙ ap is_some (get-seat_map nodes.slots n))
      ∙ count_slots 0 nodes.slots made rows.apart rows.numbers
      )
