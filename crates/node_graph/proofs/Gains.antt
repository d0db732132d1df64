-- One name more leads to a node: what nodes and names are then, and what a graph keeps.
use Rattle.std.proofs.Common.{◌≡◌, ◌≢◌, ℕ, suc, ◌+◌, ◌-◌, ◌^◌, ◌<◌, ◌≤◌, List, [], ◌∷◌, length, map, Option, Some, None, IfSome, refl, ap, sym, ◌∙◌, subst, arith, cond, true, false, nat_lt}
use Rattle.std.specs.Prelude.{◌==◌, ◌||◌, is_some, filter}
use Rattle.std.specs.Option.{option_map}
use Rattle.std.specs.FinMap as finite
use Rattle.std.proofs.lemmas.Bool.Decides.{nat_tests}
use Rattle.slab.specs.Slab.{Slab, get, Updates}
use Rattle.fidl_names.specs.declared.limits.TheConstants as limit
use Rattle.node_graph.specs.declared.nodes.NodeKind.TheVariants.{Directory}
use Rattle.node_graph.specs.declared.nodes.NodeRef.{NodeRef}
use Rattle.node_graph.specs.declared.nodes.Entry.{Entry}
use Rattle.node_graph.specs.Cell.{Cell}
use Rattle.node_graph.specs.Tree.{Edges, EdgeKey, EdgeTo, link_count, has_one_name, add}
use Rattle.node_graph.specs.Graph.{Kept, Names, kind_at, create_refusal}
use Rattle.node_graph.specs.Ends.{Ends, end_of, edges_of, name_in}
use Rattle.node_graph.specs.Rows.{seat_from, kept_of, is_needed, is_reached, Sits, AreRows, GainsName}
use Rattle.node_graph.proofs.RowLists.{same_some, mapped}
use Rattle.node_graph.proofs.States.{Replaces, unrefused, named_still, same_holds, leads_stay}
use Rattle.node_graph.proofs.Ordered.{edges_total, comes, fresh, known}
use Rattle.node_graph.proofs.Linked.{get-edges_of, edges_of-insert, link_count-put, one_if, len-edges_of}
use Rattle.node_graph.proofs.Loops.{NoLoop, no_loop_put}
use Rattle.node_graph.proofs.Seats.{changed, kept, at_new, apart_still, replaced}
use Rattle.node_graph.proofs.Steps.{sits_on, leads_count, apart_numbers, equal_numbers, or_true}
use Rattle.node_graph.proofs.Losses.{Turns}
use Rattle.node_graph.proofs.Creates.{unmapped, not_removed, reached_here}

-- no more names lead to a node than there are
fewer_linked : (number : ℕ) (ts : List EdgeTo) → length (filter (λ (to : EdgeTo). to.child == number) ts) ≤ length ts
fewer_linked number [] = omega arith
fewer_linked number (to ∷ ts) =
    let rest = fewer_linked number ts in
    elim (to.child == number) as (λ b. length (cond b (to ∷ filter (λ (to : EdgeTo). to.child == number) ts) (filter (λ (to : EdgeTo). to.child == number) ts)) ≤ suc (length ts)) [
      | true ↦ omega (arith, rest)
      | false ↦ omega (arith, rest)
    ]

length-mapped : {A B : Type 0} (f : A → B) (xs : List A) → length (map f xs) ≡ length xs
length-mapped f [] = refl
length-mapped f (x ∷ xs) = ap suc (length-mapped f xs)

pub links_few : (ends : Ends) (number : ℕ) → link_count (edges_of ends) number ≤ finite.len ends
links_few ends number =
    let few = fewer_linked number (finite.values (edges_of ends)) in
    let all : length (finite.values (edges_of ends)) ≡ finite.len ends = length-mapped (λ (e : EdgeKey × EdgeTo). e.1) (finite.entries (edges_of ends)) ∙ sym (finite.len-entries (edges_of ends)) ∙ len-edges_of ends in
    omega (arith, few, all)

module _ (old new : Slab Cell) (ends : Ends) (made : ℕ) (from key : EdgeKey) (to : Entry) (was is : Cell)
    (rows : AreRows old ends made) (there : finite.get ends from ≡ Some to) (absent : finite.get ends key ≡ None) (at : get old to.node.place ≡ Some was)
    (u : Updates old new to.node.place (Some is)) (is_it : is ≡ record was { links = was.links + 1 })
    (up : (place : ℕ) × Sits old place key.directory (λ c. (c.kind ≡ Directory) × (is_reached c ≡ true)))
    (many : has_one_name to.kind ≡ false) (room : finite.len ends < limit.MAX_NAMES) where
  number : is.number ≡ was.number
  number = ap (λ (c : Cell). c.number) is_it

  kind : is.kind ≡ was.kind
  kind = ap (λ (c : Cell). c.kind) is_it

  links : is.links ≡ was.links + 1
  links = ap (λ (c : Cell). c.links) is_it

  parent : is.parent ≡ was.parent
  parent = ap (λ (c : Cell). c.parent) is_it

  was_number : was.number ≡ to.node.number
  was_number = let child = rows.children from to there in ap (λ (c : Cell). c.number) (same_some _ _ (sym at ∙ child.1)) ∙ child.2

  was_kind : was.kind ≡ to.kind
  was_kind = let child = rows.children from to there in ap (λ (c : Cell). c.kind) (same_some _ _ (sym at ∙ child.1)) ∙ child.3

  linked : 1 ≤ was.links
  linked =
      let some = leads_count ends from to there in
      let count : was.links ≡ link_count (edges_of ends) to.node.number = rows.links to.node.place was at ∙ ap (link_count (edges_of ends)) was_number in
      omega (arith, some, count)

  counted : (n : ℕ) → link_count (edges_of (finite.insert ends key to)) n ≡ link_count (edges_of ends) n + one_if (to.node.number == n)
  counted n = ap (λ (edges : Edges). link_count edges n) (edges_of-insert ends key to) ∙ link_count-put (edges_of ends) key (end_of to) n (get-edges_of ends key ∙ ap (option_map end_of) absent)

  some_links : nat_lt 0 is.links ≡ true
  some_links = positive is.links was.links links
    where
      positive : (n m : ℕ) → n ≡ m + 1 → nat_lt 0 n ≡ true
      positive n m e = grind (arith, nat_tests)

  reached_now : is_reached is ≡ true
  reached_now = ap (λ b. is.number == 1 || b) some_links ∙ or_true (is.number == 1)

  needed_now : is_needed is ≡ true
  needed_now = ap (λ b. is.number == 1 || (b || nat_lt 0 is.holds)) some_links ∙ or_true (is.number == 1)

  on : (p n : ℕ) (P : Cell → Type 0) → (P was → P is) → Sits old p n P → Sits new p n P
  on p n P turns sits = sits_on u at number p n P turns sits

  -- a node that may have many names is no directory
  no_parent : (p n : ℕ) → Sits old p n (λ c. (c.kind ≡ Directory) × (is_reached c ≡ true)) → n ≢ to.node.number
  no_parent p n (cell, cell_at, numbered, above) e =
      let place = rows.apart p to.node.place cell was cell_at at (numbered ∙ e ∙ sym was_number) in
      let cell_is : cell ≡ was = same_some _ _ (sym cell_at ∙ ap (get old) place ∙ at) in
      let single : has_one_name to.kind ≡ true = ap has_one_name (sym was_kind ∙ ap (λ (c : Cell). c.kind) (sym cell_is) ∙ above.0) in
      let wrong : false ≡ true = sym many ∙ single in
      absurd (cc)

  bare : (k : EdgeKey) (t : EdgeTo) → finite.get (edges_of ends) k ≡ Some t → k.directory ≢ to.node.number
  bare k t there_t =
      let one = mapped end_of (finite.get ends k) t (sym (get-edges_of ends k) ∙ there_t) in
      let above = rows.parents k one.0 one.1 in
      no_parent above.0 k.directory above.1

  pub rows_gained : AreRows new (finite.insert ends key to) made
  rows_gained = record {
    root = on 0 1 (λ c. (c.kind ≡ Directory) × (c.links ≡ 0)) (λ p. (kind ∙ p.0, none p.1)) rows.root;
    numbers = λ p c there_c. elim (at_new u at number p c there_c) [
      | changed e c_is ↦ let P : ℕ → Type 0 = λ n. (1 ≤ n) × (n ≤ made) in subst P (sym (ap (λ (c : Cell). c.number) c_is ∙ number)) (rows.numbers to.node.place was at)
      | kept e c_at ↦ rows.numbers p c c_at
    ];
    apart = apart_still u at number rows.apart;
    links = λ p c there_c. elim (at_new u at number p c there_c) [
      | changed e c_is ↦
          let count = counted to.node.number in
          let itself : one_if (to.node.number == to.node.number) ≡ 1 = ap one_if (equal_numbers to.node.number to.node.number refl) in
          let before : was.links ≡ link_count (edges_of ends) to.node.number = rows.links to.node.place was at ∙ ap (link_count (edges_of ends)) was_number in
          let more : was.links + 1 ≡ link_count (edges_of (finite.insert ends key to)) to.node.number = omega (arith, count, itself, before) in
          ap (λ (c : Cell). c.links) c_is ∙ links ∙ more ∙ ap (link_count (edges_of (finite.insert ends key to))) (sym (ap (λ (c : Cell). c.number) c_is ∙ number ∙ was_number))
      | kept e c_at ↦
          let count = counted c.number in
          let not_it : one_if (to.node.number == c.number) ≡ 0 = ap one_if (apart_numbers to.node.number c.number (λ alike. e (rows.apart p to.node.place c was c_at at (sym alike ∙ sym was_number)))) in
          let before = rows.links p c c_at in
          omega (arith, count, not_it, before)
    ];
    needed = λ p c there_c _. elim (at_new u at number p c there_c) [
      | changed e c_is ↦ ap is_needed c_is ∙ needed_now
      | kept e c_at ↦ rows.needed p c c_at (λ x. x)
    ];
    children = λ k t there_t. elim (comes ends key to k t there_t) [
      | fresh e t_is ↦
          let P : Entry → Type 0 = λ t. Sits new t.node.place t.node.number (λ c. c.kind ≡ t.kind) in
          subst P t_is (on to.node.place to.node.number (λ c. c.kind ≡ to.kind) (λ same_kind. kind ∙ same_kind) (rows.children from to there))
      | known e was_there ↦ on t.node.place t.node.number (λ c. c.kind ≡ t.kind) (λ same_kind. kind ∙ same_kind) (rows.children k t was_there)
    ];
    parents = λ k t there_t. elim (comes ends key to k t there_t) [
      | fresh e t_is ↦
          let P : ℕ → Type 0 = λ n. (place : ℕ) × Sits new place n (λ c. (c.kind ≡ Directory) × (is_reached c ≡ true)) in
          subst P (ap (λ (k : EdgeKey). k.directory) (sym e)) (up.0, on up.0 key.directory (λ c. (c.kind ≡ Directory) × (is_reached c ≡ true)) (λ p. (kind ∙ p.0, reached_now)) up.1)
      | known e was_there ↦ let one = rows.parents k t was_there in (one.0, on one.0 k.directory (λ c. (c.kind ≡ Directory) × (is_reached c ≡ true)) (λ p. (kind ∙ p.0, reached_now)) one.1)
    ];
    one_name = λ p c there_c single. elim (at_new u at number p c there_c) [
      | changed e c_is ↦ absurd (
          let single_was : has_one_name to.kind ≡ true = ap has_one_name (sym was_kind ∙ sym kind ∙ ap (λ (c : Cell). c.kind) (sym c_is)) ∙ single in
          let wrong : false ≡ true = sym many ∙ single_was in
          cc
          )
      | kept e c_at ↦ rows.one_name p c c_at single
    ];
    ways_up = λ k t c there_t directory c_at. elim (comes ends key to k t there_t) [
      | fresh e t_is ↦ absurd (
          let single : has_one_name to.kind ≡ true = ap has_one_name (ap (λ (t : Entry). t.kind) t_is ∙ directory) in
          let wrong : false ≡ true = sym many ∙ single in
          cc
          )
      | known e was_there ↦ elim (at_new u at number t.node.place c c_at) [
        | changed same_place c_is ↦
            let above = rows.ways_up k t was was_there directory (ap (get old) same_place ∙ at) in
            let parent_is : c.parent ≡ was.parent = ap (λ (c : Cell). c.parent) c_is ∙ parent in
            (ap (λ (n : NodeRef). n.number) parent_is ∙ above.0, let P : NodeRef → Type 0 = λ n. Sits new n.place n.number (λ a. a.kind ≡ Directory) in subst P (sym parent_is) (on was.parent.place was.parent.number (λ a. a.kind ≡ Directory) (λ same_kind. kind ∙ same_kind) above.1))
        | kept other_place c_was ↦
            let above = rows.ways_up k t c was_there directory c_was in
            (above.0, on c.parent.place c.parent.number (λ a. a.kind ≡ Directory) (λ same_kind. kind ∙ same_kind) above.1)
      ]
    ];
    no_loop = subst NoLoop (sym (edges_of-insert ends key to)) (no_loop_put (edges_of ends) key (end_of to) bare (no_parent up.0 key.directory up.1) rows.no_loop);
    few =
        let one_more : finite.len (finite.insert ends key to) ≡ finite.len ends + 1 = finite.len-insert edges_total ends key to ∙ ap (λ b. cond b (finite.len ends) (finite.len ends + 1)) (ap is_some absent) in
        omega (arith, room, one_more);
    room = rows.room;
  }
    where
      none : was.links ≡ 0 → is.links ≡ 0
      none e = absurd (let some = linked in omega (arith, e, some))

  step : Replaces (kept_of old ends made) (kept_of new ends made) was.number (seat_from to.node.place was) (seat_from to.node.place is)
  step = replaced u at number ends made rows.apart kind

  pub turns_gained : Turns (kept_of old ends made) (kept_of new (finite.insert ends key to) made) (add key (end_of to))
  turns_gained = record {
    leads = λ tree stands.
        let first = leads_stay step (ap (λ (c : Cell). c.bytes) is_it) tree stands in
        record { made = first.made; edges = edges_of-insert ends key to ∙ ap (λ (e : Edges). finite.insert e key (end_of to)) first.edges; rows = first.rows };
    holds = λ n. same_holds step (ap (λ (c : Cell). c.holds) is_it) n;
    names = λ node names needed. named_still step node names;
  }

-- the same of a link as its call makes it
module _ (nodes new : Slab Cell) (ends ends_new : Ends) (made : ℕ) (graph : Kept) (from : EdgeKey) (into : NodeRef) (name : List ℕ) (to : Entry)
    (view : kept_of nodes ends made ≡ graph) (rows : AreRows nodes ends made) (names : Names graph into) (directory : kind_at graph into.number ≡ Some Directory)
    (there : finite.get ends from ≡ Some to) (many : has_one_name to.kind ≡ false) (free : create_refusal graph.edges (name_in into.number name) ≡ None)
    (gains : GainsName nodes new to.node.place) (put : ends_new ≡ finite.insert ends (name_in into.number name) to) where
  abbrev key : EdgeKey
  key = name_in into.number name

  abbrev is : Cell
  is = record gains.cell { links = gains.cell.links + 1 }

  absent : finite.get ends key ≡ None
  absent = unmapped _ (sym (get-edges_of ends key) ∙ ap (λ (g : Kept). finite.get g.edges key) view ∙ (unrefused graph.edges key free).absent)

  up : (place : ℕ) × Sits nodes place into.number (λ c. (c.kind ≡ Directory) × (is_reached c ≡ true))
  up = (into.place, reached_here nodes ends made graph into view rows names directory (not_removed graph.edges key free))

  room : finite.len ends < limit.MAX_NAMES
  room = let few = (unrefused graph.edges key free).few in let len = sym (len-edges_of ends) ∙ ap (λ (g : Kept). finite.len g.edges) view in omega (arith, few, len)

  pub rows_linked : AreRows new ends_new made
  rows_linked =
      let P : Ends → Type 0 = λ e. AreRows new e made in
      subst P (sym put) (rows_gained nodes new ends made from key to gains.cell is rows there absent gains.at gains.updates refl up many room)

  pub turns_linked : Turns graph (kept_of new ends_new made) (add key (end_of to))
  turns_linked =
      let P : Ends → Type 0 = λ e. Turns graph (kept_of new e made) (add key (end_of to)) in
      let Q : Kept → Type 0 = λ g. Turns g (kept_of new (finite.insert ends key to) made) (add key (end_of to)) in
      subst P (sym put) (subst Q view (turns_gained nodes new ends made from key to gains.cell is rows there absent gains.at gains.updates refl up many room))

-- there is room for one more name of a node that a name leads to
pub links_room : (nodes : Slab Cell) (ends : Ends) (made : ℕ) → AreRows nodes ends made → (key : EdgeKey) (to : Entry) → finite.get ends key ≡ Some to
    → IfSome (get nodes to.node.place) (λ cell. cell.links < 2 ^ 32 - 1)
links_room nodes ends made rows key to there =
    let child = rows.children key to there in
    let count = rows.links to.node.place child.0 child.1 in
    let few = links_few ends child.0.number in
    let all = rows.few in
    let P : Option Cell → Type 0 = λ o. IfSome o (λ cell. cell.links < 2 ^ 32 - 1) in
    subst P (sym child.1) (omega (arith, count, few, all))
