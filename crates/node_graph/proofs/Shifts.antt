-- A name moves: what nodes and names are then, and what a graph keeps.
use Rattle.std.proofs.Common.{◌≡◌, ◌≢◌, ℕ, zero, suc, ◌+◌, ◌-◌, ◌≤◌, Some, None, refl, ap, sym, ◌∙◌, subst, arith, cond, true, false, nat_lt, nat_eq}
use Rattle.std.specs.Prelude.{◌==◌, ◌||◌, ◌&&◌, is_some, IsSome, IfSome, Option}
use Rattle.std.specs.Option.{option_map, option_map_or}
use Rattle.std.specs.declared.cmp.Ordering.TheVariants.{Equal}
use Rattle.std.specs.Ordering.{nat_cmp, is_eq, ordering_then}
use Rattle.std.specs.Cmp.Lexicographic.{slice_cmp, pointwise, texts_ties}
use Rattle.std.proofs.lemmas.Bool.Decides.{nat_tests}
use Rattle.std.specs.FinMap as finite
use Rattle.slab.specs.Slab.{Slab, get, Updates, with_value}
use Rattle.slab.proofs.SlabLemmas.{Updates-with_value}
use Rattle.node_graph.specs.declared.nodes.NodeKind.TheVariants.{Directory}
use Rattle.node_graph.specs.declared.nodes.NodeRef.{NodeRef}
use Rattle.node_graph.specs.declared.nodes.Entry.{Entry}
use Rattle.node_graph.specs.Cell.{Cell}
use Rattle.node_graph.specs.Tree.{Tree, Edges, EdgeKey, EdgeTo, edge_cmp, link_count, is_linked, has_one_name, after, cut, move, moved}
use Rattle.node_graph.specs.Refusals.{has_names, is_directory, is_same_name, lies_within}
use Rattle.node_graph.specs.Graph.{Kept, Names, kind_at, holds_at, is_kept, StandsFor}
use Rattle.node_graph.specs.Ends.{Ends, end_of, edges_of}
use Rattle.node_graph.specs.Rows.{seat_from, kept_of, is_needed, is_reached, Sits, AreRows, Forgets, keeps, drops, LosesName}
use Rattle.node_graph.proofs.RowLists.{same_some, mapped, same, other}
use Rattle.node_graph.proofs.States.{Replaces, named_still, same_holds, leads_stay}
use Rattle.node_graph.proofs.Ordered.{edges_total, same_edges, same_or_other, same, other, comes, fresh, known, stays, get-put_here, get-put_other, get-cut_here, get-cut_other}
use Rattle.node_graph.proofs.Linked.{get-edges_of, edges_of-insert, edges_of-remove, link_count-put, link_count-cut, linked_counted, count_some, one_if}
use Rattle.node_graph.proofs.Seats.{changed, kept, at_new, apart_still, replaced}
use Rattle.node_graph.proofs.Steps.{sits_on, equal_numbers}
use Rattle.node_graph.proofs.Loops.{NoLoop}
use Rattle.node_graph.proofs.Ways.{Ways, no_loop_move, way_cut, way_found}
use Rattle.node_graph.proofs.Losses.{Turns, in_no_key, rows_lost, turns_lost}

-- an edge after a move is the moved one, or an old one under another key
data Arrives (ends : Ends) (from key : EdgeKey) (to : Entry) (k : EdgeKey) (t : Entry) : Type 0 where
  arrived : k ≡ key → to ≡ t → Arrives ends from key to k t
  stayed : ¬ (k ≡ from) → finite.get ends k ≡ Some t → Arrives ends from key to k t

arrives : (ends : Ends) (from key : EdgeKey) (to : Entry) (k : EdgeKey) (t : Entry) → finite.get (finite.insert (finite.remove ends from) key to) k ≡ Some t → Arrives ends from key to k t
arrives ends from key to k t there = elim (comes (finite.remove ends from) key to k t there) [
  | fresh e t_is ↦ arrived e t_is
  | known apart was ↦ let one = stays ends from k t was in stayed one.0 one.1
]

-- the key of a name that is there is not that of one that isn't
apart_keys : {X : Type 0} (m : finite.FinMap edge_cmp X) (from key : EdgeKey) (x : X) → finite.get m from ≡ Some x → finite.get m key ≡ None → ¬ (key ≡ from)
apart_keys m from key x there absent e = let wrong : None ≡ Some x = sym absent ∙ ap (finite.get m) e ∙ there in absurd (cc)

module _ (old new : Slab Cell) (ends : Ends) (made : ℕ) (from key : EdgeKey) (to : Entry) (dir : NodeRef) (was is : Cell)
    (rows : AreRows old ends made) (there : finite.get ends from ≡ Some to) (absent : finite.get ends key ≡ None) (at : get old to.node.place ≡ Some was)
    (u : Updates old new to.node.place (Some is)) (is_it : is ≡ record was { parent = dir }) (into : dir.number ≡ key.directory)
    (up : Sits old dir.place dir.number (λ c. (c.kind ≡ Directory) × (is_reached c ≡ true))) where
  abbrev ends_new : Ends
  ends_new = finite.insert (finite.remove ends from) key to

  number : is.number ≡ was.number
  number = ap (λ (c : Cell). c.number) is_it

  kind : is.kind ≡ was.kind
  kind = ap (λ (c : Cell). c.kind) is_it

  links : is.links ≡ was.links
  links = ap (λ (c : Cell). c.links) is_it

  reached : is_reached is ≡ is_reached was
  reached = ap is_reached is_it

  was_number : was.number ≡ to.node.number
  was_number = let child = rows.children from to there in ap (λ (c : Cell). c.number) (same_some _ _ (sym at ∙ child.1)) ∙ child.2

  free : finite.get (finite.remove ends from) key ≡ None
  free = get-cut_other ends from key (apart_keys ends from key to there absent) ∙ absent

  edge_there : finite.get (edges_of ends) from ≡ Some (end_of to)
  edge_there = get-edges_of ends from ∙ ap (option_map end_of) there

  edges_new : edges_of ends_new ≡ finite.insert (finite.remove (edges_of ends) from) key (end_of to)
  edges_new = edges_of-insert (finite.remove ends from) key to ∙ ap (λ (e : Edges). finite.insert e key (end_of to)) (edges_of-remove ends from)

  counted : (n : ℕ) → link_count (edges_of ends_new) n ≡ link_count (edges_of ends) n
  counted n =
      let put = link_count-put (edges_of (finite.remove ends from)) key (end_of to) n (get-edges_of (finite.remove ends from) key ∙ ap (option_map end_of) free) in
      let new_is = ap (λ (e : Edges). link_count e n) (edges_of-insert (finite.remove ends from) key to) in
      let cut_is = link_count-cut (edges_of ends) from (end_of to) n edge_there in
      let removed = ap (λ (e : Edges). link_count e n) (edges_of-remove ends from) in
      omega (arith, put, new_is, cut_is, removed)

  on : (p n : ℕ) (P : Cell → Type 0) → (P was → P is) → Sits old p n P → Sits new p n P
  on p n P turns sits = sits_on u at number p n P turns sits

  abbrev IsAbove : Cell → Type 0
  IsAbove c = (c.kind ≡ Directory) × (is_reached c ≡ true)

  pub rows_moved : ((count : ℕ) → ¬ (Ways count (edges_of ends) key.directory to.node.number)) → AreRows new ends_new made
  rows_moved not_within = record {
    root = on 0 1 (λ c. (c.kind ≡ Directory) × (c.links ≡ 0)) (λ p. (kind ∙ p.0, links ∙ p.1)) rows.root;
    numbers = λ p c there_c. elim (at_new u at number p c there_c) [
      | changed e c_is ↦ let P : ℕ → Type 0 = λ n. (1 ≤ n) × (n ≤ made) in subst P (sym (ap (λ (c : Cell). c.number) c_is ∙ number)) (rows.numbers to.node.place was at)
      | kept e c_at ↦ rows.numbers p c c_at
    ];
    apart = apart_still u at number rows.apart;
    links = λ p c there_c. elim (at_new u at number p c there_c) [
      | changed e c_is ↦ ap (λ (c : Cell). c.links) c_is ∙ links ∙ rows.links to.node.place was at ∙ ap (link_count (edges_of ends)) (sym (ap (λ (c : Cell). c.number) c_is ∙ number)) ∙ sym (counted c.number)
      | kept e c_at ↦ rows.links p c c_at ∙ sym (counted c.number)
    ];
    needed = λ p c there_c _. elim (at_new u at number p c there_c) [
      | changed e c_is ↦ ap is_needed c_is ∙ ap is_needed is_it ∙ rows.needed to.node.place was at (λ x. x)
      | kept e c_at ↦ rows.needed p c c_at (λ x. x)
    ];
    children = λ k t there_t. elim (arrives ends from key to k t there_t) [
      | arrived e t_is ↦
          let P : Entry → Type 0 = λ t. Sits new t.node.place t.node.number (λ c. c.kind ≡ t.kind) in
          subst P t_is (on to.node.place to.node.number (λ c. c.kind ≡ to.kind) (λ same_kind. kind ∙ same_kind) (rows.children from to there))
      | stayed not_from was_there ↦ on t.node.place t.node.number (λ c. c.kind ≡ t.kind) (λ same_kind. kind ∙ same_kind) (rows.children k t was_there)
    ];
    parents = λ k t there_t. elim (arrives ends from key to k t there_t) [
      | arrived e t_is ↦
          let P : ℕ → Type 0 = λ n. (place : ℕ) × Sits new place n IsAbove in
          subst P (into ∙ ap (λ (k : EdgeKey). k.directory) (sym e)) (dir.place, on dir.place dir.number IsAbove (λ p. (kind ∙ p.0, reached ∙ p.1)) up)
      | stayed not_from was_there ↦ let one = rows.parents k t was_there in (one.0, on one.0 k.directory IsAbove (λ p. (kind ∙ p.0, reached ∙ p.1)) one.1)
    ];
    one_name = λ p c there_c single. elim (at_new u at number p c there_c) [
      | changed e c_is ↦
          let was_single : has_one_name was.kind ≡ true = ap has_one_name (sym kind ∙ ap (λ (c : Cell). c.kind) (sym c_is)) ∙ single in
          let few = rows.one_name to.node.place was at was_single in
          let count : c.links ≡ was.links = ap (λ (c : Cell). c.links) c_is ∙ links in
          omega (arith, few, count)
      | kept e c_at ↦ rows.one_name p c c_at single
    ];
    ways_up = λ k t c there_t directory c_at. elim (arrives ends from key to k t there_t) [
      | arrived e t_is ↦
          let c_is : is ≡ c = same_some _ _ (sym u.changed ∙ ap (λ (t : Entry). get new t.node.place) t_is ∙ c_at) in
          let P : NodeRef → Type 0 = λ n. (n.number ≡ k.directory) × Sits new n.place n.number (λ a. a.kind ≡ Directory) in
          let here = on dir.place dir.number IsAbove (λ p. (kind ∙ p.0, reached ∙ p.1)) up in
          subst P (ap (λ (c : Cell). c.parent) (sym is_it ∙ c_is)) (into ∙ ap (λ (k : EdgeKey). k.directory) (sym e), (here.0, here.1, here.2, here.3.0))
      | stayed not_from was_there ↦ elim (at_new u at number t.node.place c c_at) [
        | changed same_place c_is ↦ absurd (twice k t was_there not_from directory same_place)
        | kept other_place c_was ↦
            let above = rows.ways_up k t c was_there directory c_was in
            (above.0, on c.parent.place c.parent.number (λ a. a.kind ≡ Directory) (λ same_kind. kind ∙ same_kind) above.1)
      ]
    ];
    no_loop = subst NoLoop (sym edges_new) (no_loop_move (edges_of ends) from key (end_of to) rows.no_loop not_within);
    few =
        let less = finite.len-remove edges_total ends from ∙ ap (λ b. cond b (finite.len ends - 1) (finite.len ends)) (ap is_some there) in
        let more = finite.len-insert edges_total (finite.remove ends from) key to ∙ ap (λ b. cond b (finite.len (finite.remove ends from)) (finite.len (finite.remove ends from) + 1)) (ap is_some free) in
        let few = rows.few in
        omega (arith, less, more, few);
    room = rows.room;
  }
    where
      -- no second name leads to a directory
      twice : (k : EdgeKey) (t : Entry) → finite.get ends k ≡ Some t → ¬ (k ≡ from) → t.kind ≡ Directory → t.node.place ≡ to.node.place → ⊥
      twice k t was_there not_from directory same_place =
          let child = rows.children k t was_there in
          let cell_is : child.0 ≡ was = same_some _ _ (sym child.1 ∙ ap (get old) same_place ∙ at) in
          let t_number : t.node.number ≡ to.node.number = sym child.2 ∙ ap (λ (c : Cell). c.number) cell_is ∙ was_number in
          let single = rows.one_name to.node.place was at (ap has_one_name (ap (λ (c : Cell). c.kind) (sym cell_is) ∙ child.3 ∙ directory)) in
          let count : was.links ≡ link_count (edges_of ends) to.node.number = rows.links to.node.place was at ∙ ap (link_count (edges_of ends)) was_number in
          let cut_is = link_count-cut (edges_of ends) from (end_of to) to.node.number edge_there in
          let itself : one_if (to.node.number == to.node.number) ≡ 1 = ap one_if (equal_numbers to.node.number to.node.number refl) in
          let other_edge : finite.get (finite.remove (edges_of ends) from) k ≡ Some (end_of t) = get-cut_other (edges_of ends) from k not_from ∙ get-edges_of ends k ∙ ap (option_map end_of) was_there in
          let some = count_some (finite.remove (edges_of ends) from) k (end_of t) other_edge in
          let some_here : 1 ≤ link_count (finite.remove (edges_of ends) from) to.node.number = let P : ℕ → Type 0 = λ n. 1 ≤ link_count (finite.remove (edges_of ends) from) n in subst P t_number some in
          omega (arith, single, count, cut_is, itself, some_here)

  step : Replaces (kept_of old ends made) (kept_of new ends made) was.number (seat_from to.node.place was) (seat_from to.node.place is)
  step = replaced u at number ends made rows.apart kind

  moved_edges : (edges : Edges) → edges_of ends ≡ edges → edges_of ends_new ≡ moved edges from key
  moved_edges edges same_one =
      edges_new ∙ sym (ap (λ o. option_map_or (λ (edge : EdgeTo). finite.insert (finite.remove (edges_of ends) from) key edge) o (edges_of ends)) edge_there) ∙ ap (λ (e : Edges). moved e from key) same_one

  pub moved_holds : (n : ℕ) → holds_at (kept_of new ends_new made) n ≡ holds_at (kept_of old ends made) n
  moved_holds n = same_holds step (ap (λ (c : Cell). c.holds) is_it) n

  pub moved_names : (node : NodeRef) → Names (kept_of old ends made) node → Names (kept_of new ends_new made) node × (kind_at (kept_of new ends_new made) node.number ≡ kind_at (kept_of old ends made) node.number)
  moved_names node names = named_still step node names

  pub moved_kept : (n : ℕ) → is_kept (kept_of new ends_new made) n ≡ is_kept (kept_of old ends made) n
  moved_kept n =
      let linked : is_linked (edges_of ends_new) n ≡ is_linked (edges_of ends) n = linked_counted (edges_of ends_new) n ∙ ap (nat_lt 0) (counted n) ∙ sym (linked_counted (edges_of ends) n) in
      ap (λ b. n == 1 || (b || nat_lt 0 (holds_at (kept_of new ends_new made) n))) linked ∙ ap (λ h. n == 1 || (is_linked (edges_of ends) n || nat_lt 0 h)) (moved_holds n)

  pub moved_leads : (tree : Tree) → StandsFor (kept_of old ends made) tree → StandsFor (kept_of new ends_new made) (after tree (move from key))
  moved_leads tree stands =
      let first = leads_stay step (ap (λ (c : Cell). c.bytes) is_it) tree stands in
      record { made = first.made; edges = moved_edges tree.edges first.edges; rows = first.rows }

-- a directory isn't within what moves there
module _ (nodes : Slab Cell) (ends : Ends) (made : ℕ) (graph : Kept) (view : kept_of nodes ends made ≡ graph) (rows : AreRows nodes ends made) where
  above_directory : (count x d : ℕ) → Ways count (edges_of ends) x d → ((place : ℕ) × Sits nodes place x (λ c. c.kind ≡ Directory)) → (place : ℕ) × Sits nodes place d (λ c. c.kind ≡ Directory)
  above_directory zero x d e here = let P : ℕ → Type 0 = λ n. (place : ℕ) × Sits nodes place n (λ c. c.kind ≡ Directory) in subst P e here
  above_directory (suc count) x d (k, t, there, is, rest) here =
      let one = mapped end_of (finite.get ends k) t (sym (get-edges_of ends k) ∙ there) in
      let up = rows.parents k one.0 one.1 in
      above_directory count k.directory d rest (up.0, (up.1.0, up.1.1, up.1.2, up.1.3.0))

  pub not_within : (from key : EdgeKey) (to : Entry) → finite.get ends from ≡ Some to → (place : ℕ) → Sits nodes place key.directory (λ c. (c.kind ≡ Directory) × (is_reached c ≡ true))
      → (is_directory to.kind && lies_within (finite.len graph.edges) graph.edges key.directory to.node.number) ≡ false → (count : ℕ) → ¬ (Ways count (edges_of ends) key.directory to.node.number)
  not_within from key to there place (cell, at, numbered, above) no_loop count way =
      let top = above_directory count key.directory to.node.number way (place, (cell, at, numbered, above.0)) in
      let child = rows.children from to there in
      let same_place = rows.apart top.0 to.node.place top.1.0 child.0 top.1.1 child.1 (top.1.2 ∙ sym child.2) in
      let cell_is : top.1.0 ≡ child.0 = same_some _ _ (sym top.1.1 ∙ ap (get nodes) same_place ∙ child.1) in
      let kind : to.kind ≡ Directory = sym child.3 ∙ ap (λ (c : Cell). c.kind) (sym cell_is) ∙ top.1.3 in
      let found = way_found (edges_of ends) rows.no_loop count key.directory to.node.number way in
      let P : Edges → Type 0 = λ e. lies_within (finite.len e) e key.directory to.node.number ≡ true in
      let here = subst P (ap (λ (g : Kept). g.edges) view) found in
      let wrong : true ≡ false = sym (ap (λ k. is_directory k && lies_within (finite.len graph.edges) graph.edges key.directory to.node.number) kind ∙ here) ∙ no_loop in
      absurd (cc)

-- ---- a rename as its call makes it

-- what is put in and then taken out under another key, is what is left of both keys, and put in
shifted : {X : Type 0} (m : finite.FinMap edge_cmp X) (from key : EdgeKey) (to : X) → ¬ (key ≡ from) → finite.remove (finite.insert m key to) from ≡ finite.insert (finite.remove (finite.remove m key) from) key to
shifted m from key to apart = same_edges _ _ (λ q. elim (same_or_other q key) [
  | same e b ↦
      ap (finite.get (finite.remove (finite.insert m key to) from)) e ∙ get-cut_other (finite.insert m key to) from key apart ∙ get-put_here m key to
      ∙ sym (ap (finite.get (finite.insert (finite.remove (finite.remove m key) from) key to)) e ∙ get-put_here (finite.remove (finite.remove m key) from) key to)
  | other e b ↦ elim (same_or_other q from) [
    | same e2 b2 ↦
        ap (finite.get (finite.remove (finite.insert m key to) from)) e2 ∙ get-cut_here (finite.insert m key to) from
        ∙ sym (get-put_other (finite.remove (finite.remove m key) from) key q to e ∙ ap (finite.get (finite.remove (finite.remove m key) from)) e2 ∙ get-cut_here (finite.remove m key) from)
    | other e2 b2 ↦
        get-cut_other (finite.insert m key to) from q e2 ∙ get-put_other m key q to e
        ∙ sym (get-put_other (finite.remove (finite.remove m key) from) key q to e ∙ get-cut_other (finite.remove m key) from q e2 ∙ get-cut_other m key q e)
  ]
])

-- moving onto a name is taking it out and moving
pub moved_over : (edges : Edges) (from key : EdgeKey) (edge : EdgeTo) → ¬ (key ≡ from) → finite.get edges from ≡ Some edge → moved (finite.remove edges key) from key ≡ moved edges from key
moved_over edges from key edge apart there =
    let still : finite.get (finite.remove edges key) from ≡ Some edge = get-cut_other edges key from (λ e. apart (sym e)) ∙ there in
    ap (λ o. option_map_or (λ (edge : EdgeTo). finite.insert (finite.remove (finite.remove edges key) from) key edge) o (finite.remove edges key)) still
    ∙ same_edges _ _ (λ q. elim (same_or_other q key) [
      | same e b ↦
          ap (finite.get (finite.insert (finite.remove (finite.remove edges key) from) key edge)) e ∙ get-put_here (finite.remove (finite.remove edges key) from) key edge
          ∙ sym (ap (finite.get (finite.insert (finite.remove edges from) key edge)) e ∙ get-put_here (finite.remove edges from) key edge)
      | other e b ↦ get-put_other (finite.remove (finite.remove edges key) from) key q edge e ∙ elim (same_or_other q from) [
        | same e2 b2 ↦ ap (finite.get (finite.remove (finite.remove edges key) from)) e2 ∙ get-cut_here (finite.remove edges key) from ∙ sym (ap (finite.get (finite.remove edges from)) e2 ∙ get-cut_here edges from)
        | other e2 b2 ↦ get-cut_other (finite.remove edges key) from q e2 ∙ get-cut_other edges key q e ∙ sym (get-cut_other edges from q e2)
      ] ∙ sym (get-put_other (finite.remove edges from) key q edge e)
    ])
    ∙ sym (ap (λ o. option_map_or (λ (edge : EdgeTo). finite.insert (finite.remove edges from) key edge) o edges) there)

remove_absent : {X : Type 0} (m : finite.FinMap edge_cmp X) (key : EdgeKey) → finite.get m key ≡ None → finite.remove m key ≡ m
remove_absent m key none = same_edges _ _ (λ q. elim (same_or_other q key) [
  | same e b ↦ ap (finite.get (finite.remove m key)) e ∙ get-cut_here m key ∙ sym (ap (finite.get m) e ∙ none)
  | other e b ↦ get-cut_other m key q e
])

-- a node that lost no name stands where it stood
sits_after : (old new : Slab Cell) (place : ℕ) (loses : LosesName old new place) (p n : ℕ) (P : Cell → Type 0) → n ≢ loses.cell.number → Sits old p n P → Sits new p n P
sits_after old new place loses p n P apart (cell, at, numbered, holds) =
    let elsewhere : p ≢ place = λ e. apart (sym numbered ∙ ap (λ (c : Cell). c.number) (same_some _ _ (sym at ∙ ap (get old) e ∙ loses.at))) in
    (cell, kept_there loses.forgets elsewhere ∙ loses.updates.others p elsewhere ∙ at, numbered, holds)
  where
    kept_there : {between new : Slab Cell} {place p : ℕ} → Forgets between new place → p ≢ place → get new p ≡ get between p
    kept_there {between} {new} {place} {p} (keeps c c_at needed is) elsewhere = ap (λ s. get s p) is
    kept_there {between} {new} {place} {p} (drops c c_at spare u count) elsewhere = u.others p elsewhere

-- to a name that is free
module _ (nodes : Slab Cell) (ends ends_new : Ends) (made : ℕ) (graph : Kept) (from key : EdgeKey) (dir : NodeRef) (to : Entry) (was is : Cell)
    (view : kept_of nodes ends made ≡ graph) (rows : AreRows nodes ends made) (there : finite.get ends from ≡ Some to) (absent : finite.get ends key ≡ None)
    (up : Sits nodes dir.place dir.number (λ c. (c.kind ≡ Directory) × (is_reached c ≡ true))) (into : dir.number ≡ key.directory)
    (at : get nodes to.node.place ≡ Some was) (is_it : is ≡ record was { parent = dir }) (put : ends_new ≡ finite.remove (finite.insert ends key to) from) where
  updates_free : Updates nodes (with_value nodes to.node.place is) to.node.place (Some is)
  updates_free = Updates-with_value nodes to.node.place is (ap is_some at)

  ends_free : ends_new ≡ finite.insert (finite.remove ends from) key to
  ends_free = put ∙ shifted ends from key to (apart_keys ends from key to there absent) ∙ ap (λ (m : Ends). finite.insert (finite.remove m from) key to) (remove_absent ends key absent)

  pub rows_free : ((count : ℕ) → ¬ (Ways count (edges_of ends) key.directory to.node.number)) → AreRows (with_value nodes to.node.place is) ends_new made
  rows_free not_within =
      let P : Ends → Type 0 = λ e. AreRows (with_value nodes to.node.place is) e made in
      subst P (sym ends_free) (rows_moved nodes (with_value nodes to.node.place is) ends made from key to dir was is rows there absent at updates_free is_it into up not_within)

  pub turns_free : Turns graph (kept_of (with_value nodes to.node.place is) ends_new made) (move from key)
  turns_free =
      let P : Ends → Type 0 = λ e. Turns graph (kept_of (with_value nodes to.node.place is) e made) (move from key) in
      let Q : Kept → Type 0 = λ g. Turns g (kept_of (with_value nodes to.node.place is) (finite.insert (finite.remove ends from) key to) made) (move from key) in
      subst P (sym ends_free) (subst Q view (record {
        leads = λ tree stands. moved_leads nodes (with_value nodes to.node.place is) ends made from key to dir was is rows there absent at updates_free is_it into up tree stands;
        holds = λ n. moved_holds nodes (with_value nodes to.node.place is) ends made from key to dir was is rows there absent at updates_free is_it into up n;
        names = λ node names needed. moved_names nodes (with_value nodes to.node.place is) ends made from key to dir was is rows there absent at updates_free is_it into up node names;
      }))

-- to a name that leads to another node, or to the same one
module _ (nodes lost : Slab Cell) (ends ends_new : Ends) (made : ℕ) (graph : Kept) (from key : EdgeKey) (dir : NodeRef) (to gone : Entry) (was is : Cell)
    (view : kept_of nodes ends made ≡ graph) (rows : AreRows nodes ends made) (there : finite.get ends from ≡ Some to) (taken : finite.get ends key ≡ Some gone) (apart : ¬ (key ≡ from))
    (up : Sits nodes dir.place dir.number (λ c. (c.kind ≡ Directory) × (is_reached c ≡ true))) (into : dir.number ≡ key.directory)
    (bare : has_names (edges_of ends) gone.node.number ≡ false) (loses : LosesName nodes lost gone.node.place) where
  abbrev ends_left : Ends
  ends_left = finite.remove ends key

  rows_left : AreRows lost ends_left made
  rows_left = rows_lost nodes lost ends made key gone rows taken bare loses

  there_left : finite.get ends_left from ≡ Some to
  there_left = get-cut_other ends key from (λ e. apart (sym e)) ∙ there

  absent_left : finite.get ends_left key ≡ None
  absent_left = get-cut_here ends key

  gone_number : loses.cell.number ≡ gone.node.number
  gone_number = let child = rows.children key gone taken in ap (λ (c : Cell). c.number) (same_some _ _ (sym loses.at ∙ child.1)) ∙ child.2

  up_left : Sits lost dir.place dir.number (λ c. (c.kind ≡ Directory) × (is_reached c ≡ true))
  up_left = sits_after nodes lost gone.node.place loses dir.place dir.number _ (λ e. in_no_key ends gone.node.number bare key gone taken (sym into ∙ e ∙ gone_number)) up

  -- the node that moves is still there
  pub present_left : IsSome (get lost to.node.place)
  present_left = ap is_some (rows_left.children from to there_left).1

  module _ (at : get lost to.node.place ≡ Some was) (is_it : is ≡ record was { parent = dir }) (put : ends_new ≡ finite.remove (finite.insert ends key to) from) where
    updates_over : Updates lost (with_value lost to.node.place is) to.node.place (Some is)
    updates_over = Updates-with_value lost to.node.place is (ap is_some at)

    ends_over : ends_new ≡ finite.insert (finite.remove ends_left from) key to
    ends_over = put ∙ shifted ends from key to apart

    pub rows_over : ((count : ℕ) → ¬ (Ways count (edges_of ends) key.directory to.node.number)) → AreRows (with_value lost to.node.place is) ends_new made
    rows_over not_within =
        let P : Ends → Type 0 = λ e. AreRows (with_value lost to.node.place is) e made in
        let left : (count : ℕ) → ¬ (Ways count (edges_of ends_left) key.directory to.node.number) = λ count way.
        not_within count (way_cut count (edges_of ends) key key.directory to.node.number (subst (λ (e : Edges). Ways count e key.directory to.node.number) (edges_of-remove ends key) way)) in
        subst P (sym ends_over) (rows_moved lost (with_value lost to.node.place is) ends_left made from key to dir was is rows_left there_left absent_left at updates_over is_it into up_left left)

    pub turns_over : Turns graph (kept_of (with_value lost to.node.place is) ends_new made) (move from key)
    turns_over =
        let P : Ends → Type 0 = λ e. Turns graph (kept_of (with_value lost to.node.place is) e made) (move from key) in
        let first = turns_lost nodes lost ends made key gone rows taken bare loses graph view in
        subst P (sym ends_over) (record {
          leads = λ tree stands.
              let second = moved_leads lost (with_value lost to.node.place is) ends_left made from key to dir was is rows_left there_left absent_left at updates_over is_it into up_left (after tree (cut key)) (first.leads tree stands) in
              let edge : finite.get tree.edges from ≡ Some (end_of to) = ap (λ (e : Edges). finite.get e from) (sym (ap (λ (g : Kept). g.edges) view ∙ stands.edges)) ∙ get-edges_of ends from ∙ ap (option_map end_of) there in
              record { made = second.made; edges = second.edges ∙ moved_over tree.edges from key (end_of to) apart edge; rows = second.rows };
          holds = λ n. moved_holds lost (with_value lost to.node.place is) ends_left made from key to dir was is rows_left there_left absent_left at updates_over is_it into up_left n ∙ first.holds n;
          names = λ node names needed.
              let mid = first.names node names (sym (moved_kept lost (with_value lost to.node.place is) ends_left made from key to dir was is rows_left there_left absent_left at updates_over is_it into up_left node.number) ∙ needed) in
              let last = moved_names lost (with_value lost to.node.place is) ends_left made from key to dir was is rows_left there_left absent_left at updates_over is_it into up_left node mid.0 in
              (last.0, last.1 ∙ mid.1);
        })

-- to any name
module _ (nodes lost : Slab Cell) (ends ends_new : Ends) (made : ℕ) (graph : Kept) (from key : EdgeKey) (dir : NodeRef) (to : Entry) (was is : Cell)
    (view : kept_of nodes ends made ≡ graph) (rows : AreRows nodes ends made) (there : finite.get ends from ≡ Some to) (apart : ¬ (key ≡ from))
    (up : Sits nodes dir.place dir.number (λ c. (c.kind ≡ Directory) × (is_reached c ≡ true))) (into : dir.number ≡ key.directory) where
  pub present_after : (gone : Option Entry) → finite.get ends key ≡ gone → IfSome gone (λ t. has_names (edges_of ends) t.node.number ≡ false)
      → (gone ≡ None → lost ≡ nodes) → IfSome gone (λ t. LosesName nodes lost t.node.place) → IsSome (get lost to.node.place)
  present_after None absent bare same_nodes loses = subst (λ (s : Slab Cell). IsSome (get s to.node.place)) (sym (same_nodes refl)) (ap is_some (rows.children from to there).1)
  present_after (Some gone) taken bare same_nodes loses = present_left nodes lost ends ends_new made graph from key dir to gone was is view rows there taken apart up into bare loses

  module _ (at : get lost to.node.place ≡ Some was) (is_it : is ≡ record was { parent = dir }) (put : ends_new ≡ finite.remove (finite.insert ends key to) from) where
    pub rows_after : ((count : ℕ) → ¬ (Ways count (edges_of ends) key.directory to.node.number))
        → (gone : Option Entry) → finite.get ends key ≡ gone → IfSome gone (λ t. has_names (edges_of ends) t.node.number ≡ false)
        → (gone ≡ None → lost ≡ nodes) → IfSome gone (λ t. LosesName nodes lost t.node.place) → AreRows (with_value lost to.node.place is) ends_new made
    rows_after not_within None absent bare same_nodes loses =
        let P : Slab Cell → Type 0 = λ s. AreRows (with_value s to.node.place is) ends_new made in
        subst P (sym (same_nodes refl)) (rows_free nodes ends ends_new made graph from key dir to was is view rows there absent up into (ap (λ (s : Slab Cell). get s to.node.place) (sym (same_nodes refl)) ∙ at) is_it put not_within)
    rows_after not_within (Some gone) taken bare same_nodes loses =
        rows_over nodes lost ends ends_new made graph from key dir to gone was is view rows there taken apart up into bare loses at is_it put not_within

    pub turns_after : (gone : Option Entry) → finite.get ends key ≡ gone → IfSome gone (λ t. has_names (edges_of ends) t.node.number ≡ false)
        → (gone ≡ None → lost ≡ nodes) → IfSome gone (λ t. LosesName nodes lost t.node.place) → Turns graph (kept_of (with_value lost to.node.place is) ends_new made) (move from key)
    turns_after None absent bare same_nodes loses =
        let P : Slab Cell → Type 0 = λ s. Turns graph (kept_of (with_value s to.node.place is) ends_new made) (move from key) in
        subst P (sym (same_nodes refl)) (turns_free nodes ends ends_new made graph from key dir to was is view rows there absent up into (ap (λ (s : Slab Cell). get s to.node.place) (sym (same_nodes refl)) ∙ at) is_it put)
    turns_after (Some gone) taken bare same_nodes loses =
        turns_over nodes lost ends ends_new made graph from key dir to gone was is view rows there taken apart up into bare loses at is_it put

-- ---- names that are one

pub same_directory : (a b : EdgeKey) → a.directory ≡ b.directory → is_same_name a b ≡ pointwise nat_eq a.name b.name
same_directory a b e = ap (λ o. is_eq (ordering_then o (slice_cmp nat_cmp a.name b.name))) (nat_same a.directory b.directory e) ∙ sym (texts_ties a.name b.name)
  where
    nat_same : (x y : ℕ) → x ≡ y → nat_cmp x y ≡ Equal
    nat_same x y h = grind (arith, nat_tests)

pub other_directory : (a b : EdgeKey) → a.directory ≢ b.directory → is_same_name a b ≡ false
other_directory a b apart = elim (same_or_other a b) [
  | same e b ↦ absurd (apart (ap (λ (k : EdgeKey). k.directory) e))
  | other e b ↦ b
]

-- two names that aren't one have two keys
pub two_keys : (a b : EdgeKey) → is_same_name a b ≡ false → ¬ (b ≡ a)
two_keys a b differ e = elim (same_or_other a b) [
  | same e2 b2 ↦ let wrong : true ≡ false = sym b2 ∙ differ in absurd (cc)
  | other apart b2 ↦ absurd (apart (sym e))
]
