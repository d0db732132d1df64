-- One name less leads to a node: what nodes and names are then, and what a graph keeps.
use Rattle.std.proofs.Common.{◌≡◌, ◌≢◌, ℕ, ◌+◌, ◌-◌, ◌≤◌, List, [], ◌∷◌, map, Some, None, refl, ap, sym, ◌∙◌, subst, arith, cond, true, false}
use Rattle.std.specs.Prelude.{◌==◌, is_some}
use Rattle.std.specs.List.{list_any}
use Rattle.std.specs.Option.{option_map}
use Rattle.std.specs.FinMap as finite
use Rattle.std.specs.FinMap.Entries as entry
use Rattle.slab.specs.Slab.{Slab, get, Updates}
use Rattle.node_graph.specs.declared.nodes.NodeKind.TheVariants.{Directory}
use Rattle.node_graph.specs.declared.nodes.NodeRef.{NodeRef}
use Rattle.node_graph.specs.declared.nodes.Entry.{Entry}
use Rattle.node_graph.specs.Cell.{Cell}
use Rattle.node_graph.specs.Tree.{Edges, EdgeKey, EdgeTo, edge_cmp, link_count, has_one_name, after, cut, Change}
use Rattle.node_graph.specs.Refusals.{has_names}
use Rattle.node_graph.specs.Graph.{Kept, Leads, SameHolds, KeepsNames}
use Rattle.node_graph.specs.Ends.{Ends, end_of, edges_of}
use Rattle.node_graph.specs.Rows.{seat_from, kept_of, Sits, AreAlmost, AreRows, Forgets, LosesName}
use Rattle.node_graph.proofs.RowLists.{same_some, cases, same, other}
use Rattle.node_graph.proofs.States.{Replaces, named_still, same_holds, leads_stay}
use Rattle.node_graph.proofs.Ordered.{edges_total, same_or_other, same, other, stays}
use Rattle.node_graph.proofs.Linked.{get-edges_of, edges_of-remove, link_count-cut, one_if}
use Rattle.node_graph.proofs.Loops.{NoLoop, no_loop_cut}
use Rattle.node_graph.proofs.Seats.{changed, kept, at_new, apart_still, replaced}
use Rattle.node_graph.proofs.Steps.{sits_on, forgotten, apart_numbers, equal_numbers, neither}
use Rattle.node_graph.proofs.Sheds.{Sheds, shed, sheds_holds, sheds_stands, shed_names}

-- what stands after a change
pub record Turns (old new : Kept) (change : Change) : Type 0 where
  pub leads : Leads old new change
  pub holds : SameHolds old new
  pub names : KeepsNames old new

-- a node without names in it is in no key
pub none_found : (n : ℕ) (es : List (EdgeKey × EdgeTo)) (k : EdgeKey) (t : EdgeTo) → entry.find edge_cmp k es ≡ Some t → list_any (λ (k : EdgeKey). k.directory == n) (map (λ (e : EdgeKey × EdgeTo). e.0) es) ≡ false → k.directory == n ≡ false
none_found n [] k t found none = absurd (let wrong : None ≡ Some t = found in cc)
none_found n (e ∷ es) k t found none =
    let both = neither (e.0.directory == n) (list_any (λ (k : EdgeKey). k.directory == n) (map (λ (e : EdgeKey × EdgeTo). e.0) es)) none in
    elim (same_or_other k e.0) [
      | same eq b ↦ ap (λ (x : EdgeKey). x.directory == n) eq ∙ both.0
      | other apart b ↦ none_found n es k t (sym (ap (λ c. cond c (Some e.1) (entry.find edge_cmp k es)) b) ∙ found) both.1
    ]

pub in_no_key : (ends : Ends) (n : ℕ) → has_names (edges_of ends) n ≡ false → (k : EdgeKey) (t : Entry) → finite.get ends k ≡ Some t → k.directory ≢ n
in_no_key ends n none k t found e =
    let edge : finite.get (edges_of ends) k ≡ Some (end_of t) = get-edges_of ends k ∙ ap (option_map end_of) found in
    let no : k.directory == n ≡ false = none_found n (finite.entries (edges_of ends)) k (end_of t) (sym (finite.get-entries (edges_of ends) k) ∙ edge) none in
    let yes : k.directory == n ≡ true = equal_numbers k.directory n e in
    absurd (let wrong : false ≡ true = sym no ∙ yes in cc)

module _ (old between new : Slab Cell) (ends : Ends) (made : ℕ) (key : EdgeKey) (to : Entry) (was is : Cell)
    (rows : AreRows old ends made) (there : finite.get ends key ≡ Some to) (at : get old to.node.place ≡ Some was)
    (u : Updates old between to.node.place (Some is)) (is_it : is ≡ record was { links = was.links - 1 })
    (bare : (k : EdgeKey) (t : Entry) → finite.get ends k ≡ Some t → k.directory ≢ to.node.number) where
  number : is.number ≡ was.number
  number = ap (λ (c : Cell). c.number) is_it

  kind : is.kind ≡ was.kind
  kind = ap (λ (c : Cell). c.kind) is_it

  links : is.links ≡ was.links - 1
  links = ap (λ (c : Cell). c.links) is_it

  parent : is.parent ≡ was.parent
  parent = ap (λ (c : Cell). c.parent) is_it

  pub was_number : was.number ≡ to.node.number
  was_number = let child = rows.children key to there in ap (λ (c : Cell). c.number) (same_some _ _ (sym at ∙ child.1)) ∙ child.2

  counted : (n : ℕ) → link_count (edges_of ends) n ≡ link_count (edges_of (finite.remove ends key)) n + one_if (to.node.number == n)
  counted n =
      link_count-cut (edges_of ends) key (end_of to) n (get-edges_of ends key ∙ ap (option_map end_of) there)
      ∙ ap (λ (e : Edges). link_count e n + one_if (to.node.number == n)) (sym (edges_of-remove ends key))

  sits_beside : (p n : ℕ) (P : Cell → Type 0) → n ≢ to.node.number → Sits old p n P → Sits between p n P
  sits_beside p n P apart (cell, cell_at, numbered, holds) = elim (cases p to.node.place) [
    | same e b ↦ absurd (apart (sym numbered ∙ ap (λ (c : Cell). c.number) (same_some _ _ (sym cell_at ∙ ap (get old) e ∙ at)) ∙ was_number))
    | other e b ↦ (cell, u.others p e ∙ cell_at, numbered, holds)
  ]

  almost : AreAlmost between (finite.remove ends key) made (λ q. q ≡ to.node.place)
  almost = record {
    root = sits_on u at number 0 1 (λ c. (c.kind ≡ Directory) × (c.links ≡ 0)) (λ p. (kind ∙ p.0, none p.1)) rows.root;
    numbers = λ p c there_c. elim (at_new u at number p c there_c) [
      | changed e c_is ↦ let P : ℕ → Type 0 = λ n. (1 ≤ n) × (n ≤ made) in subst P (sym (ap (λ (c : Cell). c.number) c_is ∙ number)) (rows.numbers to.node.place was at)
      | kept e c_at ↦ rows.numbers p c c_at
    ];
    apart = apart_still u at number rows.apart;
    links = λ p c there_c. elim (at_new u at number p c there_c) [
      | changed e c_is ↦
          let count = counted to.node.number in
          let itself : one_if (to.node.number == to.node.number) ≡ 1 = ap one_if (equal_numbers to.node.number to.node.number refl) in
          let before : was.links ≡ link_count (edges_of ends) to.node.number = rows.links to.node.place was at ∙ ap (link_count (edges_of ends)) was_number in
          let less : was.links - 1 ≡ link_count (edges_of (finite.remove ends key)) to.node.number = omega (arith, count, itself, before) in
          ap (λ (c : Cell). c.links) c_is ∙ links ∙ less ∙ ap (link_count (edges_of (finite.remove ends key))) (sym (ap (λ (c : Cell). c.number) c_is ∙ number ∙ was_number))
      | kept e c_at ↦
          let count = counted c.number in
          let not_it : one_if (to.node.number == c.number) ≡ 0 = ap one_if (apart_numbers to.node.number c.number (λ alike. e (rows.apart p to.node.place c was c_at at (sym alike ∙ sym was_number)))) in
          let before = rows.links p c c_at in
          omega (arith, count, not_it, before)
    ];
    needed = λ p c there_c not_it. elim (at_new u at number p c there_c) [
      | changed e c_is ↦ absurd (not_it e)
      | kept e c_at ↦ rows.needed p c c_at (λ x. x)
    ];
    children = λ k t there_t. sits_on u at number t.node.place t.node.number (λ c. c.kind ≡ t.kind) (λ same_kind. kind ∙ same_kind) (rows.children k t (stays ends key k t there_t).1);
    parents = λ k t there_t. let was_there = (stays ends key k t there_t).1 in let one = rows.parents k t was_there in (one.0, sits_beside one.0 k.directory _ (bare k t was_there) one.1);
    one_name = λ p c there_c single. elim (at_new u at number p c there_c) [
      | changed e c_is ↦
          let was_single : has_one_name was.kind ≡ true = ap has_one_name (sym kind ∙ ap (λ (c : Cell). c.kind) (sym c_is)) ∙ single in
          let few = rows.one_name to.node.place was at was_single in
          let count : c.links ≡ was.links - 1 = ap (λ (c : Cell). c.links) c_is ∙ links in
          omega (arith, few, count)
      | kept e c_at ↦ rows.one_name p c c_at single
    ];
    ways_up = λ k t c there_t directory c_at. elim (at_new u at number t.node.place c c_at) [
      | changed e c_is ↦
          let up = rows.ways_up k t was (stays ends key k t there_t).1 directory (ap (get old) e ∙ at) in
          let parent_is : c.parent ≡ was.parent = ap (λ (c : Cell). c.parent) c_is ∙ parent in
          (ap (λ (n : NodeRef). n.number) parent_is ∙ up.0, let P : NodeRef → Type 0 = λ n. Sits between n.place n.number (λ a. a.kind ≡ Directory) in subst P (sym parent_is) (sits_on u at number was.parent.place was.parent.number (λ a. a.kind ≡ Directory) (λ same_kind. kind ∙ same_kind) up.1))
      | kept e was_at ↦
          let up = rows.ways_up k t c (stays ends key k t there_t).1 directory was_at in
          (up.0, sits_on u at number c.parent.place c.parent.number (λ a. a.kind ≡ Directory) (λ same_kind. kind ∙ same_kind) up.1)
    ];
    no_loop = subst NoLoop (sym (edges_of-remove ends key)) (no_loop_cut (edges_of ends) key rows.no_loop);
    few =
        let few = rows.few in
        let len = finite.len-remove edges_total ends key ∙ ap (λ b. cond b (finite.len ends - 1) (finite.len ends)) (ap is_some there) in
        omega (arith, few, len);
    room = rows.room;
  }
    where
      none : was.links ≡ 0 → is.links ≡ 0
      none e = omega (arith, e, links)

  module _ (forgets : Forgets between new to.node.place) where
    pub rows_cut : AreRows new (finite.remove ends key) made
    rows_cut = forgotten between new (finite.remove ends key) made to.node.place almost forgets

    step : Replaces (kept_of old ends made) (kept_of between ends made) was.number (seat_from to.node.place was) (seat_from to.node.place is)
    step = replaced u at number ends made rows.apart kind

    sheds : Sheds (kept_of between (finite.remove ends key) made) (kept_of new (finite.remove ends key) made)
    sheds = shed between new (finite.remove ends key) made to.node.place almost forgets

    turns : Turns (kept_of old ends made) (kept_of new (finite.remove ends key) made) (cut key)
    turns = record {
      leads = λ tree stands.
          let first = leads_stay step (ap (λ (c : Cell). c.bytes) is_it) tree stands in
          sheds_stands sheds (after tree (cut key)) (record { made = first.made; edges = edges_of-remove ends key ∙ ap (λ (e : Edges). finite.remove e key) first.edges; rows = first.rows });
      holds = λ n. sheds_holds sheds n ∙ same_holds step (ap (λ (c : Cell). c.holds) is_it) n;
      names = shed_names (kept_of old ends made) (kept_of between (finite.remove ends key) made) (kept_of new (finite.remove ends key) made) (λ node names needed. named_still step node names) sheds;
    }

-- the same of a node that loses a name
module _ (old new : Slab Cell) (ends : Ends) (made : ℕ) (key : EdgeKey) (to : Entry) (rows : AreRows old ends made) (there : finite.get ends key ≡ Some to)
    (bare : has_names (edges_of ends) to.node.number ≡ false) (loses : LosesName old new to.node.place) where
  pub rows_lost : AreRows new (finite.remove ends key) made
  rows_lost = rows_cut old loses.between new ends made key to loses.cell _ rows there loses.at loses.updates refl (in_no_key ends to.node.number bare) loses.forgets

  pub turns_lost : (graph : Kept) → kept_of old ends made ≡ graph → Turns graph (kept_of new (finite.remove ends key) made) (cut key)
  turns_lost graph view =
      let P : Kept → Type 0 = λ g. Turns g (kept_of new (finite.remove ends key) made) (cut key) in
      subst P view (turns old loses.between new ends made key to loses.cell _ rows there loses.at loses.updates refl (in_no_key ends to.node.number bare) loses.forgets)
