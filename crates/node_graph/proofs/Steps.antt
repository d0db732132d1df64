-- What nodes and names always are stays so in each step.
use Rattle.std.proofs.Common.{◌≡◌, ◌≢◌, ℕ, ◌+◌, ◌<◌, ◌≤◌, Option, Some, None, refl, ap, sym, ◌∙◌, subst, arith, cond, Bool, true, false, nat_lt, eqb-true, ◌^◌, ◌⊎◌, inl, inr}
use Rattle.std.specs.Prelude.{◌==◌, ◌||◌, is_some}
use Rattle.std.specs.Option.{option_map}
use Rattle.std.specs.FinMap as finite
use Rattle.std.proofs.lemmas.Bool.Decides.{nat_tests}
use Rattle.slab.specs.Slab.{Slab, get, Updates}
use Rattle.fidl_names.specs.declared.limits.TheConstants as limit
use Rattle.node_graph.specs.declared.nodes.NodeKind.TheVariants.{Directory}
use Rattle.node_graph.specs.declared.nodes.NodeRef.{NodeRef}
use Rattle.node_graph.specs.declared.nodes.Entry.{Entry}
use Rattle.node_graph.specs.Cell.{Cell}
use Rattle.node_graph.specs.Tree.{EdgeKey, EdgeTo, Edges, link_count, has_one_name}
use Rattle.node_graph.specs.Ends.{Ends, end_of, edges_of}
use Rattle.node_graph.specs.Rows.{is_needed, is_reached, Sits, AreAlmost, AreRows, Forgets, keeps, drops}
use Rattle.node_graph.proofs.RowLists.{same_some, mapped, cases, same, other}
use Rattle.node_graph.proofs.Ordered.{edges_total, comes, fresh, known}
use Rattle.node_graph.proofs.Linked.{get-edges_of, edges_of-insert, link_count-put, one_if, count_some, linked_by, linked_counted}
use Rattle.node_graph.proofs.Seats.{changed, kept, at_new, apart_still}
use Rattle.node_graph.proofs.Loops.{NoLoop, no_loop_put}

pub weaken : (nodes : Slab Cell) (ends : Ends) (made : ℕ) (spare : ℕ → Type 0) → AreRows nodes ends made → AreAlmost nodes ends made spare
weaken nodes ends made spare rows = record {
  root = rows.root;
  numbers = rows.numbers;
  apart = rows.apart;
  links = rows.links;
  needed = λ place cell at _. rows.needed place cell at (λ x. x);
  children = rows.children;
  parents = rows.parents;
  one_name = rows.one_name;
  ways_up = rows.ways_up;
  no_loop = rows.no_loop;
  few = rows.few;
  room = rows.room;
}

pub settle : (nodes : Slab Cell) (ends : Ends) (made place : ℕ) (cell : Cell) → AreAlmost nodes ends made (λ q. q ≡ place) → get nodes place ≡ Some cell → is_needed cell ≡ true → AreRows nodes ends made
settle nodes ends made place cell rows at needed = record {
  root = rows.root;
  numbers = rows.numbers;
  apart = rows.apart;
  links = rows.links;
  needed = λ p c there _. elim (cases p place) [
    | same e b ↦ ap is_needed (same_some _ _ (sym there ∙ ap (get nodes) e ∙ at)) ∙ needed
    | other e b ↦ rows.needed p c there e
  ];
  children = rows.children;
  parents = rows.parents;
  one_name = rows.one_name;
  ways_up = rows.ways_up;
  no_loop = rows.no_loop;
  few = rows.few;
  room = rows.room;
}

-- a cell that sits somewhere sits there after another one changed
pub sits_on : {old new : Slab Cell} {place : ℕ} {was is : Cell} → Updates old new place (Some is) → get old place ≡ Some was → is.number ≡ was.number → (p n : ℕ) (P : Cell → Type 0) → (P was → P is) → Sits old p n P → Sits new p n P
sits_on {old} {new} {place} {was} {is} u before number p n P turns (cell, at, numbered, holds) = elim (cases p place) [
  | same e b ↦
      let cell_is : cell ≡ was = same_some _ _ (sym at ∙ ap (get old) e ∙ before) in
      (is, ap (get new) e ∙ u.changed, number ∙ ap (λ (c : Cell). c.number) (sym cell_is) ∙ numbered, turns (subst P cell_is holds))
  | other e b ↦ (cell, u.others p e ∙ at, numbered, holds)
]

-- a cell changes in what no other fact tells of
pub cell_changes : (old new : Slab Cell) (ends : Ends) (made place : ℕ) (was is : Cell) → Updates old new place (Some is) → get old place ≡ Some was
    → is.number ≡ was.number → is.kind ≡ was.kind → is.links ≡ was.links → is.parent ≡ was.parent → AreRows old ends made → AreAlmost new ends made (λ q. q ≡ place)
cell_changes old new ends made place was is u before number kind links parent rows = record {
  root = sits_on u before number 0 1 (λ c. (c.kind ≡ Directory) × (c.links ≡ 0)) (λ p. (kind ∙ p.0, links ∙ p.1)) rows.root;
  numbers = λ p c there. elim (at_new u before number p c there) [
    | changed e is_it ↦ let P : ℕ → Type 0 = λ n. (1 ≤ n) × (n ≤ made) in subst P (sym (ap (λ (c : Cell). c.number) is_it ∙ number)) (rows.numbers place was before)
    | kept e at ↦ rows.numbers p c at
  ];
  apart = apart_still u before number rows.apart;
  links = λ p c there. elim (at_new u before number p c there) [
    | changed e is_it ↦ ap (λ (c : Cell). c.links) is_it ∙ links ∙ rows.links place was before ∙ ap (link_count (edges_of ends)) (sym (ap (λ (c : Cell). c.number) is_it ∙ number))
    | kept e at ↦ rows.links p c at
  ];
  needed = λ p c there not_it. elim (at_new u before number p c there) [
    | changed e is_it ↦ absurd (not_it e)
    | kept e at ↦ rows.needed p c at (λ x. x)
  ];
  children = λ key to there. sits_on u before number to.node.place to.node.number (λ c. c.kind ≡ to.kind) (λ k. kind ∙ k) (rows.children key to there);
  parents = λ key to there. let one = rows.parents key to there in (one.0, sits_on u before number one.0 key.directory (λ c. (c.kind ≡ Directory) × (is_reached c ≡ true)) (λ p. (kind ∙ p.0, reached_same p.1)) one.1);
  one_name = λ p c there single. elim (at_new u before number p c there) [
    | changed e is_it ↦
        let was_single : has_one_name was.kind ≡ true = ap has_one_name (sym kind ∙ ap (λ (c : Cell). c.kind) (sym is_it)) ∙ single in
        let few = rows.one_name place was before was_single in
        let count : c.links ≡ was.links = ap (λ (c : Cell). c.links) is_it ∙ links in
        omega (arith, few, count)
    | kept e at ↦ rows.one_name p c at single
  ];
  ways_up = λ key to c there directory at. elim (at_new u before number to.node.place c at) [
    | changed e is_it ↦
        let up = rows.ways_up key to was there directory (ap (get old) e ∙ before) in
        let parent_is : c.parent ≡ was.parent = ap (λ (c : Cell). c.parent) is_it ∙ parent in
        (ap (λ (n : NodeRef). n.number) parent_is ∙ up.0, let P : NodeRef → Type 0 = λ n. Sits new n.place n.number (λ a. a.kind ≡ Directory) in subst P (sym parent_is) (sits_on u before number was.parent.place was.parent.number (λ a. a.kind ≡ Directory) (λ k. kind ∙ k) up.1))
    | kept e was_at ↦
        let up = rows.ways_up key to c there directory was_at in
        (up.0, sits_on u before number c.parent.place c.parent.number (λ a. a.kind ≡ Directory) (λ k. kind ∙ k) up.1)
  ];
  no_loop = rows.no_loop;
  few = rows.few;
  room = rows.room;
}
  where
    reached_same : is_reached was ≡ true → is_reached is ≡ true
    reached_same r = ap (λ n. n == 1 || nat_lt 0 is.links) number ∙ ap (λ l. was.number == 1 || nat_lt 0 l) links ∙ r

-- what isn't needed is neither the root nor linked nor held
pub record Unneeded (cell : Cell) : Type 0 where
  pub no_root : cell.number ≢ 1
  pub unlinked : cell.links ≡ 0
  pub unheld : cell.holds ≡ 0

no_more : (n : ℕ) → nat_lt 0 n ≡ false → n ≡ 0
no_more n e = grind (arith, nat_tests)

pub neither : (a b : Bool) → (a || b) ≡ false → (a ≡ false) × (b ≡ false)
neither true b e = absurd (cc)
neither false b e = (refl, e)

pub unneeded : (cell : Cell) → is_needed cell ≡ false → Unneeded cell
unneeded cell e =
    let first = neither (cell.number == 1) (nat_lt 0 cell.links || nat_lt 0 cell.holds) e in
    let rest = neither (nat_lt 0 cell.links) (nat_lt 0 cell.holds) first.1 in
    record { no_root = λ one. absurd (let yes : cell.number == 1 ≡ true = ap (λ n. n == 1) one in cc); unlinked = no_more cell.links rest.0; unheld = no_more cell.holds rest.1 }

pub unreached : (cell : Cell) → Unneeded cell → is_reached cell ≡ true → ⊥
unreached cell un reached = by_cases (cell.number == 1) refl
  where
    by_cases : (b : Bool) → cell.number == 1 ≡ b → ⊥
    by_cases true e = un.no_root (eqb-true cell.number 1 e)
    by_cases false e =
        let linked : nat_lt 0 cell.links ≡ true = ap (λ b. b || nat_lt 0 cell.links) (sym e) ∙ reached in
        let none : nat_lt 0 cell.links ≡ false = ap (nat_lt 0) un.unlinked in
        cc

-- an edge counts for its node
pub leads_count : (ends : Ends) (key : EdgeKey) (to : Entry) → finite.get ends key ≡ Some to → 1 ≤ link_count (edges_of ends) to.node.number
leads_count ends key to there = count_some (edges_of ends) key (end_of to) (get-edges_of ends key ∙ ap (λ o. option_mapped o) there)
  where
    option_mapped : Option Entry → Option EdgeTo
    option_mapped None = None
    option_mapped (Some to) = Some (end_of to)

-- what isn't needed is taken out
pub forgotten : (old new : Slab Cell) (ends : Ends) (made place : ℕ) → AreAlmost old ends made (λ q. q ≡ place) → Forgets old new place → AreRows new ends made
forgotten old new ends made place rows (keeps cell at needed is) = let P : Slab Cell → Type 0 = λ s. AreRows s ends made in subst P (sym is) (settle old ends made place cell rows at needed)
forgotten old new ends made place rows (drops cell at spare u count) =
    let un = unneeded cell spare in
    record {
      root = sits_else 0 1 _ rows.root (λ e. un.no_root (ap (λ (c : Cell). c.number) (same_some _ _ (sym at ∙ ap (get old) (sym e) ∙ rows.root.1)) ∙ rows.root.2));
      numbers = λ p c there. rows.numbers p c (back p c there).1;
      apart = λ a b x y ax bx alike. rows.apart a b x y (back a x ax).1 (back b y bx).1 alike;
      links = λ p c there. rows.links p c (back p c there).1;
      needed = λ p c there _. rows.needed p c (back p c there).1 (back p c there).0;
      children = λ key to there.
          let one = rows.children key to there in
          sits_else to.node.place to.node.number _ one (λ e. absurd (
          let cell_is : cell ≡ one.0 = same_some _ _ (sym at ∙ ap (get old) (sym e) ∙ one.1) in
          let number : cell.number ≡ to.node.number = ap (λ (c : Cell). c.number) cell_is ∙ one.2 in
          let counted = leads_count ends key to there in
          let links : 0 ≡ link_count (edges_of ends) to.node.number = sym un.unlinked ∙ rows.links place cell at ∙ ap (link_count (edges_of ends)) number in
          omega (arith, counted, links)
          ));
      parents = λ key to there. let one = rows.parents key to there in (one.0, sits_else one.0 key.directory _ one.1 (not_parent key to there));
      one_name = λ p c there single. rows.one_name p c (back p c there).1 single;
      ways_up = λ key to c there directory there_c.
          let up = rows.ways_up key to c there directory (back to.node.place c there_c).1 in
          let parent = rows.parents key to there in (
            up.0,
            sits_else c.parent.place c.parent.number _ up.1 (λ e.
                not_parent key to there (rows.apart parent.0 c.parent.place parent.1.0 up.1.0 parent.1.1 up.1.1 (parent.1.2 ∙ sym up.0 ∙ sym up.1.2) ∙ e)),
          );
      no_loop = rows.no_loop;
      few = rows.few;
      room = rows.room;
    }
  where
    back : (p : ℕ) (c : Cell) → get new p ≡ Some c → (p ≢ place) × (get old p ≡ Some c)
    back p c there = elim (cases p place) [
      | same e b ↦ absurd (let wrong : None ≡ Some c = sym u.changed ∙ ap (get new) (sym e) ∙ there in cc)
      | other e b ↦ (e, sym (u.others p e) ∙ there)
    ]

    sits_else : (p n : ℕ) (P : Cell → Type 0) → Sits old p n P → p ≢ place → Sits new p n P
    sits_else p n P (c, c_at, numbered, holds) apart = (c, u.others p apart ∙ c_at, numbered, holds)

    not_parent : (key : EdgeKey) (to : Entry) (there : finite.get ends key ≡ Some to) → (rows.parents key to there).0 ≢ place
    not_parent key to there e =
        let one = rows.parents key to there in
        unreached cell (unneeded cell spare) (ap is_reached (same_some _ _ (sym at ∙ ap (get old) (sym e) ∙ one.1.1)) ∙ one.1.3.1)

-- a node comes with its first name
pub record Made (old new : Slab Cell) (ends : Ends) (made : ℕ) (key : EdgeKey) (to : Entry) (is : Cell) : Type 0 where
  pub updates : Updates old new to.node.place (Some is)
  pub vacant : get old to.node.place ≡ None
  pub number : is.number ≡ made + 1
  pub to_number : to.node.number ≡ made + 1
  pub kind : is.kind ≡ to.kind
  pub links : is.links ≡ 1
  pub absent : finite.get ends key ≡ None
  pub up_number : is.parent.number ≡ key.directory
  pub up : Sits old is.parent.place is.parent.number (λ c. (c.kind ≡ Directory) × (is_reached c ≡ true))
  pub few : finite.len ends < limit.MAX_NAMES
  pub room : made < 2 ^ 63

pub nobody : (old : Slab Cell) (ends : Ends) (made n : ℕ) → AreRows old ends made → made < n → link_count (edges_of ends) n ≡ 0
nobody old ends made n rows past = by_cases (nat_lt 0 (link_count (edges_of ends) n)) refl
  where
    by_cases : (b : Bool) → nat_lt 0 (link_count (edges_of ends) n) ≡ b → link_count (edges_of ends) n ≡ 0
    by_cases false e = no_more _ e
    by_cases true e = absurd (
        let edge = linked_by (edges_of ends) n (linked_counted (edges_of ends) n ∙ e) in
        let one = mapped end_of (finite.get ends edge.0) edge.1 (sym (get-edges_of ends edge.0) ∙ edge.2) in
        let child = rows.children edge.0 one.0 one.1 in
        let range = rows.numbers one.0.node.place child.0 child.1 in
        let number : child.0.number ≡ n = child.2 ∙ ap (λ (to : EdgeTo). to.child) one.2 ∙ edge.3 in
        omega (arith, range.1, number, past)
        )

pub or_true : (a : Bool) → (a || true) ≡ true
or_true true = refl
or_true false = refl

pub equal_numbers : (a b : ℕ) → a ≡ b → a == b ≡ true
equal_numbers a b e = grind (arith, nat_tests)

pub apart_numbers : (a b : ℕ) → a ≢ b → a == b ≡ false
apart_numbers a b e = grind (arith, nat_tests)

pub made_rows : (old new : Slab Cell) (ends : Ends) (made : ℕ) (key : EdgeKey) (to : Entry) (is : Cell) → AreRows old ends made → Made old new ends made key to is → AreRows new (finite.insert ends key to) (made + 1)
made_rows old new ends made key to is rows m = record {
  root = sits_still 0 1 _ rows.root;
  numbers = λ p c there. elim (at p c there) [
    | inl fresh_one ↦ let P : ℕ → Type 0 = λ n. (1 ≤ n) × (n ≤ made + 1) in subst P (sym (ap (λ (c : Cell). c.number) fresh_one.1 ∙ m.number)) (omega arith, omega arith)
    | inr old_one ↦ let range = rows.numbers p c old_one in (range.0, omega (arith, range.1))
  ];
  apart = λ a b x y ax bx alike. elim (at a x ax) [
    | inl fresh_a ↦ elim (at b y bx) [
      | inl fresh_b ↦ fresh_a.0 ∙ sym fresh_b.0
      | inr old_b ↦ absurd (too_far b y old_b (sym alike ∙ ap (λ (c : Cell). c.number) fresh_a.1 ∙ m.number))
    ]
    | inr old_a ↦ elim (at b y bx) [
      | inl fresh_b ↦ absurd (too_far a x old_a (alike ∙ ap (λ (c : Cell). c.number) fresh_b.1 ∙ m.number))
      | inr old_b ↦ rows.apart a b x y old_a old_b alike
    ]
  ];
  links = λ p c there. elim (at p c there) [
    | inl fresh_one ↦
        let count = counted (made + 1) in
        let none = nobody old ends made (made + 1) rows (omega arith) in
        let itself : one_if (to.node.number == made + 1) ≡ 1 = ap one_if (equal_numbers to.node.number (made + 1) m.to_number) in
        let total : link_count (edges_of (finite.insert ends key to)) (made + 1) ≡ 1 = omega (arith, count, none, itself) in
        ap (λ (c : Cell). c.links) fresh_one.1 ∙ m.links ∙ sym total ∙ ap (link_count (edges_of (finite.insert ends key to))) (sym (ap (λ (c : Cell). c.number) fresh_one.1 ∙ m.number))
    | inr old_one ↦
        let count = counted c.number in
        let range = rows.numbers p c old_one in
        let not_it : one_if (to.node.number == c.number) ≡ 0 = ap one_if (apart_numbers to.node.number c.number (λ e. absurd (let is_far = m.to_number in omega (arith, e, is_far, range.1)))) in
        let was = rows.links p c old_one in
        omega (arith, count, not_it, was)
  ];
  needed = λ p c there _. elim (at p c there) [
    | inl fresh_one ↦ ap is_needed fresh_one.1 ∙ fresh_needed
    | inr old_one ↦ rows.needed p c old_one (λ x. x)
  ];
  children = λ k t there. elim (comes ends key to k t there) [
    | fresh e is_it ↦ let P : Entry → Type 0 = λ t. Sits new t.node.place t.node.number (λ c. c.kind ≡ t.kind) in subst P is_it (is, m.updates.changed, m.number ∙ sym m.to_number, m.kind)
    | known e was ↦ sits_still t.node.place t.node.number _ (rows.children k t was)
  ];
  parents = λ k t there. elim (comes ends key to k t there) [
    | fresh e is_it ↦
        let P : ℕ → Type 0 = λ n. (place : ℕ) × Sits new place n (λ c. (c.kind ≡ Directory) × (is_reached c ≡ true)) in
        subst P (m.up_number ∙ ap (λ (k : EdgeKey). k.directory) (sym e)) (is.parent.place, sits_still is.parent.place is.parent.number _ m.up)
    | known e was ↦ let one = rows.parents k t was in (one.0, sits_still one.0 k.directory _ one.1)
  ];
  one_name = λ p c there single. elim (at p c there) [
    | inl fresh_one ↦ let links : c.links ≡ 1 = ap (λ (c : Cell). c.links) fresh_one.1 ∙ m.links in omega (arith, links)
    | inr old_one ↦ rows.one_name p c old_one single
  ];
  ways_up = λ k t c there directory at_c. elim (comes ends key to k t there) [
    | fresh e is_it ↦
        let c_is : is ≡ c = same_some _ _ (sym m.updates.changed ∙ ap (λ (t : Entry). get new t.node.place) is_it ∙ at_c) in
        let P : Cell → Type 0 = λ c. (c.parent.number ≡ k.directory) × Sits new c.parent.place c.parent.number (λ a. a.kind ≡ Directory) in
        let up = sits_still is.parent.place is.parent.number _ m.up in
        subst P c_is (m.up_number ∙ ap (λ (k : EdgeKey). k.directory) (sym e), (up.0, up.1, up.2, up.3.0))
    | known e was ↦
        let child = rows.children k t was in
        let same_cell : child.0 ≡ c = same_some _ _ (sym (still_at t.node.place child.0 child.1) ∙ at_c) in
        let up = rows.ways_up k t c was directory (child.1 ∙ ap Some same_cell) in
        (up.0, sits_still c.parent.place c.parent.number _ up.1)
  ];
  no_loop = subst NoLoop (sym (edges_of-insert ends key to)) (no_loop_put (edges_of ends) key (end_of to) no_parent elsewhere rows.no_loop);
  few = more_names;
  room = let room = m.room in omega (arith, room);
}
  where
    at : (p : ℕ) (c : Cell) → get new p ≡ Some c → ((p ≡ to.node.place) × (c ≡ is)) ⊎ (get old p ≡ Some c)
    at p c there = elim (cases p to.node.place) [
      | same e b ↦ inl (e, same_some _ _ (sym there ∙ ap (get new) e ∙ m.updates.changed))
      | other e b ↦ inr (sym (m.updates.others p e) ∙ there)
    ]

    still_at : (p : ℕ) (c : Cell) → get old p ≡ Some c → get new p ≡ Some c
    still_at p c c_at = elim (cases p to.node.place) [
      | same e b ↦ absurd (let wrong : None ≡ Some c = sym m.vacant ∙ ap (get old) (sym e) ∙ c_at in cc)
      | other e b ↦ m.updates.others p e ∙ c_at
    ]

    sits_still : (p n : ℕ) (P : Cell → Type 0) → Sits old p n P → Sits new p n P
    sits_still p n P (c, c_at, numbered, holds) = (c, still_at p c c_at, numbered, holds)

    too_far : (p : ℕ) (c : Cell) → get old p ≡ Some c → c.number ≡ made + 1 → ⊥
    too_far p c there far = let range = rows.numbers p c there in omega (arith, range.1, far)

    no_parent : (k : EdgeKey) (t : EdgeTo) → finite.get (edges_of ends) k ≡ Some t → k.directory ≢ to.node.number
    no_parent k t there e =
        let one = mapped end_of (finite.get ends k) t (sym (get-edges_of ends k) ∙ there) in
        let parent = rows.parents k one.0 one.1 in
        too_far parent.0 parent.1.0 parent.1.1 (parent.1.2 ∙ e ∙ m.to_number)

    elsewhere : key.directory ≢ to.node.number
    elsewhere e = too_far is.parent.place m.up.0 m.up.1 (m.up.2 ∙ m.up_number ∙ e ∙ m.to_number)

    counted : (n : ℕ) → link_count (edges_of (finite.insert ends key to)) n ≡ link_count (edges_of ends) n + one_if (to.node.number == n)
    counted n = ap (λ (edges : Edges). link_count edges n) (edges_of-insert ends key to) ∙ link_count-put (edges_of ends) key (end_of to) n (get-edges_of ends key ∙ ap (option_map end_of) m.absent)

    fresh_needed : is_needed is ≡ true
    fresh_needed =
        let linked : nat_lt 0 is.links ≡ true = ap (nat_lt 0) m.links in
        ap (λ b. is.number == 1 || (b || nat_lt 0 is.holds)) linked ∙ or_true (is.number == 1)

    more_names : finite.len (finite.insert ends key to) ≤ limit.MAX_NAMES
    more_names =
        let few = m.few in
        let len = finite.len-insert edges_total ends key to in
        let absent : is_some (finite.get ends key) ≡ false = ap is_some m.absent in
        let one_more : finite.len (finite.insert ends key to) ≡ finite.len ends + 1 = len ∙ ap (λ b. cond b (finite.len ends) (finite.len ends + 1)) absent in
        omega (arith, few, one_more)
