-- Ways up from a node to a directory above it: climbing finds just those.
use Rattle.std.proofs.Common.{◌≡◌, ℕ, zero, suc, ◌+◌, ◌≤◌, List, [], ◌∷◌, Some, None, refl, ap, sym, ◌∙◌, subst, arith, cond, Bool, true, false, ◌⊎◌, inl, inr, eqb-true, T}
use Rattle.std.specs.Prelude.{◌==◌, ◌||◌, is_some}
use Rattle.std.specs.List.{list_any}
use Rattle.std.specs.declared.cmp.Ordering.TheVariants.{Less, Equal, Greater}
use Rattle.std.specs.FinMap as finite
use Rattle.std.specs.FinMap.Entries as entry
use Rattle.node_graph.specs.Tree.{EdgeKey, EdgeTo, Edges, edge_cmp, Below, child, deeper, Tree, IsSound}
use Rattle.node_graph.specs.Refusals.{parents_of, lies_within}
use Rattle.node_graph.proofs.RowLists.{same_some}
use Rattle.node_graph.proofs.Ordered.{edges_total, standing, earlier, alike, later, same_or_other, same, other, comes, fresh, known, stays, both_true, get-cut_here, get-cut_other}
use Rattle.node_graph.proofs.Linked.{below_found, put_back}
use Rattle.node_graph.proofs.Steps.{equal_numbers}
use Rattle.node_graph.proofs.Climbs.{parents_in, parents_cons}
use Rattle.node_graph.proofs.Loops.{NoLoop, no_loop_cut}

-- so many edges lead from a directory down to a node
abbrev pub Ways : ℕ → Edges → ℕ → ℕ → Type 0
Ways zero edges number above = number ≡ above
Ways (suc count) edges number above = (from : EdgeKey) × (to : EdgeTo) × (finite.get edges from ≡ Some to) × (to.child ≡ number) × Ways count edges from.directory above

pub way_of : (edges : Edges) (x d : ℕ) → Below edges x d → (count : ℕ) × Ways (suc count) edges x d
way_of edges _ _ (child from to there) = (0, (from, to, there, refl, refl))
way_of edges _ _ (deeper from to d there below) = let rest = way_of edges from.directory d below in (suc rest.0, (from, to, there, refl, rest.1))

pub below_of : (count : ℕ) (edges : Edges) (x d : ℕ) → Ways (suc count) edges x d → Below edges x d
below_of zero edges x d (from, to, there, is, last) =
    let P : ℕ → Type 0 = λ n. Below edges n d in
    let Q : ℕ → Type 0 = λ n. Below edges to.child n in
    subst P is (subst Q last (child from to there))
below_of (suc count) edges x d (from, to, there, is, rest) =
    let P : ℕ → Type 0 = λ n. Below edges n d in
    subst P is (deeper from to d there (below_of count edges from.directory d rest))

pub join : (m n : ℕ) (edges : Edges) (x y d : ℕ) → Ways m edges x y → Ways n edges y d → (count : ℕ) × Ways count edges x d
join zero n edges x y d e rest = let P : ℕ → Type 0 = λ v. Ways n edges v d in (n, subst P (sym e) rest)
join (suc m) n edges x y d (from, to, there, is, more) rest = let whole = join m n edges from.directory y d more rest in (suc whole.0, (from, to, there, is, whole.1))

-- a way takes an edge, or is still there without it
avoids : (edges : Edges) (key : EdgeKey) (to : EdgeTo) → finite.get edges key ≡ Some to → (m y d : ℕ) → Ways m edges y d → Ways m (finite.remove edges key) y d ⊎ ((j : ℕ) × Ways j edges y to.child)
avoids edges key to there zero y d e = inl e
avoids edges key to there (suc m) y d (k, t, k_there, is, rest) =
    elim (same_or_other k key) [
      | same e b ↦ inr (0, sym is ∙ ap (λ (x : EdgeTo). x.child) (same_some _ _ (sym k_there ∙ ap (finite.get edges) e ∙ there)))
      | other e b ↦ elim (avoids edges key to there m k.directory d rest) [
        | inl left ↦ inl (k, t, get-cut_other edges key k e ∙ k_there, is, left)
        | inr taken ↦ inr (suc taken.0, (k, t, k_there, is, taken.1))
      ]
    ]

pub one_fewer : (edges : Edges) (key : EdgeKey) (to : EdgeTo) → finite.get edges key ≡ Some to → finite.len edges ≡ finite.len (finite.remove edges key) + 1
one_fewer edges key to there =
    ap (λ (e : Edges). finite.len e) (sym (put_back edges key to there))
    ∙ finite.len-insert edges_total (finite.remove edges key) key to ∙ ap (λ b. cond b (finite.len (finite.remove edges key)) (finite.len (finite.remove edges key) + 1)) (ap is_some (get-cut_here edges key))

-- without a loop no way is longer than there are edges
short : (m : ℕ) (edges : Edges) → NoLoop edges → (x d : ℕ) → Ways m edges x d → m ≤ finite.len edges
short zero edges no_loop x d way = omega arith
short (suc m) edges no_loop x d (from, to, there, is, rest) =
    elim (avoids edges from to there m from.directory d rest) [
      | inl left ↦
          let fewer = short m (finite.remove edges from) (no_loop_cut edges from no_loop) from.directory d left in
          let count = one_fewer edges from to there in
          omega (arith, fewer, count)
      | inr around ↦ absurd (no_loop to.child (below_of around.0 edges to.child to.child (from, to, there, refl, around.1)))
    ]

-- a parent that passes makes the list of parents pass
any_parent : (f : ℕ → Bool) (n : ℕ) (es : List (EdgeKey × EdgeTo)) (k : EdgeKey) (t : EdgeTo) → entry.find edge_cmp k es ≡ Some t → t.child ≡ n → f k.directory ≡ true → list_any f (parents_in n es) ≡ true
any_parent f n [] k t found is passes = absurd (let wrong : None ≡ Some t = found in cc)
any_parent f n (e ∷ es) k t found is passes =
    elim (same_or_other k e.0) [
      | same eq b ↦
          let t_is : e.1 ≡ t = same_some _ _ (sym (ap (λ c. cond c (Some e.1) (entry.find edge_cmp k es)) b) ∙ found) in
          let yes : e.1.child == n ≡ true = equal_numbers e.1.child n (ap (λ (to : EdgeTo). to.child) t_is ∙ is) in
          ap (list_any f) (parents_cons n e es true yes) ∙ ap (λ b. b || list_any f (parents_in n es)) (ap (λ (x : EdgeKey). f x.directory) (sym eq) ∙ passes)
      | other apart b ↦
          let rest = any_parent f n es k t (sym (ap (λ c. cond c (Some e.1) (entry.find edge_cmp k es)) b) ∙ found) is passes in
          elim (e.1.child == n) as (λ c. e.1.child == n ≡ c → list_any f (parents_in n (e ∷ es)) ≡ true) [
            | true ↦ λ c. ap (list_any f) (parents_cons n e es true c) ∙ ap (λ b. f e.0.directory || b) rest ∙ or_true (f e.0.directory)
            | false ↦ λ c. ap (list_any f) (parents_cons n e es false c) ∙ rest
          ] refl
    ]
  where
    or_true : (a : Bool) → (a || true) ≡ true
    or_true true = refl
    or_true false = refl

lies : (k m : ℕ) (edges : Edges) (x d : ℕ) → m ≤ k → Ways m edges x d → lies_within k edges x d ≡ true
lies zero zero edges x d few e = equal_numbers x d e
lies zero (suc m) edges x d few way = absurd (omega (arith, few))
lies (suc k) zero edges x d few e = ap (λ b. b || list_any (λ p. lies_within k edges p d) (parents_of edges x)) (equal_numbers x d e)
lies (suc k) (suc m) edges x d few (from, to, there, is, rest) =
    let above = any_parent (λ p. lies_within k edges p d) x (finite.entries edges) from to (sym (finite.get-entries edges from) ∙ there) is (lies k m edges from.directory d (omega (arith, few)) rest) in
    ap (λ b. (x == d) || b) above ∙ or_true (x == d)
  where
    or_true : (a : Bool) → (a || true) ≡ true
    or_true true = refl
    or_true false = refl

pub way_found : (edges : Edges) → NoLoop edges → (m x d : ℕ) → Ways m edges x d → lies_within (finite.len edges) edges x d ≡ true
way_found edges no_loop m x d way = lies (finite.len edges) m edges x d (short m edges no_loop x d way) way

pub below_found_up : (tree : Tree) (x d : ℕ) → IsSound tree → Below tree.edges x d → lies_within (finite.len tree.edges) tree.edges x d ≡ true
below_found_up tree x d sound below = let way = way_of tree.edges x d below in way_found tree.edges sound.no_loop (suc way.0) x d way.1

-- ---- what climbing finds is there

not_below_itself : (k : EdgeKey) → edge_cmp k k ≡ Less → ⊥
not_below_itself k less = elim (standing k k) [
  | earlier a b ↦ let wrong : Less ≡ Greater = sym less ∙ b in absurd (cc)
  | alike a b ↦ let wrong : Less ≡ Equal = sym less ∙ a in absurd (cc)
  | later a b ↦ let wrong : Less ≡ Greater = sym less ∙ a in absurd (cc)
]

record Parent (f : ℕ → Bool) (n : ℕ) (es : List (EdgeKey × EdgeTo)) : Type 0 where
  from : EdgeKey
  to : EdgeTo
  there : entry.find edge_cmp from es ≡ Some to
  is : to.child ≡ n
  passes : f from.directory ≡ true

parent_first : (f : ℕ → Bool) (n : ℕ) (e : EdgeKey × EdgeTo) (es : List (EdgeKey × EdgeTo)) → e.1.child == n ≡ true → f e.0.directory ≡ true → Parent f n (e ∷ es)
parent_first f n e es is passes = record { from = e.0; to = e.1; there = itself; is = eqb-true e.1.child n is; passes = passes }
  where
    itself : entry.find edge_cmp e.0 (e ∷ es) ≡ Some e.1
    itself = elim (same_or_other e.0 e.0) [
      | same eq b ↦ ap (λ c. cond c (Some e.1) (entry.find edge_cmp e.0 es)) b
      | other apart b ↦ absurd (apart refl)
    ]

parent_later : (f : ℕ → Bool) (n : ℕ) (e : EdgeKey × EdgeTo) (es : List (EdgeKey × EdgeTo)) → finite.is_sorted edge_cmp (e ∷ es) ≡ true → Parent f n es → Parent f n (e ∷ es)
parent_later f n e es sorted p = record { from = p.from; to = p.to; there = later; is = p.is; passes = p.passes }
  where
    later : entry.find edge_cmp p.from (e ∷ es) ≡ Some p.to
    later = elim (same_or_other p.from e.0) [
      | same eq b ↦ absurd (
          let lower = below_found e.0 p.from es p.to (both_true _ _ sorted).0 p.there in
          not_below_itself e.0 (ap (edge_cmp e.0) (sym eq) ∙ lower)
          )
      | other apart b ↦ ap (λ c. cond c (Some e.1) (entry.find edge_cmp p.from es)) b ∙ p.there
    ]

some_passing : (f : ℕ → Bool) (n : ℕ) (es : List (EdgeKey × EdgeTo)) → finite.is_sorted edge_cmp es ≡ true → list_any f (parents_in n es) ≡ true → Parent f n es
some_passing f n [] sorted any = absurd (cc)
some_passing f n (e ∷ es) sorted any =
    elim (e.1.child == n) as (λ c. e.1.child == n ≡ c → Parent f n (e ∷ es)) [
      | false ↦ λ c. parent_later f n e es sorted (some_passing f n es (both_true _ _ sorted).1 (sym (ap (list_any f) (parents_cons n e es false c)) ∙ any))
      | true ↦ λ c. elim (f e.0.directory) as (λ b. f e.0.directory ≡ b → Parent f n (e ∷ es)) [
        | true ↦ λ passes. parent_first f n e es c passes
        | false ↦ λ fails. parent_later f n e es sorted (some_passing f n es (both_true _ _ sorted).1 (sym (ap (list_any f) (parents_cons n e es true c) ∙ ap (λ b. b || list_any f (parents_in n es)) fails) ∙ any))
      ] refl
    ] refl

is_true : (b : Bool) → T b → b ≡ true
is_true true t = refl
is_true false t = absurd t

found_way : (k : ℕ) (edges : Edges) (x d : ℕ) → lies_within k edges x d ≡ true → (m : ℕ) × Ways m edges x d
found_way zero edges x d found = (0, eqb-true x d found)
found_way (suc k) edges x d found =
    elim (x == d) as (λ b. x == d ≡ b → (b || list_any (λ p. lies_within k edges p d) (parents_of edges x)) ≡ true → (m : ℕ) × Ways m edges x d) [
      | true ↦ λ e found. (0, eqb-true x d e)
      | false ↦ λ e found.
          let p = some_passing (λ p. lies_within k edges p d) x (finite.entries edges) (is_true _ (finite.entries_sorted edges)) found in
          let rest = found_way k edges p.from.directory d p.passes in
          (suc rest.0, (p.from, p.to, finite.get-entries edges p.from ∙ p.there, p.is, rest.1))
    ] refl found

pub found_below : (k : ℕ) (edges : Edges) (x d : ℕ) → lies_within k edges x d ≡ true → (x ≡ d) ⊎ Below edges x d
found_below k edges x d found = by_cases (found_way k edges x d found)
  where
    by_cases : ((m : ℕ) × Ways m edges x d) → (x ≡ d) ⊎ Below edges x d
    by_cases (zero, e) = inl e
    by_cases (suc m, way) = inr (below_of m edges x d way)

-- ---- a name moves

-- ways without a name are ways with it
pub way_cut : (count : ℕ) (edges : Edges) (key : EdgeKey) (x d : ℕ) → Ways count (finite.remove edges key) x d → Ways count edges x d
way_cut zero edges key x d e = e
way_cut (suc count) edges key x d (k, t, there, is, rest) = (k, t, (stays edges key k t there).1, is, way_cut count edges key k.directory d rest)

module _ (edges : Edges) (from key : EdgeKey) (to : EdgeTo) (loop_free : NoLoop edges) (not_within : (count : ℕ) → ¬ (Ways count edges key.directory to.child)) where
  abbrev edges_new : Edges
  edges_new = finite.insert (finite.remove edges from) key to

  -- ways up after the move take the moved edge, or were there
  splits : (n x d : ℕ) → Ways n edges_new x d → Ways n edges x d ⊎ ((j : ℕ) × (l : ℕ) × Ways j edges x to.child × Ways l edges_new key.directory d)
  splits zero x d e = inl e
  splits (suc n) x d (k, t, there, is, rest) = elim (comes (finite.remove edges from) key to k t there) [
    | fresh e new ↦ inr (0, n, sym is ∙ ap (λ (t : EdgeTo). t.child) (sym new), (let P : EdgeKey → Type 0 = λ k. Ways n edges_new k.directory d in subst P e rest))
    | known apart left ↦
        let was = (stays edges from k t left).1 in
        elim (splits n k.directory d rest) [
          | inl old ↦ inl (k, t, was, is, old)
          | inr (j, l, first, second) ↦ inr (suc j, l, (k, t, was, is, first), second)
        ]
  ]

  pub no_loop_move : NoLoop edges_new
  no_loop_move n below =
      let way = way_of edges_new n n below in
      elim (splits (suc way.0) n n way.1) [
        | inl old ↦ loop_free n (below_of way.0 edges n n old)
        | inr (j, l, first, second) ↦ elim (splits l key.directory n second) [
          | inl old ↦ let whole = join l j edges key.directory n to.child old first in not_within whole.0 whole.1
          | inr (i, l2, again, third) ↦ not_within i again
        ]
      ]
