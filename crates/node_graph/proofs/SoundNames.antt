-- A name is taken out, added or moved, and a sound tree stays sound.
use Rattle.std.proofs.Common.{◌≡◌, ◌≢◌, ℕ, zero, suc, ◌+◌, ◌-◌, ◌≤◌, [], ◌∷◌, length, Option, Some, None, IsSome, refl, ap, sym, ◌∙◌, subst, arith, cond, Bool, true, false, not, nat_lt, nat_le, eqb-true}
use Rattle.std.specs.Prelude.{◌==◌, ◌&&◌, is_some, is_none, if◌then◌else◌}
use Rattle.std.specs.Option.{option_map, option_map_or}
use Rattle.std.specs.FinMap as finite
use Rattle.std.proofs.lemmas.Bool.Decides.{nat_tests}
use Rattle.fidl_names.specs.First.{cause_if, first_of}
use Rattle.fidl_names.proofs.FirstLaws.{first_of-none, cause_if-none}
use Rattle.fidl_names.specs.declared.limits.TheConstants as limit
use Rattle.node_graph.specs.declared.nodes.NodeKind.{NodeKind}
use Rattle.node_graph.specs.declared.nodes.NodeKind.TheVariants.{Directory, File, Service, Mount}
use Rattle.node_graph.specs.declared.faults.GraphFault.{GraphFault}
use Rattle.node_graph.specs.declared.faults.GraphFault.TheVariants as fault
use Rattle.node_graph.specs.Tree.{Tree, Edges, EdgeKey, EdgeTo, Change, row_of, kind_of, is_linked, is_removed, link_count, has_one_name, after, cut, add, move, stay, IsSound}
use Rattle.node_graph.specs.Refusals.{is_directory, is_mount, is_no_directory, edge_at, leads_to, directory_behind, has_names, leads_to_names, is_same_name, is_loop, lies_within, unlink_refusal, link_refusal, replace_refusal, rename_refusal, link_change, rename_change}
use Rattle.node_graph.proofs.Ordered.{edges_total, same_edges, same_or_other, same, other, stays, comes, fresh, known, get-put_here, get-put_other, get-cut_here, get-cut_other}
use Rattle.node_graph.proofs.Linked.{link_count-cut, link_count-put, link_count-absent, linked_counted, one_if}
use Rattle.node_graph.proofs.Steps.{equal_numbers, apart_numbers}
use Rattle.node_graph.proofs.Losses.{none_found}
use Rattle.node_graph.proofs.Ways.{Ways, no_loop_move, one_fewer, way_found}
use Rattle.node_graph.proofs.Loops.{no_loop_cut, no_loop_put}

-- a node that isn't removed is the root or linked
data Stands (edges : Edges) (number : ℕ) : Type 0 where
  root : number ≡ 1 → Stands edges number
  linked : 1 ≤ link_count edges number → Stands edges number

positive : (n : ℕ) → nat_lt 0 n ≡ true → 1 ≤ n
positive n e = grind (arith, nat_tests)

is_positive : (n : ℕ) → 1 ≤ n → nat_lt 0 n ≡ true
is_positive n e = grind (arith, nat_tests)

stands_of : (edges : Edges) (number : ℕ) → is_removed edges number ≡ false → Stands edges number
stands_of edges number here = by_cases (number == 1) (is_linked edges number) refl refl here
  where
    by_cases : (is_root is_linked_too : Bool) → number == 1 ≡ is_root → is_linked edges number ≡ is_linked_too → (not is_root && not is_linked_too) ≡ false → Stands edges number
    by_cases true l e1 e2 here = root (eqb-true number 1 e1)
    by_cases false true e1 e2 here = linked (positive _ (sym (linked_counted edges number) ∙ e2))
    by_cases false false e1 e2 here = absurd (cc)

stays_here : (edges : Edges) (number : ℕ) → Stands edges number → is_removed edges number ≡ false
stays_here edges number (root e) = ap (λ b. not b && not (is_linked edges number)) (equal_numbers number 1 e)
stays_here edges number (linked some) = ap (λ b. not (number == 1) && not b) (linked_counted edges number ∙ is_positive _ some) ∙ and_false (not (number == 1))
  where
    and_false : (a : Bool) → (a && false) ≡ false
    and_false true = refl
    and_false false = refl

-- where a directory has no names, no key is in it
not_in : (edges : Edges) (number : ℕ) → has_names edges number ≡ false → (from : EdgeKey) (to : EdgeTo) → finite.get edges from ≡ Some to → from.directory ≢ number
not_in edges number none from to there e =
    let no : from.directory == number ≡ false = none_found number (finite.entries edges) from to (sym (finite.get-entries edges from) ∙ there) none in
    let yes : from.directory == number ≡ true = equal_numbers from.directory number e in
    absurd (let wrong : false ≡ true = sym no ∙ yes in cc)

-- ---- a name is taken out

abbrev cut_causes : Bool → Bool → Bool → Bool → Option GraphFault
cut_causes absent mount no_directory full = first_of (cause_if absent fault.NotFound ∷ cause_if mount fault.Unsupported ∷ cause_if no_directory fault.NotDir ∷ cause_if full fault.NotEmpty ∷ [])

no_cause : (absent mount no_directory full : Bool) → cut_causes absent mount no_directory full ≡ None → (absent ≡ false) × (full ≡ false)
no_cause true mount no_directory full e = absurd (let wrong : Some fault.NotFound ≡ None = e in cc)
no_cause false true no_directory full e = absurd (let wrong : Some fault.Unsupported ≡ None = e in cc)
no_cause false false true full e = absurd (let wrong : Some fault.NotDir ≡ None = e in cc)
no_cause false false false true e = absurd (let wrong : Some fault.NotEmpty ≡ None = e in cc)
no_cause false false false false e = (refl, refl)

-- what is taken out is there, and has no names in it
record IsBare (tree : Tree) (key : EdgeKey) : Type 0 where
  to : EdgeTo
  there : finite.get tree.edges key ≡ Some to
  bare : has_names tree.edges to.child ≡ false

unlinked_bare : (tree : Tree) (key : EdgeKey) (must_be_dir : Bool) → unlink_refusal tree key must_be_dir ≡ None → IsBare tree key
unlinked_bare tree key must_be_dir none =
    let causes = no_cause (is_none (edge_at tree key)) (leads_to is_mount tree key) (must_be_dir && leads_to is_no_directory tree key) (leads_to_names tree key) none in
    by_cases (edge_at tree key) refl causes.0 causes.1
  where
    by_cases : (o : Option EdgeTo) → edge_at tree key ≡ o → is_none (edge_at tree key) ≡ false → leads_to_names tree key ≡ false → IsBare tree key
    by_cases None e some bare = absurd (let wrong : true ≡ false = sym (ap is_none e) ∙ some in cc)
    by_cases (Some to) e some bare = record { to = to; there = e; bare = sym (ap (λ o. option_map_or (λ (t : EdgeTo). has_names tree.edges t.child) o false) e) ∙ bare }

pub cut_sound : (tree : Tree) (key : EdgeKey) (must_be_dir : Bool) → IsSound tree → unlink_refusal tree key must_be_dir ≡ None → IsSound (after tree (cut key))
cut_sound tree key must_be_dir sound free =
    let gone = unlinked_bare tree key must_be_dir free in
    record {
      root = sound.root;
      names = λ from x there. sound.names from x (stays tree.edges key from x there).1;
      parents = λ from x there. sound.parents from x (stays tree.edges key from x there).1;
      children = λ from x there. sound.children from x (stays tree.edges key from x there).1;
      one_name = λ a b x y k at_a at_b same kind only. sound.one_name a b x y k (stays tree.edges key a x at_a).1 (stays tree.edges key b y at_b).1 same kind only;
      no_loop = no_loop_cut tree.edges key sound.no_loop;
      removed = λ from x there.
          let was = (stays tree.edges key from x there).1 in
          stays_here (finite.remove tree.edges key) from.directory (still tree.edges key gone.to from.directory gone.there (not_in tree.edges gone.to.child gone.bare from x was) (stands_of tree.edges from.directory (sound.removed from x was)));
      few_names = fewer tree.edges key gone.to gone.there sound.few_names;
      short_files = sound.short_files;
    }
  where
    still : (edges : Edges) (key : EdgeKey) (to : EdgeTo) (n : ℕ) → finite.get edges key ≡ Some to → n ≢ to.child → Stands edges n → Stands (finite.remove edges key) n
    still edges key to n there apart (root e) = root e
    still edges key to n there apart (linked some) =
        let count = link_count-cut edges key to n there in
        let not_it : one_if (to.child == n) ≡ 0 = ap one_if (apart_numbers to.child n (λ e. apart (sym e))) in
        linked (omega (arith, some, count, not_it))

    fewer : (edges : Edges) (key : EdgeKey) (to : EdgeTo) → finite.get edges key ≡ Some to → finite.len edges ≤ limit.MAX_NAMES → finite.len (finite.remove edges key) ≤ limit.MAX_NAMES
    fewer edges key to there few =
        let len = finite.len-remove edges_total edges key ∙ ap (λ b. cond b (finite.len edges - 1) (finite.len edges)) (ap is_some there) in
        omega (arith, few, len)

-- ---- a name is added

-- an edge of the tree, and what its node is not
record IsAddable (tree : Tree) (from key : EdgeKey) : Type 0 where
  to : EdgeTo
  there : finite.get tree.edges from ≡ Some to
  no_mount : leads_to is_mount tree from ≡ false
  no_directory : leads_to is_directory tree from ≡ false
  reached : is_removed tree.edges key.directory ≡ false
  absent : is_some (finite.get tree.edges key) ≡ false
  few : nat_le limit.MAX_NAMES (finite.len tree.edges) ≡ false

present_edge : (o : Option EdgeTo) → is_none o ≡ false → (to : EdgeTo) × (o ≡ Some to)
present_edge None e = absurd (cc)
present_edge (Some to) e = (to, refl)

addable : (tree : Tree) (from key : EdgeKey) → link_refusal tree from key ≡ None → IsAddable tree from key
addable tree from key none =
    let a = first_of-none (cause_if (is_none (edge_at tree from)) fault.NotFound) _ none in
    let b = first_of-none (cause_if (leads_to is_mount tree from) fault.Unsupported) _ a.1 in
    let c = first_of-none (cause_if (leads_to is_directory tree from) fault.NotFile) _ b.1 in
    let d = first_of-none (cause_if (is_removed tree.edges key.directory) fault.Removed) _ c.1 in
    let e = first_of-none (cause_if (is_some (edge_at tree key)) fault.Exists) _ d.1 in
    let f = first_of-none (cause_if (nat_le limit.MAX_NAMES (finite.len tree.edges)) fault.NoSpace) _ e.1 in
    let edge = present_edge (edge_at tree from) (cause_if-none _ _ a.0) in
    record {
      to = edge.0;
      there = edge.1;
      no_mount = cause_if-none _ _ b.0;
      no_directory = cause_if-none _ _ c.0;
      reached = cause_if-none _ _ d.0;
      absent = cause_if-none _ _ e.0;
      few = cause_if-none _ _ f.0;
    }

no_edge : (o : Option EdgeTo) → is_some o ≡ false → o ≡ None
no_edge None e = refl
no_edge (Some to) e = absurd (cc)

-- what a test says of the node that an edge leads to
tests : (tree : Tree) (from : EdgeKey) (to : EdgeTo) (test : NodeKind → Bool) (what : NodeKind) → finite.get tree.edges from ≡ Some to → kind_of tree to.child ≡ Some what → leads_to test tree from ≡ test what
tests tree from to test what there kind =
    ap (λ o. option_map_or (λ (t : EdgeTo). option_map_or test (kind_of tree t.child) false) o false) there ∙ ap (λ o. option_map_or test o false) kind

many_names : (what : NodeKind) → is_mount what ≡ false → is_directory what ≡ false → has_one_name what ≡ true → ⊥
many_names Directory mount directory single = let wrong : true ≡ false = directory in absurd (cc)
many_names File mount directory single = let wrong : false ≡ true = single in absurd (cc)
many_names Service mount directory single = let wrong : false ≡ true = single in absurd (cc)
many_names (Mount index) mount directory single = let wrong : true ≡ false = mount in absurd (cc)

module _ (tree : Tree) (from key : EdgeKey) (sound : IsSound tree) (parent : kind_of tree key.directory ≡ Some Directory) (a : IsAddable tree from key) where
  absent : finite.get tree.edges key ≡ None
  absent = no_edge _ a.absent

  -- the node is no directory
  no_parent : kind_of tree a.to.child ≡ Some Directory → ⊥
  no_parent kind = let wrong : true ≡ false = sym (tests tree from a.to is_directory Directory a.there kind) ∙ a.no_directory in absurd (cc)

  still_added : (n : ℕ) → Stands tree.edges n → Stands (finite.insert tree.edges key a.to) n
  still_added n (root e) = root e
  still_added n (linked some) = let count = link_count-put tree.edges key a.to n absent in linked (omega (arith, some, count))

  single_not : (what : NodeKind) → kind_of tree a.to.child ≡ Some what → has_one_name what ≡ true → ⊥
  single_not what kind single = many_names what (sym (tests tree from a.to is_mount what a.there kind) ∙ a.no_mount) (sym (tests tree from a.to is_directory what a.there kind) ∙ a.no_directory) single

  added_sound : 1 ≤ length key.name → length key.name ≤ limit.MAX_NAME → IsSound (after tree (add key a.to))
  added_sound some short = record {
    root = sound.root;
    names = λ k x there. elim (comes tree.edges key a.to k x there) [
      | fresh same_key new ↦ let P : EdgeKey → Type 0 = λ k. (1 ≤ length k.name) × (length k.name ≤ limit.MAX_NAME) in subst P (sym same_key) (some, short)
      | known apart old ↦ sound.names k x old
    ];
    parents = λ k x there. elim (comes tree.edges key a.to k x there) [
      | fresh same_key new ↦ ap (λ (k : EdgeKey). kind_of tree k.directory) same_key ∙ parent
      | known apart old ↦ sound.parents k x old
    ];
    children = λ k x there. elim (comes tree.edges key a.to k x there) [
      | fresh same_key new ↦ let P : EdgeTo → Type 0 = λ x. IsSome (row_of tree.nodes x.child) in subst P new (sound.children from a.to a.there)
      | known apart old ↦ sound.children k x old
    ];
    one_name = λ j k x y what at_j at_k alike_child kind only. elim (comes tree.edges key a.to j x at_j) [
      | fresh sj nj ↦ absurd (single_not what (ap (λ (t : EdgeTo). kind_of tree t.child) nj ∙ kind) only)
      | known apart_j oj ↦ elim (comes tree.edges key a.to k y at_k) [
        | fresh sk nk ↦ absurd (single_not what (ap (λ (t : EdgeTo). kind_of tree t.child) nk ∙ ap (kind_of tree) (sym alike_child) ∙ kind) only)
        | known apart_k ok ↦ sound.one_name j k x y what oj ok alike_child kind only
      ]
    ];
    no_loop = no_loop_put tree.edges key a.to (λ k t there e. no_parent (ap (kind_of tree) (sym e) ∙ sound.parents k t there)) (λ e. no_parent (ap (kind_of tree) (sym e) ∙ parent)) sound.no_loop;
    removed = λ k x there. elim (comes tree.edges key a.to k x there) [
      | fresh same_key new ↦ stays_here (finite.insert tree.edges key a.to) k.directory (still_added k.directory (stands_of tree.edges k.directory (ap (λ (k : EdgeKey). is_removed tree.edges k.directory) same_key ∙ a.reached)))
      | known apart old ↦ stays_here (finite.insert tree.edges key a.to) k.directory (still_added k.directory (stands_of tree.edges k.directory (sound.removed k x old)))
    ];
    few_names =
        let count = finite.len-insert edges_total tree.edges key a.to ∙ ap (λ b. cond b (finite.len tree.edges) (finite.len tree.edges + 1)) a.absent in
        at_most (finite.len tree.edges) (finite.len (finite.insert tree.edges key a.to)) limit.MAX_NAMES a.few count;
    short_files = sound.short_files;
  }
    where
      at_most : (n more most : ℕ) → nat_le most n ≡ false → more ≡ n + 1 → more ≤ most
      at_most n more most full count = grind (arith, nat_tests)

pub link_sound : (tree : Tree) (from key : EdgeKey) → IsSound tree → link_refusal tree from key ≡ None → kind_of tree key.directory ≡ Some Directory → 1 ≤ length key.name → length key.name ≤ limit.MAX_NAME → IsSound (after tree (link_change tree from key))
link_sound tree from key sound free parent some short =
    let a = addable tree from key free in
    let P : Change → Type 0 = λ change. IsSound (after tree change) in
    subst P (sym (ap (λ o. option_map_or (λ edge. add key edge) o stay) a.there)) (added_sound tree from key sound parent a some short)

-- ---- a name moves

record IsMovable (tree : Tree) (from key : EdgeKey) : Type 0 where
  to : EdgeTo
  there : finite.get tree.edges from ≡ Some to
  reached : is_removed tree.edges key.directory ≡ false
  loop_free : is_loop tree from key.directory ≡ false
  over : (if is_same_name from key then None else replace_refusal tree from key) ≡ None

movable : (tree : Tree) (from key : EdgeKey) → rename_refusal tree from key ≡ None → IsMovable tree from key
movable tree from key none =
    let a = first_of-none (cause_if (is_none (edge_at tree from)) fault.NotFound) _ none in
    let b = first_of-none (cause_if (leads_to is_mount tree from) fault.Unsupported) _ a.1 in
    let c = first_of-none (cause_if (is_removed tree.edges key.directory) fault.Removed) _ b.1 in
    let d = first_of-none (cause_if (is_loop tree from key.directory) fault.Loop) _ c.1 in
    let e = first_of-none (if is_same_name from key then None else replace_refusal tree from key) _ d.1 in
    let edge = present_edge (edge_at tree from) (cause_if-none _ _ a.0) in
    record {
      to = edge.0;
      there = edge.1;
      reached = cause_if-none _ _ c.0;
      loop_free = cause_if-none _ _ d.0;
      over = e.0;
    }

-- nothing that is replaced has names in it
replaced_bare : (tree : Tree) (from key : EdgeKey) → replace_refusal tree from key ≡ None → leads_to_names tree key ≡ false
replaced_bare tree from key none =
    let a = first_of-none (cause_if (leads_to is_mount tree key) fault.Unsupported) _ none in
    let b = first_of-none (cause_if (leads_to is_directory tree from && leads_to is_no_directory tree key) fault.NotDir) _ a.1 in
    let c = first_of-none (cause_if (leads_to is_no_directory tree from && leads_to is_directory tree key) fault.NotFile) _ b.1 in
    let d = first_of-none (cause_if (leads_to_names tree key) fault.NotEmpty) _ c.1 in
    cause_if-none _ _ d.0

-- an edge after a move is the moved one, or an old one under another key
data Lands (edges : Edges) (from key : EdgeKey) (to : EdgeTo) (k : EdgeKey) (x : EdgeTo) : Type 0 where
  landed : k ≡ key → to ≡ x → Lands edges from key to k x
  stayed : ¬ (k ≡ key) → ¬ (k ≡ from) → finite.get edges k ≡ Some x → Lands edges from key to k x

lands : (edges : Edges) (from key : EdgeKey) (to : EdgeTo) (k : EdgeKey) (x : EdgeTo) → finite.get (finite.insert (finite.remove edges from) key to) k ≡ Some x → Lands edges from key to k x
lands edges from key to k x there = elim (comes (finite.remove edges from) key to k x there) [
  | fresh e x_is ↦ landed e x_is
  | known apart was ↦ let one = stays edges from k x was in stayed apart one.0 one.1
]

module _ (tree : Tree) (from key : EdgeKey) (sound : IsSound tree) (parent : kind_of tree key.directory ≡ Some Directory) (m : IsMovable tree from key) (apart : ¬ (key ≡ from)) (bare : leads_to_names tree key ≡ false) where
  abbrev edges_new : Edges
  edges_new = finite.insert (finite.remove tree.edges from) key m.to

  -- who stands above a directory is one
  above_directory : (n x d : ℕ) → Ways n tree.edges x d → kind_of tree x ≡ Some Directory → kind_of tree d ≡ Some Directory
  above_directory zero x d e kind = ap (kind_of tree) (sym e) ∙ kind
  above_directory (suc n) x d (k, t, there, is, rest) kind = above_directory n k.directory d rest (sound.parents k t there)

  -- the new directory is not within what moves
  not_within : (n : ℕ) → Ways n tree.edges key.directory m.to.child → ⊥
  not_within n way =
      let kind = above_directory n key.directory m.to.child way parent in
      let directory : leads_to is_directory tree from ≡ true = tests tree from m.to is_directory Directory m.there kind in
      let behind : directory_behind tree from ≡ Some m.to.child = ap (λ b. if b then option_map (λ (t : EdgeTo). t.child) (edge_at tree from) else None) directory ∙ ap (option_map (λ (t : EdgeTo). t.child)) m.there in
      let found = way_found tree.edges sound.no_loop n key.directory m.to.child way in
      let wrong : true ≡ false = sym (ap (λ o. option_map_or (λ c. lies_within (finite.len tree.edges) tree.edges key.directory c) o false) behind ∙ found) ∙ m.loop_free in
      absurd (cc)

  -- a node that stands in the way of nothing stays linked
  put_count : (n : ℕ) → link_count edges_new n ≡ link_count (finite.remove (finite.remove tree.edges from) key) n + one_if (m.to.child == n)
  put_count n =
      ap (λ (e : Edges). link_count e n) over_is ∙ link_count-put (finite.remove (finite.remove tree.edges from) key) key m.to n (get-cut_here (finite.remove tree.edges from) key)
    where
      over_is : edges_new ≡ finite.insert (finite.remove (finite.remove tree.edges from) key) key m.to
      over_is = same_edges _ _ (λ q. elim (same_or_other q key) [
        | same e b ↦ ap (finite.get edges_new) e ∙ get-put_here (finite.remove tree.edges from) key m.to ∙ sym (ap (finite.get (finite.insert (finite.remove (finite.remove tree.edges from) key) key m.to)) e ∙ get-put_here (finite.remove (finite.remove tree.edges from) key) key m.to)
        | other e b ↦ get-put_other (finite.remove tree.edges from) key q m.to e ∙ sym (get-put_other (finite.remove (finite.remove tree.edges from) key) key q m.to e ∙ get-cut_other (finite.remove tree.edges from) key q e)
      ])

  still_moved : (n : ℕ) → ((t : EdgeTo) → finite.get tree.edges key ≡ Some t → n ≢ t.child) → Stands tree.edges n → Stands edges_new n
  still_moved n not_over (root e) = root e
  still_moved n not_over (linked some) = by_cases (finite.get tree.edges key) refl
    where
      cut_from : link_count tree.edges n ≡ link_count (finite.remove tree.edges from) n + one_if (m.to.child == n)
      cut_from = link_count-cut tree.edges from m.to n m.there

      by_cases : (o : Option EdgeTo) → finite.get tree.edges key ≡ o → Stands edges_new n
      by_cases None e =
          let gone : finite.get (finite.remove tree.edges from) key ≡ None = get-cut_other tree.edges from key apart ∙ e in
          let same_rest : link_count (finite.remove (finite.remove tree.edges from) key) n ≡ link_count (finite.remove tree.edges from) n = ap (λ (x : Edges). link_count x n) (link_count-absent (finite.remove tree.edges from) key n gone) in
          let put = put_count n in
          let cut_is = cut_from in
          linked (omega (arith, some, same_rest, put, cut_is))
      by_cases (Some t) e =
          let over_cut = link_count-cut (finite.remove tree.edges from) key t n (get-cut_other tree.edges from key apart ∙ e) in
          let not_it : one_if (t.child == n) ≡ 0 = ap one_if (apart_numbers t.child n (λ alike_one. not_over t e (sym alike_one))) in
          let put = put_count n in
          let cut_is = cut_from in
          linked (omega (arith, some, over_cut, not_it, put, cut_is))

  -- no name stands in what is replaced
  not_replaced : (k : EdgeKey) (x : EdgeTo) → finite.get tree.edges k ≡ Some x → (t : EdgeTo) → finite.get tree.edges key ≡ Some t → k.directory ≢ t.child
  not_replaced k x was t taken =
      not_in tree.edges t.child (sym (ap (λ o. option_map_or (λ (t : EdgeTo). has_names tree.edges t.child) o false) taken) ∙ bare) k x was

  moved_sound : 1 ≤ length key.name → length key.name ≤ limit.MAX_NAME → IsSound (record { nodes = tree.nodes; edges = edges_new })
  moved_sound some short = record {
    root = sound.root;
    names = λ k x there. elim (lands tree.edges from key m.to k x there) [
      | landed e x_is ↦ let P : EdgeKey → Type 0 = λ k. (1 ≤ length k.name) × (length k.name ≤ limit.MAX_NAME) in subst P (sym e) (some, short)
      | stayed e1 e2 was ↦ sound.names k x was
    ];
    parents = λ k x there. elim (lands tree.edges from key m.to k x there) [
      | landed e x_is ↦ ap (λ (k : EdgeKey). kind_of tree k.directory) e ∙ parent
      | stayed e1 e2 was ↦ sound.parents k x was
    ];
    children = λ k x there. elim (lands tree.edges from key m.to k x there) [
      | landed e x_is ↦ let P : EdgeTo → Type 0 = λ x. IsSome (row_of tree.nodes x.child) in subst P x_is (sound.children from m.to m.there)
      | stayed e1 e2 was ↦ sound.children k x was
    ];
    one_name = λ j k x y what at_j at_k alike_child kind only. elim (lands tree.edges from key m.to j x at_j) [
      | landed ej nj ↦ elim (lands tree.edges from key m.to k y at_k) [
        | landed ek nk ↦ ej ∙ sym ek
        | stayed e1 e2 was ↦ absurd (e2 (sound.one_name k from y m.to what was m.there (sym alike_child ∙ ap (λ (t : EdgeTo). t.child) (sym nj)) (ap (kind_of tree) (sym alike_child) ∙ kind) only))
      ]
      | stayed e1 e2 was ↦ elim (lands tree.edges from key m.to k y at_k) [
        | landed ek nk ↦ absurd (e2 (sound.one_name j from x m.to what was m.there (alike_child ∙ ap (λ (t : EdgeTo). t.child) (sym nk)) kind only))
        | stayed e3 e4 was_k ↦ sound.one_name j k x y what was was_k alike_child kind only
      ]
    ];
    no_loop = no_loop_move tree.edges from key m.to sound.no_loop not_within;
    removed = λ k x there. elim (lands tree.edges from key m.to k x there) [
      | landed e x_is ↦
          let here = still_moved key.directory (λ t taken. not_replaced key t taken t taken) (stands_of tree.edges key.directory m.reached) in
          let P : EdgeKey → Type 0 = λ k. is_removed edges_new k.directory ≡ false in
          subst P (sym e) (stays_here edges_new key.directory here)
      | stayed e1 e2 was ↦ stays_here edges_new k.directory (still_moved k.directory (not_replaced k x was) (stands_of tree.edges k.directory (sound.removed k x was)))
    ];
    few_names =
        let less = one_fewer tree.edges from m.to m.there in
        let more = finite.len-insert edges_total (finite.remove tree.edges from) key m.to in
        fewer (finite.len (finite.remove tree.edges from)) (finite.len tree.edges) (finite.len edges_new) (finite.contains_key (finite.remove tree.edges from) key) less more sound.few_names;
    short_files = sound.short_files;
  }
    where
      fewer : (rest before now : ℕ) (b : Bool) → before ≡ rest + 1 → now ≡ cond b rest (rest + 1) → before ≤ limit.MAX_NAMES → now ≤ limit.MAX_NAMES
      fewer rest before now true less more few = omega (arith, less, more, few)
      fewer rest before now false less more few = omega (arith, less, more, few)

pub rename_sound : (tree : Tree) (from key : EdgeKey) → IsSound tree → rename_refusal tree from key ≡ None → kind_of tree key.directory ≡ Some Directory → 1 ≤ length key.name → length key.name ≤ limit.MAX_NAME → IsSound (after tree (rename_change from key))
rename_sound tree from key sound free parent some short =
    let m = movable tree from key free in
    let P : Change → Type 0 = λ change. IsSound (after tree change) in
    elim (same_or_other from key) [
      | same e b ↦ subst P (sym (ap (λ b. if b then stay else move from key) b)) sound
      | other e b ↦
          let over : replace_refusal tree from key ≡ None = sym (ap (λ b. if b then None else replace_refusal tree from key) b) ∙ m.over in
          let Q : Edges → Type 0 = λ edges. IsSound (record { nodes = tree.nodes; edges = edges }) in
          subst P (sym (ap (λ b. if b then stay else move from key) b))
          (subst Q (sym (ap (λ o. option_map_or (λ edge. finite.insert (finite.remove tree.edges from) key edge) o tree.edges) m.there)) (moved_sound tree from key sound parent m (λ back. e (sym back)) (replaced_bare tree from key over) some short))
    ]
