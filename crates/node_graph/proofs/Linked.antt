-- How many names lead to a node before and after one is put in or taken out, and the edges that kept names are.
use Rattle.std.proofs.Common.{◌≡◌, ℕ, suc, ◌+◌, ◌≤◌, List, [], ◌∷◌, length, map, Option, Some, None, refl, ap, sym, ◌∙◌, arith, cond, Bool, true, false, T, nat_lt, eqb-true}
use Rattle.std.specs.Prelude.{◌==◌, ◌||◌, filter}
use Rattle.std.specs.List.{list_any}
use Rattle.std.specs.Option.{option_map}
use Rattle.std.specs.declared.cmp.Ordering.TheVariants.{Less}
use Rattle.std.specs.Ordering.{is_eq, eq_by_cmp}
use Rattle.std.specs.FinMap as finite
use Rattle.std.specs.FinMap.Entries as entry
use Rattle.std.proofs.lemmas.Bool.Decides.{nat_tests}
use Rattle.node_graph.specs.declared.nodes.Entry.{Entry}
use Rattle.node_graph.specs.Tree.{EdgeKey, EdgeTo, Edges, edge_cmp, link_count, is_linked}
use Rattle.node_graph.specs.Refusals.{has_names}
use Rattle.node_graph.specs.Ends.{Ends, end_of, edge_of, edges_of}
use Rattle.node_graph.proofs.Ordered.{edges_total, same_edges, standing, earlier, alike, later, same_or_other, same, other, get-put_here, get-put_other, get-cut_here, get-cut_other, entries-map_of, both_true, less}

-- ---- the edges of kept names

find-mapped : (es : List (EdgeKey × Entry)) (q : EdgeKey) → entry.find edge_cmp q (map edge_of es) ≡ option_map end_of (entry.find edge_cmp q es)
find-mapped [] q = refl
find-mapped (e ∷ es) q =
    elim (is_eq (edge_cmp q e.0)) as (λ b. cond b (Some (end_of e.1)) (entry.find edge_cmp q (map edge_of es)) ≡ option_map end_of (cond b (Some e.1) (entry.find edge_cmp q es))) [
      | true ↦ refl
      | false ↦ find-mapped es q
    ]

pub get-edges_of : (ends : Ends) (q : EdgeKey) → finite.get (edges_of ends) q ≡ option_map end_of (finite.get ends q)
unfolding edges_of
get-edges_of ends q = finite.get-from_entries edges_total _ q ∙ find-mapped (finite.entries ends) q ∙ ap (option_map end_of) (sym (finite.get-entries ends q))

mapped_cond : (b : Bool) (x : Entry) (o : Option Entry) → option_map end_of (cond b (Some x) o) ≡ cond b (Some (end_of x)) (option_map end_of o)
mapped_cond true x o = refl
mapped_cond false x o = refl

mapped_cut : (b : Bool) (o : Option Entry) → option_map end_of (cond b None o) ≡ cond b None (option_map end_of o)
mapped_cut true o = refl
mapped_cut false o = refl

pub edges_of-insert : (ends : Ends) (key : EdgeKey) (to : Entry) → edges_of (finite.insert ends key to) ≡ finite.insert (edges_of ends) key (end_of to)
edges_of-insert ends key to = same_edges _ _ (λ q.
    get-edges_of (finite.insert ends key to) q
    ∙ ap (option_map end_of) (finite.get-insert edges_total ends key to q)
    ∙ mapped_cond (eq_by_cmp edge_cmp q key) to (finite.get ends q)
    ∙ ap (cond (eq_by_cmp edge_cmp q key) (Some (end_of to))) (sym (get-edges_of ends q))
    ∙ sym (finite.get-insert edges_total (edges_of ends) key (end_of to) q))

pub edges_of-remove : (ends : Ends) (key : EdgeKey) → edges_of (finite.remove ends key) ≡ finite.remove (edges_of ends) key
edges_of-remove ends key = same_edges _ _ (λ q.
    get-edges_of (finite.remove ends key) q
    ∙ ap (option_map end_of) (finite.get-remove edges_total ends key q)
    ∙ mapped_cut (eq_by_cmp edge_cmp q key) (finite.get ends q)
    ∙ ap (cond (eq_by_cmp edge_cmp q key) None) (sym (get-edges_of ends q))
    ∙ sym (finite.get-remove edges_total (edges_of ends) key q))

pub edges_of-empty : edges_of finite.empty ≡ finite.empty
edges_of-empty = same_edges _ _ (λ q. get-edges_of finite.empty q ∙ ap (option_map end_of) (finite.get-empty edge_cmp q) ∙ sym (finite.get-empty edge_cmp q))

sorted_mapped : (es : List (EdgeKey × Entry)) → finite.is_sorted edge_cmp es ≡ true → finite.is_sorted edge_cmp (map edge_of es) ≡ true
sorted_mapped es sorted = same_tests es ∙ sorted
  where
    same_below : (key : EdgeKey) (es : List (EdgeKey × Entry)) → entry.below_all edge_cmp key (map edge_of es) ≡ entry.below_all edge_cmp key es
    same_below key [] = refl
    same_below key (e ∷ es) = rw (same_below key es) refl

    same_tests : (es : List (EdgeKey × Entry)) → finite.is_sorted edge_cmp (map edge_of es) ≡ finite.is_sorted edge_cmp es
    same_tests [] = refl
    same_tests (e ∷ es) = rw (same_below e.0 es, same_tests es) refl

is_true : (b : Bool) → T b → b ≡ true
is_true true t = refl
is_true false t = absurd t

pub entries-edges_of : (ends : Ends) → finite.entries (edges_of ends) ≡ map edge_of (finite.entries ends)
unfolding edges_of
entries-edges_of ends = entries-map_of (map edge_of (finite.entries ends)) (sorted_mapped (finite.entries ends) (is_true _ (finite.entries_sorted ends)))

length-mapped : {A B : Type 0} (f : A → B) (xs : List A) → length (map f xs) ≡ length xs
length-mapped f [] = refl
length-mapped f (x ∷ xs) = ap suc (length-mapped f xs)

pub len-edges_of : (ends : Ends) → finite.len (edges_of ends) ≡ finite.len ends
len-edges_of ends = finite.len-entries (edges_of ends) ∙ ap length (entries-edges_of ends) ∙ length-mapped edge_of (finite.entries ends) ∙ sym (finite.len-entries ends)

-- ---- counting

abbrev pub one_if : Bool → ℕ
one_if b = cond b 1 0

count_in : ℕ → List (EdgeKey × EdgeTo) → ℕ
count_in number es = length (filter (λ (to : EdgeTo). to.child == number) (map (λ (e : EdgeKey × EdgeTo). e.1) es))

count_cons : (number : ℕ) (e : EdgeKey × EdgeTo) (es : List (EdgeKey × EdgeTo)) → count_in number (e ∷ es) ≡ count_in number es + one_if (e.1.child == number)
unfolding count_in
count_cons number e es =
    elim (e.1.child == number) as (λ b. length (cond b (e.1 ∷ filter (λ (to : EdgeTo). to.child == number) (map (λ (e : EdgeKey × EdgeTo). e.1) es)) (filter (λ (to : EdgeTo). to.child == number) (map (λ (e : EdgeKey × EdgeTo). e.1) es))) ≡ length (filter (λ (to : EdgeTo). to.child == number) (map (λ (e : EdgeKey × EdgeTo). e.1) es)) + one_if b) [
      | true ↦ omega arith
      | false ↦ omega arith
    ]

count_put : (number : ℕ) (key : EdgeKey) (to : EdgeTo) (es : List (EdgeKey × EdgeTo)) → entry.find edge_cmp key es ≡ None → count_in number (entry.put edge_cmp key to es) ≡ count_in number es + one_if (to.child == number)
count_put number key to [] none = count_cons number (key, to) []
count_put number key to (e ∷ es) none =
    elim (standing key e.0) [
      | earlier ke ek ↦ ap (λ o. count_in number (entry.by_order o ((key, to) ∷ e ∷ es) ((e.0, to) ∷ es) (e ∷ entry.put edge_cmp key to es))) ke ∙ count_cons number (key, to) (e ∷ es)
      | alike ke ek ↦ absurd (let found : Some e.1 ≡ None = sym (ap (λ o. cond (is_eq o) (Some e.1) (entry.find edge_cmp key es)) ke) ∙ none in cc)
      | later ke ek ↦
          let rest_none : entry.find edge_cmp key es ≡ None = sym (ap (λ o. cond (is_eq o) (Some e.1) (entry.find edge_cmp key es)) ke) ∙ none in
          let more = count_put number key to es rest_none in
          let here = count_cons number e (entry.put edge_cmp key to es) in
          let was = count_cons number e es in
          ap (λ o. count_in number (entry.by_order o ((key, to) ∷ e ∷ es) ((e.0, to) ∷ es) (e ∷ entry.put edge_cmp key to es))) ke ∙ omega (arith, more, here, was)
    ]

pub link_count-put : (edges : Edges) (key : EdgeKey) (to : EdgeTo) (number : ℕ) → finite.get edges key ≡ None → link_count (finite.insert edges key to) number ≡ link_count edges number + one_if (to.child == number)
unfolding count_in
link_count-put edges key to number none =
    ap (count_in number) (finite.entries-insert edges_total edges key to) ∙ count_put number key to (finite.entries edges) (sym (finite.get-entries edges key) ∙ none)

-- what is put in again where it was taken out
pub put_back : {X : Type 0} (m : finite.FinMap edge_cmp X) (key : EdgeKey) (to : X) → finite.get m key ≡ Some to → finite.insert (finite.remove m key) key to ≡ m
put_back m key to there = same_edges _ _ (λ q. elim (same_or_other q key) [
  | same e b ↦ ap (finite.get (finite.insert (finite.remove m key) key to)) e ∙ get-put_here (finite.remove m key) key to ∙ sym (ap (finite.get m) e ∙ there)
  | other e b ↦ get-put_other (finite.remove m key) key q to e ∙ get-cut_other m key q e
])

pub link_count-cut : (edges : Edges) (key : EdgeKey) (to : EdgeTo) (number : ℕ) → finite.get edges key ≡ Some to → link_count edges number ≡ link_count (finite.remove edges key) number + one_if (to.child == number)
link_count-cut edges key to number there =
    ap (λ (m : Edges). link_count m number) (sym (put_back edges key to there)) ∙ link_count-put (finite.remove edges key) key to number (get-cut_here edges key)

pub link_count-absent : (edges : Edges) (key : EdgeKey) (number : ℕ) → finite.get edges key ≡ None → finite.remove edges key ≡ edges
link_count-absent edges key number none = same_edges _ _ (λ q. elim (same_or_other q key) [
  | same e b ↦ ap (finite.get (finite.remove edges key)) e ∙ get-cut_here edges key ∙ sym (ap (finite.get edges) e ∙ none)
  | other e b ↦ get-cut_other edges key q e
])

any_counted : (number : ℕ) (ts : List EdgeTo) → list_any (λ (to : EdgeTo). to.child == number) ts ≡ nat_lt 0 (length (filter (λ (to : EdgeTo). to.child == number) ts))
any_counted number [] = refl
any_counted number (to ∷ ts) =
    elim (to.child == number) as (λ b. (b || list_any (λ (to : EdgeTo). to.child == number) ts) ≡ nat_lt 0 (length (cond b (to ∷ filter (λ (to : EdgeTo). to.child == number) ts) (filter (λ (to : EdgeTo). to.child == number) ts)))) [
      | true ↦ sym (positive (length (filter (λ (to : EdgeTo). to.child == number) ts)))
      | false ↦ any_counted number ts
    ]
  where
    positive : (n : ℕ) → nat_lt 0 (suc n) ≡ true
    positive n = grind (arith, nat_tests)

pub linked_counted : (edges : Edges) (number : ℕ) → is_linked edges number ≡ nat_lt 0 (link_count edges number)
linked_counted edges number = any_counted number (finite.values edges)

-- an edge that leads to a node counts
pub count_some : (edges : Edges) (key : EdgeKey) (to : EdgeTo) → finite.get edges key ≡ Some to → 1 ≤ link_count edges to.child
count_some edges key to there =
    let count = link_count-cut edges key to to.child there in
    let itself : one_if (to.child == to.child) ≡ 1 = ap one_if (self to.child) in
    omega (arith, count, itself)
  where
    self : (n : ℕ) → n == n ≡ true
    self n = grind (arith, nat_tests)

pub below_found : {X : Type 0} (x k : EdgeKey) (es : List (EdgeKey × X)) (to : X) → entry.below_all edge_cmp x es ≡ true → entry.find edge_cmp k es ≡ Some to → edge_cmp x k ≡ Less
below_found x k [] to below found = absurd (let wrong : None ≡ Some to = found in cc)
below_found x k (e ∷ es) to below found =
    elim (same_or_other k e.0) [
      | same eq b ↦ ap (edge_cmp x) eq ∙ less _ (both_true _ _ below).0
      | other apart b ↦ below_found x k es to (both_true _ _ below).1 (sym (ap (λ c. cond c (Some e.1) (entry.find edge_cmp k es)) b) ∙ found)
    ]

-- an entry that passes a test is found by its key
found_entry : (test : EdgeKey × EdgeTo → Bool) (es : List (EdgeKey × EdgeTo)) → finite.is_sorted edge_cmp es ≡ true → list_any test es ≡ true
    → (key : EdgeKey) × (to : EdgeTo) × (entry.find edge_cmp key es ≡ Some to) × (test (key, to) ≡ true)
found_entry test [] sorted any = absurd (cc)
found_entry test (e ∷ es) sorted any =
    elim (test e) as (λ b. test e ≡ b → (b || list_any test es) ≡ true → (key : EdgeKey) × (to : EdgeTo) × (entry.find edge_cmp key (e ∷ es) ≡ Some to) × (test (key, to) ≡ true)) [
      | true ↦ λ is any. (e.0, e.1, itself, is)
      | false ↦ λ is any.
          let rest = found_entry test es (both_true _ _ sorted).1 any in
          (rest.0, rest.1, later_found rest.0 rest.1 rest.2, rest.3)
    ] refl any
  where
    itself : entry.find edge_cmp e.0 (e ∷ es) ≡ Some e.1
    itself = elim (same_or_other e.0 e.0) [
      | same eq b ↦ ap (λ c. cond c (Some e.1) (entry.find edge_cmp e.0 es)) b
      | other apart b ↦ absurd (apart refl)
    ]

    later_found : (k : EdgeKey) (to : EdgeTo) → entry.find edge_cmp k es ≡ Some to → entry.find edge_cmp k (e ∷ es) ≡ Some to
    later_found k to found = elim (same_or_other k e.0) [
      | same eq b ↦ absurd (
          let lower : edge_cmp e.0 k ≡ Less = below_found e.0 k es to (both_true _ _ sorted).0 found in
          let tied : eq_by_cmp edge_cmp e.0 k ≡ false = ap is_eq lower in
          let same_one : eq_by_cmp edge_cmp k k ≡ false = ap (λ (x : EdgeKey). eq_by_cmp edge_cmp x k) eq ∙ tied in
          let alike_one : eq_by_cmp edge_cmp k k ≡ true = ap (eq_by_cmp edge_cmp k) eq ∙ b in
          cc
          )
      | other apart b ↦ ap (λ c. cond c (Some e.1) (entry.find edge_cmp k es)) b ∙ found
    ]

list_any_map : {A B : Type 0} (test : B → Bool) (f : A → B) (xs : List A) → list_any test (map f xs) ≡ list_any (λ x. test (f x)) xs
list_any_map test f [] = refl
list_any_map test f (x ∷ xs) = ap (λ b. test (f x) || b) (list_any_map test f xs)

-- where an edge leads to a node, some key has it
pub linked_by : (edges : Edges) (number : ℕ) → is_linked edges number ≡ true → (key : EdgeKey) × (to : EdgeTo) × (finite.get edges key ≡ Some to) × (to.child ≡ number)
linked_by edges number linked =
    let entries = finite.entries edges in
    let one = found_entry (λ e. e.1.child == number) entries (is_true _ (finite.entries_sorted edges)) (sym (list_any_map (λ (to : EdgeTo). to.child == number) (λ (e : EdgeKey × EdgeTo). e.1) entries) ∙ linked) in
    (one.0, one.1, finite.get-entries edges one.0 ∙ one.2, eqb-true one.1.child number one.3)

-- where a node has names in it, some key is in it
pub names_by : (edges : Edges) (number : ℕ) → has_names edges number ≡ true → (key : EdgeKey) × (to : EdgeTo) × (finite.get edges key ≡ Some to) × (key.directory ≡ number)
names_by edges number full =
    let entries = finite.entries edges in
    let one = found_entry (λ e. e.0.directory == number) entries (is_true _ (finite.entries_sorted edges)) (sym (list_any_map (λ (key : EdgeKey). key.directory == number) (λ (e : EdgeKey × EdgeTo). e.0) entries) ∙ full) in
    (one.0, one.1, finite.get-entries edges one.0 ∙ one.2, eqb-true one.0.directory number one.3)
