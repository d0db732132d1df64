-- The changes that a graph's calls make keep a tree sound.
use Rattle.std.proofs.Common.{◌≡◌, ◌≢◌, ℕ, zero, suc, ◌+◌, ◌-◌, ◌<◌, ◌≤◌, List, [], ◌∷◌, ◌++◌, length, map, Option, Some, None, IsSome, refl, ap, sym, ◌∙◌, subst, arith, cond, Bool, true, false, not, length-append, length-drop, drop, nat_lt, nat_le, eqb-true}
use Rattle.std.specs.Prelude.{slice_set, ◌==◌, ◌||◌, ◌&&◌, is_some}
use Rattle.std.specs.List.{list_any}
use Rattle.std.specs.Option.{option_map}
use Rattle.std.specs.Ordering.{is_eq}
use Rattle.std.specs.FinMap as finite
use Rattle.std.specs.FinMap.Entries as entry
use Rattle.std.proofs.lemmas.List.{length-take, length-replicate}
use Rattle.std.proofs.lemmas.Bool.Decides.{nat_tests}
use Rattle.fidl_names.specs.First.{cause_if}
use Rattle.io_rights.specs.Operations.{OperationSet}
use Rattle.fidl_names.specs.declared.limits.TheConstants as limit
use Rattle.node_graph.specs.declared.nodes.NodeKind.{NodeKind}
use Rattle.node_graph.specs.declared.nodes.NodeKind.TheVariants.{Directory, File}
use Rattle.node_graph.specs.declared.faults.GraphFault.TheVariants as fault
use Rattle.node_graph.specs.Tree.{NodeRow, Tree, Edges, EdgeKey, EdgeTo, edge_cmp, row_of, kind_of, is_linked, is_removed, Below, child, deeper, make, new_row, fill, filled, after, bare_tree, IsSound}
use Rattle.node_graph.specs.Graph.{create_refusal, resize_refusal, write_refusal, write_change, resized, overwritten}
use Rattle.node_graph.proofs.RowLists.{mapped, same_some, row_within, row_of-push_same, row_of-push_other, row_of-set_same, row_of-set_other, filled_rows}
use Rattle.node_graph.proofs.Ordered.{edges_total, exact_edges, standing, earlier, alike, later}
use Rattle.node_graph.proofs.Loops.{no_loop_put}
use Rattle.node_graph.proofs.States.{unrefused, refusal_of}

-- an edge after one was put in is that one or an old one
data Comes (edges : Edges) (key : EdgeKey) (to : EdgeTo) (from : EdgeKey) (x : EdgeTo) : Type 0 where
  fresh : from ≡ key → to ≡ x → Comes edges key to from x
  known : finite.get edges from ≡ Some x → Comes edges key to from x

comes : (edges : Edges) (key : EdgeKey) (to : EdgeTo) (from : EdgeKey) (x : EdgeTo) → finite.get (finite.insert edges key to) from ≡ Some x → Comes edges key to from x
comes edges key to from x there =
    let is = sym (finite.get-insert edges_total edges key to from) ∙ there in
    elim (standing from key) [
      | earlier fk kf ↦ known (sym (ap (λ o. cond (is_eq o) (Some to) (finite.get edges from)) fk) ∙ is)
      | alike fk kf ↦ fresh (exact_edges from key fk) (same_some _ _ (sym (ap (λ o. cond (is_eq o) (Some to) (finite.get edges from)) fk) ∙ is))
      | later fk kf ↦ known (sym (ap (λ o. cond (is_eq o) (Some to) (finite.get edges from)) fk) ∙ is)
    ]

-- what was linked stays so when an edge is put in
any_end : ℕ → List (EdgeKey × EdgeTo) → Bool
any_end number es = list_any (λ (to : EdgeTo). to.child == number) (map (λ (e : EdgeKey × EdgeTo). e.1) es)

or_true : (a : Bool) → (a || true) ≡ true
or_true true = refl
or_true false = refl

linked_put : (number : ℕ) (key : EdgeKey) (to : EdgeTo) (es : List (EdgeKey × EdgeTo)) → entry.find edge_cmp key es ≡ None → any_end number es ≡ true → any_end number (entry.put edge_cmp key to es) ≡ true
unfolding any_end
linked_put number key to [] none linked = absurd (cc)
linked_put number key to (e ∷ es) none linked =
    elim (standing key e.0) [
      | earlier ke ek ↦ ap (λ o. any_end number (entry.by_order o ((key, to) ∷ e ∷ es) ((e.0, to) ∷ es) (e ∷ entry.put edge_cmp key to es))) ke ∙ ap (λ b. (to.child == number) || b) linked ∙ or_true (to.child == number)
      | alike ke ek ↦ absurd (let found : Some e.1 ≡ None = sym (ap (λ o. cond (is_eq o) (Some e.1) (entry.find edge_cmp key es)) ke) ∙ none in cc)
      | later ke ek ↦
          let rest_none : entry.find edge_cmp key es ≡ None = sym (ap (λ o. cond (is_eq o) (Some e.1) (entry.find edge_cmp key es)) ke) ∙ none in
          ap (λ o. any_end number (entry.by_order o ((key, to) ∷ e ∷ es) ((e.0, to) ∷ es) (e ∷ entry.put edge_cmp key to es))) ke
          ∙ still (e.1.child == number) (any_end number es) (any_end number (entry.put edge_cmp key to es)) linked (linked_put number key to es rest_none)
    ]
  where
    still : (a b c : Bool) → (a || b) ≡ true → (b ≡ true → c ≡ true) → (a || c) ≡ true
    still true b c linked more = refl
    still false b c linked more = more linked

pub linked_stays : (edges : Edges) (key : EdgeKey) (to : EdgeTo) (number : ℕ) → finite.get edges key ≡ None → is_linked edges number ≡ true → is_linked (finite.insert edges key to) number ≡ true
unfolding any_end
linked_stays edges key to number absent linked =
    ap (λ es. any_end number es) (finite.entries-insert edges_total edges key to)
    ∙ linked_put number key to (finite.entries edges) (sym (finite.get-entries edges key) ∙ absent) linked

stays_in : (edges : Edges) (key : EdgeKey) (to : EdgeTo) (number : ℕ) → finite.get edges key ≡ None → is_removed edges number ≡ false → is_removed (finite.insert edges key to) number ≡ false
stays_in edges key to number absent here =
    by_cases (number == 1) (is_linked edges number) refl here
  where
    by_cases : (root linked : Bool) → is_linked edges number ≡ linked → (not root && not linked) ≡ false → (not root && not (is_linked (finite.insert edges key to) number)) ≡ false
    by_cases true linked is here = refl
    by_cases false true is here = ap not (linked_stays edges key to number absent is)
    by_cases false false is here = absurd (cc)

-- the kinds of rows that were there stay
module _ (tree : Tree) (row : NodeRow) where
  old_row : (n : ℕ) (r : NodeRow) → row_of tree.nodes n ≡ Some r → row_of (tree.nodes ++ row ∷ []) n ≡ Some r
  old_row n r there =
      let within = row_within tree.nodes n r there in
      row_of-push_other tree.nodes row n (λ e. absurd (let few = within.few in omega (arith, e, few))) ∙ there

  old_kind : (n : ℕ) (k : NodeKind) → kind_of tree n ≡ Some k → option_map (λ (r : NodeRow). r.kind) (row_of (tree.nodes ++ row ∷ []) n) ≡ Some k
  old_kind n k there =
      let found = mapped (λ (r : NodeRow). r.kind) (row_of tree.nodes n) k there in
      ap (option_map (λ (r : NodeRow). r.kind)) (old_row n found.0 found.1) ∙ ap Some found.2

  some_row : (n : ℕ) → IsSome (row_of tree.nodes n) → (r : NodeRow) × (row_of tree.nodes n ≡ Some r)
  some_row n some = by_cases (row_of tree.nodes n) refl some
    where
      by_cases : (o : Option NodeRow) → row_of tree.nodes n ≡ o → IsSome o → (r : NodeRow) × (row_of tree.nodes n ≡ Some r)
      by_cases None is some = absurd (cc)
      by_cases (Some r) is some = (r, is)

  kind_back : (n : ℕ) (k : NodeKind) → IsSome (row_of tree.nodes n) → option_map (λ (r : NodeRow). r.kind) (row_of (tree.nodes ++ row ∷ []) n) ≡ Some k → kind_of tree n ≡ Some k
  kind_back n k some there =
      let r = some_row n some in
      ap (option_map (λ (r : NodeRow). r.kind)) (r.1 ∙ sym (old_row n r.0 r.1)) ∙ there

  number_few : (n : ℕ) → IsSome (row_of tree.nodes n) → n ≤ length tree.nodes
  number_few n some = let r = some_row n some in (row_within tree.nodes n r.0 r.1).few

-- names stand in nodes
parent_few : (tree : Tree) (number : ℕ) → kind_of tree number ≡ Some Directory → number ≤ length tree.nodes
parent_few tree number kind =
    let r = mapped (λ (r : NodeRow). r.kind) (row_of tree.nodes number) Directory kind in
    (row_within tree.nodes number r.0 r.1).few

not_new : (tree : Tree) (number : ℕ) → kind_of tree number ≡ Some Directory → number ≢ length tree.nodes + 1
not_new tree number kind e = let few = parent_few tree number kind in omega (arith, few, e)

-- a node is made, with no more bytes than a file may have
pub row_sound : (tree : Tree) (key : EdgeKey) (row : NodeRow) (mask : OperationSet) → IsSound tree → create_refusal tree.edges key ≡ None → kind_of tree key.directory ≡ Some Directory → 1 ≤ length key.name → length key.name ≤ limit.MAX_NAME → length row.bytes ≤ limit.MAX_FILE
    → IsSound (after tree (make key row mask))
row_sound tree key row mask sound free_is parent some few size =
    let to : EdgeTo = record { child = length tree.nodes + 1; mask = mask } in
    let free = unrefused tree.edges key free_is in
    record {
      root = old_kind tree row 1 Directory sound.root;
      names = λ from x there. elim (comes tree.edges key to from x there) [
        | fresh same new ↦ (subst (λ (k : EdgeKey). 1 ≤ length k.name) (sym same) some, subst (λ (k : EdgeKey). length k.name ≤ limit.MAX_NAME) (sym same) few)
        | known old ↦ sound.names from x old
      ];
      parents = λ from x there. elim (comes tree.edges key to from x there) [
        | fresh same new ↦ old_kind tree row from.directory Directory (ap (λ (k : EdgeKey). kind_of tree k.directory) same ∙ parent)
        | known old ↦ old_kind tree row from.directory Directory (sound.parents from x old)
      ];
      children = λ from x there. elim (comes tree.edges key to from x there) [
        | fresh same new ↦ ap is_some (ap (λ (t : EdgeTo). row_of (tree.nodes ++ row ∷ []) t.child) (sym new) ∙ row_of-push_same tree.nodes row)
        | known old ↦ let r = some_row tree row x.child (sound.children from x old) in ap is_some (old_row tree row x.child r.0 r.1)
      ];
      one_name = λ a b x y k at_a at_b same kind only. elim (comes tree.edges key to a x at_a) [
        | fresh sa na ↦ elim (comes tree.edges key to b y at_b) [
          | fresh sb nb ↦ sa ∙ sym sb
          | known ob ↦ absurd (new_twice tree row (ap (λ (t : EdgeTo). t.child) na ∙ same) (sound.children b y ob))
        ]
        | known oa ↦ elim (comes tree.edges key to b y at_b) [
          | fresh sb nb ↦ absurd (new_twice tree row (ap (λ (t : EdgeTo). t.child) nb ∙ sym same) (sound.children a x oa))
          | known ob ↦ sound.one_name a b x y k oa ob same (kind_back tree row x.child k (sound.children a x oa) kind) only
        ]
      ];
      no_loop = no_loop_put tree.edges key to (λ k t old. not_new tree k.directory (sound.parents k t old)) (not_new tree key.directory parent) sound.no_loop;
      removed = λ from x there. elim (comes tree.edges key to from x there) [
        | fresh same new ↦ stays_in tree.edges key to from.directory free.absent (ap (λ (k : EdgeKey). is_removed tree.edges k.directory) same ∙ not_removed tree.edges key free_is)
        | known old ↦ stays_in tree.edges key to from.directory free.absent (sound.removed from x old)
      ];
      few_names = more_names tree.edges key to free.absent free.few;
      short_files = λ n r there. short tree row size sound n r there;
    }
  where
    new_twice : (tree : Tree) (row : NodeRow) → {n : ℕ} → length tree.nodes + 1 ≡ n → IsSome (row_of tree.nodes n) → ⊥
    new_twice tree row {n} is there = let few = number_few tree row n there in omega (arith, is, few)

    more_names : (edges : Edges) (key : EdgeKey) (to : EdgeTo) → finite.get edges key ≡ None → finite.len edges < limit.MAX_NAMES → finite.len (finite.insert edges key to) ≤ limit.MAX_NAMES
    more_names edges key to absent few =
        let count = finite.len-insert edges_total edges key to ∙ ap (λ o. cond (is_some o) (finite.len edges) (finite.len edges + 1)) absent in
        omega (arith, count, few)

    short : (tree : Tree) (row : NodeRow) → length row.bytes ≤ limit.MAX_FILE → IsSound tree → (n : ℕ) (r : NodeRow) → row_of (tree.nodes ++ row ∷ []) n ≡ Some r → length r.bytes ≤ limit.MAX_FILE
    short tree row size sound n r there =
        elim (n == length tree.nodes + 1) as (λ b. n == length tree.nodes + 1 ≡ b → length r.bytes ≤ limit.MAX_FILE) [
          | true ↦ λ e.
              let is : row ≡ r = same_some _ _ (sym (ap (row_of (tree.nodes ++ row ∷ [])) (eqb-true n (length tree.nodes + 1) e) ∙ row_of-push_same tree.nodes row) ∙ there) in
              subst (λ (x : NodeRow). length x.bytes ≤ limit.MAX_FILE) is size
          | false ↦ λ e.
              let apart : n ≢ length tree.nodes + 1 = grind (arith, nat_tests) in
              sound.short_files n r (sym (row_of-push_other tree.nodes row n apart) ∙ there)
        ] refl

    not_removed : (edges : Edges) (key : EdgeKey) → create_refusal edges key ≡ None → is_removed edges key.directory ≡ false
    not_removed edges key none = by_cases (is_removed edges key.directory) refl
      where
        by_cases : (b : Bool) → is_removed edges key.directory ≡ b → is_removed edges key.directory ≡ false
        by_cases true e = absurd (let wrong : Some fault.Removed ≡ None = sym (refusal_of edges key true (is_some (finite.get edges key)) (nat_le limit.MAX_NAMES (finite.len edges)) e refl refl) ∙ none in cc)
        by_cases false e = e

pub made_sound : (tree : Tree) (key : EdgeKey) (what : NodeKind) (mask : OperationSet) → IsSound tree → create_refusal tree.edges key ≡ None → kind_of tree key.directory ≡ Some Directory → 1 ≤ length key.name → length key.name ≤ limit.MAX_NAME
    → IsSound (after tree (make key (new_row what) mask))
made_sound tree key what mask sound free parent some few = row_sound tree key (new_row what) mask sound free parent some few (omega arith)

-- a file with other bytes
pub filled_sound : (tree : Tree) (number : ℕ) (old bytes : List ℕ) → IsSound tree → row_of tree.nodes number ≡ Some (record { kind = File; bytes = old }) → length bytes ≤ limit.MAX_FILE → IsSound (after tree (fill number bytes))
filled_sound tree number old bytes sound there short =
    let was : NodeRow = record { kind = File; bytes = old } in
    let is : NodeRow = record { kind = File; bytes = bytes } in
    let within = row_within tree.nodes number was there in
    let rows = filled_rows tree.nodes number was bytes there in
    let same_kind : (n : ℕ) → option_map (λ (r : NodeRow). r.kind) (row_of (filled tree.nodes number bytes) n) ≡ kind_of tree n =
    λ n. ap (λ rs. option_map (λ (r : NodeRow). r.kind) (row_of rs n)) rows ∙ kind_stays tree.nodes number n was is there within.some within.few refl in
    record {
      root = same_kind 1 ∙ sound.root;
      names = sound.names;
      parents = λ from x at. same_kind from.directory ∙ sound.parents from x at;
      children = λ from x at. some_stays (row_of (filled tree.nodes number bytes) x.child) (row_of tree.nodes x.child) (same_kind x.child) (sound.children from x at);
      one_name = λ a b x y k at_a at_b same kind only. sound.one_name a b x y k at_a at_b same (sym (same_kind x.child) ∙ kind) only;
      no_loop = sound.no_loop;
      removed = sound.removed;
      few_names = sound.few_names;
      short_files = λ n r at. short_row tree.nodes number n was is r there within.some within.few short (λ r at. sound.short_files n r at) (ap (λ rs. row_of rs n) (sym rows) ∙ at);
    }
  where
    kind_stays : (rows : List NodeRow) (number n : ℕ) (was is : NodeRow) → row_of rows number ≡ Some was → 1 ≤ number → number ≤ length rows → is.kind ≡ was.kind
        → option_map (λ (r : NodeRow). r.kind) (row_of (slice_set rows (number - 1) is) n) ≡ option_map (λ (r : NodeRow). r.kind) (row_of rows n)
    kind_stays rows number n was is there some few kind =
        elim (n == number) as (λ b. n == number ≡ b → option_map (λ (r : NodeRow). r.kind) (row_of (slice_set rows (number - 1) is) n) ≡ option_map (λ (r : NodeRow). r.kind) (row_of rows n)) [
          | true ↦ λ e.
              let same = eqb-true n number e in
              ap (option_map (λ (r : NodeRow). r.kind)) (ap (row_of (slice_set rows (number - 1) is)) same ∙ row_of-set_same rows number is some few) ∙ ap Some kind
              ∙ sym (ap (option_map (λ (r : NodeRow). r.kind)) (ap (row_of rows) same ∙ there))
          | false ↦ λ e.
              let apart : n ≢ number = grind (arith, nat_tests) in
              ap (option_map (λ (r : NodeRow). r.kind)) (row_of-set_other rows number n is some apart)
        ] refl

    some_stays : (o p : Option NodeRow) → option_map (λ (r : NodeRow). r.kind) o ≡ option_map (λ (r : NodeRow). r.kind) p → IsSome p → IsSome o
    some_stays None None same some = some
    some_stays (Some r) p same some = refl
    some_stays None (Some r) same some = absurd (cc)

    short_row : (rows : List NodeRow) (number n : ℕ) (was is r : NodeRow) → row_of rows number ≡ Some was → 1 ≤ number → number ≤ length rows → length is.bytes ≤ limit.MAX_FILE
        → ((r : NodeRow) → row_of rows n ≡ Some r → length r.bytes ≤ limit.MAX_FILE) → row_of (slice_set rows (number - 1) is) n ≡ Some r → length r.bytes ≤ limit.MAX_FILE
    short_row rows number n was is r there some few short others at =
        elim (n == number) as (λ b. n == number ≡ b → length r.bytes ≤ limit.MAX_FILE) [
          | true ↦ λ e.
              let row : is ≡ r = same_some _ _ (sym (ap (row_of (slice_set rows (number - 1) is)) (eqb-true n number e) ∙ row_of-set_same rows number is some few) ∙ at) in
              subst (λ (x : NodeRow). length x.bytes ≤ limit.MAX_FILE) row short
          | false ↦ λ e.
              let apart : n ≢ number = grind (arith, nat_tests) in
              others r (sym (row_of-set_other rows number n is some apart) ∙ at)
        ] refl

small_enough : (size : ℕ) → resize_refusal size ≡ None → size ≤ limit.MAX_FILE
small_enough size none = by_cases (nat_lt limit.MAX_FILE size) refl
  where
    by_cases : (b : Bool) → nat_lt limit.MAX_FILE size ≡ b → size ≤ limit.MAX_FILE
    by_cases true e = absurd (let wrong : Some fault.FileBig ≡ None = sym (ap (λ b. cause_if b fault.FileBig) e) ∙ none in cc)
    by_cases false e = at_most limit.MAX_FILE size e
      where
        at_most : (most n : ℕ) → nat_lt most n ≡ false → n ≤ most
        at_most most n e = grind (arith, nat_tests)

length-resized : (old : List ℕ) (size : ℕ) → length (resized old size) ≡ size
length-resized old size = simp (length-append, length-take, length-replicate) (omega arith)

pub resized_sound : (tree : Tree) (number : ℕ) (old : List ℕ) (size : ℕ) → IsSound tree → row_of tree.nodes number ≡ Some (record { kind = File; bytes = old }) → resize_refusal size ≡ None → IsSound (after tree (fill number (resized old size)))
resized_sound tree number old size sound there free =
    let few = small_enough size free in
    let count = length-resized old size in
    filled_sound tree number old (resized old size) sound there (omega (arith, few, count))

pub written_sound : (tree : Tree) (number : ℕ) (old : List ℕ) (offset : ℕ) (bytes : List ℕ) → IsSound tree → row_of tree.nodes number ≡ Some (record { kind = File; bytes = old }) → write_refusal offset bytes ≡ None
    → IsSound (after tree (write_change number old offset bytes))
written_sound tree number old offset [] sound there free = sound
written_sound tree number old offset (byte ∷ bytes) sound there free =
    let few = small_enough (offset + length (byte ∷ bytes)) free in
    let before = sound.short_files number _ there in
    filled_sound tree number old (overwritten old offset (byte ∷ bytes)) sound there (long old offset (byte ∷ bytes) few before)
  where
    long : (old : List ℕ) (offset : ℕ) (new : List ℕ) → offset + length new ≤ limit.MAX_FILE → length old ≤ limit.MAX_FILE → length (overwritten old offset new) ≤ limit.MAX_FILE
    long old offset new few before =
        let front = length-resized old offset in
        let all = length-append (resized old offset ++ new) (drop (offset + length new) old) in
        let part = length-append (resized old offset) new in
        let rest = length-drop (offset + length new) old in
        omega (arith, front, all, part, rest, few, before)

-- the tree that a server begins with
no_edge : (from : EdgeKey) (to : EdgeTo) → finite.get (finite.empty {X = EdgeTo} {R = edge_cmp}) from ≡ Some to → ⊥
no_edge from to there = let none = sym (finite.get-empty edge_cmp from) ∙ there in cc

no_below : (x d : ℕ) → Below finite.empty x d → ⊥
no_below _ _ (child from to there) = no_edge from to there
no_below _ _ (deeper from to d there below) = no_edge from to there

pub bare_sound : IsSound bare_tree
bare_sound = record {
  root = refl;
  names = λ from to there. absurd (no_edge from to there);
  parents = λ from to there. absurd (no_edge from to there);
  children = λ from to there. absurd (no_edge from to there);
  one_name = λ a b x y k at_a at_b same kind only. absurd (no_edge a x at_a);
  no_loop = λ n below. no_below n n below;
  removed = λ from to there. absurd (no_edge from to there);
  few_names = rw (finite.len-empty edge_cmp EdgeTo) (omega arith);
  short_files = short_bare;
}
  where
    short_bare : (n : ℕ) (r : NodeRow) → row_of bare_tree.nodes n ≡ Some r → length r.bytes ≤ limit.MAX_FILE
    short_bare zero r there = absurd (cc)
    short_bare (suc zero) r there = let is = same_some _ _ there in let size = ap (λ (x : NodeRow). length x.bytes) (sym is) in omega (arith, size)
    short_bare (suc (suc n)) r there = absurd (cc)
