-- Trees whose names and files are bytes: their names, and that changes keep them so.
use Rattle.std.proofs.Common.{◌≡◌, ℕ, zero, suc, ◌-◌, ◌==◌, ◌&&◌, Bool, true, false, cond, List, [], ◌∷◌, filter, Option, Some, None, refl, sym, ap, subst, ◌∙◌, All}
use Rattle.std.specs.FinMap as finite
use Rattle.std.specs.FinMap.Entries as entry
use Rattle.std.specs.Cmp.{IsTotalOrder, eq_by_cmp_equiv}
use Rattle.std.specs.Option.{option_map_or}
use Rattle.std.specs.Ordering.{eq_by_cmp, is_eq, is_lt}
use Rattle.std.specs.Prelude.{slice_get, slice_set}
use Rattle.std.specs.declared.cmp.Ordering.{Ordering}
use Rattle.std.specs.declared.cmp.Ordering.TheVariants.{Less, Equal, Greater}
use Rattle.std.proofs.lemmas.Bool.{and_parts}
use Rattle.std.proofs.lemmas.Cmp.{tied_itself}
use Rattle.std.proofs.lemmas.List.Elements.{All-nil, All-cons, All-head, All-tail, All-filter, All-map, All-push, All-set, All-weaker}
use Rattle.fidl_names.specs.Numbers.{AreBytes}
use Rattle.node_graph.specs.Graph.{comes_after, listed_after}
use Rattle.node_graph.specs.Tree.{Change, EdgeKey, EdgeTo, Edges, IsSound, NodeRow, Tree, add, after, bare_tree, cut, edge_cmp, fill, filled, make, move, moved, names_in, row_of, stay}
use Rattle.session_start.proofs.Trees.{edges_total, equal_of, exact_edges}
use Rattle.conn_rules.specs.Nodes.{bytes_of}
use Rattle.vfs_journal.specs.History.{changed, tree_at}
use Rattle.journal_laws.proofs.Lists.{both_hold}
use Rattle.journal_laws.proofs.Texts.{IsShortName, none_written}
use Rattle.journal_laws.specs.Contents.{HasBytes}

-- ---- entries are found

not_tied : {K : Type 0} {R : K → K → Ordering} (o : IsTotalOrder R) (one other : K) → is_lt (R one other) ≡ true → eq_by_cmp R other one ≡ false
not_tied {K} {R} o one other less = (eq_by_cmp_equiv o).symm other one ∙ by_order (R one other) less where
  by_order : (r : Ordering) → is_lt r ≡ true → is_eq r ≡ false
  by_order Less h = refl
  by_order Equal h = absurd (cc)
  by_order Greater h = absurd (cc)

module _ {K X : Type 0} {R : K → K → Ordering} (o : IsTotalOrder R) where
  all_above : (key : K) (es : List (K × X)) → entry.below_all R key es ≡ true → All (λ e. is_lt (R key e.0) ≡ true) es
  all_above key [] h = All-nil (λ (e : K × X). is_lt (R key e.0) ≡ true)
  all_above key (e ∷ es) h =
      let both = and_parts (is_lt (R key e.0)) (entry.below_all R key es) h in
      All-cons (λ (x : K × X). is_lt (R key x.0) ≡ true) e es both.0 (all_above key es both.1)

  found_here : (e : K × X) (es : List (K × X)) → entry.find R e.0 (e ∷ es) ≡ Some e.1
  found_here e es = ap (λ r. cond (is_eq r) (Some e.1) (entry.find R e.0 es)) (tied_itself o e.0)

  found_later : (e x : K × X) (es : List (K × X)) → is_lt (R e.0 x.0) ≡ true → entry.find R x.0 es ≡ Some x.1 → entry.find R x.0 (e ∷ es) ≡ Some x.1
  found_later e x es less found = ap (λ b. cond b (Some e.1) (entry.find R x.0 es)) (not_tied o e.0 x.0 less) ∙ found

  all_found : (es : List (K × X)) → entry.is_sorted R es ≡ true → All (λ e. entry.find R e.0 es ≡ Some e.1) es
  all_found [] h = All-nil (λ (e : K × X). entry.find R e.0 [] ≡ Some e.1)
  all_found (e ∷ es) h =
      let both = and_parts (entry.below_all R e.0 es) (entry.is_sorted R es) h in
      All-cons (λ (x : K × X). entry.find R x.0 (e ∷ es) ≡ Some x.1) e es (found_here e es)
      (All-weaker (λ (x : K × X). (is_lt (R e.0 x.0) ≡ true) × (entry.find R x.0 es ≡ Some x.1)) (λ (x : K × X). entry.find R x.0 (e ∷ es) ≡ Some x.1)
      (λ x h. found_later e x es h.0 h.1) es
      (both_hold (λ (x : K × X). is_lt (R e.0 x.0) ≡ true) (λ (x : K × X). entry.find R x.0 es ≡ Some x.1) es (all_above e.0 es both.0) (all_found es both.1)))

is_true : (b : Bool) → Rattle.std.specs.Prelude.T b → b ≡ true
is_true true h = refl
is_true false h = absurd h

-- what holds of each edge that is found holds of each entry
each_entry : (edges : Edges) (P : EdgeKey × EdgeTo → Type 0) → ((key : EdgeKey) (to : EdgeTo) → finite.get edges key ≡ Some to → P (key, to)) → All P (finite.entries edges)
each_entry edges P holds =
    All-weaker (λ (e : EdgeKey × EdgeTo). entry.find edge_cmp e.0 (finite.entries edges) ≡ Some e.1) P (λ e found. holds e.0 e.1 (finite.get-entries edges e.0 ∙ found)) (finite.entries edges)
    (all_found edges_total (finite.entries edges) (is_true (entry.is_sorted edge_cmp (finite.entries edges)) (finite.entries_sorted edges)))

-- ---- names

short_key : (tree : Tree) → IsSound tree → HasBytes tree → (key : EdgeKey) (to : EdgeTo) → finite.get tree.edges key ≡ Some to → IsShortName key.name
short_key tree sound bytes key to there = record { bytes = bytes.names key to there; short = (sound.names key to there).1 }

short_entries : (tree : Tree) → IsSound tree → HasBytes tree → All (λ (e : EdgeKey × EdgeTo). IsShortName e.0.name) (finite.entries tree.edges)
short_entries tree sound bytes = each_entry tree.edges (λ e. IsShortName e.0.name) (short_key tree sound bytes)

-- those of a directory
pub short_names : (tree : Tree) (directory : ℕ) → IsSound tree → HasBytes tree → All IsShortName (names_in tree.edges directory)
short_names tree directory sound bytes =
    let in_it : EdgeKey × EdgeTo → Bool = λ e. e.0.directory == directory in
    All-map IsShortName (λ (e : EdgeKey × EdgeTo). e.0.name) (filter in_it (finite.entries tree.edges))
    (All-filter in_it (λ (e : EdgeKey × EdgeTo). IsShortName e.0.name) (finite.entries tree.edges) (short_entries tree sound bytes))

-- and those behind a place
pub short_listed : (tree : Tree) (directory : ℕ) (place : Option (List ℕ)) → IsSound tree → HasBytes tree → All (λ (listed : List ℕ × ℕ). IsShortName listed.0) (listed_after tree.edges directory place)
short_listed tree directory place sound bytes =
    let in_it : EdgeKey × EdgeTo → Bool = λ e. (e.0.directory == directory) && comes_after place e.0.name in
    All-map (λ (listed : List ℕ × ℕ). IsShortName listed.0) (λ (e : EdgeKey × EdgeTo). (e.0.name, e.1.child)) (filter in_it (finite.entries tree.edges))
    (All-filter in_it (λ (e : EdgeKey × EdgeTo). IsShortName e.0.name) (finite.entries tree.edges) (short_entries tree sound bytes))

-- ---- files

bytes_at : (rows : List NodeRow) (number : ℕ) → All (λ (row : NodeRow). AreBytes row.bytes) rows → AreBytes (option_map_or (λ (row : NodeRow). row.bytes) (row_of rows number) [])
bytes_at rows zero h = none_written
bytes_at [] (suc place) h = none_written
bytes_at (row ∷ rows) (suc zero) h = All-head (λ (r : NodeRow). AreBytes r.bytes) row rows h
bytes_at (row ∷ rows) (suc (suc place)) h = bytes_at rows (suc place) (All-tail (λ (r : NodeRow). AreBytes r.bytes) row rows h)

pub file_in_bytes : (tree : Tree) (number : ℕ) → HasBytes tree → AreBytes (bytes_of tree number)
file_in_bytes tree number bytes = bytes_at tree.nodes number bytes.files

-- ---- changes

-- the name and the bytes that a change brings
abbrev pub BringsBytes : Change → Type 0
BringsBytes (make key row mask) = AreBytes key.name × AreBytes row.bytes
BringsBytes (add key to) = AreBytes key.name
BringsBytes (cut key) = Unit {0}
BringsBytes (move from to) = AreBytes to.name
BringsBytes (fill number bytes) = AreBytes bytes
BringsBytes stay = Unit {0}

-- the names of edges
abbrev AreNamed : Edges → Type 0
AreNamed edges = (from : EdgeKey) (to : EdgeTo) → finite.get edges from ≡ Some to → AreBytes from.name

inserted : (edges : Edges) (key : EdgeKey) (to : EdgeTo) → AreNamed edges → AreBytes key.name → AreNamed (finite.insert edges key to)
inserted edges key to named bytes from end there = by_test (eq_by_cmp edge_cmp from key) refl (sym (finite.get-insert edges_total edges key to from) ∙ there) where
  by_test : (b : Bool) → eq_by_cmp edge_cmp from key ≡ b → cond b (Some to) (finite.get edges from) ≡ Some end → AreBytes from.name
  by_test true is e = subst (λ (k : EdgeKey). AreBytes k.name) (sym (exact_edges from key (equal_of (edge_cmp from key) is))) bytes
  by_test false is e = named from end e

removed : (edges : Edges) (key : EdgeKey) → AreNamed edges → AreNamed (finite.remove edges key)
removed edges key named from end there = by_test (eq_by_cmp edge_cmp from key) (sym (finite.get-remove edges_total edges key from) ∙ there) where
  by_test : (b : Bool) → cond b None (finite.get edges from) ≡ Some end → AreBytes from.name
  by_test true e = absurd (cc)
  by_test false e = named from end e

edges_moved : (edges : Edges) (from to : EdgeKey) → AreNamed edges → AreBytes to.name → AreNamed (moved edges from to)
edges_moved edges from to named bytes = by_edge (finite.get edges from) where
  by_edge : (o : Option EdgeTo) → AreNamed (option_map_or (λ edge. finite.insert (finite.remove edges from) to edge) o edges)
  by_edge None = named
  by_edge (Some edge) = inserted (finite.remove edges from) to edge (removed edges from named) bytes

rows_filled : (rows : List NodeRow) (number : ℕ) (bytes : List ℕ) → All (λ (row : NodeRow). AreBytes row.bytes) rows → AreBytes bytes → All (λ (row : NodeRow). AreBytes row.bytes) (filled rows number bytes)
rows_filled rows number bytes h in_bytes = by_row (row_of rows number) where
  by_row : (o : Option NodeRow) → All (λ (row : NodeRow). AreBytes row.bytes) (option_map_or (λ (row : NodeRow). slice_set rows (number - 1) (let new : NodeRow = record { kind = row.kind; bytes = bytes } in new)) o rows)
  by_row None = h
  by_row (Some row) = All-set (λ (r : NodeRow). AreBytes r.bytes) rows (number - 1) (record { kind = row.kind; bytes = bytes }) in_bytes h

changed_bytes : (tree : Tree) (change : Change) → HasBytes tree → BringsBytes change → HasBytes (after tree change)
changed_bytes tree (make key row mask) h new = record {
  names = inserted tree.edges key _ h.names new.0;
  files = All-push (λ (r : NodeRow). AreBytes r.bytes) tree.nodes row h.files new.1;
}
changed_bytes tree (add key to) h new = record { names = inserted tree.edges key to h.names new; files = h.files }
changed_bytes tree (cut key) h new = record { names = removed tree.edges key h.names; files = h.files }
changed_bytes tree (move from to) h new = record { names = edges_moved tree.edges from to h.names new; files = h.files }
changed_bytes tree (fill number bytes) h new = record { names = h.names; files = rows_filled tree.nodes number bytes h.files new }
changed_bytes tree stay h new = h

bare_bytes : HasBytes bare_tree
bare_bytes = record {
  names = λ from to there. absurd (let wrong : None ≡ Some to = sym (finite.get-empty edge_cmp from) ∙ there in cc);
  files = All-cons (λ (row : NodeRow). AreBytes row.bytes) _ [] none_written (All-nil (λ (row : NodeRow). AreBytes row.bytes));
}

-- the tree of no server is bare
pub tree_bytes : (trees : List Tree) (server : ℕ) → All HasBytes trees → HasBytes (tree_at trees server)
tree_bytes [] server h = bare_bytes
tree_bytes (tree ∷ trees) zero h = All-head HasBytes tree trees h
tree_bytes (tree ∷ trees) (suc server) h = tree_bytes trees server (All-tail HasBytes tree trees h)

pub trees_bytes : (trees : List Tree) (server : ℕ) (change : Change) → All HasBytes trees → BringsBytes change → All HasBytes (changed trees server change)
trees_bytes trees server change h new =
    All-set HasBytes trees server (after (tree_at trees server) change) (changed_bytes (tree_at trees server) change (tree_bytes trees server h) new) h
