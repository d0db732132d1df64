-- The nodes that a server's graph keeps are those that have to be kept in a view, and there are few.
use Rattle.std.proofs.Common.{◌≡◌, ℕ, zero, suc, ◌+◌, ◌≤◌, ◌==◌, ◌||◌, Bool, true, false, length, refl, sym, ap, ◌∙◌, arith}
use Rattle.std.specs.Prelude.{nat_lt, count_by}
use Rattle.std.specs.FinMap as finite
use Rattle.std.specs.declared.cmp.Ordering.{Ordering}
use Rattle.std.proofs.lemmas.Bool.{eq-eqb, eqb-false, eqb-true, lt-ltb, ltb-true, ne_eqb}
use Rattle.std.proofs.lemmas.List.{length-map}
use Rattle.std.proofs.lemmas.List.Sums.{sum_by-le-sum_by}
use Rattle.fidl_names.specs.declared.limits.TheConstants as limit
use Rattle.node_graph.specs.Graph.{Kept, holds_at, is_kept, number_of, numbers_to}
use Rattle.node_graph.specs.Tree.{EdgeTo, Edges, is_linked}
use Rattle.conn_rules.specs.Births.{Connection}
use Rattle.vfs_journal.specs.History.{tree_at}
use Rattle.vfs_journal.specs.Starts.{Bound}
use Rattle.vfs_journal.specs.View.{View}
use Rattle.vfs_server.specs.Holding.{HoldsAt, bound_to, living_at, named_by}
use Rattle.vfs_server.specs.Seats.{Seats, watched_by}
use Rattle.vfs_server.specs.Kept.{Connections, IsSound, Tokens, connected_to, naming}
use Rattle.vfs_server.specs.KeptNodes.{is_bound_to, is_named_by, is_wanted, kept_in}
use Rattle.vfs_server.specs.Servers.{Server}
use Rattle.vfs_server.specs.declared.watching.Seat.{Seat}
use Rattle.vfs_server.proofs.Counts.{either_passes, named_once, once, same_count, some_pass, sum_apart}
use Rattle.vfs_server.proofs.Maps.{one_if}

-- ---- those of a view

held_there : (view : View) (index number : ℕ) → nat_lt 0 (bound_to view index number + named_by view index number) ≡ (is_bound_to view index number || is_named_by view index number)
held_there view index number =
    either_passes (bound_to view index number) (named_by view index number)
    ∙ ap (λ b. b || nat_lt 0 (named_by view index number)) (some_pass (λ (bound : Bound). bound.birth.node == number) (living_at view index))
    ∙ ap (λ b. is_bound_to view index number || b) (some_pass _ view.given)

wanted_there : (view : View) (server : Server) → HoldsAt view server → (number : ℕ) → is_kept server.graph number ≡ is_wanted view server.index number
wanted_there view server h number =
    ap (λ (edges : Edges). number == 1 || (is_linked edges number || nat_lt 0 (holds_at server.graph number))) h.tree.edges
    ∙ ap (λ b. number == 1 || (is_linked (tree_at view.trees server.index).edges number || b)) (ap (nat_lt 0) (h.holds number) ∙ held_there view server.index number)

pub as_many_kept : (view : View) (server : Server) → HoldsAt view server → count_by (is_kept server.graph) (numbers_to server.graph.made) ≡ kept_in view server.index
as_many_kept view server h =
    same_count (is_kept server.graph) (is_wanted view server.index) (wanted_there view server h) (numbers_to server.graph.made)
    ∙ ap (λ (n : ℕ). count_by (is_wanted view server.index) (numbers_to n)) h.tree.made

-- ---- few

turned : (a b : ℕ) → (a == b) ≡ (b == a)
turned a b = by_test (b == a) refl where
  by_test : (t : Bool) → (b == a) ≡ t → (a == b) ≡ t
  by_test true e = eq-eqb a b (sym (eqb-true b a e))
  by_test false e = ne_eqb a b (λ same. eqb-false b a e (sym same))

some_are : (count : ℕ) → one_if (nat_lt 0 count) ≤ count
some_are zero = omega arith
some_are (suc count) = let one : one_if (nat_lt 0 (suc count)) ≡ 1 = ap one_if (lt-ltb 0 (suc count) (omega arith)) in omega (arith, one)

-- the root, or linked so often, or held so often
each_once : (root linked : Bool) (links holds : ℕ) → nat_lt 0 links ≡ linked → one_if (root || (linked || nat_lt 0 holds)) ≤ one_if root + (links + holds)
each_once true linked links holds is = omega arith
each_once false true links holds is = let some = ltb-true 0 links is in omega (arith, some)
each_once false false links holds is = let few = some_are holds in omega (arith, few)

length-values : {A V : Type 0} {order : A → A → Ordering} (map : finite.FinMap order V) → length (finite.values map) ≡ finite.len map
length-values {A} {V} map = length-map (finite.entries map) (λ (e : A × V). e.1) ∙ sym (finite.len-entries map)

module _ {graph : Kept} {connections : Connections} {seats : Seats} {tokens : Tokens} (sound : IsSound graph connections seats tokens) where
  abbrev root : ℕ → ℕ
  root number = one_if (1 == number)

  abbrev linked : ℕ → ℕ
  linked number = count_by (λ (to : EdgeTo). to.child == number) (finite.values graph.edges)

  abbrev connected : ℕ → ℕ
  connected number = connected_to number connections

  abbrev watched : ℕ → ℕ
  watched number = watched_by number seats

  abbrev named : ℕ → ℕ
  named number = naming number tokens

  once_each : (number : ℕ) → one_if (is_kept graph number) ≤ root number + (linked number + (connected number + (watched number + named number)))
  once_each number =
      let most = each_once (number == 1) (is_linked graph.edges number) (linked number) (holds_at graph number) (some_pass (λ (to : EdgeTo). to.child == number) (finite.values graph.edges)) in
      let first : one_if (number == 1) ≡ root number = ap one_if (turned number 1) in
      let holds = sound.holds number in
      omega (arith, most, first, holds)

  -- the root once, and a node at most once for each name that leads to it, and for each of its holds
  pub few_kept : count_by (is_kept graph) (numbers_to graph.made) ≤ 1 + finite.len graph.edges + limit.MAX_CONNECTIONS + limit.MAX_TOKENS
  few_kept =
      let numbers = numbers_to graph.made in
      let most = sum_by-le-sum_by (λ n. one_if (is_kept graph n)) (λ n. root n + (linked n + (connected n + (watched n + named n)))) numbers once_each in
      let a = sum_apart root (λ n. linked n + (connected n + (watched n + named n))) (λ n. root n + (linked n + (connected n + (watched n + named n)))) (λ n. refl) numbers in
      let b = sum_apart linked (λ n. connected n + (watched n + named n)) (λ n. linked n + (connected n + (watched n + named n))) (λ n. refl) numbers in
      let c = sum_apart connected (λ n. watched n + named n) (λ n. connected n + (watched n + named n)) (λ n. refl) numbers in
      let d = sum_apart watched named (λ n. watched n + named n) (λ n. refl) numbers in
      let one = once 1 graph.made in
      let links = named_once (λ (to : EdgeTo). to.child) (finite.values graph.edges) graph.made in
      let many = length-values graph.edges in
      let connections_once = named_once (λ (c : Connection). number_of c.birth.node) (finite.values connections) graph.made in
      let as_many = length-values connections in
      let seats_once = named_once (λ (e : ℕ × Seat). number_of e.1.directory) seats graph.made in
      let tokens_once = named_once number_of (finite.values tokens) graph.made in
      let those = length-values tokens in
      let few = sound.few in
      let rare = sound.rare in
      omega (arith, most, a, b, c, d, one, links, many, connections_once, as_many, seats_once, tokens_once, those, few, rare)
