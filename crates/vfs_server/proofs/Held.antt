-- Holds that follow what is connected, who watches and what tokens name.
use Rattle.std.proofs.Common.{◌≡◌, ℕ, ◌+◌, ◌-◌, ◌<◌, ◌≤◌, ◌==◌, Bool, true, false, cond, [], ◌∷◌, All, length, Option, Some, None, refl, sym, ap, ◌∙◌, subst, arith}
use Rattle.std.specs.Prelude.{IsSome, if◌then◌else◌}
use Rattle.std.specs.FinMap as finite
use Rattle.std.specs.Option.{option_map_or}
use Rattle.std.proofs.lemmas.Bool.{eqb-true, eq-eqb, eqb-false, ne_eqb}
use Rattle.std.proofs.lemmas.Bool.Decides.{nat_tests}
use Rattle.std.proofs.lemmas.List.Elements.{All-cons, All-head, All-nil, All-tail, All-weaker}
use Rattle.std.proofs.lemmas.List.Sums.{count_by-le-length, sum_by-cons}
use Rattle.fidl_names.specs.declared.limits.TheConstants as limit
use Rattle.node_graph.specs.declared.nodes.NodeKind.{NodeKind}
use Rattle.node_graph.specs.declared.nodes.NodeRef.{NodeRef}
use Rattle.node_graph.specs.Graph.{Kept, HoldsNow, KeepsNames, holds_at, is_kept, number_of}
use Rattle.conn_rules.specs.declared.births.Birth as code
use Rattle.conn_rules.specs.Births.{Connection}
use Rattle.conn_rules.specs.Shared.{CanBeBound, is_spoken_at}
use Rattle.vfs_server.specs.Binding.{IsDirectory}
use Rattle.vfs_server.specs.declared.watching.Seat.{Seat}
use Rattle.vfs_server.specs.Seats.{Seats, is_at, seat_at, watched_by}
use Rattle.vfs_server.specs.Kept.{Connections, IsSound, Tokens, WatchDirectories, connected_to, naming}
use Rattle.vfs_server.proofs.Maps.{one_if, count_cut, counts_few}

abbrev pub to_node : ℕ → Connection → Bool
to_node number connection = number_of connection.birth.node == number

abbrev pub at_node : ℕ → NodeRef → Bool
at_node number node = number_of node == number

-- ---- one hold more, and one less

-- a count of what holds a node that is one more, with its holds
pub held_more : (old new : Kept) (changed : ℕ) (was now : ℕ → ℕ) → HoldsNow old new changed (holds_at old changed + 1) → ((number : ℕ) → holds_at old number ≡ was number) →
    ((number : ℕ) → now number ≡ one_if (changed == number) + was number) → (number : ℕ) → holds_at new number ≡ now number
held_more old new changed was now held before one number = held number ∙ by_number (number == changed) refl where
  by_number : (b : Bool) → (number == changed) ≡ b → (if b then holds_at old changed + 1 else holds_at old number) ≡ now number
  by_number true e =
      let same : number ≡ changed = eqb-true number changed e in
      let more : one_if (changed == number) ≡ 1 = ap one_if (eq-eqb changed number (sym same)) in
      let here : holds_at old changed ≡ was number = ap (holds_at old) (sym same) ∙ before number in
      let counted = one number in
      omega (arith, more, here, counted)
  by_number false e =
      let none : one_if (changed == number) ≡ 0 = ap one_if (ne_eqb changed number (λ same. eqb-false number changed e (sym same))) in
      let here = before number in
      let counted = one number in
      omega (arith, none, here, counted)

-- and one that is one less
pub held_less : (old new : Kept) (changed : ℕ) (was now : ℕ → ℕ) → HoldsNow old new changed (holds_at old changed - 1) → ((number : ℕ) → holds_at old number ≡ was number) →
    ((number : ℕ) → was number ≡ one_if (changed == number) + now number) → (number : ℕ) → holds_at new number ≡ now number
held_less old new changed was now held before one number = held number ∙ by_number (number == changed) refl where
  by_number : (b : Bool) → (number == changed) ≡ b → (if b then holds_at old changed - 1 else holds_at old number) ≡ now number
  by_number true e =
      let same : number ≡ changed = eqb-true number changed e in
      let less : one_if (changed == number) ≡ 1 = ap one_if (eq-eqb changed number (sym same)) in
      let here : holds_at old changed ≡ was number = ap (holds_at old) (sym same) ∙ before number in
      let counted = one number in
      omega (arith, less, here, counted)
  by_number false e =
      let none : one_if (changed == number) ≡ 0 = ap one_if (ne_eqb changed number (λ same. eqb-false number changed e (sym same))) in
      let here = before number in
      let counted = one number in
      omega (arith, none, here, counted)

-- ---- sound servers

-- how often a node is held
abbrev pub held_by : Connections → Seats → Tokens → ℕ → ℕ
held_by connections seats tokens number = connected_to number connections + watched_by number seats + naming number tokens

-- a connection's node is counted, and a token's directory
connected_once : (connections : Connections) (endpoint : ℕ) (connection : Connection) → finite.get connections endpoint ≡ Some connection → 0 < connected_to (number_of connection.birth.node) connections
connected_once connections endpoint connection there =
    let number = number_of connection.birth.node in
    let cut = count_cut (to_node number) connections endpoint connection there in
    let one : one_if (to_node number connection) ≡ 1 = ap one_if (eq-eqb number number refl) in
    omega (arith, cut, one)

named_once : (tokens : Tokens) (token : ℕ) (directory : NodeRef) → finite.get tokens token ≡ Some directory → 0 < naming (number_of directory) tokens
named_once tokens token directory there =
    let number = number_of directory in
    let cut = count_cut (at_node number) tokens token directory there in
    let one : one_if (at_node number directory) ≡ 1 = ap one_if (eq-eqb number number refl) in
    omega (arith, cut, one)

-- and each watcher's
watched_once : (seats : Seats) → All (λ (entry : ℕ × Seat). 0 < watched_by (number_of entry.1.directory) seats) seats
watched_once [] = All-nil (λ (entry : ℕ × Seat). 0 < watched_by (number_of entry.1.directory) [])
watched_once (e ∷ es) =
    All-cons (λ (entry : ℕ × Seat). 0 < watched_by (number_of entry.1.directory) (e ∷ es)) e es here
    (All-weaker (λ (entry : ℕ × Seat). 0 < watched_by (number_of entry.1.directory) es) (λ (entry : ℕ × Seat). 0 < watched_by (number_of entry.1.directory) (e ∷ es)) behind es (watched_once es))
  where
    counted : (number : ℕ) → watched_by number (e ∷ es) ≡ one_if (is_at number e) + watched_by number es
    counted number = sum_by-cons (λ (entry : ℕ × Seat). one_if (is_at number entry)) e es

    here : 0 < watched_by (number_of e.1.directory) (e ∷ es)
    here =
        let more = counted (number_of e.1.directory) in
        let one : one_if (is_at (number_of e.1.directory) e) ≡ 1 = ap one_if (eq-eqb (number_of e.1.directory) (number_of e.1.directory) refl) in
        omega (arith, more, one)

    behind : (entry : ℕ × Seat) → 0 < watched_by (number_of entry.1.directory) es → 0 < watched_by (number_of entry.1.directory) (e ∷ es)
    behind entry some = let more = counted (number_of entry.1.directory) in omega (arith, more, some)

-- what holds of all watchers holds of the one of an endpoint
pub seat_of_all : (P : Seat → Type 0) (seats : Seats) (endpoint : ℕ) (seat : Seat) → seat_at seats endpoint ≡ Some seat → All (λ (entry : ℕ × Seat). P entry.1) seats → P seat
seat_of_all P [] endpoint seat there all = absurd (cc)
seat_of_all P (e ∷ es) endpoint seat there all = by_test (endpoint == e.0) there (λ at. seat_of_all P es endpoint seat at (All-tail (λ (entry : ℕ × Seat). P entry.1) e es all)) where
  by_test : (b : Bool) → cond b (Some e.1) (seat_at es endpoint) ≡ Some seat → (seat_at es endpoint ≡ Some seat → P seat) → P seat
  by_test true at rest = let same : e.1 ≡ seat = cc in subst P same (All-head (λ (entry : ℕ × Seat). P entry.1) e es all)
  by_test false at rest = rest at

module _ (graph : Kept) (connections : Connections) (seats : Seats) (tokens : Tokens) (sound : IsSound graph connections seats tokens) where
  -- a connection's node is held
  pub held_there : (endpoint : ℕ) (connection : Connection) → finite.get connections endpoint ≡ Some connection → 0 < holds_at graph (number_of connection.birth.node)
  held_there endpoint connection there =
      let one = connected_once connections endpoint connection there in
      let holds = sound.holds (number_of connection.birth.node) in
      omega (arith, one, holds)

  -- a watcher's directory
  pub held_by_watcher : (endpoint : ℕ) (seat : Seat) → seat_at seats endpoint ≡ Some seat → 0 < holds_at graph (number_of seat.directory)
  held_by_watcher endpoint seat there =
      let one = seat_of_all (λ (s : Seat). 0 < watched_by (number_of s.directory) seats) seats endpoint seat there (watched_once seats) in
      let holds = sound.holds (number_of seat.directory) in
      omega (arith, one, holds)

  -- and a token's
  pub held_by_token : (token : ℕ) (directory : NodeRef) → finite.get tokens token ≡ Some directory → 0 < holds_at graph (number_of directory)
  held_by_token token directory there =
      let one = named_once tokens token directory there in
      let holds = sound.holds (number_of directory) in
      omega (arith, one, holds)

  -- a node has no more holds than a server has connections, watchers and tokens
  pub few_held : (number : ℕ) → holds_at graph number < 4294967295
  few_held number =
      let connected = counts_few (to_node number) connections in
      let watched = count_by-le-length (is_at number) seats in
      let named = counts_few (at_node number) tokens in
      let holds = sound.holds number in
      let few = sound.few in
      let rare = sound.rare in
      omega (arith, connected, watched, named, holds, few, rare)

  -- a watcher's directory is one
  pub watched_there : (endpoint : ℕ) (seat : Seat) → seat_at seats endpoint ≡ Some seat → IsDirectory graph seat.directory
  watched_there endpoint seat there = seat_of_all (λ (s : Seat). IsDirectory graph s.directory) seats endpoint seat there sound.watched

-- what is kept still can still be bound, and is a directory still
pub still_bound : (old new : Kept) (birth : code.Birth) → KeepsNames old new → is_kept new (number_of birth.node) ≡ true → CanBeBound old birth → CanBeBound new birth
still_bound old new birth keeps kept was =
    let names = keeps birth.node was.named kept in
    record { named = names.0; spoken = ap (λ (kind : Option NodeKind). option_map_or (is_spoken_at birth.protocol) kind false) names.1 ∙ was.spoken; connects = was.connects }

pub still_directory : (old new : Kept) (node : NodeRef) → KeepsNames old new → is_kept new (number_of node) ≡ true → IsDirectory old node → IsDirectory new node
still_directory old new node keeps kept was =
    let names = keeps node was.kept kept in
    record { kept = names.0; kind = names.1 ∙ was.kind }

pub held_kept : (graph : Kept) (number : ℕ) → 0 < holds_at graph number → is_kept graph number ≡ true
held_kept graph number some = grind (arith, nat_tests)

both_hold : (P Q R : ℕ × Seat → Type 0) → ((entry : ℕ × Seat) → P entry → Q entry → R entry) → (es : Seats) → All P es → All Q es → All R es
both_hold P Q R f [] p q = All-nil R
both_hold P Q R f (e ∷ es) p q = All-cons R e es (f e (All-head P e es p) (All-head Q e es q)) (both_hold P Q R f es (All-tail P e es p) (All-tail Q e es q))

-- what a server keeps, but for its graph
pub record IsOf (graph : Kept) (connections : Connections) (seats : Seats) (tokens : Tokens) : Type 0 where
  pub each : (endpoint : ℕ) (connection : Connection) → finite.get connections endpoint ≡ Some connection → CanBeBound graph connection.birth
  pub watched : WatchDirectories graph seats
  pub named : (token : ℕ) (directory : NodeRef) → finite.get tokens token ≡ Some directory → IsDirectory graph directory
  pub apart : (endpoint : ℕ) → IsSome (finite.get connections endpoint) → seat_at seats endpoint ≡ None
  pub few : finite.len connections + length seats ≤ limit.MAX_CONNECTIONS
  pub rare : finite.len tokens ≤ limit.MAX_TOKENS

-- where holds are counted, what could be bound can still be bound, and what was a directory is one
pub sound_again : (old new : Kept) (connections : Connections) (seats : Seats) (tokens : Tokens) → IsOf old connections seats tokens →
    ((number : ℕ) → holds_at new number ≡ held_by connections seats tokens number) → KeepsNames old new → IsSound new connections seats tokens
sound_again old new connections seats tokens was counts keeps = record {
  each = λ endpoint connection there.
      let number = number_of connection.birth.node in
      let one = connected_once connections endpoint connection there in
      let held = counts number in
      let some : 0 < holds_at new number = omega (arith, one, held) in
      still_bound old new connection.birth keeps (held_kept new number some) (was.each endpoint connection there);
  watched = both_hold (λ (entry : ℕ × Seat). 0 < watched_by (number_of entry.1.directory) seats) (λ (entry : ℕ × Seat). IsDirectory old entry.1.directory) (λ (entry : ℕ × Seat). IsDirectory new entry.1.directory) still seats (watched_once seats) was.watched;
  named = λ token directory there.
      let number = number_of directory in
      let one = named_once tokens token directory there in
      let held = counts number in
      let some : 0 < holds_at new number = omega (arith, one, held) in
      still_directory old new directory keeps (held_kept new number some) (was.named token directory there);
  holds = counts;
  apart = was.apart;
  few = was.few;
  rare = was.rare;
}
  where
    still : (entry : ℕ × Seat) → 0 < watched_by (number_of entry.1.directory) seats → IsDirectory old entry.1.directory → IsDirectory new entry.1.directory
    still entry one directory =
        let number = number_of entry.1.directory in
        let held = counts number in
        let some : 0 < holds_at new number = omega (arith, one, held) in
        still_directory old new entry.1.directory keeps (held_kept new number some) directory
