-- What a server is behind one connection or watcher more, and one less.
use Rattle.std.proofs.Common.{◌≡◌, ◌≢◌, ◌∙◌, ℕ, ◌+◌, ◌-◌, ◌++◌, true, false, List, [], ◌∷◌, length, length-append, append-nil, Option, Some, None, refl, sym, ap, subst, arith}
use Rattle.std.specs.Prelude.{IsSome, if◌then◌else◌}
use Rattle.std.proofs.lemmas.Bool.{eq-eqb, ne_eqb}
use Rattle.std.proofs.lemmas.List.{length-map, map-append}
use Rattle.std.specs.FinMap as finite
use Rattle.std.specs.Option.{option_map}
use Rattle.io_messages.specs.declared.protocols.Protocol.{Protocol}
use Rattle.io_messages.specs.declared.protocols.Protocol.TheVariants as protocol
use Rattle.node_graph.specs.declared.nodes.NodeRef.{NodeRef}
use Rattle.node_graph.specs.Graph.{Kept, HoldsNow, KeepsNames, Leads, holds_at, number_of}
use Rattle.node_graph.specs.Tree.{stay}
use Rattle.conn_rules.specs.declared.births.Birth as code
use Rattle.conn_rules.specs.Births.{Connection, Position, fresh}
use Rattle.vfs_journal.specs.History.{is_watcher}
use Rattle.vfs_journal.specs.Starts.{Bound}
use Rattle.vfs_server.specs.declared.watching.Seat.{Seat}
use Rattle.vfs_server.specs.Binding.{Binds, Unbinds}
use Rattle.vfs_server.specs.Kept.{Connections, Tokens}
use Rattle.vfs_server.specs.Servers.{Server, bound_with, connected, in_use, seen_as, watching}
use Rattle.vfs_server.specs.Seats.{Seats, seat_at, without}
use Rattle.vfs_server.specs.Watched.{bound_at, bounds_at}
use Rattle.vfs_server.proofs.Maps.{standing, same, other, get_put, get_put_other, get_cut, get_cut_other, longer, shorter}
use Rattle.vfs_server.proofs.SeatLists.{at_more, length_less, other_less, without_none}
use Rattle.vfs_server.proofs.Seats.{bounds_left, seated, watching_as}

-- a server of these
abbrev pub server_of : ℕ → Kept → Connections → Seats → Tokens → Server
server_of index graph connections seats tokens = record { index = index; graph = graph; connections = connections; watchers = bounds_at index seats; tokens = tokens }

-- ---- what is seen

pub in_use_is : (index : ℕ) (graph : Kept) (connections : Connections) (seats : Seats) (tokens : Tokens) → in_use (server_of index graph connections seats tokens) ≡ finite.len connections + length seats
in_use_is index graph connections seats tokens = ap (λ n. finite.len connections + n) (length-map seats (bound_at index))

-- a connection hides whoever watches; elsewhere it counts who does
seen_alike : (index endpoint : ℕ) (one other_ones : List Bound) (o : Option Connection) → watching one endpoint ≡ watching other_ones endpoint → seen_as index one endpoint o ≡ seen_as index other_ones endpoint o
seen_alike index endpoint one other_ones None alike = alike
seen_alike index endpoint one other_ones (Some connection) alike = refl

seats_alike : (index endpoint : ℕ) (one other_ones : Seats) (o : Option Connection) → seat_at one endpoint ≡ seat_at other_ones endpoint →
    seen_as index (bounds_at index one) endpoint o ≡ seen_as index (bounds_at index other_ones) endpoint o
seats_alike index endpoint one other_ones o alike =
    seen_alike index endpoint (bounds_at index one) (bounds_at index other_ones) o
    (watching_as index endpoint one ∙ ap (option_map (seated index endpoint)) alike ∙ sym (watching_as index endpoint other_ones))

-- an endpoint without a connection is the one that watches
pub seen_watching : (index endpoint : ℕ) (seats : Seats) (o : Option Connection) → o ≡ None →
    seen_as index (bounds_at index seats) endpoint o ≡ option_map (seated index endpoint) (seat_at seats endpoint)
seen_watching index endpoint seats o none = ap (seen_as index (bounds_at index seats) endpoint) none ∙ watching_as index endpoint seats

-- what is bound by neither is free
pub both_free : (index endpoint : ℕ) (seats : Seats) (o : Option Connection) → seen_as index (bounds_at index seats) endpoint o ≡ None → (o ≡ None) × (seat_at seats endpoint ≡ None)
both_free index endpoint seats (Some connection) none = absurd (cc)
both_free index endpoint seats None none = (refl, no_seat (seat_at seats endpoint) (sym (watching_as index endpoint seats) ∙ none)) where
  no_seat : (o : Option Seat) → option_map (seated index endpoint) o ≡ None → o ≡ None
  no_seat None is = refl
  no_seat (Some seat) is = absurd (cc)

-- ---- connections

no_watcher_is : (p : Protocol) → p ≢ protocol.Watcher → is_watcher p ≡ false
no_watcher_is protocol.Directory isnt = refl
no_watcher_is protocol.File isnt = refl
no_watcher_is protocol.Node isnt = refl
no_watcher_is protocol.Echo isnt = refl
no_watcher_is protocol.Watcher isnt = absurd (isnt refl)

pub binds_one : (index : ℕ) (old new : Kept) (connections : Connections) (seats : Seats) (tokens : Tokens) (endpoint : ℕ) (birth : code.Birth) → birth.protocol ≢ protocol.Watcher → finite.get connections endpoint ≡ None →
    Leads old new stay → HoldsNow old new (number_of birth.node) (holds_at old (number_of birth.node) + 1) → KeepsNames old new →
    Binds (server_of index old connections seats tokens) (bound_with index endpoint birth) (server_of index new (finite.insert connections endpoint (record { birth = birth; position = fresh })) seats tokens)
binds_one index old new connections seats tokens endpoint birth isnt free tree holds names = record {
  index = refl;
  bound = λ one. elim (standing one endpoint) [
    | same e b ↦
        ap (seen_as index (bounds_at index seats) one) (ap (finite.get (finite.insert connections endpoint here)) e ∙ get_put connections endpoint here)
        ∙ ap (λ n. Some (bound_with index n birth, fresh)) e
        ∙ sym (ap (λ t. if t then Some (bound_with index endpoint birth, fresh) else seen_as index (bounds_at index seats) one (finite.get connections one)) (eq-eqb one endpoint e))
    | other e b ↦
        ap (seen_as index (bounds_at index seats) one) (get_put_other connections endpoint one here e)
        ∙ sym (ap (λ t. if t then Some (bound_with index endpoint birth, fresh) else seen_as index (bounds_at index seats) one (finite.get connections one)) (ne_eqb one endpoint e))
  ];
  count = omega (arith, longer connections endpoint here free);
  watchers = sym (ap (λ t. bounds_at index seats ++ (if t then bound_with index endpoint birth ∷ [] else [])) (no_watcher_is birth.protocol isnt) ∙ append-nil (bounds_at index seats));
  tokens = refl;
  tree = tree;
  holds = holds;
  names = names;
}
  where
    here : Connection
    here = record { birth = birth; position = fresh }

pub unbinds_one : (index : ℕ) (old new : Kept) (connections : Connections) (seats : Seats) (tokens : Tokens) (endpoint : ℕ) (connection : Connection) → finite.get connections endpoint ≡ Some connection → seat_at seats endpoint ≡ None →
    Leads old new stay → HoldsNow old new (number_of connection.birth.node) (holds_at old (number_of connection.birth.node) - 1) → KeepsNames old new →
    Unbinds (server_of index old connections seats tokens) endpoint (server_of index new (finite.remove connections endpoint) seats tokens)
unbinds_one index old new connections seats tokens endpoint connection there unwatched tree holds names = record {
  index = refl;
  bound = λ one. elim (standing one endpoint) [
    | same e b ↦
        seen_watching index one seats (finite.get (finite.remove connections endpoint) one) (ap (finite.get (finite.remove connections endpoint)) e ∙ get_cut connections endpoint)
        ∙ ap (option_map (seated index one)) (ap (seat_at seats) e ∙ unwatched)
        ∙ sym (ap (λ t. if t then None else seen_as index (bounds_at index seats) one (finite.get connections one)) (eq-eqb one endpoint e))
    | other e b ↦
        ap (seen_as index (bounds_at index seats) one) (get_cut_other connections endpoint one e)
        ∙ sym (ap (λ t. if t then None else seen_as index (bounds_at index seats) one (finite.get connections one)) (ne_eqb one endpoint e))
  ];
  count = λ pair is. omega (arith, shorter connections endpoint connection there);
  watchers =
      let left = without_none endpoint seats unwatched in
      ap (bounds_at index) (sym left) ∙ bounds_left endpoint index seats (ap (λ (found : Seats). seat_at found endpoint) left ∙ unwatched);
  tokens = refl;
  tree = tree;
  holds = λ pair is.
      let here : Some (connected index endpoint connection) ≡ Some pair = sym (ap (seen_as index (bounds_at index seats) endpoint) there) ∙ is in
      let one : connected index endpoint connection ≡ pair = cc in
      subst (λ (p : Bound × Position). HoldsNow old new p.0.birth.node (holds_at old p.0.birth.node - 1)) one holds;
  names = names;
  idle = λ none. absurd (let wrong : Some (connected index endpoint connection) ≡ None = sym (ap (seen_as index (bounds_at index seats) endpoint) there) ∙ none in cc);
}

-- ---- watchers

pub watches_one : (index : ℕ) (old new : Kept) (connections : Connections) (seats : Seats) (tokens : Tokens) (endpoint : ℕ) (seat : Seat) → finite.get connections endpoint ≡ None → seat_at seats endpoint ≡ None →
    Leads old new stay → HoldsNow old new (number_of seat.directory) (holds_at old (number_of seat.directory) + 1) → KeepsNames old new →
    Binds (server_of index old connections seats tokens) (bound_at index (endpoint, seat)) (server_of index new connections (seats ++ (endpoint, seat) ∷ []) tokens)
watches_one index old new connections seats tokens endpoint seat free unwatched tree holds names = record {
  index = refl;
  bound = λ one. elim (standing one endpoint) [
    | same e b ↦
        seen_watching index one more (finite.get connections one) (ap (finite.get connections) e ∙ free)
        ∙ ap (option_map (seated index one)) (at_more endpoint one seat seats unwatched ∙ ap (λ t. if t then Some seat else seat_at seats one) (eq-eqb one endpoint e))
        ∙ ap (λ (n : ℕ). Some (bound_at index (n, seat), fresh)) e
        ∙ sym (ap (λ t. if t then Some (bound_at index (endpoint, seat), fresh) else seen_as index (bounds_at index seats) one (finite.get connections one)) (eq-eqb one endpoint e))
    | other e b ↦
        seats_alike index one more seats (finite.get connections one) (at_more endpoint one seat seats unwatched ∙ ap (λ t. if t then Some seat else seat_at seats one) (ne_eqb one endpoint e))
        ∙ sym (ap (λ t. if t then Some (bound_at index (endpoint, seat), fresh) else seen_as index (bounds_at index seats) one (finite.get connections one)) (ne_eqb one endpoint e))
  ];
  count =
      let was = in_use_is index old connections seats tokens in
      let now = in_use_is index new connections more tokens in
      let size = length-append seats ((endpoint, seat) ∷ []) in
      omega (arith, was, now, size);
  watchers = map-append (bound_at index) seats ((endpoint, seat) ∷ []);
  tokens = refl;
  tree = tree;
  holds = holds;
  names = names;
}
  where
    more : Seats
    more = seats ++ (endpoint, seat) ∷ []

pub unwatches_one : (index : ℕ) (old new : Kept) (connections : Connections) (seats : Seats) (tokens : Tokens) (endpoint : ℕ) (seat : Seat) → finite.get connections endpoint ≡ None → seat_at seats endpoint ≡ Some seat →
    seat_at (without endpoint seats) endpoint ≡ None →
    Leads old new stay → HoldsNow old new (number_of seat.directory) (holds_at old (number_of seat.directory) - 1) → KeepsNames old new →
    Unbinds (server_of index old connections seats tokens) endpoint (server_of index new connections (without endpoint seats) tokens)
unwatches_one index old new connections seats tokens endpoint seat free there gone tree holds names = record {
  index = refl;
  bound = λ one. elim (standing one endpoint) [
    | same e b ↦
        seen_watching index one (without endpoint seats) (finite.get connections one) (ap (finite.get connections) e ∙ free)
        ∙ ap (option_map (seated index one)) (ap (seat_at (without endpoint seats)) e ∙ gone)
        ∙ sym (ap (λ t. if t then None else seen_as index (bounds_at index seats) one (finite.get connections one)) (eq-eqb one endpoint e))
    | other e b ↦
        seats_alike index one (without endpoint seats) seats (finite.get connections one) (other_less endpoint one seats e)
        ∙ sym (ap (λ t. if t then None else seen_as index (bounds_at index seats) one (finite.get connections one)) (ne_eqb one endpoint e))
  ];
  count = λ pair is.
      let was = in_use_is index old connections seats tokens in
      let now = in_use_is index new connections (without endpoint seats) tokens in
      let less = length_less endpoint seat seats there in
      omega (arith, was, now, less);
  watchers = bounds_left endpoint index seats gone;
  tokens = refl;
  tree = tree;
  holds = λ pair is.
      let here : Some (bound_at index (endpoint, seat), fresh) ≡ Some pair =
      sym (seen_watching index endpoint seats (finite.get connections endpoint) free ∙ ap (option_map (seated index endpoint)) there) ∙ is in
      let one : (bound_at index (endpoint, seat), fresh) ≡ pair = cc in
      subst (λ (p : Bound × Position). HoldsNow old new p.0.birth.node (holds_at old p.0.birth.node - 1)) one holds;
  names = names;
  idle = λ none.
      let wrong : Some (bound_at index (endpoint, seat), fresh) ≡ None =
      sym (seen_watching index endpoint seats (finite.get connections endpoint) free ∙ ap (option_map (seated index endpoint)) there) ∙ none in
      absurd (cc);
}

-- ---- neither

-- where an endpoint isn't bound, nothing changes
pub unbinds_none : (index : ℕ) (graph : Kept) (connections : Connections) (seats : Seats) (tokens : Tokens) (endpoint : ℕ) → finite.get connections endpoint ≡ None → seat_at seats endpoint ≡ None →
    Unbinds (server_of index graph connections seats tokens) endpoint (server_of index graph connections seats tokens)
unbinds_none index graph connections seats tokens endpoint free unwatched = record {
  index = refl;
  bound = λ one. elim (standing one endpoint) [
    | same e b ↦
        ap (λ n. seen_as index (bounds_at index seats) n (finite.get connections n)) e ∙ unseen
        ∙ sym (ap (λ t. if t then None else seen_as index (bounds_at index seats) one (finite.get connections one)) (eq-eqb one endpoint e))
    | other e b ↦ sym (ap (λ t. if t then None else seen_as index (bounds_at index seats) one (finite.get connections one)) (ne_eqb one endpoint e))
  ];
  count = λ pair is. absurd (let wrong : None ≡ Some pair = sym unseen ∙ is in cc);
  watchers =
      let left = without_none endpoint seats unwatched in
      ap (bounds_at index) (sym left) ∙ bounds_left endpoint index seats (ap (λ (found : Seats). seat_at found endpoint) left ∙ unwatched);
  tokens = refl;
  tree = λ tree stands. stands;
  holds = λ pair is. absurd (let wrong : None ≡ Some pair = sym unseen ∙ is in cc);
  names = λ node named kept. (named, refl);
  idle = λ none. refl;
}
  where
    unseen : seen_as index (bounds_at index seats) endpoint (finite.get connections endpoint) ≡ None
    unseen = seen_watching index endpoint seats (finite.get connections endpoint) free ∙ ap (option_map (seated index endpoint)) unwatched

-- ---- who it is

pub either_way : {X : Type 0} (P : Type 0) (o : Option X) → ((x : X) → o ≡ Some x → P) → (o ≡ None → P) → P
either_way P (Some x) some none = some x refl
either_way P None some none = none refl

-- who is bound without a connection watches
pub watches_there : (index endpoint : ℕ) (seats : Seats) (o : Option Connection) → o ≡ None → IsSome (seen_as index (bounds_at index seats) endpoint o) → (seat : Seat) × (seat_at seats endpoint ≡ Some seat)
watches_there index endpoint seats o none some = by_seat (seat_at seats endpoint) refl (subst IsSome (seen_watching index endpoint seats o none) some) where
  by_seat : (found : Option Seat) → seat_at seats endpoint ≡ found → IsSome (option_map (seated index endpoint) (seat_at seats endpoint)) → (seat : Seat) × (seat_at seats endpoint ≡ Some seat)
  by_seat (Some seat) is has = (seat, is)
  by_seat None is has = let wrong : false ≡ true = subst (λ f. IsSome (option_map (seated index endpoint) f)) is has in absurd (cc)

-- the one that watched a directory
pub seat_found : (o : Option Seat) (directory : NodeRef) → option_map (λ seat. seat.directory) o ≡ Some directory → (seat : Seat) × (o ≡ Some seat) × (seat.directory ≡ directory)
seat_found None directory is = absurd (cc)
seat_found (Some seat) directory is = (seat, refl, cc)

pub seat_none : (o : Option Seat) → option_map (λ seat. seat.directory) o ≡ None → o ≡ None
seat_none None is = refl
seat_none (Some seat) is = absurd (cc)

-- the connection that was to a node
pub connection_found : (o : Option Connection) (node : NodeRef) → option_map (λ connection. connection.birth.node) o ≡ Some node → (connection : Connection) × (o ≡ Some connection) × (connection.birth.node ≡ node)
connection_found None node is = absurd (cc)
connection_found (Some connection) node is = (connection, refl, cc)

pub connection_none : (o : Option Connection) → option_map (λ connection. connection.birth.node) o ≡ None → o ≡ None
connection_none None is = refl
connection_none (Some connection) is = absurd (cc)
