use Rattle.std.proofs.Common.{◌≡◌, ◌∙◌, ◌<◌, ◌-◌, None, Some, ap, is_some, subst, sym}
use Rattle.std.specs.FinMap as finite
use Rattle.node_graph.specs.Graph.{HoldsNow, Names, holds_at, number_of}
use Rattle.conn_rules.specs.Births.{Connection}
use Rattle.vfs_server.specs.declared.watching.Seat.{Seat}
use Rattle.vfs_server.specs.Binding.{Unbinds}
use Rattle.vfs_server.specs.Kept.{Connections, IsSound}
use Rattle.vfs_server.specs.Servers.{Server}
use Rattle.vfs_server.specs.Seats.{Seats, seat_at, without}
use Rattle.vfs_server.proofs.Binding.{connection_found, connection_none, seat_found, seat_none, server_of, unbinds_none, unbinds_one, unwatches_one}
use Rattle.vfs_server.proofs.Held.{held_by_watcher, held_there, watched_there}
use Rattle.vfs_server.proofs.Maps.{nothing_cut}
use Rattle.vfs_server.proofs.SeatLists.{without_none}
use Rattle.vfs_server.proofs.Sound.{sound_less, sound_unwatched}
use Rattle.vfs_server.proofs.server.Server.unbind.Goals as goal

-- ---- a connection

pub release-requires-clause-named : goal.release-requires-clause-named
release-requires-clause-named c =
    let found = connection_found (finite.get c.self.inside.connections c.args.endpoint) c.in-Some.node (sym c.remove.ensures.given ∙ c.in-Some.is) in
    let can = c.self.invariant.each c.args.endpoint found.0 found.1 in
    subst (Names c.self.inside.graph) found.2 can.named

pub release-requires-clause-held : goal.release-requires-clause-held
release-requires-clause-held c =
    let found = connection_found (finite.get c.self.inside.connections c.args.endpoint) c.in-Some.node (sym c.remove.ensures.given ∙ c.in-Some.is) in
    subst (λ node. 0 < holds_at c.self.inside.graph (number_of node)) found.2
    (held_there c.self.inside.graph c.self.inside.connections c.self.inside.watching c.self.inside.tokens c.self.invariant c.args.endpoint found.0 found.1)

connected : (c : goal.After-release) → (connection : Connection) × (finite.get c.self.inside.connections c.args.endpoint ≡ Some connection) × (connection.birth.node ≡ c.in-Some.node)
connected c = connection_found (finite.get c.self.inside.connections c.args.endpoint) c.in-Some.node (sym c.remove.ensures.given ∙ c.in-Some.is)

released : (c : goal.After-release) → HoldsNow c.self.inside.graph c.release.new.self (number_of (connected c).0.birth.node) (holds_at c.self.inside.graph (number_of (connected c).0.birth.node) - 1)
released c =
    subst (λ node. HoldsNow c.self.inside.graph c.release.new.self (number_of node) (holds_at c.self.inside.graph (number_of node) - 1)) (sym (connected c).2) c.release.ensures.released

pub invariant_of-self : goal.invariant_of-self
invariant_of-self c =
    let found = connected c in
    subst (λ (connections : Connections). IsSound c.release.new.self connections c.self.inside.watching c.self.inside.tokens) (sym c.remove.ensures.removed)
    (sound_less c.self.inside.graph c.release.new.self c.self.inside.connections c.self.inside.watching c.self.inside.tokens c.args.endpoint found.0 c.self.invariant found.1
    (released c) c.release.ensures.names)

pub returns-in-Some : goal.returns-in-Some
returns-in-Some c =
    let found = connected c in
    subst (λ (server : Server). Unbinds server c.args.endpoint (server_of c.self.inside.index c.release.new.self c.remove.new.self c.self.inside.watching c.self.inside.tokens)) c.self.view_is
    (subst
    (λ (connections : Connections). Unbinds (server_of c.self.inside.index c.self.inside.graph c.self.inside.connections c.self.inside.watching c.self.inside.tokens) c.args.endpoint
    (server_of c.self.inside.index c.release.new.self connections c.self.inside.watching c.self.inside.tokens))
    (sym c.remove.ensures.removed)
    (unbinds_one c.self.inside.index c.self.inside.graph c.release.new.self c.self.inside.connections c.self.inside.watching c.self.inside.tokens c.args.endpoint found.0 found.1
    (c.self.invariant.apart c.args.endpoint (ap is_some found.1)) c.release.ensures.tree (released c) c.release.ensures.names))

-- ---- a watcher

pub remove-requires-in_default : goal.remove-requires-in_default
remove-requires-in_default c = record {
  kept = λ seat there.
      let directory = watched_there c.self.inside.graph c.self.inside.connections c.self.inside.watching c.self.inside.tokens c.self.invariant c.args.endpoint seat there in
      directory.kept;
}

watcher : (c : goal.After-release-arg-in-Some-remove-1) → (seat : Seat) × (seat_at c.self.inside.watching c.args.endpoint ≡ Some seat) × (seat.directory ≡ c.in-Some-remove.directory)
watcher c = seat_found (seat_at c.self.inside.watching c.args.endpoint) c.in-Some-remove.directory (sym c.remove-in_default.ensures.watched ∙ c.in-Some-remove.is)

pub release-requires-in-Some-remove-clause-named : goal.release-requires-in-Some-remove-clause-named
release-requires-in-Some-remove-clause-named c =
    let found = watcher c in
    let directory = watched_there c.self.inside.graph c.self.inside.connections c.self.inside.watching c.self.inside.tokens c.self.invariant c.args.endpoint found.0 found.1 in
    subst (Names c.self.inside.graph) found.2 directory.kept

pub release-requires-in-Some-remove-clause-held : goal.release-requires-in-Some-remove-clause-held
release-requires-in-Some-remove-clause-held c =
    let found = watcher c in
    subst (λ node. 0 < holds_at c.self.inside.graph (number_of node)) found.2
    (held_by_watcher c.self.inside.graph c.self.inside.connections c.self.inside.watching c.self.inside.tokens c.self.invariant c.args.endpoint found.0 found.1)

found_here : (c : goal.After-release-in-Some-remove) → (seat : Seat) × (seat_at c.self.inside.watching c.args.endpoint ≡ Some seat) × (seat.directory ≡ c.in-Some-remove.directory)
found_here c = seat_found (seat_at c.self.inside.watching c.args.endpoint) c.in-Some-remove.directory (sym c.remove-in_default.ensures.watched ∙ c.in-Some-remove.is)

gone : (c : goal.After-release-in-Some-remove) → seat_at (without c.args.endpoint c.self.inside.watching) c.args.endpoint ≡ None
gone c = ap (λ (seats : Seats). seat_at seats c.args.endpoint) (sym c.remove-in_default.ensures.removed) ∙ c.remove-in_default.ensures.gone

unconnected : (c : goal.After-release-in-Some-remove) → finite.get c.self.inside.connections c.args.endpoint ≡ None
unconnected c = connection_none (finite.get c.self.inside.connections c.args.endpoint) (sym c.remove.ensures.given ∙ c.in_default.is)

same_connections : (c : goal.After-release-in-Some-remove) → c.self.inside.connections ≡ c.remove.new.self
same_connections c = sym (c.remove.ensures.removed ∙ nothing_cut c.self.inside.connections c.args.endpoint (unconnected c))

let_off : (c : goal.After-release-in-Some-remove) →
    HoldsNow c.self.inside.graph c.release-in-Some-remove.new.self (number_of (found_here c).0.directory) (holds_at c.self.inside.graph (number_of (found_here c).0.directory) - 1)
let_off c =
    subst (λ node. HoldsNow c.self.inside.graph c.release-in-Some-remove.new.self (number_of node) (holds_at c.self.inside.graph (number_of node) - 1)) (sym (found_here c).2)
    c.release-in-Some-remove.ensures.released

pub invariant_of-self-in-Some-remove : goal.invariant_of-self-in-Some-remove
invariant_of-self-in-Some-remove c =
    let found = found_here c in
    subst (λ (connections : Connections). IsSound c.release-in-Some-remove.new.self connections c.remove-in_default.new.self c.self.inside.tokens) (same_connections c)
    (subst (λ (seats : Seats). IsSound c.release-in-Some-remove.new.self c.self.inside.connections seats c.self.inside.tokens) (sym c.remove-in_default.ensures.removed)
    (sound_unwatched c.self.inside.graph c.release-in-Some-remove.new.self c.self.inside.connections c.self.inside.watching c.self.inside.tokens c.args.endpoint found.0 c.self.invariant found.1 (gone c)
    (let_off c) c.release-in-Some-remove.ensures.names))

pub returns-in-Some-remove : goal.returns-in-Some-remove
returns-in-Some-remove c =
    let found = found_here c in
    subst (λ (server : Server). Unbinds server c.args.endpoint (server_of c.self.inside.index c.release-in-Some-remove.new.self c.remove.new.self c.remove-in_default.new.self c.self.inside.tokens)) c.self.view_is
    (subst
    (λ (connections : Connections). Unbinds (server_of c.self.inside.index c.self.inside.graph c.self.inside.connections c.self.inside.watching c.self.inside.tokens) c.args.endpoint
    (server_of c.self.inside.index c.release-in-Some-remove.new.self connections c.remove-in_default.new.self c.self.inside.tokens))
    (same_connections c)
    (subst
    (λ (seats : Seats). Unbinds (server_of c.self.inside.index c.self.inside.graph c.self.inside.connections c.self.inside.watching c.self.inside.tokens) c.args.endpoint
    (server_of c.self.inside.index c.release-in-Some-remove.new.self c.self.inside.connections seats c.self.inside.tokens))
    (sym c.remove-in_default.ensures.removed)
    (unwatches_one c.self.inside.index c.self.inside.graph c.release-in-Some-remove.new.self c.self.inside.connections c.self.inside.watching c.self.inside.tokens c.args.endpoint found.0
    (unconnected c) found.1 (gone c) c.release-in-Some-remove.ensures.tree (let_off c) c.release-in-Some-remove.ensures.names)))

-- ---- neither

none_there : (c : goal.In_default-remove) → finite.get c.self.inside.connections c.args.endpoint ≡ None
none_there c = connection_none (finite.get c.self.inside.connections c.args.endpoint) (sym c.remove.ensures.given ∙ c.in_default.is)

none_watches : (c : goal.In_default-remove) → seat_at c.self.inside.watching c.args.endpoint ≡ None
none_watches c = seat_none (seat_at c.self.inside.watching c.args.endpoint) (sym c.remove-in_default.ensures.watched ∙ c.in_default-remove.is)

connections_stay : (c : goal.In_default-remove) → c.self.inside.connections ≡ c.remove.new.self
connections_stay c = sym (c.remove.ensures.removed ∙ nothing_cut c.self.inside.connections c.args.endpoint (none_there c))

seats_stay : (c : goal.In_default-remove) → c.self.inside.watching ≡ c.remove-in_default.new.self
seats_stay c = sym (c.remove-in_default.ensures.removed ∙ without_none c.args.endpoint c.self.inside.watching (none_watches c))

pub invariant_of-self-in_default-remove : goal.invariant_of-self-in_default-remove
invariant_of-self-in_default-remove c =
    subst (λ (connections : Connections). IsSound c.self.inside.graph connections c.remove-in_default.new.self c.self.inside.tokens) (connections_stay c)
    (subst (λ (seats : Seats). IsSound c.self.inside.graph c.self.inside.connections seats c.self.inside.tokens) (seats_stay c) c.self.invariant)

pub returns-in_default-remove : goal.returns-in_default-remove
returns-in_default-remove c =
    subst (λ (server : Server). Unbinds server c.args.endpoint (server_of c.self.inside.index c.self.inside.graph c.remove.new.self c.remove-in_default.new.self c.self.inside.tokens)) c.self.view_is
    (subst
    (λ (connections : Connections). Unbinds (server_of c.self.inside.index c.self.inside.graph c.self.inside.connections c.self.inside.watching c.self.inside.tokens) c.args.endpoint
    (server_of c.self.inside.index c.self.inside.graph connections c.remove-in_default.new.self c.self.inside.tokens))
    (connections_stay c)
    (subst
    (λ (seats : Seats). Unbinds (server_of c.self.inside.index c.self.inside.graph c.self.inside.connections c.self.inside.watching c.self.inside.tokens) c.args.endpoint
    (server_of c.self.inside.index c.self.inside.graph c.self.inside.connections seats c.self.inside.tokens))
    (seats_stay c)
    (unbinds_none c.self.inside.index c.self.inside.graph c.self.inside.connections c.self.inside.watching c.self.inside.tokens c.args.endpoint (none_there c) (none_watches c))))
