use Rattle.std.proofs.Common.{◌≡◌, ◌<◌, None, subst, sym}
use Rattle.std.specs.FinMap as finite
use Rattle.fidl_names.specs.declared.limits.TheConstants as limit
use Rattle.node_graph.specs.Graph.{number_of}
use Rattle.vfs_server.specs.Binding.{Binds, CanWatch}
use Rattle.vfs_server.specs.Kept.{IsSound}
use Rattle.vfs_server.specs.Servers.{Server, seen, watcher_with}
use Rattle.vfs_server.specs.Seats.{Seats, seat_at}
use Rattle.vfs_server.proofs.Binding.{both_free, in_use_is, server_of, watches_one}
use Rattle.vfs_server.proofs.Held.{few_held}
use Rattle.vfs_server.proofs.Seats.{counted_as}
use Rattle.vfs_server.proofs.Sound.{sound_watched}
use Rattle.vfs_server.proofs.server.Server.watch.Goals as goal

pub add-requires-clause-free : goal.add-requires-clause-free
add-requires-clause-free c =
    let both = both_free c.self.inside.index c.args.endpoint c.self.inside.watching (finite.get c.self.inside.connections c.args.endpoint)
    (subst (λ (server : Server). seen server c.args.endpoint ≡ None) (sym c.self.view_is) c.requires.free) in
    both.1

pub add-requires-clause-few : goal.add-requires-clause-few
add-requires-clause-few c =
    let can = subst (λ (server : Server). CanWatch server c.args.directory) (sym c.self.view_is) c.requires.directory in
    subst (λ n. n < limit.MAX_WATCHERS) (counted_as c.self.inside.index (number_of c.args.directory) c.self.inside.watching) can.few

pub hold-requires-clause-few : goal.hold-requires-clause-few
hold-requires-clause-few c = few_held c.self.inside.graph c.self.inside.connections c.self.inside.watching c.self.inside.tokens c.self.invariant _

can : (c : goal.After-hold) → CanWatch (server_of c.self.inside.index c.self.inside.graph c.self.inside.connections c.self.inside.watching c.self.inside.tokens) c.args.directory
can c = subst (λ (server : Server). CanWatch server c.args.directory) (sym c.self.view_is) c.requires.directory

free : (c : goal.After-hold) → (finite.get c.self.inside.connections c.args.endpoint ≡ None) × (seat_at c.self.inside.watching c.args.endpoint ≡ None)
free c =
    both_free c.self.inside.index c.args.endpoint c.self.inside.watching (finite.get c.self.inside.connections c.args.endpoint)
    (subst (λ (server : Server). seen server c.args.endpoint ≡ None) (sym c.self.view_is) c.requires.free)

pub invariant_of-self-2 : goal.invariant_of-self-2
invariant_of-self-2 c =
    let here = can c in
    let unbound = free c in
    subst (λ (seats : Seats). IsSound c.hold.new.self c.self.inside.connections seats c.self.inside.tokens) (sym c.in_ok-add.ensures.added)
    (sound_watched c.self.inside.graph c.hold.new.self c.self.inside.connections c.self.inside.watching c.self.inside.tokens c.args.endpoint (record { directory = c.args.directory; mask = c.args.mask }) c.self.invariant
    unbound.0 unbound.1 here.directory c.hold.ensures.held c.hold.ensures.names
    (subst (λ n. n < limit.MAX_CONNECTIONS) (in_use_is c.self.inside.index c.self.inside.graph c.self.inside.connections c.self.inside.watching c.self.inside.tokens) here.room))

pub returns-clause-watches : goal.returns-clause-watches
returns-clause-watches c =
    let unbound = free c in
    subst
    (λ (server : Server). Binds server (watcher_with server.index c.args.endpoint (number_of c.args.directory) c.args.mask)
    (server_of c.self.inside.index c.hold.new.self c.self.inside.connections c.add.new.self c.self.inside.tokens))
    c.self.view_is
    (subst
    (λ (seats : Seats). Binds (server_of c.self.inside.index c.self.inside.graph c.self.inside.connections c.self.inside.watching c.self.inside.tokens) (watcher_with c.self.inside.index c.args.endpoint (number_of c.args.directory) c.args.mask)
    (server_of c.self.inside.index c.hold.new.self c.self.inside.connections seats c.self.inside.tokens))
    (sym c.in_ok-add.ensures.added)
    (watches_one c.self.inside.index c.self.inside.graph c.hold.new.self c.self.inside.connections c.self.inside.watching c.self.inside.tokens c.args.endpoint (record { directory = c.args.directory; mask = c.args.mask })
    unbound.0 unbound.1 c.hold.ensures.tree c.hold.ensures.held c.hold.ensures.names))
