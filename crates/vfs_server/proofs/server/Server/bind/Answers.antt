use Rattle.std.proofs.Common.{◌≡◌, ◌∙◌, ◌<◌, None, ap, sym, subst}
use Rattle.std.specs.FinMap as finite
use Rattle.fidl_names.specs.declared.limits.TheConstants as limit
use Rattle.conn_rules.specs.Births.{fresh}
use Rattle.vfs_server.specs.Binding.{Binds, HasPlace}
use Rattle.vfs_server.specs.Kept.{Connections, IsSound}
use Rattle.vfs_server.specs.Servers.{Server, bound_with, seen}
use Rattle.vfs_server.specs.Seats.{seat_at}
use Rattle.vfs_server.proofs.Answering.{no_watcher}
use Rattle.vfs_server.proofs.Binding.{binds_one, both_free, in_use_is, server_of}
use Rattle.vfs_server.proofs.Held.{few_held}
use Rattle.vfs_server.proofs.Sound.{sound_more}
use Rattle.vfs_server.proofs.server.Server.bind.Goals as goal

pub hold-requires-clause-few : goal.hold-requires-clause-few
hold-requires-clause-few c = few_held c.self.inside.graph c.self.inside.connections c.self.inside.watching c.self.inside.tokens c.self.invariant _

place : (c : goal.After-hold) → HasPlace (server_of c.self.inside.index c.self.inside.graph c.self.inside.connections c.self.inside.watching c.self.inside.tokens) c.args.birth
place c = subst (λ (server : Server). HasPlace server c.args.birth) (sym c.self.view_is) c.requires.place

free : (c : goal.After-hold) → (finite.get c.self.inside.connections c.args.endpoint ≡ None) × (seat_at c.self.inside.watching c.args.endpoint ≡ None)
free c =
    both_free c.self.inside.index c.args.endpoint c.self.inside.watching (finite.get c.self.inside.connections c.args.endpoint)
    (subst (λ (server : Server). seen server c.args.endpoint ≡ None) (sym c.self.view_is) c.requires.free)

pub invariant_of-self-2 : goal.invariant_of-self-2
invariant_of-self-2 c =
    let here = place c in
    let unbound = free c in
    subst (λ (connections : Connections). IsSound c.hold.new.self connections c.self.inside.watching c.self.inside.tokens)
    (sym c.in_ok-insert.ensures.inserted)
    (sound_more c.self.inside.graph c.hold.new.self c.self.inside.connections c.self.inside.watching c.self.inside.tokens c.args.endpoint (record { birth = c.args.birth; position = fresh }) c.self.invariant
    unbound.0 unbound.1 here.node c.hold.ensures.held c.hold.ensures.names
    (subst (λ n. n < limit.MAX_CONNECTIONS) (in_use_is c.self.inside.index c.self.inside.graph c.self.inside.connections c.self.inside.watching c.self.inside.tokens) here.room))

pub returns-clause-bound : goal.returns-clause-bound
returns-clause-bound c =
    let unbound = free c in
    let here = place c in
    subst (λ (server : Server). Binds server (bound_with server.index c.args.endpoint c.args.birth) (server_of c.self.inside.index c.hold.new.self c.insert.new.self c.self.inside.watching c.self.inside.tokens)) c.self.view_is
    (subst
    (λ (connections : Connections). Binds (server_of c.self.inside.index c.self.inside.graph c.self.inside.connections c.self.inside.watching c.self.inside.tokens) (bound_with c.self.inside.index c.args.endpoint c.args.birth)
    (server_of c.self.inside.index c.hold.new.self connections c.self.inside.watching c.self.inside.tokens))
    (sym c.in_ok-insert.ensures.inserted)
    (binds_one c.self.inside.index c.self.inside.graph c.hold.new.self c.self.inside.connections c.self.inside.watching c.self.inside.tokens c.args.endpoint c.args.birth (no_watcher c.args.birth.protocol _ here.node.spoken)
    unbound.0 c.hold.ensures.tree c.hold.ensures.held c.hold.ensures.names))
