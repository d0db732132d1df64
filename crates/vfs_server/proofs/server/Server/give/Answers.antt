use Rattle.std.proofs.Common.{◌≡◌, ◌<◌, None, sym, subst}
use Rattle.std.specs.FinMap as finite
use Rattle.fidl_names.specs.declared.limits.TheConstants as limit
use Rattle.vfs_server.specs.Binding.{IsDirectory, NamesBy}
use Rattle.vfs_server.specs.Kept.{IsSound, Tokens}
use Rattle.vfs_server.specs.Servers.{Server, named}
use Rattle.vfs_server.proofs.Binding.{server_of}
use Rattle.vfs_server.proofs.Held.{few_held}
use Rattle.vfs_server.proofs.Naming.{is_unnamed, names_one}
use Rattle.vfs_server.proofs.Sound.{sound_given}
use Rattle.vfs_server.proofs.server.Server.give.Goals as goal

pub hold-requires-clause-few : goal.hold-requires-clause-few
hold-requires-clause-few c = few_held c.self.inside.graph c.self.inside.connections c.self.inside.watching c.self.inside.tokens c.self.invariant _

pub invariant_of-self-2 : goal.invariant_of-self-2
invariant_of-self-2 c =
    let is_one = subst (λ (server : Server). IsDirectory server.graph c.args.directory) (sym c.self.view_is) c.requires.directory in
    let free = is_unnamed _ (subst (λ (server : Server). named server c.args.token ≡ None) (sym c.self.view_is) c.requires.free) in
    let room = subst (λ (server : Server). finite.len server.tokens < limit.MAX_TOKENS) (sym c.self.view_is) c.requires.room in
    subst (λ (tokens : Tokens). IsSound c.hold.new.self c.self.inside.connections c.self.inside.watching tokens) (sym c.in_ok-insert.ensures.inserted)
    (sound_given c.self.inside.graph c.hold.new.self c.self.inside.connections c.self.inside.watching c.self.inside.tokens c.args.token c.args.directory c.self.invariant free
    is_one c.hold.ensures.held c.hold.ensures.names room)

pub returns-clause-named : goal.returns-clause-named
returns-clause-named c =
    subst (λ (server : Server). NamesBy server c.args.token c.args.directory (server_of c.self.inside.index c.hold.new.self c.self.inside.connections c.self.inside.watching c.insert.new.self)) c.self.view_is
    (subst (λ (tokens : Tokens). NamesBy (server_of c.self.inside.index c.self.inside.graph c.self.inside.connections c.self.inside.watching c.self.inside.tokens) c.args.token c.args.directory (server_of c.self.inside.index c.hold.new.self c.self.inside.connections c.self.inside.watching tokens))
    (sym c.in_ok-insert.ensures.inserted)
    (names_one c.self.inside.index c.self.inside.graph c.hold.new.self c.self.inside.connections c.self.inside.watching c.self.inside.tokens c.args.token c.args.directory c.hold.ensures.tree c.hold.ensures.held c.hold.ensures.names))
