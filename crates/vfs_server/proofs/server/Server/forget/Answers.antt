use Rattle.std.proofs.Common.{◌∙◌, sym, subst}
use Rattle.vfs_server.specs.Binding.{Forgets}
use Rattle.vfs_server.specs.Kept.{IsSound, Tokens}
use Rattle.vfs_server.specs.Servers.{Server}
use Rattle.vfs_server.proofs.Binding.{server_of}
use Rattle.vfs_server.proofs.Held.{held_by_token}
use Rattle.vfs_server.proofs.Maps.{nothing_cut}
use Rattle.vfs_server.proofs.Naming.{forgets_none, forgets_one}
use Rattle.vfs_server.proofs.Sound.{sound_forgotten}
use Rattle.vfs_server.proofs.server.Server.forget.Goals as goal

pub release-requires-clause-held : goal.release-requires-clause-held
release-requires-clause-held c =
    held_by_token c.self.inside.graph c.self.inside.connections c.self.inside.watching c.self.inside.tokens c.self.invariant _ c.in-Some.directory (sym c.remove.ensures.named ∙ c.in-Some.is)

pub invariant_of-self : goal.invariant_of-self
invariant_of-self c =
    subst (λ (tokens : Tokens). IsSound c.release.new.self c.self.inside.connections c.self.inside.watching tokens) (sym c.remove.ensures.removed)
    (sound_forgotten c.self.inside.graph c.release.new.self c.self.inside.connections c.self.inside.watching c.self.inside.tokens _ c.in-Some.directory c.self.invariant
    (sym c.remove.ensures.named ∙ c.in-Some.is) c.release.ensures.released c.release.ensures.names)

pub invariant_of-self-in_default : goal.invariant_of-self-in_default
invariant_of-self-in_default c =
    subst (λ (tokens : Tokens). IsSound c.self.inside.graph c.self.inside.connections c.self.inside.watching tokens)
    (sym (c.remove.ensures.removed ∙ nothing_cut c.self.inside.tokens _ (sym c.remove.ensures.named ∙ c.in_default.is))) c.self.invariant

pub returns-in-Some : goal.returns-in-Some
returns-in-Some c =
    subst (λ (server : Server). Forgets server c.args.token (server_of c.self.inside.index c.release.new.self c.self.inside.connections c.self.inside.watching c.remove.new.self)) c.self.view_is
    (subst (λ (tokens : Tokens). Forgets (server_of c.self.inside.index c.self.inside.graph c.self.inside.connections c.self.inside.watching c.self.inside.tokens) c.args.token (server_of c.self.inside.index c.release.new.self c.self.inside.connections c.self.inside.watching tokens))
    (sym c.remove.ensures.removed)
    (forgets_one c.self.inside.index c.self.inside.graph c.release.new.self c.self.inside.connections c.self.inside.watching c.self.inside.tokens c.args.token c.in-Some.directory
    (sym c.remove.ensures.named ∙ c.in-Some.is) c.release.ensures.tree c.release.ensures.released c.release.ensures.names))

pub returns-in_default : goal.returns-in_default
returns-in_default c =
    subst (λ (server : Server). Forgets server c.args.token (server_of c.self.inside.index c.self.inside.graph c.self.inside.connections c.self.inside.watching c.remove.new.self)) c.self.view_is
    (subst (λ (tokens : Tokens). Forgets (server_of c.self.inside.index c.self.inside.graph c.self.inside.connections c.self.inside.watching c.self.inside.tokens) c.args.token (server_of c.self.inside.index c.self.inside.graph c.self.inside.connections c.self.inside.watching tokens))
    (sym c.remove.ensures.removed)
    (forgets_none c.self.inside.index c.self.inside.graph c.self.inside.connections c.self.inside.watching c.self.inside.tokens c.args.token (sym c.remove.ensures.named ∙ c.in_default.is)))
