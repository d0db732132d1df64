use Rattle.std.proofs.Common.{◌∙◌, ◌+◌, ap, sym}
use Rattle.std.specs.FinMap as finite
use Rattle.vfs_server.specs.Servers.{in_use}
use Rattle.vfs_server.proofs.Binding.{in_use_is}
use Rattle.vfs_server.proofs.server.Server.connections.Goals as goal

pub returns : goal.returns
returns c =
    ap (λ n. n + c.len-2.result) c.len.ensures
    ∙ ap (λ n. finite.len c.self.inside.connections + n) c.len-2.ensures
    ∙ sym (in_use_is c.self.inside.index c.self.inside.graph c.self.inside.connections c.self.inside.watching c.self.inside.tokens)
    ∙ ap in_use c.self.view_is
