use Rattle.std.proofs.Common.{ap, sym, ◌∙◌}
use Rattle.std.specs.FinMap as finite
use Rattle.vfs_server.proofs.Found.{len_seen}
use Rattle.vfs_server.proofs.connections.Connections.len.Goals as goal

pub returns : goal.returns
returns c = c.len.ensures.len ∙ sym (len_seen c.self.inside.kept.entries c.len.ensures.unique) ∙ ap finite.len c.self.view_is
