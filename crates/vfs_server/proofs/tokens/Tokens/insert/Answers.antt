use Rattle.std.proofs.Common.{ap, ◌∙◌}
use Rattle.std.specs.FinMap as finite
use Rattle.vfs_server.proofs.Maps.{insert-table}
use Rattle.vfs_server.proofs.tokens.Tokens.insert.Goals as goal

pub returns-clause-inserted : goal.returns-clause-inserted
returns-clause-inserted c =
    insert-table c.self.inside.named.entries c.insert.new.self.entries c.args.token c.args.directory c.in_ok-insert.ensures.updates.0
    ∙ ap (λ m. finite.insert m c.args.token c.args.directory) c.self.view_is
