use Rattle.std.proofs.Common.{sym, ap, ◌∙◌}
use Rattle.std.specs.FinMap as finite
use Rattle.vfs_server.proofs.Maps.{get-table, remove-table}
use Rattle.vfs_server.proofs.tokens.Tokens.remove.Goals as goal

pub returns-clause-named : goal.returns-clause-named
returns-clause-named c =
    c.remove.ensures.value ∙ sym (get-table c.self.inside.named.entries c.args.token) ∙ ap (λ m. finite.get m c.args.token) c.self.view_is

pub returns-clause-removed : goal.returns-clause-removed
returns-clause-removed c =
    remove-table c.self.inside.named.entries c.remove.new.self.entries c.args.token c.remove.ensures.updates.0
    ∙ ap (λ m. finite.remove m c.args.token) c.self.view_is
