use Rattle.std.proofs.Common.{sym, ap, ◌∙◌}
use Rattle.std.specs.FinMap as finite
use Rattle.vfs_server.proofs.Maps.{get-table}
use Rattle.vfs_server.proofs.tokens.Tokens.get.Goals as goal

pub returns : goal.returns
returns c =
    c.copied.ensures ∙ (c.get.ensures.value
    ∙ (sym (get-table c.self.inside.named.entries c.args.token)
    ∙ ap (λ m. finite.get m c.args.token) c.self.view_is))
