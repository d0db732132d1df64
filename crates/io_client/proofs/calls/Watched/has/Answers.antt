use Rattle.std.proofs.Common.{sym, ap, ◌∙◌}
use Rattle.std.specs.FinSet as set
use Rattle.io_client.proofs.Tables.{contains-table}
use Rattle.io_client.proofs.calls.Watched.has.Goals as goal

pub returns : goal.returns
returns c = c.contains.ensures ∙ (sym (contains-table c.self.inside.endpoints.keys c.args.endpoint) ∙ ap (λ s. set.contains s c.args.endpoint) c.self.view_is)
