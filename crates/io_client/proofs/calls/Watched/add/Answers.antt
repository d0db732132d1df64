use Rattle.std.proofs.Common.{ap, ◌∙◌}
use Rattle.std.specs.FinSet as set
use Rattle.io_client.proofs.Tables.{insert-set}
use Rattle.io_client.proofs.calls.Watched.add.Goals as goal

pub returns-clause-added : goal.returns-clause-added
returns-clause-added c =
    insert-set c.self.inside.endpoints.keys c.insert.new.self.keys c.args.endpoint c.in_ok-insert.ensures.updates.0
    ∙ ap (λ s. set.insert s c.args.endpoint) c.self.view_is
