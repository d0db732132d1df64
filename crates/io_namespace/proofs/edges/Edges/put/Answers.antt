use Rattle.std.proofs.Common.{◌∙◌, ap, List, ℕ}
use Rattle.std.specs.FinMap as finite
use Rattle.io_namespace.specs.Kept.{EdgeMap}
use Rattle.io_namespace.proofs.Keyed.{insert-seen}
use Rattle.io_namespace.proofs.edges.Edges.put.Goals as goal

pub returns-clause-put : goal.returns-clause-put
returns-clause-put c =
    insert-seen c.self.inside.nodes.entries c.insert.new.self.entries (c.args.node, c.in_ok-step.step) c.args.next c.in_ok-insert.ensures.entries
    ∙ ap (λ (edges : EdgeMap). finite.insert edges (c.args.node, c.in_ok-step.step.items) c.args.next) c.self.view_is
    ∙ ap (λ (step : List ℕ). finite.insert c.args.self.now (c.args.node, step) c.args.next) c.in_ok-step.ensures.items
