use Rattle.std.proofs.Common.{◌∙◌, sym, ap, List, ℕ}
use Rattle.std.specs.FinMap as finite
use Rattle.io_namespace.specs.Kept.{EdgeMap}
use Rattle.io_namespace.proofs.Keyed.{get-seen}
use Rattle.io_namespace.proofs.edges.Edges.get.Goals as goal

pub returns : goal.returns
returns c =
    c.copied.ensures ∙ c.get.ensures.value
    ∙ sym (get-seen c.self.inside.nodes.entries (c.args.node, c.in_ok-from_slice.field-0))
    ∙ ap (λ (edges : EdgeMap). finite.get edges (c.args.node, c.in_ok-from_slice.field-0.items)) c.self.view_is
    ∙ ap (λ (step : List ℕ). finite.get c.args.self.now (c.args.node, step)) c.in_ok-from_slice.ensures.items
