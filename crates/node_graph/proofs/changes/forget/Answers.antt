use Rattle.std.proofs.Common.{sym, ◌∙◌, refl}
use Rattle.node_graph.specs.Rows.{keeps, drops}
use Rattle.node_graph.proofs.changes.forget.Goals as goal

pub returns-then-not-is_needed : goal.returns-then-not-is_needed
returns-then-not-is_needed c = drops c.index.result.now c.index.ensures (sym c.is_needed.ensures ∙ c.if-not-is_needed.true) c.remove.ensures.updates c.remove.ensures.len

pub returns-else-not-is_needed : goal.returns-else-not-is_needed
returns-else-not-is_needed c = keeps c.index.result.now c.index.ensures (sym c.is_needed.ensures ∙ c.if-not-is_needed.false) refl
