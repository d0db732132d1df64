use Rattle.std.proofs.Common.{ap, sym, ◌∙◌, ◌+◌, cond}
use Rattle.std.specs.Prelude.{◌==◌}
use Rattle.node_graph.specs.Cell.{Cell}
use Rattle.node_graph.specs.Graph.{holds_at}
use Rattle.node_graph.proofs.Seats.{present}
use Rattle.node_graph.proofs.Calls.{holds_here, rows_held, step_here}
use Rattle.node_graph.proofs.States.{holds_now, leads_stay, keeps_names}
use Rattle.node_graph.proofs.graph.Graph.hold.Goals as goal

pub index_mut-row-requires : goal.index_mut-row-requires
index_mut-row-requires c = present c.self.inside.nodes c.self.inside.edges c.self.inside.made _ c.args.node c.self.view_is c.requires.named

pub hold-requires : goal.hold-requires
hold-requires c = rw (← holds_here _ _ _ _ c.args.node c.self.view_is c.self.invariant c.requires.named c.index_mut-row.result.now c.index_mut-row.ensures.value) c.requires.few

pub invariant_of-self : goal.invariant_of-self
invariant_of-self c = rows_held _ _ _ _ c.args.node c.self.view_is c.self.invariant c.requires.named c.index_mut-row.result.now c.hold.new.self c.index_mut-row.ensures.value c.hold.ensures

pub returns-clause-held : goal.returns-clause-held
returns-clause-held c n =
    let holds = holds_here _ _ _ _ c.args.node c.self.view_is c.self.invariant c.requires.named c.index_mut-row.result.now c.index_mut-row.ensures.value in
    let step = step_here _ _ _ _ c.args.node c.self.view_is c.self.invariant c.requires.named c.index_mut-row.result.now c.hold.new.self c.index_mut-row.ensures.value (ap (λ (cell : Cell). cell.number) c.hold.ensures) (ap (λ (cell : Cell). cell.kind) c.hold.ensures) in
    holds_now step n ∙ ap (λ h. cond (n == c.args.node.number) h (holds_at c.args.self.now n)) (ap (λ (cell : Cell). cell.holds) c.hold.ensures ∙ ap (λ h. h + 1) (sym holds))

pub returns-clause-tree : goal.returns-clause-tree
returns-clause-tree c =
    let step = step_here _ _ _ _ c.args.node c.self.view_is c.self.invariant c.requires.named c.index_mut-row.result.now c.hold.new.self c.index_mut-row.ensures.value (ap (λ (cell : Cell). cell.number) c.hold.ensures) (ap (λ (cell : Cell). cell.kind) c.hold.ensures) in
    leads_stay step (ap (λ (cell : Cell). cell.bytes) c.hold.ensures)

pub returns-clause-names : goal.returns-clause-names
returns-clause-names c =
    let step = step_here _ _ _ _ c.args.node c.self.view_is c.self.invariant c.requires.named c.index_mut-row.result.now c.hold.new.self c.index_mut-row.ensures.value (ap (λ (cell : Cell). cell.number) c.hold.ensures) (ap (λ (cell : Cell). cell.kind) c.hold.ensures) in
    keeps_names step
