use Rattle.std.proofs.Common.{ap, ◌∙◌}
use Rattle.std.specs.FinMap as finite
use Rattle.node_graph.specs.Ends.{Ends, name_in}
use Rattle.node_graph.proofs.edges.Edges.shift.Goals as goal

pub returns-clause-shifted : goal.returns-clause-shifted
returns-clause-shifted c = c.cut.ensures ∙ ap (λ (names : Ends). finite.remove names (name_in c.args.directory c.args.src.now)) c.in_ok-put.ensures.put
