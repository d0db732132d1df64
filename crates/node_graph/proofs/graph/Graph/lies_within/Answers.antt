use Rattle.std.proofs.Common.{◌≡◌, ◌∙◌, ap, arith, suc, ◌+◌, ◌-◌, [], ◌∷◌}
use Rattle.std.specs.Option.{option_map, option_to_list}
use Rattle.node_graph.specs.Refusals.{parents_of}
use Rattle.node_graph.specs.Graph.{number_of}
use Rattle.node_graph.proofs.Climbs.{climb}
use Rattle.node_graph.proofs.graph.Graph.lies_within.Goals as goal

pub loop-preserved : goal.loop-preserved
loop-preserved c =
    let parents : parents_of c.args.self.now.edges c.loop.at.number ≡ c.in-Some.parent.number ∷ [] = c.parent.ensures.up ∙ ap (λ o. option_to_list (option_map number_of o)) c.in-Some.is in
    let before = c.loop-test.true in
    let times : c.names-end.result - c.loop.counter ≡ suc (c.names-end.result - (c.loop.counter + 1)) = omega (arith, before) in (
      c.in-Some.ensures.named,
      c.in-Some.ensures.directory,
      c.loop.invariant.2 ∙ climb c.args.self.now.edges (c.names-end.result - c.loop.counter) (c.names-end.result - (c.loop.counter + 1)) c.loop.at.number c.in-Some.parent.number c.args.above times c.if-at-above.false parents,
    )
