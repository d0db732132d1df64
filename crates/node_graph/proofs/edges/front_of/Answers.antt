use Rattle.std.proofs.Common.{sym}
use Rattle.std.proofs.lemmas.List.{take_all}
use Rattle.fidl_names.specs.declared.limits.TheConstants as limit
use Rattle.node_graph.proofs.edges.front_of.Goals as goal

pub returns-then-place-le-MAX_NAME-clause-value : goal.returns-then-place-le-MAX_NAME-clause-value
returns-then-place-le-MAX_NAME-clause-value c = sym (take_all limit.MAX_NAME c.args.place.now c.if-place-le-MAX_NAME.true)
