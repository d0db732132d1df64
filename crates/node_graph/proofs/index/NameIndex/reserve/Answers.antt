use Rattle.std.proofs.Common.{◌∙◌}
use Rattle.node_graph.proofs.index.NameIndex.reserve.Goals as goal

pub returns-in_err-reserve-clause-found : goal.returns-in_err-reserve-clause-found
returns-in_err-reserve-clause-found c key = c.reserve.ensures.entries.2 key ∙ c.widen.ensures.found key

pub returns-clause-found : goal.returns-clause-found
returns-clause-found c key = c.reserve.ensures.entries.2 key ∙ c.widen.ensures.found key
