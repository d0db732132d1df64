use Rattle.node_graph.proofs.Ways.{below_found_up, found_below}
use Rattle.node_graph.proofs.laws.climbing_finds_what_is_above.Goals as goal

pub returns-clause-found : goal.returns-clause-found
returns-clause-found c = below_found_up

pub returns-clause-nothing_else : goal.returns-clause-nothing_else
returns-clause-nothing_else c = found_below
