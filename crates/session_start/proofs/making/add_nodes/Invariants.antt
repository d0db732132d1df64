use Rattle.session_start.specs.Growing.{nodes_among}
use Rattle.session_start.specs.Places.{Stands}
use Rattle.session_start.proofs.making.add_nodes.Given as goal

abbrev pub invariant-loop-item : goal.invariant-loop-item
invariant-loop-item l = Stands (nodes_among l.start l.server l.item) l.graph l.places
