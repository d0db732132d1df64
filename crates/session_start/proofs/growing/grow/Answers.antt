use Rattle.session_start.proofs.Seated.{stands_bare}
use Rattle.session_start.proofs.growing.grow.Goals as goal

pub add_nodes-requires-clause-stand : goal.add_nodes-requires-clause-stand
add_nodes-requires-clause-stand c =
    stands_bare c.in_ok-graph.graph c.in_ok-graph.ensures.stands c.in_ok-graph.ensures.holds c.root.result c.root.ensures.named c.root.ensures.number
    c.new-places.result c.insert.new.self c.new-places.ensures.empty c.in_ok-insert.ensures.updates.0
