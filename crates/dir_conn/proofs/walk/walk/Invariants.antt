use Rattle.std.proofs.Common.{◌≡◌, length}
use Rattle.node_graph.specs.Graph.{number_of, StandsFor}
use Rattle.node_graph.specs.Tree.{Tree}
use Rattle.conn_rules.specs.Walks.{walk, reach}
use Rattle.dir_conn.specs.Reaches.{Stands}
use Rattle.dir_conn.proofs.walk.walk.Given as goal

abbrev pub invariant-loop-next : goal.invariant-loop-next
invariant-loop-next l =
    record {
      stands : Stands l.graph l.flags l.spot;
      leads : (tree : Tree) → StandsFor l.graph tree →
          reach l.spot.limit (walk tree l.flags l.path (number_of l.spot.directory))
          ≡ reach l.fn.start.limit (walk tree l.flags l.fn.path (number_of l.fn.start.directory));
    }

abbrev pub decreases-loop-next : goal.decreases-loop-next
decreases-loop-next l = length l.path
