-- The node is of the kind that each tree has there.
use Rattle.node_graph.specs.Graph.{number_of}
use Rattle.conn_rules.specs.Opens.{arrival, act_at}
use Rattle.conn_rules.specs.Walks.{at_node}
use Rattle.dir_conn.proofs.Opening.{refused, opened_as, arrived_refused, arrived_bound}
use Rattle.dir_conn.proofs.arrive.bind.Goals as goal

pub returns-in-Some : goal.returns-in-Some
returns-in-Some c =
    record {
      opened =
          refused (λ tree position. act_at position c.args.room tree c.args.flags (at_node (number_of c.args.node) c.args.limit)) c.in-Some.status c.args.graph.now
          (λ tree position stands.
          arrived_refused c.args.graph.now tree c.args.room position c.args.flags (number_of c.args.node) c.args.limit c.args.kind c.in-Some.status stands
          c.requires.reached.kind c.in-Some.ensures);
    }

pub returns-in-None : goal.returns-in-None
returns-in-None c =
    record {
      opened =
          opened_as (λ tree position. act_at position c.args.room tree c.args.flags (at_node (number_of c.args.node) c.args.limit))
          (λ tree position. arrival position c.args.flags c.args.limit (number_of c.args.node) c.args.kind) c.bind_arrived.result c.args.graph.now
          c.bind_arrived.new.graph c.bind_arrived.ensures.opened
          (λ tree position stands.
          arrived_bound c.args.graph.now tree c.args.room position c.args.flags (number_of c.args.node) c.args.limit c.args.kind stands
          c.requires.reached.kind c.in-None.ensures);
    }
