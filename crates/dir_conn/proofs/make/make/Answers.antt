-- What the graph has refuses what each of its trees refuses.
use Rattle.node_graph.specs.Graph.{number_of}
use Rattle.node_graph.specs.Tree.{name_in}
use Rattle.conn_rules.specs.Opens.{making, act_at}
use Rattle.conn_rules.specs.Walks.{at_nothing}
use Rattle.dir_conn.proofs.Making.{nothing_refused}
use Rattle.dir_conn.proofs.Opening.{refused, opened_as, making_refused, making_bound}
use Rattle.dir_conn.proofs.make.make.Goals as goal

pub bind_made-requires-clause-free : goal.bind_made-requires-clause-free
bind_made-requires-clause-free c =
    nothing_refused c.args.graph.now.edges c.args.room c.args.flags (name_in (number_of c.args.directory) c.args.name.now) c.requires.missing.absent
    c.in-None.ensures

pub returns-in-Some : goal.returns-in-Some
returns-in-Some c =
    record {
      opened =
          refused (λ tree position. act_at position c.args.room tree c.args.flags (at_nothing (number_of c.args.directory) c.args.name.now c.args.limit))
          c.in-Some.status c.args.graph.now
          (λ tree position stands.
          making_refused c.args.graph.now tree c.args.room position c.args.flags (number_of c.args.directory) c.args.name.now c.args.limit
          c.in-Some.status stands c.requires.missing.absent c.in-Some.ensures);
    }

pub returns-in-None : goal.returns-in-None
returns-in-None c =
    record {
      opened =
          opened_as
          (λ tree position. act_at position c.args.room tree c.args.flags (at_nothing (number_of c.args.directory) c.args.name.now c.args.limit))
          (λ tree position. making position tree c.args.flags c.args.limit (name_in (number_of c.args.directory) c.args.name.now))
          c.bind_made.result c.args.graph.now c.bind_made.new.graph c.bind_made.ensures.opened
          (λ tree position stands.
          making_bound c.args.graph.now tree c.args.room position c.args.flags (number_of c.args.directory) c.args.name.now c.args.limit stands
          c.requires.missing.absent c.in-None.ensures);
    }
