-- An Open does what is done where its walk ends.
use Rattle.std.proofs.Common.{ap, sym}
use Rattle.node_graph.specs.Graph.{number_of}
use Rattle.conn_rules.specs.Walks.{walk, reach}
use Rattle.conn_rules.specs.Opens.{act_at}
use Rattle.dir_conn.specs.Reaches.{reached}
use Rattle.dir_conn.proofs.Opening.{opened_as}
use Rattle.dir_conn.proofs.open.follow.Goals as goal

pub returns : goal.returns
returns c =
    record {
      opened =
          opened_as
          (λ tree position.
          act_at position c.args.room tree c.args.flags
          (reach c.args.birth.now.rights (walk tree c.args.flags c.args.path (number_of c.args.birth.now.node))))
          (λ tree position. act_at position c.args.room tree c.args.flags (reached c.walk-end.result)) c.answer.result c.args.graph.now c.answer.new.graph
          c.answer.ensures.opened
          (λ tree position stands. ap (act_at position c.args.room tree c.args.flags) (sym (c.walk-end.ensures.leads tree stands)));
    }
