-- An Open without a refusal before the walk does what its walk does.
use Rattle.node_graph.specs.Graph.{number_of}
use Rattle.conn_rules.specs.Births.{born}
use Rattle.conn_rules.specs.Contexts.{context_with}
use Rattle.conn_rules.specs.Opens.{open_act, act_at}
use Rattle.conn_rules.specs.Walks.{walk, reach}
use Rattle.dir_conn.proofs.Opening.{opened_as, act_of_open}
use Rattle.dir_conn.proofs.open.open.Goals as goal

pub returns-in-Ok : goal.returns-in-Ok
returns-in-Ok c =
    record {
      opened = λ directory.
          opened_as
          (λ tree position. open_act (context_with (born c.args.birth.now) position c.args.room tree directory) c.args.text.now c.args.word)
          (λ tree position.
          act_at position c.args.room tree c.in-Ok.entered.flags
          (reach c.args.birth.now.rights (walk tree c.in-Ok.entered.flags c.in-Ok.entered.path (number_of c.args.birth.now.node))))
          c.follow.result c.args.graph.now c.follow.new.graph c.follow.ensures.opened
          (λ tree position stands.
          act_of_open (born c.args.birth.now) position c.args.room tree directory c.args.text.now c.args.word c.in-Ok.entered.flags c.in-Ok.entered.path
          c.in-Ok.ensures.refusal c.in-Ok.ensures.flags c.in-Ok.ensures.path);
    }
