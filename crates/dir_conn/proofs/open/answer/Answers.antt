-- A node is bound where the walk arrives, and made where it is missing.
use Rattle.std.proofs.Common.{sym, subst}
use Rattle.conn_rules.specs.Opens.{act_at}
use Rattle.dir_conn.specs.Opened.{IsOpened}
use Rattle.dir_conn.specs.Reaches.{reached}
use Rattle.dir_conn.proofs.open.answer.Goals as goal

pub returns-in-Arrives : goal.returns-in-Arrives
returns-in-Arrives c =
    record {
      opened =
          subst
          (λ end.
          IsOpened (λ tree position. act_at position c.args.room tree c.args.flags (reached end)) c.bind.result c.args.graph.now c.bind.new.graph)
          (sym c.in-Arrives.is) c.bind.ensures.opened;
    }

pub returns-in-Missing : goal.returns-in-Missing
returns-in-Missing c =
    record {
      opened =
          subst
          (λ end.
          IsOpened (λ tree position. act_at position c.args.room tree c.args.flags (reached end)) c.make.result c.args.graph.now c.make.new.graph)
          (sym c.in-Missing.is) c.make.ensures.opened;
    }
