-- A fault other than want of memory fails with its status.
use Rattle.std.proofs.Common.{subst}
use Rattle.conn_rules.specs.Answers.{failure_of, only}
use Rattle.conn_rules.specs.Refusals.{fault_status}
use Rattle.conn_rules.specs.Served.{IsAnswered}
use Rattle.dir_conn.proofs.two_names.refused.Goals as goal

pub returns-in_default : goal.returns-in_default
returns-in_default c =
    record {
      fails = λ connection graph some.
          c.of_node.ensures.served (only connection.position (failure_of c.args.method (fault_status c.args.fault))) c.args.txid c.fail.new.out connection graph
          (subst (λ status. IsAnswered (only connection.position (failure_of c.args.method status)) c.args.txid c.fail.result c.fail.new.out connection graph)
          c.fault_status.ensures.value (c.fail.ensures.served connection graph));
      wants = λ wants. absurd (c.of_node.ensures.memory c.fail.ensures.memory wants);
      wanting = λ is. absurd (c.in_default.not-NoMemory is);
      empty = λ wants. absurd (c.of_node.ensures.memory c.fail.ensures.memory wants);
    }
