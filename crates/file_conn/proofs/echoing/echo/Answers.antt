use Rattle.std.proofs.Common.{subst, sym}
use Rattle.conn_rules.specs.Served.{IsAnswered}
use Rattle.file_conn.proofs.Acts.{echo_act}
use Rattle.file_conn.proofs.echoing.echo.Goals as goal

pub returns-clause-serves : goal.returns-clause-serves
returns-clause-serves c connection graph room tree directory echo connects some =
    rw c.in-EchoString.is
    (subst (λ act. IsAnswered act c.args.txid c.reply.result c.reply.new.out connection graph)
    (sym (echo_act connection room tree directory c.in-EchoString.value.now echo connects))
    (c.reply.ensures.served connection graph))
