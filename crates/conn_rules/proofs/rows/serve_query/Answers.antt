use Rattle.std.proofs.Common.{subst}
use Rattle.fidl_names.specs.declared.methods.Method.TheVariants as method
use Rattle.io_messages.specs.Replies.{payload}
use Rattle.conn_rules.specs.Answers.{only, replies}
use Rattle.conn_rules.specs.Served.{IsAnswered}
use Rattle.conn_rules.proofs.rows.serve_query.Goals as goal

pub returns-clause-served : goal.returns-clause-served
returns-clause-served c connection graph =
    subst (λ name. IsAnswered (only connection.position (replies (payload method.Query name))) c.args.txid c.reply.result c.reply.new.out connection graph)
    c.protocol_name.ensures.name (c.reply.ensures.served connection graph)
