use Rattle.fidl_names.specs.declared.methods.Method.TheVariants as method
use Rattle.fidl_names.specs.declared.statuses.Status.TheVariants as status
use Rattle.io_messages.specs.Replies.{token}
use Rattle.conn_rules.specs.Answers.{failure_of, only, replies}
use Rattle.conn_rules.specs.Births.{connection_with}
use Rattle.dir_conn.proofs.token.get_token.Goals as goal

pub returns-in-Some-clause-served : goal.returns-in-Some-clause-served
returns-in-Some-clause-served c = λ tree position directory graph.
    rw c.in-Some.is
    (c.of_node.ensures.served (only position (replies (token c.in-Some.number))) c.args.txid c.reply.new.out (connection_with c.args.birth.now position) graph
    (c.reply.ensures.served (connection_with c.args.birth.now position) graph))

pub returns-in-None-clause-served : goal.returns-in-None-clause-served
returns-in-None-clause-served c = λ tree position directory graph.
    rw c.in-None.is
    (c.of_node-in-None.ensures.served (only position (failure_of method.GetToken status.NoResources)) c.args.txid c.fail.new.out
    (connection_with c.args.birth.now position) graph (c.fail.ensures.served (connection_with c.args.birth.now position) graph))
