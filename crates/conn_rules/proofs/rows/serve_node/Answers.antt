-- Each method is answered whatever else the rows look at.
use Rattle.std.proofs.Common.{subst}
use Rattle.io_messages.specs.Replies.{attributes}
use Rattle.conn_rules.specs.Answers.{only, replies}
use Rattle.conn_rules.specs.Births.{connection_with}
use Rattle.conn_rules.specs.Served.{IsAnswered}
use Rattle.conn_rules.proofs.rows.serve_node.Goals as goal

pub returns-in-Clone-clause-served : goal.returns-in-Clone-clause-served
returns-in-Clone-clause-served c position tree directory stands =
    rw c.in-Clone.is (c.serve_clone.ensures.served position tree directory c.args.txid c.args.out.now c.args.graph.now c.requires.empty c.requires.can)

pub returns-in-Close-clause-served : goal.returns-in-Close-clause-served
returns-in-Close-clause-served c position tree directory stands =
    rw c.in-Close.is (c.serve_close.ensures.served (connection_with c.args.birth.now position) c.args.graph.now)

pub returns-in-Query-clause-served : goal.returns-in-Query-clause-served
returns-in-Query-clause-served c position tree directory stands =
    rw c.in-Query.is (c.serve_query.ensures.served (connection_with c.args.birth.now position) c.args.graph.now)

pub returns-in-GetAttributes-clause-served : goal.returns-in-GetAttributes-clause-served
returns-in-GetAttributes-clause-served c position tree directory stands =
    rw c.in-GetAttributes.is
    (subst (λ found. IsAnswered (only position (replies (attributes found))) c.args.txid c.reply.result c.reply.new.out (connection_with c.args.birth.now position) c.args.graph.now)
    (c.attributes-found.ensures.value tree stands)
    (c.reply.ensures.served (connection_with c.args.birth.now position) c.args.graph.now))

pub returns-in-Sync-clause-served : goal.returns-in-Sync-clause-served
returns-in-Sync-clause-served c position tree directory stands =
    rw c.in-Sync.is (c.reply-in-Sync.ensures.served (connection_with c.args.birth.now position) c.args.graph.now)
