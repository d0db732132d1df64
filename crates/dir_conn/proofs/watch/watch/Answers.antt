-- A Watch fails with its refusal, or its reply stands in the output.
use Rattle.std.proofs.Common.{refl, sym}
use Rattle.fidl_names.specs.declared.methods.Method.TheVariants as method
use Rattle.conn_rules.specs.Answers.{failure_of, only}
use Rattle.conn_rules.specs.Births.{born, connection_with}
use Rattle.conn_rules.specs.Contexts.{context_with}
use Rattle.dir_conn.proofs.Watching.{watch_refused, watch_taken}
use Rattle.dir_conn.proofs.watch.watch.Goals as goal

pub returns-in-Some-clause-served : goal.returns-in-Some-clause-served
returns-in-Some-clause-served c = λ tree position directory graph.
    let stays = connection_with c.args.birth.now position in
    rw (
    watch_refused (context_with (born c.args.birth.now) position c.args.room tree directory) c.args.mask c.args.options c.in-Some.status
    (sym c.in-Some.ensures.first)
    )
    (c.of_node.ensures.served (only position (failure_of method.Watch c.in-Some.status)) c.args.txid c.fail.new.out stays graph
    (c.fail.ensures.served stays graph))

pub returns-in-None-clause-served : goal.returns-in-None-clause-served
returns-in-None-clause-served c = λ tree position directory graph.
    let stays = connection_with c.args.birth.now position in
    rw (
    watch_taken (context_with (born c.args.birth.now) position c.args.room tree directory) c.args.mask c.args.options (sym c.in-None.ensures.first)
    )
    (record {
      answer = (refl, (c.reply.ensures.served stays graph).answer.1);
      told = refl;
      position = refl;
      change = λ one stood. stood;
      bound = λ found changes e. absurd (cc);
    })
