-- A name that is taken out is told, with the directory that went with it.
use Rattle.std.proofs.Common.{ap, refl, sym, ◌∙◌, ◌∷◌}
use Rattle.fidl_names.specs.declared.methods.Method.TheVariants as method
use Rattle.node_graph.specs.Graph.{number_of}
use Rattle.conn_rules.specs.Answers.{failure_of, gone, only, removed}
use Rattle.conn_rules.specs.Births.{born, connection_with}
use Rattle.conn_rules.specs.Contexts.{context_with}
use Rattle.conn_rules.specs.NameRows.{name_in}
use Rattle.dir_conn.proofs.Unlinking.{unlink_done, unlink_refused}
use Rattle.dir_conn.proofs.unlink.unlink.Goals as goal

pub returns-in-Ok-clause-served : goal.returns-in-Ok-clause-served
returns-in-Ok-clause-served c = λ tree position room directory stands.
    let told =
    c.lost_name.ensures.told
    ∙ ap (λ dir. removed (name_in dir c.args.name.now) ∷ gone c.in-Ok.directory) c.number-dir.ensures
    ∙ ap (λ behind. removed (name_in (number_of c.args.birth.now.node) c.args.name.now) ∷ gone behind) (c.in-Ok.ensures.gone tree stands) in
    rw (unlink_done (context_with (born c.args.birth.now) position room tree directory) c.args.name.now c.args.flags (c.in-Ok.ensures.refusal tree stands))
    (record {
      answer = ((c.lost_name.result, refl), (c.reply.ensures.served (connection_with c.args.birth.now position) c.args.graph.now).answer.1);
      told = sym told;
      position = refl;
      change = c.in-Ok.ensures.change;
      bound = λ found changes e. absurd (cc);
    })

pub returns-in-Err-clause-served : goal.returns-in-Err-clause-served
returns-in-Err-clause-served c = λ tree position room directory stands.
    rw (
      unlink_refused (context_with (born c.args.birth.now) position room tree directory) c.args.name.now c.args.flags c.in-Err.status
          (c.in-Err.ensures.refusal tree stands),
      c.in-Err.ensures.unchanged,
    )
    (c.of_node.ensures.served (only position (failure_of method.Unlink c.in-Err.status)) c.args.txid c.fail.new.out (connection_with c.args.birth.now position)
    c.args.graph.now (c.fail.ensures.served (connection_with c.args.birth.now position) c.args.graph.now))

pub returns-in-Ok-clause-memory : goal.returns-in-Ok-clause-memory
returns-in-Ok-clause-memory c = λ wants. cc

pub returns-in-Err-clause-memory : goal.returns-in-Err-clause-memory
returns-in-Err-clause-memory c = c.of_node.ensures.memory c.fail.ensures.memory
