-- The names and the token are tested before the graph is asked.
use Rattle.std.proofs.Common.{Some, ◌∙◌, ap}
use Rattle.std.specs.Option.{option_map}
use Rattle.fidl_names.specs.declared.methods.Method.TheVariants as method
use Rattle.node_graph.specs.Graph.{number_of}
use Rattle.conn_rules.specs.Births.{born, connection_with}
use Rattle.conn_rules.specs.Contexts.{context_with}
use Rattle.conn_rules.specs.Answers.{failure_of, only}
use Rattle.conn_rules.specs.NameRows.{rename_act, rename_into}
use Rattle.dir_conn.proofs.Naming.{rename_passed, rename_refused}
use Rattle.dir_conn.proofs.Trying.{failed, tried_as}
use Rattle.dir_conn.proofs.rename.rename.Goals as goal

pub returns-in-Ok : goal.returns-in-Ok
returns-in-Ok c =
    record {
      tried = λ room directory token named.
          tried_as
          (λ tree position. rename_act (context_with (born c.args.birth.now) position room tree directory) c.args.src.now token c.args.dst.now)
          (λ tree position. rename_into (context_with (born c.args.birth.now) position room tree directory) c.args.src.now c.args.dst.now (option_map number_of (Some c.in-Ok.into)))
          c.args.birth.now c.args.txid c.rename_into.result c.rename_into.new.out c.args.graph.now c.rename_into.new.graph
          (c.rename_into.ensures.tried room directory)
          (λ tree position stands.
          rename_passed (context_with (born c.args.birth.now) position room tree directory) c.args.src.now c.args.dst.now token (option_map number_of c.args.target) named c.in-Ok.ensures.refusal
          ∙ ap (λ found. rename_into (context_with (born c.args.birth.now) position room tree directory) c.args.src.now c.args.dst.now (option_map number_of found)) c.in-Ok.ensures.target);
    }

pub returns-in-Err : goal.returns-in-Err
returns-in-Err c =
    record {
      tried = λ room directory token named.
          failed
          (λ tree position. rename_act (context_with (born c.args.birth.now) position room tree directory) c.args.src.now token c.args.dst.now)
          c.args.birth.now c.args.txid method.Rename c.in-Err.status c.of_node.result c.fail.new.out c.args.graph.now
          (λ tree position stands.
          rename_refused (context_with (born c.args.birth.now) position room tree directory) c.args.src.now c.args.dst.now token (option_map number_of c.args.target) c.in-Err.status named c.in-Err.ensures.refusal)
          (λ position.
          c.of_node.ensures.served (only position (failure_of method.Rename c.in-Err.status)) c.args.txid c.fail.new.out (connection_with c.args.birth.now position)
          c.args.graph.now (c.fail.ensures.served (connection_with c.args.birth.now position) c.args.graph.now))
          (c.of_node.ensures.memory c.fail.ensures.memory);
    }
