-- What the graph refuses fails with its status; what it does is told.
use Rattle.std.proofs.Common.{◌∷◌, ◌∙◌, Some, Err, ap, refl, sym}
use Rattle.std.specs.Prelude.{if◌then◌else◌}
use Rattle.node_graph.specs.Graph.{number_of}
use Rattle.conn_rules.specs.Births.{born, connection_with}
use Rattle.conn_rules.specs.Contexts.{context_with}
use Rattle.conn_rules.specs.Answers.{added, gone, nothing_told, removed}
use Rattle.node_graph.specs.Refusals.{rename_refusal}
use Rattle.path_walk.proofs.PartLemmas.{name_short}
use Rattle.conn_rules.specs.NameRows.{rename_into, name_in}
use Rattle.dir_conn.specs.declared.served.DirServed.TheVariants as served
use Rattle.dir_conn.proofs.Naming.{done_by, rename_done, rename_kept_out, rename_never_wants, rename_takes, told_of_rename, refused_by, wanting_by}
use Rattle.dir_conn.proofs.Trying.{done}
use Rattle.dir_conn.proofs.rename.rename_into.Goals as goal

pub rename-requires-clause-some : goal.rename-requires-clause-some
rename-requires-clause-some c = (name_short c.args.dst.now c.requires.name).0

pub rename-requires-clause-few : goal.rename-requires-clause-few
rename-requires-clause-few c = (name_short c.args.dst.now c.requires.name).1

pub returns-in-Ok : goal.returns-in-Ok
returns-in-Ok c =
    record {
      tried = λ room directory.
          done
          (λ tree position. rename_into (context_with (born c.args.birth.now) position room tree directory) c.args.src.now c.args.dst.now (Some (number_of c.args.into)))
          c.args.birth.now c.args.txid (served.Reply c.moved_name.result) c.reply.new.out c.args.graph.now c.rename.new.self
          (λ tree position stands.
          let free =
          done_by c.rename.result c.in-Ok.moved (rename_refusal tree (name_in (number_of c.args.birth.now.node) c.args.src.now) (name_in (number_of c.args.into) c.args.dst.now)) c.in-Ok.is (c.rename.ensures.answer tree stands) in
          rw (rename_done (context_with (born c.args.birth.now) position room tree directory) c.args.src.now c.args.dst.now (number_of c.args.into) free)
          (record {
            answer = ((c.moved_name.result, refl), (c.reply.ensures.served (connection_with c.args.birth.now position) c.args.graph.now).answer.1);
            told =
                told_of_rename tree (name_in (number_of c.args.birth.now.node) c.args.src.now) (name_in (number_of c.args.into) c.args.dst.now) c.in-Ok.moved.changed c.in-Ok.moved.replaced c.in-Ok.ensures.changed
                (c.in-Ok.ensures.replaced tree stands)
                ∙ sym (c.moved_name.ensures.told
                ∙ ap (λ dir. if c.in-Ok.moved.changed then removed (name_in dir c.args.src.now) ∷ added (name_in c.number-place.result c.args.dst.now) ∷ gone c.in-Ok.moved.replaced else nothing_told) c.number-dir.ensures
                ∙ ap (λ dir. if c.in-Ok.moved.changed then removed (name_in (number_of c.args.birth.now.node) c.args.src.now) ∷ added (name_in dir c.args.dst.now) ∷ gone c.in-Ok.moved.replaced else nothing_told) c.number-place.ensures);
            position = refl;
            change = c.in-Ok.ensures.renamed;
            bound = λ found changes e. absurd (cc);
          }))
          (record { holds = c.rename.ensures.holds; names = c.rename.ensures.names })
          (λ e. cc);
    }

pub returns-in-Err : goal.returns-in-Err
returns-in-Err c =
    record {
      tried = λ room directory.
          record {
            served = λ tree position stands some.
                let known =
                refused_by c.rename.result c.in-Err.fault (rename_refusal tree (name_in (number_of c.args.birth.now.node) c.args.src.now) (name_in (number_of c.args.into) c.args.dst.now)) c.in-Err.is (λ is. some (c.refused.ensures.wanting is))
                (c.rename.ensures.answer tree stands) in
                rw (rename_kept_out (context_with (born c.args.birth.now) position room tree directory) c.args.src.now c.args.dst.now (number_of c.args.into) c.in-Err.fault known, c.in-Err.ensures.unchanged)
                (c.refused.ensures.fails (connection_with c.args.birth.now position) c.args.graph.now some);
            keeps = record { holds = c.rename.ensures.holds; names = c.rename.ensures.names };
            memory = λ tree position stands wants.
                let none =
                wanting_by c.rename.result (rename_refusal tree (name_in (number_of c.args.birth.now.node) c.args.src.now) (name_in (number_of c.args.into) c.args.dst.now)) (c.in-Err.is ∙ ap (λ f. Err f) (c.refused.ensures.wants wants))
                (rename_never_wants tree (name_in (number_of c.args.birth.now.node) c.args.src.now) (name_in (number_of c.args.into) c.args.dst.now)) (c.rename.ensures.answer tree stands) in
                rw (rename_done (context_with (born c.args.birth.now) position room tree directory) c.args.src.now c.args.dst.now (number_of c.args.into) none)
                (rename_takes (name_in (number_of c.args.birth.now.node) c.args.src.now) (name_in (number_of c.args.into) c.args.dst.now) (λ same. c.in-Err.ensures.same same (c.refused.ensures.wants wants)));
            untouched = λ wants. c.in-Err.ensures.unchanged;
            empty = c.refused.ensures.empty;
          };
    }
