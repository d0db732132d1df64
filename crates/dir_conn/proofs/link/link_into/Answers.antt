-- What the graph refuses fails with its status; what it does is told.
use Rattle.std.proofs.Common.{[], ◌∷◌, ◌∙◌, Some, Err, ap, refl, sym}
use Rattle.node_graph.specs.Graph.{number_of}
use Rattle.conn_rules.specs.Births.{born, connection_with}
use Rattle.conn_rules.specs.Contexts.{context_with}
use Rattle.conn_rules.specs.Answers.{added}
use Rattle.node_graph.specs.Refusals.{link_refusal}
use Rattle.path_walk.proofs.PartLemmas.{name_short}
use Rattle.conn_rules.specs.NameRows.{link_into, name_in}
use Rattle.dir_conn.specs.declared.served.DirServed.TheVariants as served
use Rattle.dir_conn.proofs.Naming.{done_by, link_done, link_kept_out, link_never_wants, link_takes, same_link, refused_by, wanting_by}
use Rattle.dir_conn.proofs.Trying.{done}
use Rattle.dir_conn.proofs.link.link_into.Goals as goal

pub link-requires-clause-some : goal.link-requires-clause-some
link-requires-clause-some c = (name_short c.args.dst.now c.requires.name).0

pub link-requires-clause-few : goal.link-requires-clause-few
link-requires-clause-few c = (name_short c.args.dst.now c.requires.name).1

pub returns-in-Ok : goal.returns-in-Ok
returns-in-Ok c =
    record {
      tried = λ room directory.
          done
          (λ tree position. link_into (context_with (born c.args.birth.now) position room tree directory) c.args.src.now c.args.dst.now (Some (number_of c.args.into)))
          c.args.birth.now c.args.txid (served.Reply c.new_name.result) c.reply.new.out c.args.graph.now c.link.new.self
          (λ tree position stands.
          let free =
          done_by c.link.result c.in-Ok.field-0 (link_refusal tree (name_in (number_of c.args.birth.now.node) c.args.src.now) (name_in (number_of c.args.into) c.args.dst.now)) c.in-Ok.is (c.link.ensures.answer tree stands) in
          rw (link_done (context_with (born c.args.birth.now) position room tree directory) c.args.src.now c.args.dst.now (number_of c.args.into) free)
          (record {
            answer = ((c.new_name.result, refl), (c.reply.ensures.served (connection_with c.args.birth.now position) c.args.graph.now).answer.1);
            told =
                sym (c.new_name.ensures.told ∙ ap (λ dir. added (name_in dir c.args.dst.now) ∷ []) c.number-dir.ensures);
            position = refl;
            change = same_link c.args.graph.now c.link.new.self (name_in (number_of c.args.birth.now.node) c.args.src.now) (name_in (number_of c.args.into) c.args.dst.now) tree stands c.in-Ok.ensures.linked;
            bound = λ found changes e. absurd (cc);
          }))
          (record { holds = c.link.ensures.holds; names = c.link.ensures.names })
          (λ e. cc);
    }

pub returns-in-Err : goal.returns-in-Err
returns-in-Err c =
    record {
      tried = λ room directory.
          record {
            served = λ tree position stands some.
                let known =
                refused_by c.link.result c.in-Err.fault (link_refusal tree (name_in (number_of c.args.birth.now.node) c.args.src.now) (name_in (number_of c.args.into) c.args.dst.now)) c.in-Err.is (λ is. some (c.refused.ensures.wanting is))
                (c.link.ensures.answer tree stands) in
                rw (link_kept_out (context_with (born c.args.birth.now) position room tree directory) c.args.src.now c.args.dst.now (number_of c.args.into) c.in-Err.fault known, c.in-Err.ensures.unchanged)
                (c.refused.ensures.fails (connection_with c.args.birth.now position) c.args.graph.now some);
            keeps = record { holds = c.link.ensures.holds; names = c.link.ensures.names };
            memory = λ tree position stands wants.
                let none =
                wanting_by c.link.result (link_refusal tree (name_in (number_of c.args.birth.now.node) c.args.src.now) (name_in (number_of c.args.into) c.args.dst.now)) (c.in-Err.is ∙ ap (λ f. Err f) (c.refused.ensures.wants wants))
                (link_never_wants tree (name_in (number_of c.args.birth.now.node) c.args.src.now) (name_in (number_of c.args.into) c.args.dst.now)) (c.link.ensures.answer tree stands) in
                rw (link_done (context_with (born c.args.birth.now) position room tree directory) c.args.src.now c.args.dst.now (number_of c.args.into) none)
                (link_takes tree (name_in (number_of c.args.birth.now.node) c.args.src.now) (name_in (number_of c.args.into) c.args.dst.now) none);
            untouched = λ wants. c.in-Err.ensures.unchanged;
            empty = c.refused.ensures.empty;
          };
    }
