-- What is left of the names is empty, or goes on.
use Rattle.std.proofs.Common.{◌≡◌, ◌∷◌, [], ap, sym, ◌∙◌}
use Rattle.node_graph.specs.Graph.{number_of}
use Rattle.conn_rules.specs.Walks.{walk, reach}
use Rattle.dir_conn.specs.Reaches.{reached}
use Rattle.dir_conn.proofs.Walking.{no_first, first_and_rest, no_names}
use Rattle.dir_conn.proofs.steps.take_name.Goals as goal

pub returns-in-None-clause-leads : goal.returns-in-None-clause-leads
returns-in-None-clause-leads c = λ tree stands.
    ap reached c.stay.ensures.value
    ∙ sym (no_names tree c.args.flags _ c.args.spot.limit c.args.path (no_first c.args.path (sym c.in-None.ensures.head)))

pub take_last-requires-clause-end : goal.take_last-requires-clause-end
take_last-requires-clause-end c = no_first c.rest-rest.result (sym c.in-None-first.ensures.head)

pub returns-in-None-first-clause-leads : goal.returns-in-None-first-clause-leads
returns-in-None-first-clause-leads c = λ tree stands.
    let end : c.rest-rest.result ≡ [] = no_first c.rest-rest.result (sym c.in-None-first.ensures.head) in
    let whole : c.args.path ≡ c.in-Some.name.now ∷ [] =
    first_and_rest c.args.path c.in-Some.name.now (sym c.in-Some.ensures.head) ∙ ap (λ rest. c.in-Some.name.now ∷ rest) (sym c.rest-rest.ensures ∙ end) in
    c.take_last.ensures.leads tree stands
    ∙ ap (λ names. reach c.args.spot.limit (walk tree c.args.flags names (number_of c.args.spot.directory))) (sym whole)
