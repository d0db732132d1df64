-- The last name leads where its edge does.
use Rattle.std.proofs.Common.{sym, ◌∙◌}
use Rattle.dir_conn.proofs.Walking.{last_missing, last_found}
use Rattle.dir_conn.proofs.steps.take_last.Goals as goal

pub returns-in-None-clause-leads : goal.returns-in-None-clause-leads
returns-in-None-clause-leads c = λ tree stands.
    sym (last_missing tree c.args.flags _ c.args.spot.limit c.args.name.now (c.in-None.ensures.edge tree stands))

pub returns-in-Some-clause-leads : goal.returns-in-Some-clause-leads
returns-in-Some-clause-leads c = λ tree stands.
    c.last_name.ensures.leads
    ∙ sym (last_found tree c.args.flags _ c.args.spot.limit c.args.name.now _ _ (c.in-Some.ensures.edge tree stands) (c.in-Some.ensures.row tree stands))
