-- A name before the last leads where its edge does.
use Rattle.std.proofs.Common.{sym, ◌∙◌}
use Rattle.conn_rules.specs.Walks.{walk}
use Rattle.dir_conn.proofs.Walking.{inner_missing, inner_found}
use Rattle.dir_conn.proofs.steps.take_inner.Goals as goal

pub returns-in-None-clause-leads : goal.returns-in-None-clause-leads
returns-in-None-clause-leads c = λ tree stands.
    sym (inner_missing tree c.args.flags _ c.args.spot.limit c.args.name.now c.args.rest c.requires.more (c.in-None.ensures.edge tree stands))

pub returns-in-Some-clause-leads : goal.returns-in-Some-clause-leads
returns-in-Some-clause-leads c = λ tree stands.
    c.inner_name.ensures.leads (walk tree c.args.flags)
    ∙ sym (inner_found tree c.args.flags _ c.args.spot.limit c.args.name.now c.args.rest _ _ c.requires.more (c.in-Some.ensures.edge tree stands) (c.in-Some.ensures.row tree stands))
