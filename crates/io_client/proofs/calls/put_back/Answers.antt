use Rattle.std.proofs.Common.{sym, ap, ◌∙◌}
use Rattle.std.specs.FinMap as finite
use Rattle.io_client.specs.Latest.{with_latest}
use Rattle.io_client.proofs.Tables.{calls_total, calls_exact, insert-table}
use Rattle.io_client.proofs.calls.put_back.Goals as goal

pub returns-in_ok-insert-in-Some-clause-put : goal.returns-in_ok-insert-in-Some-clause-put
returns-in_ok-insert-in-Some-clause-put c =
    insert-table calls_total calls_exact c.args.others.now.entries c.insert.new.self.entries c.in-Some.key c.in-Some.method c.in_ok-insert-in-Some.ensures.updates.0
    ∙ ap (λ call. with_latest call (finite.from_entries c.args.others.now.entries)) (sym c.in-Some.is)
