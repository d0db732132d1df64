use Rattle.std.proofs.Common.{◌≡◌, ap, ◌∙◌}
use Rattle.std.specs.Prelude.{None}
use Rattle.std.specs.FinMap as finite
use Rattle.io_client.specs.Calls.{Calls}
use Rattle.io_client.proofs.Tables.{calls_total, calls_exact, remove-insert}
use Rattle.io_client.proofs.client.Client.enter.Goals as goal

pub returns-in-Err-clause-same : goal.returns-in-Err-clause-same
returns-in-Err-clause-same c =
    let none : finite.get c.self.inside.waiting (c.args.endpoint, c.args.txid) ≡ None =
    ap (λ (v : Calls). finite.get v.waiting (c.args.endpoint, c.args.txid)) c.self.view_is ∙ c.requires in
    let back =
    c.remove.ensures ∙ (ap (λ m. finite.remove m (c.args.endpoint, c.args.txid)) c.in_ok-add.ensures.added
    ∙ remove-insert calls_total calls_exact c.self.inside.waiting (c.args.endpoint, c.args.txid) c.args.method none) in
    (λ i. record { waiting = back i; watched = c.in-Err.ensures.no_memory i }) ∙ c.self.view_is
