use Rattle.std.proofs.Common.{sym, ◌∙◌}
use Rattle.std.proofs.lemmas.Result.{on_ok_weaker}
use Rattle.io_messages.specs.Asked.{asked}
use Rattle.io_client.proofs.Sending.{noted_sent}
use Rattle.io_client.proofs.client.Client.wait_for.Goals as goal

pub returns-clause-calls : goal.returns-clause-calls
returns-clause-calls c =
    on_ok_weaker c.enter.result
    (λ is. is ∙ noted_sent c.args.self.now c.args.endpoint c.args.txid (asked c.args.request.now) c.method-method.result c.watcher_of.result c.method-method.ensures c.watcher_of.ensures
    (sym c.is_one_way.ensures ∙ c.if-is_one_way.false))
    c.enter.ensures.calls
