use Rattle.std.proofs.Common.{refl, sym, ap, ◌∙◌}
use Rattle.io_client.specs.Calls.{Calls, call_at}
use Rattle.io_client.proofs.Sending.{note_busy, note_free}
use Rattle.io_client.proofs.client.Client.note.Goals as goal

pub returns-in-Some-clause-same : goal.returns-in-Some-clause-same
returns-in-Some-clause-same c = refl

pub returns-in-Some-clause-answer : goal.returns-in-Some-clause-answer
returns-in-Some-clause-answer c =
    note_busy c.args.self.now c.args.endpoint c.args.txid c.in-Some.field-0
    (sym (ap (λ (v : Calls). call_at v c.args.endpoint c.args.txid) c.self.view_is) ∙ (sym c.at.ensures ∙ c.in-Some.is))

pub returns-in-None-clause-answer : goal.returns-in-None-clause-answer
returns-in-None-clause-answer c =
    note_free c.args.self.now c.args.endpoint c.args.txid c.enter.result
    (sym (ap (λ (v : Calls). call_at v c.args.endpoint c.args.txid) c.self.view_is) ∙ (sym c.at.ensures ∙ c.in-None.is)) c.enter.ensures.no_memory

pub returns-in-None-clause-calls : goal.returns-in-None-clause-calls
returns-in-None-clause-calls c = c.enter.ensures.calls

pub returns-in-None-clause-same : goal.returns-in-None-clause-same
returns-in-None-clause-same c = c.enter.ensures.same
