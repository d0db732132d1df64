use Rattle.std.proofs.Common.{Ok, ap, ◌∙◌}
use Rattle.fidl_wire.specs.Cursor.{start_of}
use Rattle.fidl_wire.specs.Reading.{◌>>=◌}
use Rattle.io_messages.specs.Asked.{asked}
use Rattle.request_reader.proofs.Taking.{before, passed_on, not_begun, not_taken, taken}
use Rattle.request_reader.proofs.fields.read_fields.Goals as goal

pub returns-in_err-body-clause-value : goal.returns-in_err-body-clause-value
returns-in_err-body-clause-value c =
    passed_on _ _ c.from_residual.ensures
    ∙ not_begun c.args.method _ _ _ (c.in_err-body.ensures ∙ ap (start_of c.args.bytes.now c.args.handles.now) c.inline_size.ensures)

pub take_fields-requires : goal.take_fields-requires
take_fields-requires c = before c.args.method _ _ _ (c.in_ok-body.ensures ∙ ap (start_of c.args.bytes.now c.args.handles.now) c.inline_size.ensures)

pub returns-in_err-request-clause-value : goal.returns-in_err-request-clause-value
returns-in_err-request-clause-value c =
    passed_on _ _ c.from_residual-in_err-request.ensures
    ∙ not_taken c.args.method _ _ _ _ (c.in_ok-body.ensures ∙ ap (start_of c.args.bytes.now c.args.handles.now) c.inline_size.ensures) c.in_err-request.ensures.fault

pub returns-in_err-finish-clause-value : goal.returns-in_err-finish-clause-value
returns-in_err-finish-clause-value c =
    passed_on _ _ c.from_residual-in_err-finish.ensures
    ∙ ap (λ r. r >>= λ _. Ok (asked c.in_ok-request.request)) c.in_err-finish.ensures
    ∙ taken c.args.method _ _ _ _ _ (c.in_ok-body.ensures ∙ ap (start_of c.args.bytes.now c.args.handles.now) c.inline_size.ensures) c.in_ok-request.ensures.value

pub returns-clause-value : goal.returns-clause-value
returns-clause-value c =
    ap (λ r. r >>= λ _. Ok (asked c.in_ok-request.request)) c.in_ok-finish.ensures
    ∙ taken c.args.method _ _ _ _ _ (c.in_ok-body.ensures ∙ ap (start_of c.args.bytes.now c.args.handles.now) c.inline_size.ensures) c.in_ok-request.ensures.value
