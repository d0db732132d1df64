use Rattle.std.proofs.Common.{◌∙◌}
use Rattle.io_messages.specs.Asked.{asked}
use Rattle.io_client.proofs.Sending.{frame_written}
use Rattle.io_client.proofs.client.Client.send.Goals as goal

pub returns-clause-frame : goal.returns-clause-frame
returns-clause-frame c =
    frame_written c.args.to.now c.write_message.new.to c.args.endpoint c.args.txid (asked c.args.request) c.handles.result.now c.as_bytes.result.now c.in_ok-write_message.ensures.written
    (c.handles.ensures.handles ∙ c.in_ok-put_request.ensures.handles) (c.as_bytes.ensures.bytes ∙ c.in_ok-put_request.ensures.bytes)
