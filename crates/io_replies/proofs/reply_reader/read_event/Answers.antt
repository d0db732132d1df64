use Rattle.std.proofs.Common.{◌∙◌}
use Rattle.wire_laws.proofs.Bodies.{read_spelled, spelled_read}
use Rattle.io_replies.proofs.ReplyLaws.{event_found, event_spelled}
use Rattle.io_replies.proofs.reply_reader.read_event.Goals as goal

pub returns-clause-found : goal.returns-clause-found
returns-clause-found c = event_found read_spelled c.args.bytes.now _ c.event_in.ensures

pub returns-clause-only : goal.returns-clause-only
returns-clause-only c = λ kind reads. c.event_in.ensures ∙ event_spelled spelled_read c.args.bytes.now kind reads
