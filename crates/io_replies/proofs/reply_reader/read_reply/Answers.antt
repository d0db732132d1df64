use Rattle.std.proofs.Common.{◌∙◌}
use Rattle.wire_laws.proofs.Bodies.{read_spelled, spelled_read}
use Rattle.fidl_wire.proofs.Rows.{method_ordinal-injective}
use Rattle.io_replies.proofs.Payloads.{payload_found}
use Rattle.io_replies.proofs.ReplyLaws.{reply_found, reply_spelled}
use Rattle.io_replies.proofs.reply_reader.read_reply.Goals as goal

pub returns-clause-found : goal.returns-clause-found
returns-clause-found c = reply_found read_spelled c.args.bytes.now c.args.handles.now _ c.reply_in.ensures

pub returns-clause-only : goal.returns-clause-only
returns-clause-only c = λ txid a reads. c.reply_in.ensures ∙ reply_spelled spelled_read (method_ordinal-injective c.args.ordinals.now.distinct) c.args.bytes.now c.args.handles.now txid a reads

pub returns-clause-parts : goal.returns-clause-parts
returns-clause-parts c = payload_found spelled_read read_spelled c.args.bytes.now c.args.handles.now _ c.reply_in.ensures
