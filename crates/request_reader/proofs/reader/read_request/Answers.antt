use Rattle.std.proofs.Common.{◌∙◌}
use Rattle.wire_laws.proofs.Bodies.{read_spelled, spelled_read}
use Rattle.fidl_wire.proofs.Rows.{method_ordinal-injective}
use Rattle.request_reader.proofs.RequestLaws.{what_is_spelled, found_by}
use Rattle.request_reader.proofs.reader.read_request.Goals as goal

pub returns-clause-found : goal.returns-clause-found
returns-clause-found c = found_by read_spelled c.args.protocol c.args.bytes.now c.args.handles.now _ c.request_in.ensures.exact

pub returns-clause-only : goal.returns-clause-only
returns-clause-only c = λ txid a reads. c.request_in.ensures.exact ∙ what_is_spelled spelled_read (method_ordinal-injective c.args.ordinals.now.distinct) c.args.protocol c.args.bytes.now c.args.handles.now txid a reads
