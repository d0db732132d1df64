use Rattle.fidl_wire.specs.Spelling.{body_bytes, body_handles}
use Rattle.std.proofs.Common.{◌++◌}
use Rattle.wire_laws.proofs.Bodies.{spelled_read}
use Rattle.wire_laws.proofs.Spelled.{message_spelled}
use Rattle.wire_laws.proofs.laws.spelling_is_read.Goals as goal

pub returns : goal.returns
returns c = record {
  spelled = message_spelled;
  read = λ layout content header size fits.
      spelled_read layout content (header ++ body_bytes layout content) (body_handles layout content) (message_spelled layout content header size fits);
}
