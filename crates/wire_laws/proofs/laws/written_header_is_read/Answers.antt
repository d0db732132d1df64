use Rattle.wire_laws.proofs.ReadHeaders.{header_again}
use Rattle.wire_laws.proofs.laws.written_header_is_read.Goals as goal

pub returns : goal.returns
returns c = header_again
