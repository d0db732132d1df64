use Rattle.wire_laws.proofs.WrittenEpitaphs.{epitaph_again}
use Rattle.wire_laws.proofs.laws.written_epitaph_is_read.Goals as goal

pub returns : goal.returns
returns c = epitaph_again
