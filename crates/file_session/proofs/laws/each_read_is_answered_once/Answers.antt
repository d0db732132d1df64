use Rattle.file_session.proofs.SeenLemmas.{live_law}
use Rattle.file_session.proofs.laws.each_read_is_answered_once.Goals as goal

pub returns : goal.returns
returns c = record {
  messages = λ file frames. (live_law file frames 0).0;
  position = λ file frames. (live_law file frames 0).1;
}
