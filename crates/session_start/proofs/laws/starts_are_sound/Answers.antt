use Rattle.session_start.proofs.Soundness.{start_sound}
use Rattle.session_start.proofs.laws.starts_are_sound.Goals as goal

pub returns : goal.returns
returns c = start_sound
