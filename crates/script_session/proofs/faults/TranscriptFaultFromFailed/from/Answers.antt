use Rattle.std.proofs.Common.{refl}
use Rattle.script_session.proofs.faults.TranscriptFaultFromFailed.from.Goals as goal

pub returns : goal.returns
returns c = refl
