use Rattle.frames_program.proofs.Piped.{piped}
use Rattle.frames_program.proofs.laws.pipes_write_transcripts.Goals as goal

pub returns : goal.returns
returns c = piped
