use Rattle.script_session.proofs.Shown.{transcript_is}
use Rattle.script_session.proofs.laws.transcripts_show_the_output.Goals as goal

pub returns : goal.returns
returns c = transcript_is
