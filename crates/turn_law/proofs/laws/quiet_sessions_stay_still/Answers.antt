use Rattle.journal_laws.proofs.Below.{below}
use Rattle.turn_law.proofs.QuietSessions.{stay_still}
use Rattle.turn_law.proofs.laws.quiet_sessions_stay_still.Goals as goal

pub returns : goal.returns
returns c = λ apart. stay_still (below apart)
