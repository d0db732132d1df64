use Rattle.vfs_program.proofs.ShowLemmas.{shown_end}
use Rattle.vfs_program.proofs.lines.LinesSessionSession.finish.Goals as goal

pub returns-clause-heard : goal.returns-clause-heard
returns-clause-heard c = λ course frames behind. shown_end course frames _ behind
