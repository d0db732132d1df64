use Rattle.std.proofs.Common.{rules, IsTrue}
use Rattle.std.proofs.lemmas.Result.{on_ok_weaker}
use Rattle.vfs_program.proofs.ShowLemmas.{course_starves, shown_one}
use Rattle.vfs_program.proofs.lines.LinesSessionSession.hear.Goals as goal

pub returns-clause-heard : goal.returns-clause-heard
returns-clause-heard c = λ course before behind. on_ok_weaker c.print_frame.result (λ line. shown_one course before _ _ _ behind line) c.print_frame.ensures.line

pub returns-clause-memory : goal.returns-clause-memory
returns-clause-memory c = λ course before behind.
    let may : IsTrue course.starves = course_starves course behind in
    search rules
