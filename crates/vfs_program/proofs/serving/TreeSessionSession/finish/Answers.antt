use Rattle.std.proofs.Common.{sym, subst, IsTrue}
use Rattle.link_session.specs.Serving.{HeardEnd}
use Rattle.link_session.specs.Session.{Course}
use Rattle.vfs_program.proofs.TreeLemmas.{anyway_on_err, drains_last, may_starve}
use Rattle.vfs_program.proofs.serving.TreeSessionSession.finish.Goals as goal

pub returns-clause-heard : goal.returns-clause-heard
returns-clause-heard c = λ course frames behind.
    let by = c.args.self.now.mode in
    subst (λ (k : Course). HeardEnd k frames c.args.self.now.outbox c.drain.new.outbox) (sym behind.1)
    (drains_last behind.0 by c.args.self.now.world c.drain.new.self frames c.args.self.now.outbox c.drain.new.outbox (c.in_ok-drain.ensures.drained behind.0) behind.2)

pub returns-in_err-drain-clause-memory : goal.returns-in_err-drain-clause-memory
returns-in_err-drain-clause-memory c = λ course frames behind.
    anyway_on_err c.from_residual.result (IsTrue course.starves) (subst (λ (k : Course). IsTrue k.starves) (sym behind.1) (may_starve behind.0 c.args.self.now.mode))
