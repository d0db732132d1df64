use Rattle.std.proofs.Common.{rules, sym, subst, IsTrue}
use Rattle.link_session.specs.Session.{Course}
use Rattle.vfs_program.proofs.TreeLemmas.{may_starve}
use Rattle.vfs_program.proofs.serving.TreeSessionSession.hear.Goals as goal

pub returns-clause-memory : goal.returns-clause-memory
returns-clause-memory c = λ course before behind.
    let may : IsTrue course.starves = subst (λ (k : Course). IsTrue k.starves) (sym behind.1) (may_starve behind.0 c.args.self.now.mode) in
    search rules
