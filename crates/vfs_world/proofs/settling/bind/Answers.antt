use Rattle.std.proofs.Common.{ap, subst, sym}
use Rattle.vfs_server.specs.declared.fate.Fate.{Fate}
use Rattle.vfs_world.specs.ServingSteps.{BindsThere, bound_told}
use Rattle.vfs_world.proofs.Answered.{if_ok}
use Rattle.vfs_world.proofs.settling.bind.Goals as goal

pub bind-requires-clause-unbound : goal.bind-requires-clause-unbound
bind-requires-clause-unbound c = c.requires.unbound c.in-Binds.object (ap bound_told c.in-Binds.is)

pub returns-in-Binds-clause-bound : goal.returns-in-Binds-clause-bound
returns-in-Binds-clause-bound c = if_ok c.bind.result (λ binds. subst (λ (fate : Fate). BindsThere c.args.server (bound_told fate) c.args.queues.now c.bind.new.self) (sym c.in-Binds.is) binds) c.bind.ensures.bound
