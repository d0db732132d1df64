-- An Open that goes on writes nothing.
use Rattle.std.proofs.Common.{◌≡◌, subst, sym}
use Rattle.dir_conn.specs.declared.served.DirServed.{DirServed}
use Rattle.vfs_server.specs.declared.deed.Deed.TheVariants as deeds
use Rattle.vfs_server.specs.Steps.{DoesGiven, of_directory}
use Rattle.vfs_server.proofs.Answering.{goes_on}
use Rattle.vfs_server.proofs.answers.answer_served.Goals as goal

pub returns-in-Forward-clause-does : goal.returns-in-Forward-clause-does
returns-in-Forward-clause-does c =
    subst (λ (what : DirServed). DoesGiven c.args.asker.now.endpoint c.args.asker.now.object c.args.asker.now.node (of_directory what) c.args.out.now (deeds.Forwards c.in-Forward.mount c.args.asker.now.object c.in-Forward.flags c.in-Forward.rest) c.args.outbox.now c.args.outbox.now)
    (sym c.in-Forward.is)
    (goes_on c.args.asker.now.endpoint c.args.asker.now.object c.args.asker.now.node c.in-Forward.mount c.in-Forward.flags c.in-Forward.rest c.args.out.now c.args.outbox.now)
