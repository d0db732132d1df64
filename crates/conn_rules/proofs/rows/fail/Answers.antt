-- A method that fails in its reply is answered by one.
use Rattle.std.proofs.Common.{◌≡◌, ◌∙◌, sym, subst}
use Rattle.io_messages.specs.Failing.{failing_of}
use Rattle.io_messages.specs.declared.failing.Failing.{Failing}
use Rattle.io_messages.specs.declared.failing.Failing.TheVariants as failing
use Rattle.conn_rules.specs.Answers.{failure_by, only}
use Rattle.conn_rules.specs.Served.{IsAnswered}
use Rattle.conn_rules.proofs.rows.fail.Goals as goal

pub returns-in-Reply-clause-served : goal.returns-in-Reply-clause-served
returns-in-Reply-clause-served c connection graph =
    let form : failing_of c.args.method ≡ failing.Reply = sym c.failing_of.ensures ∙ c.in-Reply.is in
    subst
    (λ (f : Failing).
    IsAnswered (only connection.position (failure_by f c.args.method c.args.status)) c.args.txid c.reply.result c.reply.new.out connection graph) (sym form)
    (c.reply.ensures.served connection graph)
