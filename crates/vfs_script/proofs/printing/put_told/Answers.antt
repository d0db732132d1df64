use Rattle.std.proofs.Common.{append_assoc, ◌∙◌}
use Rattle.std.specs.Prelude.{codes}
use Rattle.std.proofs.lemmas.Result.{on_ok_weaker}
use Rattle.vfs_script.proofs.printing.put_told.Goals as goal

pub returns-in-Message-clause-put : goal.returns-in-Message-clause-put
returns-in-Message-clause-put c = rw c.in-Message.is c.put_message.ensures.put

pub returns-in-Close-clause-put : goal.returns-in-Close-clause-put
returns-in-Close-clause-put c = rw c.in-Close.is c.put.ensures.put

pub returns-in-Turn-clause-put : goal.returns-in-Turn-clause-put
returns-in-Turn-clause-put c = rw c.in-Turn.is (on_ok_weaker c.put_turn.result (λ put. put ∙ append_assoc c.args.to.now (codes " turn ") _) c.put_turn.ensures.put)

pub returns-in-Refused-clause-put : goal.returns-in-Refused-clause-put
returns-in-Refused-clause-put c = rw c.in-Refused.is (on_ok_weaker c.put_refused.result (λ put. put ∙ append_assoc c.args.to.now (codes " refused ") _) c.put_refused.ensures.put)
