use Rattle.std.proofs.Common.{◌++◌, decimal, ap, ◌∙◌}
use Rattle.std.proofs.lemmas.Result.{on_ok_weaker}
use Rattle.vfs_script.proofs.PrintLemmas.{grown}
use Rattle.vfs_script.proofs.printing.put_labelled.Goals as goal

pub returns-clause-put : goal.returns-clause-put
returns-clause-put c = on_ok_weaker c.put_number.result (λ put. put ∙ ap (λ text. text ++ decimal c.args.number) c.in_ok-put.ensures.put) c.put_number.ensures.put

pub returns-clause-grows : goal.returns-clause-grows
returns-clause-grows c = grown c.args.to.now c.put.new.self c.put_number.new.to c.in_ok-put.ensures.grows c.put_number.ensures.grows
