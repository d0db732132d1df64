use Rattle.vfs_script.proofs.PrintLemmas.{grown}
use Rattle.vfs_script.proofs.printing.put_refused.Goals as goal

pub returns-clause-grows : goal.returns-clause-grows
returns-clause-grows c = grown c.args.to.now c.put.new.self c.put_signed.new.to c.in_ok-put.ensures.grows c.put_signed.ensures.grows
