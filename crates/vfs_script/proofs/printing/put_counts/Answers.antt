use Rattle.std.proofs.Common.{decimal}
use Rattle.std.specs.Prelude.{codes}
use Rattle.std.proofs.lemmas.Result.{on_ok_weaker}
use Rattle.vfs_script.specs.Transcripts.{counts_line}
use Rattle.vfs_script.proofs.PrintLemmas.{counts_put, grown}
use Rattle.vfs_script.proofs.printing.put_counts.Goals as goal

pub returns-clause-put : goal.returns-clause-put
unfolding counts_line
returns-clause-put c =
    on_ok_weaker c.put_byte.result
    (counts_put c.args.to.now c.put_labelled.new.to c.put_labelled-2.new.to c.put_byte.new.self
    (codes "calls ") (decimal c.args.calls) (codes " answered ") (decimal c.args.answered) (codes "\n")
    c.in_ok-put_labelled.ensures.put c.in_ok-put_labelled-2.ensures.put)
    c.put_byte.ensures.put

pub returns-in_err-put_labelled-2-clause-grows : goal.returns-in_err-put_labelled-2-clause-grows
returns-in_err-put_labelled-2-clause-grows c = grown c.args.to.now c.put_labelled.new.to c.put_labelled-2.new.to c.in_ok-put_labelled.ensures.grows c.in_err-put_labelled-2.ensures.grows

pub returns-clause-grows : goal.returns-clause-grows
returns-clause-grows c =
    grown c.args.to.now c.put_labelled-2.new.to c.put_byte.new.self
    (grown c.args.to.now c.put_labelled.new.to c.put_labelled-2.new.to c.in_ok-put_labelled.ensures.grows c.in_ok-put_labelled-2.ensures.grows)
    c.put_byte.ensures.grows
