use Rattle.std.proofs.lemmas.Result.{on_ok_weaker}
use Rattle.vfs_script.specs.Transcripts.{frame_line}
use Rattle.vfs_script.proofs.PrintLemmas.{grown, three_put}
use Rattle.vfs_script.proofs.printing.put_line.Goals as goal

pub returns-clause-put : goal.returns-clause-put
unfolding frame_line
returns-clause-put c =
    on_ok_weaker c.put_byte.result
    (three_put c.args.to.now c.put_number.new.to c.put_told.new.to c.put_byte.new.self _ _ _ c.in_ok-put_number.ensures.put c.in_ok-put_told.ensures.put)
    c.put_byte.ensures.put

pub returns-in_err-put_told-clause-grows : goal.returns-in_err-put_told-clause-grows
returns-in_err-put_told-clause-grows c = grown c.args.to.now c.put_number.new.to c.put_told.new.to c.in_ok-put_number.ensures.grows c.in_err-put_told.ensures.grows

pub returns-clause-grows : goal.returns-clause-grows
returns-clause-grows c =
    grown c.args.to.now c.put_told.new.to c.put_byte.new.self
    (grown c.args.to.now c.put_number.new.to c.put_told.new.to c.in_ok-put_number.ensures.grows c.in_ok-put_told.ensures.grows)
    c.put_byte.ensures.grows
