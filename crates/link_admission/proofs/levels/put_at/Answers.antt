use Rattle.std.proofs.Common.{arith}
use Rattle.std.proofs.lemmas.Result.{on_err_weaker, on_ok_weaker}
use Rattle.link_admission.specs.Pages.{in_rows}
use Rattle.link_admission.proofs.Leveled.{puts_there, same_there}
use Rattle.link_admission.proofs.levels.put_at.Goals as goal

pub returns-clause-put : goal.returns-clause-put
returns-clause-put c =
    on_ok_weaker c.put_in_rows.result
    (puts_there 131072 (omega arith) in_rows c.args.levels.now.items c.make_rows.new.rows.items c.index_mut.result.now c.put_in_rows.new.rows c.args.index c.args.page c.make_rows.ensures.same c.index_mut.ensures.value c.in_ok-make_rows.ensures.made)
    c.put_in_rows.ensures.put

pub returns-clause-err : goal.returns-clause-err
returns-clause-err c =
    on_err_weaker c.put_in_rows.result
    (λ unchanged. same_there 131072 in_rows c.args.levels.now.items c.make_rows.new.rows.items c.index_mut.result.now c.put_in_rows.new.rows c.args.index c.make_rows.ensures.same c.index_mut.ensures.value c.in_ok-make_rows.ensures.made unchanged)
    c.put_in_rows.ensures.err
