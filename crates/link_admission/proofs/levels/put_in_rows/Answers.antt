use Rattle.std.proofs.Common.{List, arith, ap}
use Rattle.std.proofs.lemmas.Result.{on_err_weaker, on_ok_weaker}
use Rattle.link_admission.specs.Pages.{in_row}
use Rattle.link_admission.proofs.Leveled.{puts_there, same_there}
use Rattle.link_admission.proofs.levels.put_in_rows.Goals as goal

pub returns-clause-put : goal.returns-clause-put
returns-clause-put c =
    on_ok_weaker c.put_in_row.result
    (puts_there 128 (omega arith) in_row c.args.rows.now.items c.make_rows.new.rows.items c.index_mut.result.now c.put_in_row.new.row c.args.index c.args.page c.make_rows.ensures.same c.index_mut.ensures.value c.in_ok-make_rows.ensures.made)
    c.put_in_row.ensures.put

pub returns-clause-err : goal.returns-clause-err
returns-clause-err c =
    on_err_weaker c.put_in_row.result
    (λ unchanged. same_there 128 in_row c.args.rows.now.items c.make_rows.new.rows.items c.index_mut.result.now c.put_in_row.new.row c.args.index c.make_rows.ensures.same c.index_mut.ensures.value c.in_ok-make_rows.ensures.made (λ r. ap (λ (items : List _). in_row items r) unchanged))
    c.put_in_row.ensures.err
