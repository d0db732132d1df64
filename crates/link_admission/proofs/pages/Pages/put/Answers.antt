use Rattle.std.proofs.Common.{arith}
use Rattle.std.proofs.lemmas.Result.{on_ok_weaker}
use Rattle.link_admission.proofs.Paged.{near_in_table, far_in_table}
use Rattle.link_admission.proofs.pages.Pages.put.Goals as goal

pub returns-then-number-lt-NEAR-clause-put : goal.returns-then-number-lt-NEAR-clause-put
returns-then-number-lt-NEAR-clause-put c =
    let there = near_in_table c.self.inside.near.items c.put_near.new.near.items c.self.inside.far.items c.args.number _ c.self.view_is c.ranges.number.fits (omega (arith, c.if-number-lt-NEAR.true)) in
    on_ok_weaker c.put_near.result (there.changes c.args.standing) c.put_near.ensures.put

pub returns-clause-put : goal.returns-clause-put
returns-clause-put c =
    let there = far_in_table c.self.inside.near.items c.self.inside.far.items c.put_far.new.far.items c.args.number _ c.self.view_is c.ranges.number.fits (omega (arith, c.if-number-lt-NEAR.false)) in
    on_ok_weaker c.put_far.result (there.changes c.args.standing) c.put_far.ensures.put
