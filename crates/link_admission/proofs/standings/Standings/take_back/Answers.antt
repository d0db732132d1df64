use Rattle.std.proofs.Common.{ap, arith}
use Rattle.link_admission.specs.declared.kinds.Standing.TheVariants as standing
use Rattle.link_admission.specs.Tables.{weight}
use Rattle.link_admission.proofs.Counting.{live_changes}
use Rattle.link_admission.proofs.standings.Standings.take_back.Goals as goal

pub overflow_sub-self : goal.overflow_sub-self
overflow_sub-self c =
    let count = live_changes c.self.inside.pages c.replace-was.new.self c.args.number standing.Unused c.ranges.number.fits c.replace-was.ensures.is in
    omega (arith, count, ap weight c.replace-was.ensures.was, c.weight.ensures, c.self.invariant.0)

pub invariant_of-self : goal.invariant_of-self
invariant_of-self c =
    let count = live_changes c.self.inside.pages c.replace-was.new.self c.args.number standing.Unused c.ranges.number.fits c.replace-was.ensures.is in
    (omega (arith, count, ap weight c.replace-was.ensures.was, c.weight.ensures, c.self.invariant.0), omega (arith, c.self.invariant.1))
