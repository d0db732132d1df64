use Rattle.std.proofs.Common.{◌≡◌, ◌≤◌, ◌+◌, ◌-◌, sym, ap, subst, arith}
use Rattle.std.specs.Prelude.{unwrap_or}
use Rattle.link_admission.specs.declared.kinds.Standing.TheVariants as standing
use Rattle.link_admission.specs.Tables.{Counted, value_at, weight}
use Rattle.link_admission.proofs.Counting.{live_changes}
use Rattle.link_admission.proofs.standings.Standings.change.Goals as goal

pub overflow_sub-self-2 : goal.overflow_sub-self-2
overflow_sub-self-2 c =
    let count = live_changes c.self.inside.pages c.replace-was.new.self c.args.number c.args.standing c.ranges.number.fits c.replace-was.ensures.is in
    omega (arith, count, ap weight c.replace-was.ensures.was, c.weight.ensures, c.weight-2.ensures, c.self.invariant.0)

pub invariant_of-self : goal.invariant_of-self
invariant_of-self c =
    let n = c.args.number in
    let s = c.args.standing in
    let count = live_changes c.self.inside.pages c.replace-was.new.self n s c.ranges.number.fits c.replace-was.ensures.is in
    let no_more = subst (λ (v : Counted). weight s ≤ weight (unwrap_or (value_at v.entries n) standing.Unused)) (sym c.self.view_is) c.requires.no_more in
    (omega (arith, count, no_more, ap weight c.replace-was.ensures.was, c.weight.ensures, c.weight-2.ensures, c.self.invariant.0), omega (arith, c.self.invariant.1))

pub returns-clause-live : goal.returns-clause-live
returns-clause-live c =
    let n = c.args.number in
    let s = c.args.standing in
    let count = live_changes c.self.inside.pages c.replace-was.new.self n s c.ranges.number.fits c.replace-was.ensures.is in
    let no_more = subst (λ (v : Counted). weight s ≤ weight (unwrap_or (value_at v.entries n) standing.Unused)) (sym c.self.view_is) c.requires.no_more in
    subst (λ (v : Counted). c.self.inside.live - (c.weight.result - c.weight-2.result) + weight (unwrap_or (value_at v.entries n) standing.Unused) ≡ v.live + weight s) c.self.view_is
    (omega (arith, count, no_more, ap weight c.replace-was.ensures.was, c.weight.ensures, c.weight-2.ensures, c.self.invariant.0))
