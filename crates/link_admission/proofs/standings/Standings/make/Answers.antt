use Rattle.std.proofs.Common.{◌≡◌, ◌≤◌, ◌+◌, sym, ap, subst, arith}
use Rattle.std.specs.Prelude.{Option, None, unwrap_or}
use Rattle.link_admission.specs.declared.kinds.Standing.{Standing}
use Rattle.link_admission.specs.declared.kinds.Standing.TheVariants as standing
use Rattle.link_admission.specs.Tables.{Counted, value_at, weight}
use Rattle.link_admission.proofs.Counting.{live_changes}
use Rattle.link_admission.proofs.standings.Standings.make.Goals as goal

pub invariant_of-self-2 : goal.invariant_of-self-2
invariant_of-self-2 c =
    let old = c.self.inside.pages in
    let n = c.args.number in
    let unused = subst (λ (v : Counted). value_at v.entries n ≡ None) (sym c.self.view_is) c.requires.unused in
    let none = ap (λ (o : Option Standing). weight (unwrap_or o standing.Unused)) unused in
    let count = live_changes old c.put.new.self n standing.Live c.ranges.number.fits c.in_ok-put.ensures.put in
    let few = subst (λ (v : Counted). v.live + 1 ≤ 65536) (sym c.self.view_is) (omega (arith, c.requires.few)) in
    (omega (arith, count, none, c.self.invariant.0), few)
