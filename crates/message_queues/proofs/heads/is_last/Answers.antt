use Rattle.std.proofs.Common.{◌-◌, ◌<◌, ℕ, refl, subst, arith}
use Rattle.std.proofs.lemmas.Bool.Decides.{nat_tests}
use Rattle.message_queues.proofs.Least.{last_before}
use Rattle.message_queues.proofs.heads.is_last.Goals as goal

pub returns-in-Some : goal.returns-in-Some
returns-in-Some c =
    λ is.
    let low : c.in-Some.last.now.0 < c.args.place = grind (arith, nat_tests) in
    let some = c.in-Some.ensures.variant.0 refl in
    last_before c.args.line.now.items (c.args.line.now.len - 1) c.in-Some.last.now c.args.place c.requires (omega (arith, some, c.args.line.now.ok))
    (subst (λ (last : ℕ × ℕ). last.0 < c.args.place) c.in-Some.ensures.lookup low)
