use Rattle.std.proofs.Common.{◌≡◌, ◌∙◌, ℕ, List, ap, arith, length, subst}
use Rattle.session_start.specs.Numbering.{Named}
use Rattle.session_start.specs.Growing.{named_with}
use Rattle.session_start.specs.Places.{Stands}
use Rattle.session_start.proofs.Nexts.{named_whole}
use Rattle.session_start.proofs.making.add_mounts.Goals as goal

pub returns : goal.returns
returns c =
    let end : c.loop-item.item ≡ length c.args.start.now.mounts = omega (arith, c.loop-item-test.false, c.mounts-item-end.ensures) in
    subst (λ (named : List Named). Stands named c.loop-item.graph c.loop-item.places)
    (ap (λ (n : ℕ). named_with c.args.start.now c.args.server n) end ∙ named_whole c.args.start.now c.args.server) c.loop-item.invariant
