use Rattle.std.proofs.Common.{arith, sym, ap, ◌∙◌, ℕ, take}
use Rattle.fidl_wire.specs.Told.{all_told}
use Rattle.io_messages.proofs.Lengths.{given_at, given_before}
use Rattle.io_messages.proofs.fields.given_count.Goals as goal
use Rattle.io_messages.proofs.fields.given_count.Goals.{then-is_some, else-is_some}

pub loop-i-preserved : goal.loop-i-preserved
loop-i-preserved c =
    elim c.if-is_some.branch [
      | then-is_some w ↦ record { bound = omega arith; front = ap (λ (n : ℕ). all_told (take n c.args.members.now)) w.count-is ∙ given_at c.args.members.now c.loop-i.i c.loop-i-test.true (sym c.is_some.ensures ∙ w.if-is_some.true) }
      | else-is_some w ↦ record { bound = omega arith; front = ap (λ (n : ℕ). all_told (take n c.args.members.now)) w.count-is ∙ given_before c.args.members.now c.loop-i.i c.loop-i.count c.loop-i-test.true (sym c.is_some.ensures ∙ w.if-is_some.false) c.loop-i.invariant.front }
    ]
