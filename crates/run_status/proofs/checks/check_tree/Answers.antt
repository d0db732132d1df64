use Rattle.std.proofs.Common.{inr}
use Rattle.run_status.proofs.checks.check_tree.Goals as goal

pub returns-in-Ok-pass_on-clause-answers : goal.returns-in-Ok-pass_on-clause-answers
returns-in-Ok-pass_on-clause-answers g c =
    inr (
      c.in-Ok.start,
      record { stands = c.in-Ok.ensures.stands; bytes = c.in-Ok-line_of.ensures.bytes },
      (rw (c.deref.ensures.value, c.in-Ok-line_of.ensures.line) at c.in-Ok-pass_on.ensures.whole, c.in-Ok-pass_on.ensures.cause.stays),
    )
