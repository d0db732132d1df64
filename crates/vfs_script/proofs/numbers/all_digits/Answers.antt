use Rattle.std.proofs.Common.{arith, sym, ◌∙◌}
use Rattle.vfs_script.specs.Words.{is_digit}
use Rattle.vfs_script.proofs.NumberLemmas.{all_passed, fails_at, passes_more}
use Rattle.vfs_script.proofs.numbers.all_digits.Goals as goal

pub returns-then-not-is_digit : goal.returns-then-not-is_digit
returns-then-not-is_digit c = sym (fails_at is_digit c.args.word.now c.loop-byte.byte-index c.loop-byte-test.true (sym c.is_digit.ensures ∙ c.if-not-is_digit.true))

pub loop-byte-preserved : goal.loop-byte-preserved
loop-byte-preserved c = passes_more is_digit c.args.word.now c.loop-byte.byte-index c.loop-byte-test.true c.loop-byte.invariant (sym c.is_digit.ensures ∙ c.if-not-is_digit.false)

pub returns : goal.returns
returns c = sym (all_passed is_digit c.args.word.now c.loop-byte.byte-index (omega (arith, c.loop-byte-test.false)) c.loop-byte.invariant)
