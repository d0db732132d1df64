use Rattle.std.proofs.Common.{◌∙◌, arith, sym}
use Rattle.vfs_script.proofs.NumberLemmas.{decimal_step}
use Rattle.vfs_script.proofs.numbers.few_decimal.Goals as goal

pub overflow_mul-number : goal.overflow_mul-number
overflow_mul-number c =
    let step = decimal_step c.args.word.now c.loop-byte.byte-index (omega (arith, c.requires, c.loop-byte-test.true)) c.loop-byte.invariant.digits c.loop-byte-test.true (sym c.is_decimal_digit.ensures ∙ c.if-not-is_decimal_digit.false) in
    omega (arith, step.1, step.2, c.loop-byte.invariant.value)

pub overflow_add-number : goal.overflow_add-number
overflow_add-number c =
    let step = decimal_step c.args.word.now c.loop-byte.byte-index (omega (arith, c.requires, c.loop-byte-test.true)) c.loop-byte.invariant.digits c.loop-byte-test.true (sym c.is_decimal_digit.ensures ∙ c.if-not-is_decimal_digit.false) in
    omega (arith, step.1, step.2, c.loop-byte.invariant.value, c.from.ensures)

pub loop-byte-preserved : goal.loop-byte-preserved
loop-byte-preserved c =
    let step = decimal_step c.args.word.now c.loop-byte.byte-index (omega (arith, c.requires, c.loop-byte-test.true)) c.loop-byte.invariant.digits c.loop-byte-test.true (sym c.is_decimal_digit.ensures ∙ c.if-not-is_decimal_digit.false) in
    record {
      value = omega (arith, step.1, c.loop-byte.invariant.value, c.from.ensures);
      digits = step.3;
    }
