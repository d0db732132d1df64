use Rattle.std.proofs.Common.{◌∙◌, sym}
use Rattle.vfs_script.proofs.NumberLemmas.{decimal_numeral, few_read, led_some}
use Rattle.vfs_script.proofs.numbers.decimal.Goals as goal

pub digits-requires-clause-numeral : goal.digits-requires-clause-numeral
digits-requires-clause-numeral c =
    decimal_numeral c.args.word.now (led_some c.args.word.now (sym c.is_led.ensures ∙ c.if-not-is_led.false)) (sym c.all_decimal.ensures ∙ c.if-not-all_decimal.false)

pub returns-then-word-le-FEW_DIGITS : goal.returns-then-word-le-FEW_DIGITS
returns-then-word-le-FEW_DIGITS c = c.few_decimal.ensures ∙ few_read c.args.word.now (sym c.is_led.ensures ∙ c.if-not-is_led.false) c.if-word-le-FEW_DIGITS.true
