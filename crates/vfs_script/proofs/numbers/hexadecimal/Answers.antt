use Rattle.std.proofs.Common.{sym, ◌∙◌}
use Rattle.vfs_script.proofs.NumberLemmas.{hexadecimal_numeral, hexadecimal_read}
use Rattle.vfs_script.proofs.numbers.hexadecimal.Goals as goal

pub digits-requires-clause-numeral : goal.digits-requires-clause-numeral
digits-requires-clause-numeral c = hexadecimal_numeral c.args.word.now (sym c.is_empty.ensures ∙ c.if-is_empty.false) (sym c.all_digits.ensures ∙ c.if-not-all_digits.false)

pub returns-clause-value : goal.returns-clause-value
returns-clause-value c =
    c.digits.ensures ∙ hexadecimal_read c.args.word.now (sym c.is_empty.ensures ∙ c.if-is_empty.false) c.if-word-gt16.false (sym c.all_digits.ensures ∙ c.if-not-all_digits.false)
